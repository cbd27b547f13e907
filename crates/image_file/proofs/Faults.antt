-- When bytes have no fault.
use Rattle.std.proofs.Common.{◌≡◌, ℕ, ◌+◌, ◌*◌, ◌<◌, ◌≤◌, Bool, true, false, List, length, take, Option, Some, None, refl, sym, ap, ◌∙◌, arith}
use Rattle.std.specs.Prelude.{◌&&◌, ◌==◌, nat_lt, nat_le, if◌then◌else◌}
use Rattle.std.specs.Cmp.Lexicographic.{pointwise}
use Rattle.std.proofs.lemmas.Bool.{and_parts, and_from, leb-true, le-leb, eqb-true, eq-eqb, ltb-false, le-ltb, lt-ltb}
use Rattle.std.proofs.lemmas.Slice.Eq.{bytes_eq-Decides}
use Rattle.ho_base.specs.declared.limits.TheConstants.{PAGE_BYTES, MIN_FRAMES, MAX_FRAMES}
use Rattle.image_file.specs.declared.reader.ImageError.{ImageError}
use Rattle.image_file.specs.declared.reader.ImageError.TheVariants.{BadHeader, Short, Extra, Memory}
use Rattle.image_file.specs.Image.{image_word, has_word, count_of, last_of, has_header, size_of, fault_of, fault_told}

-- the tests of a header, one by one
pub record HasHeader (bytes : List ℕ) : Type 0 where
  pub long : 32 ≤ length bytes
  pub word : take 8 bytes ≡ image_word
  pub least : MIN_FRAMES ≤ count_of bytes
  pub most : count_of bytes ≤ MAX_FRAMES
  pub last : last_of bytes ≡ 0

pub header_parts : (bytes : List ℕ) → has_header bytes ≡ true → HasHeader bytes
unfolding has_header has_word
header_parts bytes h =
    let four = and_parts _ _ h in
    let three = and_parts _ _ four.0 in
    let two = and_parts _ _ three.0 in
    let one = and_parts _ _ two.0 in
    record {
      long = leb-true 32 (length bytes) one.0;
      word = (bytes_eq-Decides (take 8 bytes) image_word).0 one.1;
      least = leb-true MIN_FRAMES (count_of bytes) two.1;
      most = leb-true (count_of bytes) MAX_FRAMES three.1;
      last = eqb-true (last_of bytes) 0 four.1;
    }

pub header_from_parts : (bytes : List ℕ) → HasHeader bytes → has_header bytes ≡ true
unfolding has_header has_word
header_from_parts bytes h =
    and_from _ _
    (and_from _ _
    (and_from _ _
    (and_from _ _ (le-leb 32 (length bytes) h.long) ((bytes_eq-Decides (take 8 bytes) image_word).1 h.word))
    (le-leb MIN_FRAMES (count_of bytes) h.least))
    (le-leb (count_of bytes) MAX_FRAMES h.most))
    (eq-eqb (last_of bytes) 0 h.last)

none_of : (has less more : Bool) → (if has then (if less then Some Short else if more then Some Extra else None) else Some BadHeader) ≡ None → (has ≡ true) × (less ≡ false) × (more ≡ false)
none_of true true more e = absurd cc
none_of true false true e = absurd cc
none_of true false false e = (refl, refl, refl)
none_of false less more e = absurd cc

none_from : (has less more : Bool) → has ≡ true → less ≡ false → more ≡ false → (if has then (if less then Some Short else if more then Some Extra else None) else Some BadHeader) ≡ None
none_from has less more e f g = rw (e, f, g) refl

-- no fault: there is a header, and as many bytes as it says
pub no_fault : (bytes : List ℕ) → fault_of bytes ≡ None → HasHeader bytes × (length bytes ≡ size_of (count_of bytes))
unfolding fault_of
no_fault bytes e =
    let size = size_of (count_of bytes) in
    let tests = none_of (has_header bytes) (nat_lt (length bytes) size) (nat_lt size (length bytes)) e in
    let least : size ≤ length bytes = ltb-false (length bytes) size tests.1 in
    let most : length bytes ≤ size = ltb-false size (length bytes) tests.2 in
    (header_parts bytes tests.0, omega arith)

pub no_fault_from : (bytes : List ℕ) → HasHeader bytes → length bytes ≡ size_of (count_of bytes) → fault_of bytes ≡ None
unfolding fault_of
no_fault_from bytes h e =
    let size = size_of (count_of bytes) in
    none_from (has_header bytes) (nat_lt (length bytes) size) (nat_lt size (length bytes))
    (header_from_parts bytes h) (le-ltb (length bytes) size (omega arith)) (le-ltb size (length bytes) (omega arith))

never_memory : (has less more : Bool) → (if has then (if less then Some Short else if more then Some Extra else None) else Some BadHeader) ≡ Some Memory → ⊥
never_memory true true more e = absurd cc
never_memory true false true e = absurd cc
never_memory true false false e = absurd cc
never_memory false less more e = absurd cc

-- a fault that comes is told
pub fault_is_told : (bytes : List ℕ) (fault : ImageError) → fault_of bytes ≡ Some fault → fault_of bytes ≡ fault_told fault
unfolding fault_of
fault_is_told bytes BadHeader e = e
fault_is_told bytes Short e = e
fault_is_told bytes Extra e = e
fault_is_told bytes Memory e =
    let size = size_of (count_of bytes) in absurd (never_memory (has_header bytes) (nat_lt (length bytes) size) (nat_lt size (length bytes)) e)

bad_from : (has less more : Bool) → has ≡ false → Some BadHeader ≡ (if has then (if less then Some Short else if more then Some Extra else None) else Some BadHeader)
bad_from has less more e = rw e refl

short_from : (has less more : Bool) → has ≡ true → less ≡ true → Some Short ≡ (if has then (if less then Some Short else if more then Some Extra else None) else Some BadHeader)
short_from has less more e f = rw (e, f) refl

extra_from : (has less more : Bool) → has ≡ true → less ≡ false → more ≡ true → Some Extra ≡ (if has then (if less then Some Short else if more then Some Extra else None) else Some BadHeader)
extra_from has less more e f g = rw (e, f, g) refl

-- each fault from the test that finds it
pub is_bad : (bytes : List ℕ) → has_header bytes ≡ false → Some BadHeader ≡ fault_of bytes
unfolding fault_of
is_bad bytes e =
    let size = size_of (count_of bytes) in bad_from (has_header bytes) (nat_lt (length bytes) size) (nat_lt size (length bytes)) e

pub is_short : (bytes : List ℕ) → has_header bytes ≡ true → length bytes < size_of (count_of bytes) → Some Short ≡ fault_of bytes
unfolding fault_of
is_short bytes e lt =
    let size = size_of (count_of bytes) in
    short_from (has_header bytes) (nat_lt (length bytes) size) (nat_lt size (length bytes)) e (lt-ltb (length bytes) size lt)

pub is_extra : (bytes : List ℕ) → has_header bytes ≡ true → size_of (count_of bytes) < length bytes → Some Extra ≡ fault_of bytes
unfolding fault_of
is_extra bytes e lt =
    let size = size_of (count_of bytes) in
    extra_from (has_header bytes) (nat_lt (length bytes) size) (nat_lt size (length bytes)) e (le-ltb (length bytes) size (omega arith)) (lt-ltb size (length bytes) lt)

pub is_image : (bytes : List ℕ) → has_header bytes ≡ true → length bytes ≡ size_of (count_of bytes) → None ≡ fault_of bytes
is_image bytes e same = sym (no_fault_from bytes (header_parts bytes e) same)
