-- All bytes of a source by their header and what is left behind it.
use Rattle.std.proofs.Common.{◌≡◌, ℕ, ◌+◌, ◌*◌, ◌<◌, ◌≤◌, Bool, true, false, List, [], ◌++◌, length, map, take, drop, Option, Some, None, refl, sym, ap, subst, ◌∙◌, arith, inl, inr}
use Rattle.std.specs.Prelude.{◌&&◌, ◌==◌, nat_le}
use Rattle.std.specs.Int.{w64, from_le_bytes}
use Rattle.std.specs.List.{All, flat_map}
use Rattle.std.specs.Cmp.Lexicographic.{pointwise}
use Rattle.std.proofs.lemmas.Bool.{cases_lt, le-leb}
use Rattle.std.proofs.lemmas.List.{append-nil, length-append, length-drop, length-take, take_all, take-append-le, drop-append-le, drop_at}
use Rattle.ho_base.specs.Bytes.{u64_at}
use Rattle.ho_base.specs.declared.limits.TheConstants.{PAGE_BYTES, MIN_FRAMES, MAX_FRAMES}
use Rattle.ho_io.specs.Told.{Tells, in_front}
use Rattle.phys_frames.specs.Pages.{chunks}
use Rattle.image_file.specs.Image.{Pages, page_bytes, IsPage, image_word, has_word, has_header, count_of, entry_of, last_of, fault_of, frames_of}
use Rattle.image_file.specs.Loaded.{IsLoaded, HasFault, IsFaultOf, IsMiscount}
use Rattle.image_file.specs.declared.loader.LoadError.{LoadError}
use Rattle.image_file.specs.declared.loader.LoadError.TheVariants.{Fault, Image as NoImage}
use Rattle.image_file.specs.declared.reader.ImageError.TheVariants.{BadHeader, Short, Extra, Memory}
use Rattle.image_file.proofs.Faults.{HasHeader, header_parts, no_fault_from, is_bad, is_short, is_extra}
use Rattle.image_file.proofs.Pages.{cut, joined_length}

-- a part of the front of a list
front_part : (xs ys : List ℕ) (at n : ℕ) → at + n ≤ length xs → take n (drop at (xs ++ ys)) ≡ take n (drop at xs)
front_part xs ys at n within =
    let low : at ≤ length xs = omega (arith, within) in
    let size = length-drop at xs in
    ap (take n) (drop-append-le at xs ys low) ∙ take-append-le n (drop at xs) ys (omega (arith, within, size))

-- a number of the header doesn't depend on what comes after 32 bytes
count_front : (head rest : List ℕ) → 32 ≤ length head → count_of (head ++ rest) ≡ count_of head
unfolding count_of
count_front head rest long = ap (from_le_bytes w64) (front_part head rest 8 8 (omega (arith, long)))

entry_front : (head rest : List ℕ) → 32 ≤ length head → entry_of (head ++ rest) ≡ entry_of head
unfolding entry_of
entry_front head rest long = ap (from_le_bytes w64) (front_part head rest 16 8 (omega (arith, long)))

last_front : (head rest : List ℕ) → 32 ≤ length head → last_of (head ++ rest) ≡ last_of head
unfolding last_of
last_front head rest long = ap (from_le_bytes w64) (front_part head rest 24 8 (omega (arith, long)))

word_front : (head rest : List ℕ) → 32 ≤ length head → has_word (head ++ rest) ≡ has_word head
unfolding has_word
word_front head rest long = ap (λ (w : List ℕ). pointwise ◌==◌ w image_word) (front_part head rest 0 8 (omega (arith, long)))

-- whether there is a header doesn't either
header_front : (head rest : List ℕ) → 32 ≤ length head → has_header (head ++ rest) ≡ has_header head
unfolding has_header
header_front head rest long =
    let all = length-append head rest in
    let size : nat_le 32 (length (head ++ rest)) ≡ nat_le 32 (length head) = le-leb 32 (length (head ++ rest)) (omega (arith, long, all)) ∙ sym (le-leb 32 (length head) long) in
    ap (λ (b : Bool). b && has_word (head ++ rest) && nat_le MIN_FRAMES (count_of (head ++ rest)) && nat_le (count_of (head ++ rest)) MAX_FRAMES && last_of (head ++ rest) == 0) size
    ∙ ap (λ (b : Bool). nat_le 32 (length head) && b && nat_le MIN_FRAMES (count_of (head ++ rest)) && nat_le (count_of (head ++ rest)) MAX_FRAMES && last_of (head ++ rest) == 0) (word_front head rest long)
    ∙ ap (λ (n : ℕ). nat_le 32 (length head) && has_word head && nat_le MIN_FRAMES n && nat_le n MAX_FRAMES && last_of (head ++ rest) == 0) (count_front head rest long)
    ∙ ap (λ (n : ℕ). nat_le 32 (length head) && has_word head && nat_le MIN_FRAMES (count_of head) && nat_le (count_of head) MAX_FRAMES && n == 0) (last_front head rest long)

some_same : (x y : List ℕ) → Some x ≡ Some y → x ≡ y
some_same x y e = cc

-- the bytes that were read first and those that were left then are all bytes
tells_both : (left now : Option (List ℕ)) (head rest : List ℕ) → left ≡ in_front head now → Tells now rest → Tells left (head ++ rest)
unfolding in_front
tells_both None now head rest e h = tt
tells_both (Some l) None head rest e h = absurd cc
tells_both (Some l) (Some n) head rest e h = some_same l (head ++ n) e ∙ ap (λ (x : List ℕ). head ++ x) h

module _ (left now : Option (List ℕ)) (head : List ℕ) (size : length head ≡ 32) (is : has_header head ≡ true) (took : left ≡ in_front head now) where
  has : (rest : List ℕ) → has_header (head ++ rest) ≡ true
  has rest = header_front head rest (omega (arith, size)) ∙ is

  -- a header, and then as many pages as it says
  pub all_loaded : (pages : Pages) (entry : ℕ) → All (IsPage PAGE_BYTES) pages → length pages ≡ count_of head → entry ≡ entry_of head → Tells now (flat_map page_bytes pages) → IsLoaded left pages entry
  unfolding frames_of
  all_loaded pages entry all count same told =
      let rest = flat_map page_bytes pages in
      let says : count_of (head ++ rest) ≡ length pages = count_front head rest (omega (arith, size)) ∙ sym count in
      record {
        bytes = head ++ rest;
        told = tells_both left now head rest took told;
        whole = no_fault_from (head ++ rest) (header_parts (head ++ rest) (has rest)) (omega (arith, says, size, length-append head rest, joined_length PAGE_BYTES pages all));
        pages_are = sym (ap (λ (k : ℕ). map Some (chunks PAGE_BYTES k (drop 32 (head ++ rest)))) says ∙ ap (λ (l : List ℕ). map Some (chunks PAGE_BYTES (length pages) l)) (drop_at head rest 32 size) ∙ cut PAGE_BYTES pages all);
        entry_is = same ∙ sym (entry_front head rest (omega (arith, size)));
      }

  size_said : (rest : List ℕ) → count_of (head ++ rest) ≡ count_of head
  size_said rest = count_front head rest (omega (arith, size))

-- a header, and then fewer or more bytes than it says
pub ill_loaded : (left now : Option (List ℕ)) (head : List ℕ) (e : LoadError) → length head ≡ 32 → has_header head ≡ true → left ≡ in_front head now → IsMiscount now (count_of head * PAGE_BYTES) e → IsFaultOf left e
unfolding in_front
ill_loaded left now head Fault size is took h = tt
ill_loaded left now head (NoImage Memory) size is took h = tt
ill_loaded left now head (NoImage BadHeader) size is took h = absurd h
ill_loaded None now head (NoImage Short) size is took h = tt
ill_loaded (Some l) None head (NoImage Short) size is took h = absurd cc
ill_loaded (Some l) (Some n) head (NoImage Short) size is took h =
    let said = count_front head n (omega (arith, size)) in
    ap fault_of (some_same l (head ++ n) took)
    ∙ sym (is_short (head ++ n) (header_front head n (omega (arith, size)) ∙ is) (omega (arith, said, size, length-append head n, h)))
ill_loaded None now head (NoImage Extra) size is took h = tt
ill_loaded (Some l) None head (NoImage Extra) size is took h = absurd cc
ill_loaded (Some l) (Some n) head (NoImage Extra) size is took h =
    let said = count_front head n (omega (arith, size)) in
    ap fault_of (some_same l (head ++ n) took)
    ∙ sym (is_extra (head ++ n) (header_front head n (omega (arith, size)) ∙ is) (omega (arith, said, size, length-append head n, h)))

-- what was read has no header, and is all or 32 bytes: so all bytes have none
pub bad_loaded : (left now : Option (List ℕ)) (buf : List ℕ) (n : ℕ) → length buf ≡ 32 → n ≤ length buf → left ≡ in_front (take n buf) now → (n < length buf → Tells now []) → has_header (take n buf) ≡ false → HasFault left BadHeader
unfolding in_front
bad_loaded None now buf n size le took end bad = tt
bad_loaded (Some l) None buf n size le took end bad = absurd cc
bad_loaded (Some l) (Some m) buf n size le took end bad = ap fault_of (some_same l (take n buf ++ m) took) ∙ sym (is_bad (take n buf ++ m) none)
  where
    none : has_header (take n buf ++ m) ≡ false
    none = elim (cases_lt n (length buf)) [
      | inl lt ↦ ap (λ (x : List ℕ). has_header (take n buf ++ x)) (end lt) ∙ ap has_header (append-nil (take n buf)) ∙ bad
      | inr ge ↦ header_front (take n buf) m (omega (arith, size, length-take n buf)) ∙ bad
    ]

-- where what was read has a header, it is all 32 bytes
pub whole_head : (buf : List ℕ) (n : ℕ) → length buf ≡ 32 → has_header (take n buf) ≡ true → take n buf ≡ buf
whole_head buf n size h = take_all n buf (omega (arith, size, length-take n buf, (header_parts (take n buf) h).long))
