-- Each kind of item is read from its bytes.
use Rattle.std.proofs.Common.{◌≡◌, ℕ, zero, suc, ◌+◌, ◌-◌, ◌^◌, ◌<◌, ◌≤◌, Bool, true, false, cond, List, [], ◌∷◌, ◌++◌, length, take, drop, Option, Some, None, refl, ap, ◌∙◌, append_assoc, arith, eqb}
use Rattle.std.specs.Prelude.{nat_lt, nat_le, ◌&&◌}
use Rattle.std.specs.Int.{w64, from_le_bytes}
use Rattle.std.specs.List.{list_all}
use Rattle.std.proofs.lemmas.Bool.{leb-true, ltb-true, and_parts, ne_eqb}
use Rattle.std.proofs.lemmas.List.{take_at, drop_at, length-append, length-replicate}
use Rattle.std.proofs.lemmas.Nat.{from_le_bytes-to_le_bytes_8}
use Rattle.ho_base.specs.Bytes.{u64_at}
use Rattle.ho_base.specs.NameRule.{is_name, is_name_byte}
use Rattle.ho_base.specs.declared.numbers.Kind.{Kind}
use Rattle.ho_base.specs.declared.numbers.Kind.TheVariants.{Memfd, Dev0, Dev1, Dev2, Dev3}
use Rattle.folio_bitmaps.specs.Chunks.{Element}
use Rattle.record_frames.specs.Sheets.{number, zeros, SessionSlot, FileSlot, kind_number, session_slot_bytes, file_slot_bytes, element_bytes}
use Rattle.record_frames.specs.Reading.{also, are_zero, text_of, kind_of, session_slot_at, file_slot_at, session_layout, file_layout, list_layout, chunk_layout}
use Rattle.record_frames.proofs.Fronts.{Again, zeros_are}

-- the number that 8 bytes spell
abbrev spelt : List ℕ → ℕ
spelt bytes = from_le_bytes w64 bytes

pub listed_again : (n : ℕ) → nat_lt n (2 ^ 64) ≡ true → Again list_layout number n
listed_again n h = record { size = refl; read = ap (λ (x : ℕ). Some x) (from_le_bytes-to_le_bytes_8 n (ltb-true n (2 ^ 64) h)) }

-- the numbers of a file's slot have 8 bytes each
pub record FileFits (f : FileSlot) : Type 0 where
  pub token : f.token < 2 ^ 64
  pub order : f.order < 2 ^ 64
  pub size : f.size < 2 ^ 64
  pub position : f.position < 2 ^ 64
  pub handle : f.handle < 2 ^ 64
  pub first : f.first < 2 ^ 64
  pub folios : f.folios < 2 ^ 64

kind_again : (k : Kind) → kind_of (spelt (number (kind_number k))) ≡ Some k
kind_again Memfd = refl
kind_again Dev0 = refl
kind_again Dev1 = refl
kind_again Dev2 = refl
kind_again Dev3 = refl

abbrev with_kind : ℕ → ℕ → ℕ → ℕ → ℕ → ℕ → ℕ → Option Kind → Option FileSlot
with_kind t o s p h fi fo k =
    also k (λ kind. Some (record { token = t; kind = kind; order = o; size = s; position = p; handle = h; first = fi; folios = fo }))

file_slot_is : (f : FileSlot) → file_slot_at (file_slot_bytes f)
    ≡ with_kind (spelt (number f.token)) (spelt (number f.order)) (spelt (number f.size)) (spelt (number f.position)) (spelt (number f.handle)) (spelt (number f.first)) (spelt (number f.folios))
    (kind_of (spelt (number (kind_number f.kind))))
unfolding file_slot_at
file_slot_is f = refl

pub file_slot_again : (f : FileSlot) → FileFits f → Again file_layout file_slot_bytes f
file_slot_again f h =
    let go = from_le_bytes-to_le_bytes_8 in
    record {
      size = refl;
      read = file_slot_is f
          ∙ ap (λ (k : Option Kind). with_kind (spelt (number f.token)) (spelt (number f.order)) (spelt (number f.size)) (spelt (number f.position)) (spelt (number f.handle)) (spelt (number f.first)) (spelt (number f.folios)) k) (kind_again f.kind)
          ∙ ap (λ (x : ℕ). with_kind x (spelt (number f.order)) (spelt (number f.size)) (spelt (number f.position)) (spelt (number f.handle)) (spelt (number f.first)) (spelt (number f.folios)) (Some f.kind)) (go f.token h.token)
          ∙ ap (λ (x : ℕ). with_kind f.token x (spelt (number f.size)) (spelt (number f.position)) (spelt (number f.handle)) (spelt (number f.first)) (spelt (number f.folios)) (Some f.kind)) (go f.order h.order)
          ∙ ap (λ (x : ℕ). with_kind f.token f.order x (spelt (number f.position)) (spelt (number f.handle)) (spelt (number f.first)) (spelt (number f.folios)) (Some f.kind)) (go f.size h.size)
          ∙ ap (λ (x : ℕ). with_kind f.token f.order f.size x (spelt (number f.handle)) (spelt (number f.first)) (spelt (number f.folios)) (Some f.kind)) (go f.position h.position)
          ∙ ap (λ (x : ℕ). with_kind f.token f.order f.size f.position x (spelt (number f.first)) (spelt (number f.folios)) (Some f.kind)) (go f.handle h.handle)
          ∙ ap (λ (x : ℕ). with_kind f.token f.order f.size f.position f.handle x (spelt (number f.folios)) (Some f.kind)) (go f.first h.first)
          ∙ ap (λ (x : ℕ). with_kind f.token f.order f.size f.position f.handle f.first x (Some f.kind)) (go f.folios h.folios);
    }

-- a text that zeros, or nothing, follow
text_again : (name : List ℕ) (k : ℕ) → list_all is_name_byte name ≡ true → text_of (name ++ zeros k) ≡ name
text_again [] zero h = refl
text_again [] (suc k) h = refl
text_again (b ∷ name) k h =
    let hs = and_parts (is_name_byte b) (list_all is_name_byte name) h in
    ap (λ (t : Bool). cond t [] (b ∷ text_of (name ++ zeros k))) (nonzero b hs.0) ∙ ap (λ (t : List ℕ). b ∷ t) (text_again name k hs.1)
  where
    nonzero : (b : ℕ) → is_name_byte b ≡ true → eqb b 0 ≡ false
    nonzero zero h = absurd cc
    nonzero (suc b) h = ne_eqb (suc b) 0 (λ e. omega (arith, e))

pub record SessionFits (s : SessionSlot) : Type 0 where
  pub name : is_name s.name ≡ true
  pub files : s.files < 2 ^ 64
  pub first : s.first < 2 ^ 64

abbrev padded : List ℕ → List ℕ
padded name = name ++ zeros (64 - length name)

padded_length : (name : List ℕ) → length name ≤ 63 → length (padded name) ≡ 64
padded_length name h = length-append name (zeros (64 - length name)) ∙ omega (arith, length-replicate {A = ℕ} (64 - length name) 0, h)

abbrev session_of : List ℕ → List ℕ → ℕ → ℕ → Option SessionSlot
session_of front tail files first =
    let name = text_of front in
    cond (are_zero (drop (length name) front) && are_zero tail) (Some (record { name = name; files = files; first = first })) None

session_slot_is : (bytes : List ℕ) → session_slot_at bytes ≡ session_of (take 64 bytes) (drop 80 bytes) (u64_at bytes 64) (u64_at bytes 72)
unfolding session_slot_at
session_slot_is bytes = refl

pub session_slot_again : (s : SessionSlot) → SessionFits s → Again session_layout session_slot_bytes s
session_slot_again s h =
    let n = and_parts (nat_le 1 (length s.name) && nat_le (length s.name) 63) (list_all is_name_byte s.name) h.name in
    let short : length s.name ≤ 63 = leb-true (length s.name) 63 (and_parts (nat_le 1 (length s.name)) (nat_le (length s.name) 63) n.0).1 in
    let p = padded s.name in
    let a = number s.files in
    let b = number s.first in
    let z = zeros 48 in
    let bytes = session_slot_bytes s in
    let plen = padded_length s.name short in
    let parts : bytes ≡ p ++ (a ++ (b ++ z)) = append_assoc (p ++ a) b z ∙ append_assoc p a (b ++ z) in
    let front : take 64 bytes ≡ p = ap (λ (x : List ℕ). take 64 x) parts ∙ take_at p (a ++ (b ++ z)) 64 plen in
    let at_64 : drop 64 bytes ≡ a ++ (b ++ z) = ap (λ (x : List ℕ). drop 64 x) parts ∙ drop_at p (a ++ (b ++ z)) 64 plen in
    let at_72 : drop 72 bytes ≡ b ++ z =
    ap (λ (x : List ℕ). drop 72 x) (append_assoc (p ++ a) b z) ∙ drop_at (p ++ a) (b ++ z) 72 (length-append p a ∙ ap (λ (x : ℕ). x + 8) plen) in
    let at_80 : drop 80 bytes ≡ z =
    drop_at (p ++ a ++ b) z 80 (length-append (p ++ a) b ∙ ap (λ (x : ℕ). x + 8) (length-append p a ∙ ap (λ (x : ℕ). x + 8) plen)) in
    let files : u64_at bytes 64 ≡ s.files = ap (λ (x : List ℕ). spelt (take 8 x)) at_64 ∙ from_le_bytes-to_le_bytes_8 s.files h.files in
    let first : u64_at bytes 72 ≡ s.first = ap (λ (x : List ℕ). spelt (take 8 x)) at_72 ∙ from_le_bytes-to_le_bytes_8 s.first h.first in
    let text : text_of p ≡ s.name = text_again s.name (64 - length s.name) n.1 in
    let gone : drop (length s.name) p ≡ zeros (64 - length s.name) = drop_at s.name (zeros (64 - length s.name)) (length s.name) refl in
    record {
      size = ap (λ (x : List ℕ). length x) parts ∙ length-append p (a ++ (b ++ z)) ∙ ap (λ (x : ℕ). x + 64) plen;
      read = session_slot_is bytes
          ∙ ap (λ (x : List ℕ). session_of x (drop 80 bytes) (u64_at bytes 64) (u64_at bytes 72)) front
          ∙ ap (λ (x : List ℕ). session_of p x (u64_at bytes 64) (u64_at bytes 72)) at_80
          ∙ ap (λ (x : ℕ). session_of p z x (u64_at bytes 72)) files
          ∙ ap (λ (x : ℕ). session_of p z s.files x) first
          ∙ ap (λ (x : List ℕ). cond (are_zero (drop (length x) p) && are_zero z) (Some (record { name = x; files = s.files; first = s.first })) None) text
          ∙ ap (λ (x : List ℕ). cond (are_zero x && are_zero z) (Some (record { name = s.name; files = s.files; first = s.first })) None) gone
          ∙ ap (λ (t : Bool). cond (t && are_zero z) (Some (record { name = s.name; files = s.files; first = s.first })) None) (zeros_are (64 - length s.name));
    }

pub record ElementFits (e : Element) : Type 0 where
  pub base : e.base < 2 ^ 64
  pub order : e.order < 2 ^ 64
  pub bits : length e.bits ≡ 512

pub element_again : (e : Element) → ElementFits e → Again chunk_layout element_bytes e
element_again e h =
    record {
      size = length-append (number e.base ++ number e.order) e.bits ∙ ap (λ (x : ℕ). 16 + x) h.bits;
      read = ap (λ (x : ℕ). Some (record { base = x; order = spelt (number e.order); bits = e.bits })) (from_le_bytes-to_le_bytes_8 e.base h.base)
          ∙ ap (λ (x : ℕ). Some (record { base = e.base; order = x; bits = e.bits })) (from_le_bytes-to_le_bytes_8 e.order h.order);
    }
