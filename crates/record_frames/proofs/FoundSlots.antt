-- What is read from each kind of item stands in its bytes.
use Rattle.std.proofs.Common.{◌≡◌, ℕ, suc, ◌+◌, ◌-◌, ◌^◌, ◌≤◌, Bool, true, false, cond, eqb, List, [], ◌∷◌, ◌++◌, length, take, drop, Option, Some, None, refl, sym, ap, ◌∙◌, append_assoc, arith, inl, inr, ◌⊎◌}
use Rattle.std.specs.Prelude.{nat_lt, ◌&&◌}
use Rattle.std.specs.List.{list_all}
use Rattle.std.proofs.lemmas.Bool.{lt-ltb, eqb-true, eq-eqb, and_parts, and_from}
use Rattle.std.proofs.lemmas.List.{take_at, take-append-drop, append-nil}
use Rattle.ho_base.specs.Bytes.{u64_at}
use Rattle.ho_base.specs.declared.numbers.Kind.{Kind}
use Rattle.ho_base.specs.declared.numbers.Kind.TheVariants.{Memfd, Dev0, Dev1, Dev2, Dev3}
use Rattle.folio_bitmaps.specs.Chunks.{Element}
use Rattle.record_frames.specs.Sheets.{number, zeros, kind_number, FileSlot, SessionSlot, file_slot_bytes, session_slot_bytes, element_bytes}
use Rattle.record_frames.specs.Rules.{fits, file_fits, element_fits, is_bitmap}
use Rattle.record_frames.specs.Reading.{are_zero, text_of, kind_of, file_slot_at, session_slot_at, list_layout, file_layout, session_layout, chunk_layout}
use Rattle.record_frames.proofs.Found.{IsBytes, IsBytes-drop, length_drop, length_taken, drop_more, zeros_found, number_found, number_fits, Finds, also_some, then_some, some_is}

all_taken : (b : List ℕ) (n : ℕ) → length b ≡ n → take n b ≡ b
all_taken b n h = ap (λ (x : List ℕ). take n x) (sym (append-nil b)) ∙ take_at b [] n h

fits_at : (b : List ℕ) (at : ℕ) → IsBytes b → fits (u64_at b at) ≡ true
fits_at b at h = lt-ltb (u64_at b at) (2 ^ 64) (number_fits b at h)

-- one number and what is after it
step : (b rest : List ℕ) (k : ℕ) → IsBytes b → k + 8 ≤ length b → rest ≡ drop (k + 8) b → number (u64_at b k) ++ rest ≡ drop k b
step b rest k h room e =
    ap (λ (x : List ℕ). x ++ rest) (number_found b k h room) ∙ ap (λ (x : List ℕ). take 8 (drop k b) ++ x) (e ∙ sym (drop_more k 8 b)) ∙ take-append-drop 8 (drop k b)

zeros_at : (b : List ℕ) (k n : ℕ) → length b ≡ k + n → are_zero (drop k b) ≡ true → zeros n ≡ drop k b
zeros_at b k n len h = ap zeros (sym (length_drop k b ∙ omega (arith, len))) ∙ sym (zeros_found (drop k b) h)

pub list_finds : Finds list_layout number fits
list_finds = record { found = listed }
  where
    listed : (b : List ℕ) (x : ℕ) → length b ≡ 8 → IsBytes b → Some (u64_at b 0) ≡ Some x → (number x ≡ b) × (fits x ≡ true)
    listed b x len h e =
        let is = some_is (u64_at b 0) x e in
        (ap number (sym is) ∙ number_found b 0 h (omega (arith, len)) ∙ all_taken b 8 len, ap fits (sym is) ∙ fits_at b 0 h)

all_bytes : (b : List ℕ) → IsBytes b → list_all (λ x. nat_lt x 256) b ≡ true
all_bytes [] h = refl
all_bytes (x ∷ b) h = and_from (nat_lt x 256) (list_all (λ x. nat_lt x 256) b) (lt-ltb x 256 (h 0)) (all_bytes b (λ i. h (suc i)))

pub chunk_finds : Finds chunk_layout element_bytes element_fits
chunk_finds = record { found = element }
  where
    element : (b : List ℕ) (x : Element) → length b ≡ 528 → IsBytes b → Some (record { base = u64_at b 0; order = u64_at b 8; bits = drop 16 b }) ≡ Some x
        → (element_bytes x ≡ b) × (element_fits x ≡ true)
    element b x len h e =
        let y : Element = record { base = u64_at b 0; order = u64_at b 8; bits = drop 16 b } in
        let is = some_is y x e in
        let whole : element_bytes y ≡ b = step b (number (u64_at b 8) ++ drop 16 b) 0 h (omega (arith, len)) (step b (drop 16 b) 8 h (omega (arith, len)) refl) in
        let size : eqb (length (drop 16 b)) 512 ≡ true = eq-eqb (length (drop 16 b)) 512 (length_drop 16 b ∙ omega (arith, len)) in
        let map' : is_bitmap (drop 16 b) ≡ true = and_from (eqb (length (drop 16 b)) 512) (list_all (λ x. nat_lt x 256) (drop 16 b)) size (all_bytes (drop 16 b) (IsBytes-drop 16 b h)) in (
          ap element_bytes (sym is) ∙ whole,
          ap element_fits (sym is)
              ∙ and_from (fits y.base && fits y.order) (is_bitmap y.bits) (and_from (fits y.base) (fits y.order) (fits_at b 0 h) (fits_at b 8 h)) map',
        )

chosen : {A : Type 0} (b : Bool) (x y z : A) → cond b x y ≡ z → ((b ≡ true) × (x ≡ z)) ⊎ ((b ≡ false) × (y ≡ z))
chosen true x y z e = inl (refl, e)
chosen false x y z e = inr (refl, e)

abbrev kinds_4 : ℕ → Option Kind
kinds_4 n = cond (eqb n 4) (Some Dev3) None

abbrev kinds_3 : ℕ → Option Kind
kinds_3 n = cond (eqb n 3) (Some Dev2) (kinds_4 n)

abbrev kinds_2 : ℕ → Option Kind
kinds_2 n = cond (eqb n 2) (Some Dev1) (kinds_3 n)

abbrev kinds_1 : ℕ → Option Kind
kinds_1 n = cond (eqb n 1) (Some Dev0) (kinds_2 n)

named : (n m : ℕ) (j k : Kind) → eqb n m ≡ true → kind_number j ≡ m → Some j ≡ Some k → kind_number k ≡ n
named n m j k e i s = ap kind_number (sym (some_is j k s)) ∙ i ∙ sym (eqb-true n m e)

kind_found : (n : ℕ) (k : Kind) → kind_of n ≡ Some k → kind_number k ≡ n
kind_found n k e =
    elim (chosen (eqb n 0) (Some Memfd) (kinds_1 n) (Some k) e) [
      | inl h ↦ named n 0 Memfd k h.0 refl h.1
      | inr a ↦ elim (chosen (eqb n 1) (Some Dev0) (kinds_2 n) (Some k) a.1) [
        | inl h ↦ named n 1 Dev0 k h.0 refl h.1
        | inr b ↦ elim (chosen (eqb n 2) (Some Dev1) (kinds_3 n) (Some k) b.1) [
          | inl h ↦ named n 2 Dev1 k h.0 refl h.1
          | inr c ↦ elim (chosen (eqb n 3) (Some Dev2) (kinds_4 n) (Some k) c.1) [
            | inl h ↦ named n 3 Dev2 k h.0 refl h.1
            | inr d ↦ elim (chosen (eqb n 4) (Some Dev3) None (Some k) d.1) [ inl h ↦ named n 4 Dev3 k h.0 refl h.1 | inr x ↦ absurd (no_kind k x.1) ]
          ]
        ]
      ]
    ]
  where
    no_kind : (k : Kind) → None ≡ Some k → ⊥
    no_kind k e = cc

abbrev slot_with : List ℕ → Kind → FileSlot
slot_with b kind = record {
  token = u64_at b 0;
  kind = kind;
  order = u64_at b 16;
  size = u64_at b 24;
  position = u64_at b 32;
  handle = u64_at b 40;
  first = u64_at b 48;
  folios = u64_at b 56;
}

pub file_finds : Finds file_layout file_slot_bytes file_fits
unfolding file_slot_at
file_finds = record { found = file }
  where
    file : (b : List ℕ) (f : FileSlot) → length b ≡ 128 → IsBytes b → file_slot_at b ≡ Some f → (file_slot_bytes f ≡ b) × (file_fits f ≡ true)
    file b f len h e =
        let k = also_some (kind_of (u64_at b 8)) (λ kind. cond (are_zero (drop 64 b)) (Some (slot_with b kind)) None) f e in
        let t = then_some (are_zero (drop 64 b)) (slot_with b k.0) f k.2 in
        let z : zeros 64 ≡ drop 64 b = zeros_at b 64 64 len t.0 in
        let n = λ (i : ℕ). number (u64_at b i) in
        let a7 : n 56 ++ zeros 64 ≡ drop 56 b = step b (zeros 64) 56 h (omega (arith, len)) z in
        let a6 = step b (n 56 ++ zeros 64) 48 h (omega (arith, len)) a7 in
        let a5 = step b (n 48 ++ (n 56 ++ zeros 64)) 40 h (omega (arith, len)) a6 in
        let a4 = step b (n 40 ++ (n 48 ++ (n 56 ++ zeros 64))) 32 h (omega (arith, len)) a5 in
        let a3 = step b (n 32 ++ (n 40 ++ (n 48 ++ (n 56 ++ zeros 64)))) 24 h (omega (arith, len)) a4 in
        let a2 = step b (n 24 ++ (n 32 ++ (n 40 ++ (n 48 ++ (n 56 ++ zeros 64))))) 16 h (omega (arith, len)) a3 in
        let a1 = step b (n 16 ++ (n 24 ++ (n 32 ++ (n 40 ++ (n 48 ++ (n 56 ++ zeros 64)))))) 8 h (omega (arith, len)) a2 in
        let a0 = step b (n 8 ++ (n 16 ++ (n 24 ++ (n 32 ++ (n 40 ++ (n 48 ++ (n 56 ++ zeros 64))))))) 0 h (omega (arith, len)) a1 in
        let whole : file_slot_bytes (slot_with b k.0) ≡ b =
        ap (λ (x : ℕ). n 0 ++ (number x ++ (n 16 ++ (n 24 ++ (n 32 ++ (n 40 ++ (n 48 ++ (n 56 ++ zeros 64)))))))) (kind_found (u64_at b 8) k.0 k.1) ∙ a0 in
        let two = and_from (fits (u64_at b 0)) (fits (u64_at b 16)) (fits_at b 0 h) (fits_at b 16 h) in
        let three = and_from (fits (u64_at b 0) && fits (u64_at b 16)) (fits (u64_at b 24)) two (fits_at b 24 h) in
        let four = and_from (fits (u64_at b 0) && fits (u64_at b 16) && fits (u64_at b 24)) (fits (u64_at b 32)) three (fits_at b 32 h) in
        let five = and_from (fits (u64_at b 0) && fits (u64_at b 16) && fits (u64_at b 24) && fits (u64_at b 32)) (fits (u64_at b 40)) four (fits_at b 40 h) in
        let six = and_from (fits (u64_at b 0) && fits (u64_at b 16) && fits (u64_at b 24) && fits (u64_at b 32) && fits (u64_at b 40)) (fits (u64_at b 48)) five (fits_at b 48 h) in
        let seven = and_from (fits (u64_at b 0) && fits (u64_at b 16) && fits (u64_at b 24) && fits (u64_at b 32) && fits (u64_at b 40) && fits (u64_at b 48)) (fits (u64_at b 56)) six (fits_at b 56 h) in
        (ap file_slot_bytes (sym t.1) ∙ whole, ap file_fits (sym t.1) ∙ seven)

-- a session's numbers have 8 bytes; that its name is one is a rule of the frame
abbrev pub session_numbers_fit : SessionSlot → Bool
session_numbers_fit s = fits s.files && fits s.first

text_found : (xs : List ℕ) → text_of xs ++ drop (length (text_of xs)) xs ≡ xs
text_found [] = refl
text_found (b ∷ xs) =
    elim (eqb b 0) as (λ t. cond t [] (b ∷ text_of xs) ++ drop (length (cond t [] (b ∷ text_of xs))) (b ∷ xs) ≡ b ∷ xs) [
      | true ↦ refl
      | false ↦ ap (λ (x : List ℕ). b ∷ x) (text_found xs)
    ]

text_short : (xs : List ℕ) → length (text_of xs) ≤ length xs
text_short [] = omega arith
text_short (b ∷ xs) =
    let more = text_short xs in
    elim (eqb b 0) as (λ t. length (cond t [] (b ∷ text_of xs)) ≤ length (b ∷ xs)) [ true ↦ omega arith | false ↦ omega (arith, more) ]

pub session_finds : Finds session_layout session_slot_bytes session_numbers_fit
unfolding session_slot_at
session_finds = record { found = session }
  where
    session : (b : List ℕ) (s : SessionSlot) → length b ≡ 128 → IsBytes b → session_slot_at b ≡ Some s → (session_slot_bytes s ≡ b) × (session_numbers_fit s ≡ true)
    session b s len h e =
        let front = take 64 b in
        let name = text_of front in
        let y : SessionSlot = record { name = name; files = u64_at b 64; first = u64_at b 72 } in
        let t = then_some (are_zero (drop (length name) front) && are_zero (drop 80 b)) y s e in
        let zs = and_parts (are_zero (drop (length name) front)) (are_zero (drop 80 b)) t.0 in
        let flen : length front ≡ 64 = length_taken 64 b (omega (arith, len)) in
        let short = text_short front in
        let pad : zeros (64 - length name) ≡ drop (length name) front = zeros_at front (length name) (64 - length name) (omega (arith, flen, short)) zs.0 in
        let n = λ (i : ℕ). number (u64_at b i) in
        let tail : n 64 ++ (n 72 ++ zeros 48) ≡ drop 64 b =
        step b (n 72 ++ zeros 48) 64 h (omega (arith, len)) (step b (zeros 48) 72 h (omega (arith, len)) (zeros_at b 80 48 len zs.1)) in
        let p = name ++ zeros (64 - length name) in
        let first : p ≡ front = ap (λ (x : List ℕ). name ++ x) pad ∙ text_found front in
        let whole : session_slot_bytes y ≡ b =
        append_assoc (p ++ n 64) (n 72) (zeros 48) ∙ append_assoc p (n 64) (n 72 ++ zeros 48) ∙ ap (λ (x : List ℕ). p ++ x) tail
        ∙ ap (λ (x : List ℕ). x ++ drop 64 b) first ∙ take-append-drop 64 b in
        (ap session_slot_bytes (sym t.1) ∙ whole, ap session_numbers_fit (sym t.1) ∙ and_from (fits y.files) (fits y.first) (fits_at b 64 h) (fits_at b 72 h))
