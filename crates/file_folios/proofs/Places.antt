-- Indexes in a row.
use Rattle.std.proofs.Common.{◌≡◌, ℕ, zero, suc, ◌+◌, ◌-◌, ◌<◌, Bool, true, false, cond, not, List, [], ◌∷◌, ◌++◌, map, is_some, refl, ap, sym, ◌∙◌, arith}
use Rattle.std.specs.Prelude.{Option, None}
use Rattle.std.proofs.lemmas.List.{map-append, get_or-set_other}
use Rattle.std.specs.Prelude.{slice_set}
use Rattle.phys_frames.specs.Memory.{FolioValue}
use Rattle.ho_events.specs.Lists.{upto, between}
use Rattle.file_folios.specs.Slots.{places, is_hole, holes_in}

places_more : (a n : ℕ) → places a (suc n) ≡ places a n ++ (a + n) ∷ []
unfolding places
places_more a zero = ap (λ x. x ∷ []) (omega arith)
places_more a (suc n) = ap (λ xs. a ∷ xs) (places_more (suc a) n ∙ ap (λ x. places (suc a) n ++ x ∷ []) (omega arith))

mapped : (a n : ℕ) → map (λ i. a + i) (upto n) ≡ places a n
unfolding upto places
mapped a zero = refl
mapped a (suc n) = map-append (λ i. a + i) (upto n) (n ∷ []) ∙ ap (λ xs. xs ++ (a + n) ∷ []) (mapped a n) ∙ sym (places_more a n)

pub between_is : (a b : ℕ) → between a b ≡ places a (b - a)
between_is a b = mapped a (b - a)

upto_is : (n : ℕ) → upto n ≡ places 0 n
unfolding upto places
upto_is zero = refl
upto_is (suc n) = ap (λ xs. xs ++ n ∷ []) (upto_is n) ∙ ap (λ m. places 0 n ++ m ∷ []) (omega arith) ∙ sym (places_more 0 n)

pub indexes_are : (n : ℕ) → upto n ≡ places 0 n
indexes_are n = upto_is n

pub no_places : (a : ℕ) → places a 0 ≡ []
unfolding places
no_places a = refl

pub first_place : (a n : ℕ) → 0 < n → places a n ≡ a ∷ places (suc a) (n - 1)
unfolding places
first_place a zero h = absurd (omega arith)
first_place a (suc n) h = ap (λ m. a ∷ places (suc a) m) (omega arith)

at_hole : (b : Bool) (a : ℕ) (rest : List ℕ) → b ≡ true → cond b (a ∷ rest) rest ≡ a ∷ rest
at_hole b a rest h = rw h refl

at_folio : (b : Bool) (a : ℕ) (rest : List ℕ) → b ≡ false → cond b (a ∷ rest) rest ≡ rest
at_folio b a rest h = rw h refl

-- the holes among some indexes, by the first of them
pub next_is_hole : (slots : List (Option FolioValue)) (a n : ℕ) → 0 < n → is_hole slots a ≡ true → holes_in slots (places a n) ≡ a ∷ holes_in slots (places (a + 1) (n - 1))
next_is_hole slots a n h is =
    ap (holes_in slots) (first_place a n h) ∙ at_hole (is_hole slots a) a (holes_in slots (places (suc a) (n - 1))) is
    ∙ ap (λ b. a ∷ holes_in slots (places b (n - 1))) (omega arith)

pub next_is_folio : (slots : List (Option FolioValue)) (a n : ℕ) → 0 < n → is_hole slots a ≡ false → holes_in slots (places a n) ≡ holes_in slots (places (a + 1) (n - 1))
next_is_folio slots a n h is =
    ap (holes_in slots) (first_place a n h) ∙ at_folio (is_hole slots a) a (holes_in slots (places (suc a) (n - 1))) is
    ∙ ap (λ b. holes_in slots (places b (n - 1))) (omega arith)

pub no_holes : (slots : List (Option FolioValue)) (a n : ℕ) → n ≡ 0 → holes_in slots (places a n) ≡ []
no_holes slots a n h = ap (λ m. holes_in slots (places a m)) h ∙ ap (holes_in slots) (no_places a)

-- a change at an index leaves the holes past it
pub holes_past : (slots : List (Option FolioValue)) (i : ℕ) (x : Option FolioValue) (k n : ℕ) → i < k → holes_in (slice_set slots i x) (places k n) ≡ holes_in slots (places k n)
unfolding places
holes_past slots i x k zero h = refl
holes_past slots i x k (suc n) h =
    let same : is_hole (slice_set slots i x) k ≡ is_hole slots k = ap (λ s. not (is_some s)) (get_or-set_other slots i k x None (λ e. omega arith)) in
    ap (λ b. cond b (k ∷ holes_in (slice_set slots i x) (places (suc k) n)) (holes_in (slice_set slots i x) (places (suc k) n))) same
    ∙ ap (λ rest. cond (is_hole slots k) (k ∷ rest) rest) (holes_past slots i x (suc k) n (omega arith))
