-- The bytes of slots.
use Rattle.std.proofs.Common.{◌≡◌, ℕ, zero, suc, ◌+◌, ◌*◌, ◌<◌, ◌≤◌, ◌==◌, nat_lt, Bool, true, false, List, [], ◌∷◌, ◌++◌, length, take, drop, replicate, refl, ap, sym, subst, ◌∙◌, arith, append_assoc, length-append}
use Rattle.std.specs.Prelude.{Option, None, Some, slice_set}
use Rattle.std.proofs.lemmas.Bool.Decides.{nat_tests}
use Rattle.std.proofs.lemmas.List.{take-append-le, drop-append-le, length-drop, length-replicate, replicate-append-replicate, get_or-set_same, get_or-set_other, set_past}
use Rattle.ho_base.specs.declared.numbers.Order.{Order}
use Rattle.phys_frames.specs.Homes.{HomeId}
use Rattle.phys_frames.specs.Memory.{FolioValue, written}
use Rattle.file_folios.specs.Slots.{slot_at, slot_bytes, all_bytes, IsPiece, IsSlot, AreSlots}
use Rattle.file_folios.proofs.Lists.{written_left, written_right, take_right, drop_right}

pub all_append : (p : ℕ) (xs ys : List (Option FolioValue)) → all_bytes p (xs ++ ys) ≡ all_bytes p xs ++ all_bytes p ys
unfolding all_bytes
all_append p [] ys = refl
all_append p (x ∷ xs) ys = ap (λ r. slot_bytes p x ++ r) (all_append p xs ys) ∙ sym (append_assoc (slot_bytes p x) (all_bytes p xs) (all_bytes p ys))

pub all_holes : (p k : ℕ) → all_bytes p (replicate k None) ≡ replicate (k * p) 0
unfolding all_bytes
all_holes p zero = let e : 0 * p ≡ 0 = omega arith in rw e refl
all_holes p (suc k) =
    ap (λ r. replicate p 0 ++ r) (all_holes p k) ∙ replicate-append-replicate p (k * p) 0 ∙ ap (λ n. replicate n 0) (omega arith)

-- a fill changes no byte
pub fill_same : (p : ℕ) (slots : List (Option FolioValue)) (i : ℕ) (f : FolioValue) → slot_at slots i ≡ None → f.bytes ≡ replicate p 0 → all_bytes p (slice_set slots i (Some f)) ≡ all_bytes p slots
unfolding all_bytes
fill_same p [] i f h z = refl
fill_same p (x ∷ slots) zero f h z = ap (λ b. b ++ all_bytes p slots) (z ∙ ap (slot_bytes p) (sym h))
fill_same p (x ∷ slots) (suc i) f h z = ap (λ r. slot_bytes p x ++ r) (fill_same p slots i f h z)

module _ (home : HomeId) (order : Order) (p : ℕ) where
  slot_long : (slot : Option FolioValue) → IsSlot home order p slot → length (slot_bytes p slot) ≡ p
  slot_long None h = length-replicate p 0
  slot_long (Some f) h = h.long

  tail : (x : Option FolioValue) (slots : List (Option FolioValue)) → AreSlots home order p (x ∷ slots) → AreSlots home order p slots
  tail x slots h = record { at = λ i. h.at (suc i) }

  pub all_length : (slots : List (Option FolioValue)) → AreSlots home order p slots → length (all_bytes p slots) ≡ length slots * p
  unfolding all_bytes
  all_length [] h = let e : 0 * p ≡ 0 = omega arith in rw e refl
  all_length (x ∷ slots) h =
      length-append (slot_bytes p x) (all_bytes p slots)
      ∙ ap (λ n. n + length (all_bytes p slots)) (slot_long x (h.at 0))
      ∙ ap (λ n. p + n) (all_length slots (tail x slots h)) ∙ omega arith

  -- bytes put into the folio at an index
  pub put_bytes : (slots : List (Option FolioValue)) (i at : ℕ) (f g : FolioValue) (a : List ℕ) → AreSlots home order p slots → slot_at slots i ≡ Some f → g.bytes ≡ written f.bytes at a → at + length a ≤ p → all_bytes p (slice_set slots i (Some g)) ≡ written (all_bytes p slots) (i * p + at) a
  unfolding all_bytes
  put_bytes [] i at f g a h is same le = absurd cc
  put_bytes (x ∷ slots) zero at f g a h is same le =
      let e : 0 * p + at ≡ at = omega arith in
      let long : length (slot_bytes p x) ≡ p = slot_long x (h.at 0) in
      ap (λ b. b ++ all_bytes p slots) (same ∙ ap (λ s. written (slot_bytes p s) at a) (sym is))
      ∙ sym (written_left (slot_bytes p x) (all_bytes p slots) at a (omega arith))
      ∙ ap (λ n. written (slot_bytes p x ++ all_bytes p slots) n a) (sym e)
  put_bytes (x ∷ slots) (suc i) at f g a h is same le =
      let e : suc i * p + at ≡ p + (i * p + at) = omega arith in
      ap (λ r. slot_bytes p x ++ r) (put_bytes slots i at f g a (tail x slots h) is same le)
      ∙ sym (written_right (slot_bytes p x) (all_bytes p slots) p (i * p + at) a (slot_long x (h.at 0)))
      ∙ ap (λ n. written (slot_bytes p x ++ all_bytes p slots) n a) (sym e)

  -- a range within an index
  pub range_bytes : (slots : List (Option FolioValue)) (i at n : ℕ) → AreSlots home order p slots → i < length slots → at + n ≤ p → take n (drop (i * p + at) (all_bytes p slots)) ≡ take n (drop at (slot_bytes p (slot_at slots i)))
  unfolding all_bytes
  range_bytes [] i at n h lt le = absurd (omega arith)
  range_bytes (x ∷ slots) zero at n h lt le =
      let e : 0 * p + at ≡ at = omega arith in
      let long : length (slot_bytes p x) ≡ p = slot_long x (h.at 0) in
      ap (λ m. take n (drop m (slot_bytes p x ++ all_bytes p slots))) e
      ∙ ap (take n) (drop-append-le at (slot_bytes p x) (all_bytes p slots) (omega arith))
      ∙ take-append-le n (drop at (slot_bytes p x)) (all_bytes p slots) (omega (arith, length-drop at (slot_bytes p x)))
  range_bytes (x ∷ slots) (suc i) at n h lt le =
      let long : length (slot_bytes p x) ≡ p = slot_long x (h.at 0) in
      let e : suc i * p + at ≡ length (slot_bytes p x) + (i * p + at) = omega arith in
      ap (λ m. take n (drop m (slot_bytes p x ++ all_bytes p slots))) e
      ∙ ap (take n) (drop_right (slot_bytes p x) (all_bytes p slots) (i * p + at))
      ∙ range_bytes slots i at n (tail x slots h) (omega arith) le

  -- the slots below an index
  pub take_bytes : (slots : List (Option FolioValue)) (n : ℕ) → AreSlots home order p slots → n ≤ length slots → all_bytes p (take n slots) ≡ take (n * p) (all_bytes p slots)
  unfolding all_bytes
  take_bytes slots zero h le = let e : 0 * p ≡ 0 = omega arith in rw e refl
  take_bytes [] (suc n) h le = absurd (omega arith)
  take_bytes (x ∷ slots) (suc n) h le =
      let long : length (slot_bytes p x) ≡ p = slot_long x (h.at 0) in
      let e : suc n * p ≡ length (slot_bytes p x) + n * p = omega arith in
      ap (λ r. slot_bytes p x ++ r) (take_bytes slots n (tail x slots h) (omega arith))
      ∙ sym (take_right (slot_bytes p x) (all_bytes p slots) (n * p))
      ∙ ap (λ m. take m (slot_bytes p x ++ all_bytes p slots)) (sym e)

  -- a folio put at an index
  put_at : (slots : List (Option FolioValue)) (i k : ℕ) (f : FolioValue) → AreSlots home order p slots → IsPiece home order p f → (b : Bool) → (k == i) ≡ b → IsSlot home order p (slot_at (slice_set slots i (Some f)) k)
  put_at slots i k f h fits true e =
      let same : k ≡ i = grind (arith, nat_tests) in within (nat_lt i (length slots)) refl same
    where
      within : (b : Bool) → nat_lt i (length slots) ≡ b → k ≡ i → IsSlot home order p (slot_at (slice_set slots i (Some f)) k)
      within true lt same =
          let inside : i < length slots = grind (arith, nat_tests) in
          subst (λ n. IsSlot home order p (slot_at (slice_set slots i (Some f)) n)) (sym same) (subst (IsSlot home order p) (sym (get_or-set_same slots i (Some f) None inside)) fits)
      within false lt same =
          let past : length slots ≤ i = grind (arith, nat_tests) in
          subst (λ s. IsSlot home order p (slot_at s k)) (sym (set_past slots i (Some f) past)) (h.at k)
  put_at slots i k f h fits false e =
      let apart : k ≡ i → ⊥ = λ s. grind (arith, nat_tests) in
      subst (IsSlot home order p) (sym (get_or-set_other slots i k (Some f) None apart)) (h.at k)

  pub put_slots : (slots : List (Option FolioValue)) (i : ℕ) (f : FolioValue) → AreSlots home order p slots → IsPiece home order p f → AreSlots home order p (slice_set slots i (Some f))
  put_slots slots i f h fits = record { at = λ k. put_at slots i k f h fits (k == i) refl }
