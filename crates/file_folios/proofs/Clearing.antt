-- Bytes past a size made zero.
use Rattle.std.proofs.Common.{◌≡◌, ℕ, ◌+◌, ◌-◌, ◌*◌, ◌/◌, ◌%◌, ◌<◌, ◌≤◌, List, ◌++◌, length, take, drop, replicate, refl, ap, sym, subst, ◌∙◌, arith}
use Rattle.std.specs.Prelude.{Option, None, Some, option_map, slice_set}
use Rattle.std.specs.Option.{MatchOption}
use Rattle.std.proofs.lemmas.List.{append-nil, take_all, drop_all, length-take, length-drop, length-replicate, take-append-drop, set-get_or, take-replicate, drop-replicate}
use Rattle.std.proofs.Math.Nat.{lt_of_mul-lt-mul_right}
use Rattle.ho_base.specs.declared.numbers.Order.{Order}
use Rattle.phys_frames.specs.Homes.{HomeId}
use Rattle.phys_frames.specs.Memory.{FolioValue, written}
use Rattle.ho_events.specs.Lists.{pieces}
use Rattle.ho_events.specs.File.{extended}
use Rattle.file_folios.specs.Slots.{slot_at, slot_bytes, all_bytes, runs_in, zeros_from, IsPiece, IsSlot, AreSlots}
use Rattle.file_folios.proofs.Division.{place_is, at_within, index_below}
use Rattle.file_folios.proofs.Lists.{written_long}
use Rattle.file_folios.proofs.Extended.{pieces_enough, pieces_tight}
use Rattle.file_folios.proofs.SlotBytes.{all_length, put_bytes, put_slots, range_bytes}
use Rattle.file_folios.proofs.SlotRuns.{set_same_run}

module _ (home : HomeId) (order : Order) (p : ℕ) (some : 0 < p) (slots : List (Option FolioValue)) (are : AreSlots home order p slots) (to : ℕ) (count : length slots ≡ pieces to p) where
  abbrev all : List ℕ
  all = all_bytes p slots

  abbrev n : ℕ
  n = length slots * p

  long : length all ≡ n
  long = all_length home order p slots are

  within : to ≤ n
  within = omega (arith, pieces_enough to p some, ap (λ c. c * p) count)

  tight : n < to + p
  tight = omega (arith, pieces_tight to p some, ap (λ c. c * p) count)

  front_long : length (take to all) ≡ to
  front_long = length-take to all ∙ omega (arith, long, within)

  as_extended : (now : List ℕ) → now ≡ take to all ++ replicate (n - to) 0 → now ≡ extended n (take to all)
  as_extended now e = e ∙ ap (λ k. take to all ++ replicate (n - k) 0) (sym front_long)

  -- nothing stands past the size
  pub cleared_none : n ≤ to → all ≡ extended n (take to all)
  cleared_none h = as_extended all (with_none (n - to) (omega arith))
    where
      with_none : (k : ℕ) → k ≡ 0 → all ≡ take to all ++ replicate k 0
      with_none k e = rw e (sym (append-nil (take to all) ∙ take_all to all (omega (arith, long, h))))

  module _ (more : to < n) where
    pub index_there : to / p < length slots
    index_there = index_below to (length slots) p some more

    whole : n ≡ (to / p + 1) * p
    whole =
        let high : length slots * p < (to / p + 1 + 1) * p = omega (arith, place_is to p, at_within to p some, tight) in
        ap (λ c. c * p) (same_count (length slots) (to / p) index_there (lt_of_mul-lt-mul_right p high))
      where
        same_count : (c i : ℕ) → i < c → c < i + 1 + 1 → c ≡ i + 1
        same_count c i lo hi = omega arith

    part : n - to ≡ p - to % p
    part = omega (arith, whole, place_is to p, at_within to p some)

    abbrev next : Option FolioValue → List (Option FolioValue)
    next slot = slice_set slots (to / p) (option_map (λ f. zeros_from f (to % p)) slot)

    of_slot : (slot : Option FolioValue) → IsSlot home order p slot → MatchOption slot (Unit {0}) (λ f. to % p ≤ length f.bytes)
    of_slot None s = tt
    of_slot (Some f) s = omega (arith, s.long, at_within to p some)

    pub clear_fits : MatchOption (slot_at slots (to / p)) (Unit {0}) (λ f. to % p ≤ length f.bytes)
    clear_fits = of_slot (slot_at slots (to / p)) (are.at (to / p))

    rest_of : drop to all ≡ take (p - to % p) (drop to all)
    rest_of = sym (take_all (p - to % p) (drop to all) (omega (arith, length-drop to all, long, part)))

    hole_rest : slot_at slots (to / p) ≡ None → drop to all ≡ replicate (n - to) 0
    hole_rest is =
        rest_of ∙ ap (λ m. take (p - to % p) (drop m all)) (sym (place_is to p))
        ∙ range_bytes home order p slots (to / p) (to % p) (p - to % p) are index_there (omega (arith, at_within to p some))
        ∙ ap (λ o. take (p - to % p) (drop (to % p) (slot_bytes p o))) is
        ∙ ap (take (p - to % p)) (drop-replicate (to % p) p 0)
        ∙ take-replicate (p - to % p) (p - to % p) 0 (omega arith)
        ∙ ap (λ k. replicate k 0) (sym part)

    same_part : (xs ys : List ℕ) (m : ℕ) → length xs ≤ m → take m xs ++ (ys ++ drop m xs) ≡ xs ++ ys
    same_part xs ys m h = ap (λ t. t ++ (ys ++ drop m xs)) (take_all m xs h) ∙ ap (λ d. xs ++ (ys ++ d)) (drop_all m xs h) ∙ ap (λ r. xs ++ r) (append-nil ys)

    at_slot : (slot : Option FolioValue) → slot_at slots (to / p) ≡ slot → (all_bytes p (next slot) ≡ extended n (take to all)) × AreSlots home order p (next slot) × (runs_in (next slot) ≡ runs_in slots)
    at_slot None is =
        let same : next None ≡ slots = ap (λ s. slice_set slots (to / p) s) (sym is) ∙ set-get_or slots (to / p) None in (
          ap (all_bytes p) same ∙ as_extended all (sym (take-append-drop to all) ∙ ap (λ d. take to all ++ d) (hole_rest is)),
          subst (AreSlots home order p) (sym same) are,
          ap runs_in same,
        )
    at_slot (Some f) is =
        let piece : IsPiece home order p f = subst (IsSlot home order p) is (are.at (to / p)) in
        let zeros : List ℕ = replicate (p - to % p) 0 in
        let zeros_long : length zeros ≡ p - to % p = length-replicate (p - to % p) 0 in
        let fits : to % p + length zeros ≤ p = omega (arith, zeros_long, at_within to p some) in
        let bytes : (zeros_from f (to % p)).bytes ≡ written f.bytes (to % p) zeros =
        ap (λ k. take (to % p) f.bytes ++ replicate k 0) (ap (λ m. m - to % p) piece.long)
        ∙ ap (λ r. take (to % p) f.bytes ++ r) (sym (append-nil zeros) ∙ ap (λ d. zeros ++ d) (sym (drop_all (to % p + length zeros) f.bytes (omega (arith, piece.long, zeros_long))))) in
        let fitting : IsPiece home order p (zeros_from f (to % p)) = record {
          of_home = piece.of_home;
          of_order = piece.of_order;
          long = ap length bytes ∙ written_long f.bytes (to % p) zeros (omega (arith, piece.long, fits)) ∙ piece.long;
        } in (
          put_bytes home order p slots (to / p) (to % p) f (zeros_from f (to % p)) zeros are is bytes fits
              ∙ ap (λ m. written all m zeros) (place_is to p)
              ∙ as_extended (written all to zeros) (ap (λ d. take to all ++ (zeros ++ d)) (drop_all (to + length zeros) all (omega (arith, long, zeros_long, part)))
              ∙ ap (λ r. take to all ++ r) (append-nil zeros) ∙ ap (λ k. take to all ++ replicate k 0) (sym part)),
          put_slots home order p slots (to / p) (zeros_from f (to % p)) are fitting,
          set_same_run slots (to / p) f (zeros_from f (to % p)) is refl,
        )

    pub cleared : (now : List (Option FolioValue)) → now ≡ next (slot_at slots (to / p)) →
        (all_bytes p now ≡ extended n (take to all)) × AreSlots home order p now × (runs_in now ≡ runs_in slots)
    cleared now e = rw e (at_slot (slot_at slots (to / p)) refl)
