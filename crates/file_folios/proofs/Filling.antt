-- Folios put into holes, in rising index.
use Rattle.std.proofs.Common.{◌≡◌, ℕ, suc, ◌+◌, ◌-◌, ◌<◌, ◌≤◌, nat_lt, Bool, true, false, not, is_some, List, [], ◌∷◌, ◌++◌, length, take, drop, reverse, refl, ap, sym, subst, ◌∙◌, arith, append_assoc}
use Rattle.std.specs.Prelude.{Option, None, Some, slice_set}
use Rattle.std.proofs.lemmas.Bool.Decides.{nat_tests}
use Rattle.std.proofs.lemmas.List.{length-set, append-nil, reverse-reverse, get_or-set_same, get_or-set_other, reverse-append}
use Rattle.ho_base.specs.declared.numbers.Order.{Order}
use Rattle.ho_base.specs.declared.numbers.Pfn.{Pfn}
use Rattle.phys_frames.specs.Homes.{HomeId}
use Rattle.phys_frames.specs.Memory.{FolioValue, first_frames}
use Rattle.ho_events.specs.Lists.{firsts}
use Rattle.ho_events.specs.File.{filled}
use Rattle.file_folios.specs.Slots.{places, holes_in, slot_at, is_hole, all_bytes, runs_in, after_fill, AreBlank, AreSlots}
use Rattle.file_folios.proofs.Places.{next_is_hole, next_is_folio, no_holes, holes_past}
use Rattle.file_folios.proofs.SlotBytes.{fill_same, put_slots}
use Rattle.file_folios.proofs.SlotRuns.{runs_set}

-- the holes below an index are filled, and the folios that are left fill the rest
pub record Filling (home : HomeId) (order : Order) (p from count : ℕ) (all : List FolioValue) (old : List (Option FolioValue)) (at left : ℕ) (folios : List FolioValue) (listed : List Pfn) (now : List (Option FolioValue)) : Type 0 where
  pub place : at + left ≡ from + count
  pub after : from ≤ at
  pub slots : AreSlots home order p now
  pub blank : AreBlank home order p folios
  pub enough : length folios ≡ length (holes_in now (places at left))
  pub same : all_bytes p now ≡ all_bytes p old
  pub runs : filled (holes_in now (places at left)) (firsts (first_frames folios)) (runs_in now) ≡ filled (holes_in old (places from count)) (firsts (first_frames all)) (runs_in old)
  pub runs_all : listed ++ first_frames folios ≡ first_frames all
  pub length_same : length now ≡ length old
  pub there : (i : ℕ) → from ≤ i → i < at → is_hole now i ≡ false

hole_none : (slot : Option FolioValue) → not (is_some slot) ≡ true → slot ≡ None
hole_none None h = refl
hole_none (Some f) h = absurd cc

module _ (home : HomeId) (order : Order) (p from count : ℕ) (all : List FolioValue) (old : List (Option FolioValue)) where
  pub filling_begins : (folios : List FolioValue) (listed : List Pfn) → folios ≡ all → listed ≡ [] → AreSlots home order p old → AreBlank home order p all → length all ≡ length (holes_in old (places from count)) →
      Filling home order p from count all old from count folios listed old
  filling_begins folios listed same none slots blank enough = rw (same, none) (record {
    place = refl;
    after = omega arith;
    slots = slots;
    blank = blank;
    enough = enough;
    same = refl;
    runs = refl;
    runs_all = refl;
    length_same = refl;
    there = λ i le lt. absurd (omega arith);
  })

  module _ (at left : ℕ) (folios : List FolioValue) (listed : List Pfn) (now : List (Option FolioValue)) (f : Filling home order p from count all old at left folios listed now) (some : 0 < left) where
    there_next : (next : List (Option FolioValue)) → is_hole next at ≡ false → ((i : ℕ) → i < at → is_hole next i ≡ is_hole now i) → (i : ℕ) → from ≤ i → i < at + 1 → is_hole next i ≡ false
    there_next next last before i le lt = by_test (nat_lt i at) refl
      where
        by_test : (b : Bool) → nat_lt i at ≡ b → is_hole next i ≡ false
        by_test true e = let below : i < at = grind (arith, nat_tests) in before i below ∙ f.there i le below
        by_test false e = let here : i ≡ at = grind (arith, nat_tests) in ap (is_hole next) here ∙ last

    -- a place that has a folio
    pub filling_kept : is_hole now at ≡ false → Filling home order p from count all old (at + 1) (left - 1) folios listed now
    filling_kept is =
        let step : holes_in now (places at left) ≡ holes_in now (places (at + 1) (left - 1)) = next_is_folio now at left some is in
        record {
          place = omega (arith, f.place);
          after = omega (arith, f.after);
          slots = f.slots;
          blank = f.blank;
          enough = f.enough ∙ ap length step;
          same = f.same;
          runs = ap (λ hs. filled hs (firsts (first_frames folios)) (runs_in now)) (sym step) ∙ f.runs;
          runs_all = f.runs_all;
          length_same = f.length_same;
          there = there_next now is (λ i lt. refl);
        }

    -- a hole has a folio to fill it
    pub filling_some : is_hole now at ≡ true → 0 < length folios
    filling_some is = omega (arith, f.enough ∙ ap length (next_is_hole now at left some is))

    put_first : (rest : List FolioValue) → folios ≡ rest → is_hole now at ≡ true → at < length now →
        Filling home order p from count all old (at + 1) (left - 1) (drop 1 rest) (listed ++ take 1 (first_frames rest)) (after_fill now at rest)
    put_first [] e is lt = absurd (omega (arith, filling_some is, ap length e))
    put_first (g ∷ rest) e is lt =
        let next : List (Option FolioValue) = slice_set now at (Some g) in
        let step : holes_in now (places at left) ≡ at ∷ holes_in now (places (at + 1) (left - 1)) = next_is_hole now at left some is in
        let past : holes_in next (places (at + 1) (left - 1)) ≡ holes_in now (places (at + 1) (left - 1)) = holes_past now at (Some g) (at + 1) (left - 1) (omega arith) in
        let blank : AreBlank home order p (g ∷ rest) = subst (AreBlank home order p) e f.blank in
        let enough : suc (length rest) ≡ suc (length (holes_in now (places (at + 1) (left - 1)))) = sym (ap length e) ∙ f.enough ∙ ap length step in
        record {
          place = omega (arith, f.place);
          after = omega (arith, f.after);
          slots = put_slots home order p now at g f.slots blank.0.fits;
          blank = blank.1;
          enough = omega (arith, enough, ap length past);
          same = fill_same p now at g (hole_none (slot_at now at) is) blank.0.zeros ∙ f.same;
          runs = ap (λ hs. filled hs (firsts (first_frames rest)) (runs_in next)) past
              ∙ ap (filled (holes_in now (places (at + 1) (left - 1))) (firsts (first_frames rest))) (runs_set now at g lt)
              ∙ ap (λ hs. filled hs (firsts (first_frames (g ∷ rest))) (runs_in now)) (sym step)
              ∙ ap (λ fs. filled (holes_in now (places at left)) (firsts (first_frames fs)) (runs_in now)) (sym e)
              ∙ f.runs;
          runs_all = append_assoc listed (g.first ∷ []) (first_frames rest) ∙ ap (λ fs. listed ++ first_frames fs) (sym e) ∙ f.runs_all;
          length_same = length-set now at (Some g) ∙ f.length_same;
          there = there_next next (ap (λ s. not (is_some s)) (get_or-set_same now at (Some g) None lt)) (λ i below. ap (λ s. not (is_some s)) (get_or-set_other now at i (Some g) None (λ s. omega arith)));
        }

    pub filling_put : (rest : List FolioValue) (longer : List Pfn) (next : List (Option FolioValue)) → is_hole now at ≡ true → at < length now →
        rest ≡ drop 1 folios → longer ≡ listed ++ take 1 (first_frames folios) → next ≡ after_fill now at folios →
        Filling home order p from count all old (at + 1) (left - 1) rest longer next
    filling_put rest longer next is lt er et en = rw (er, et, en) (put_first folios refl is lt)

  -- all holes are filled
  module _ (at left : ℕ) (folios : List FolioValue) (listed : List Pfn) (now : List (Option FolioValue)) (f : Filling home order p from count all old at left folios listed now) (none : left ≡ 0) where
    no_folios : (xs : List FolioValue) → length xs ≡ 0 → xs ≡ []
    no_folios [] h = refl
    no_folios (x ∷ xs) h = absurd (omega arith)

    pub filled_left : folios ≡ []
    filled_left = no_folios folios (f.enough ∙ ap length (no_holes now at left none))

    pub filled_used : listed ≡ first_frames all
    filled_used = sym (append-nil listed) ∙ ap (λ fs. listed ++ first_frames fs) (sym filled_left) ∙ f.runs_all

    pub filled_runs : runs_in now ≡ filled (holes_in old (places from count)) (firsts listed) (runs_in old)
    filled_runs = ap (λ hs. filled hs (firsts (first_frames folios)) (runs_in now)) (sym (no_holes now at left none)) ∙ f.runs
        ∙ ap (λ ps. filled (holes_in old (places from count)) (firsts ps) (runs_in old)) (sym filled_used)

    pub filled_there : (i : ℕ) → from ≤ i → i < from + count → is_hole now i ≡ false
    filled_there i le lt = f.there i le (omega (arith, f.place))

-- the last of a list that is turned round
pub turned_last : (before after : List FolioValue) (x : FolioValue) → before ≡ after ++ x ∷ [] → reverse before ≡ x ∷ reverse after
turned_last before after x e = ap reverse e ∙ reverse-append after (x ∷ [])

pub turned_twice : (xs ys : List FolioValue) → ys ≡ reverse xs → reverse ys ≡ xs
turned_twice xs ys e = ap reverse e ∙ reverse-reverse xs

pub turned_none : (xs : List FolioValue) → reverse xs ≡ [] → xs ≡ []
turned_none xs e = sym (reverse-reverse xs) ∙ ap reverse e
