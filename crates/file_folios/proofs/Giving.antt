-- Folios that come home, one after the other.
use Rattle.std.proofs.Common.{◌≡◌, ℕ, ◌+◌, ◌-◌, ◌<◌, ◌≤◌, List, [], ◌∷◌, ◌++◌, length, drop, replicate, refl, ap, sym, subst, ◌∙◌, arith, append_assoc}
use Rattle.std.specs.Prelude.{Option, None, Some, slice_set}
use Rattle.std.specs.Option.{MatchOption}
use Rattle.std.proofs.lemmas.List.{append-nil, drop_more, drop_all, get_or_at, set_at, length-append, length-drop, length-replicate, replicate-append-replicate}
use Rattle.ho_base.specs.declared.numbers.Order.{Order}
use Rattle.phys_frames.specs.Homes.{HomeId}
use Rattle.phys_frames.specs.Memory.{FolioValue, Memory}
use Rattle.file_folios.specs.Slots.{slot_at, folios_in, slot_list, given_home, with_folios, AreOut, IsSlot, AreSlots}
use Rattle.file_folios.proofs.Cutting.{folios_at, past_folios}

given_list : (m : Memory) (s : Option FolioValue) (folios : List FolioValue) → with_folios (given_home m s) folios ≡ with_folios m (slot_list s ++ folios)
unfolding with_folios
given_list m None folios = refl
given_list m (Some f) folios = refl

no_more : (m : Memory) → with_folios m [] ≡ m
unfolding with_folios
no_more m = refl

same_home : (m : Memory) (s : Option FolioValue) → (given_home m s).home ≡ m.home
same_home m None = refl
same_home m (Some f) = refl

out_list : (m : Memory) (s : Option FolioValue) (folios : List FolioValue) → AreOut m (slot_list s) → AreOut (given_home m s) folios → AreOut m (slot_list s ++ folios)
out_list m None folios were h = h
out_list m (Some f) folios were h = (were.0, h)

-- the folios below an index came home
pub record Giving (before : Memory) (old : List (Option FolioValue)) (at : ℕ) (now : List (Option FolioValue)) (m : Memory) : Type 0 where
  pub within : at ≤ length old
  pub places : now ≡ replicate at None ++ drop at old
  pub home_same : m.home ≡ before.home
  pub came : with_folios m (folios_in (drop at old)) ≡ with_folios before (folios_in old)
  pub out : AreOut m (folios_in (drop at old)) → AreOut before (folios_in old)

pub giving_begins : (before : Memory) (old : List (Option FolioValue)) → Giving before old 0 old before
giving_begins before old = record { within = omega arith; places = refl; home_same = refl; came = refl; out = λ h. h }

module _ (before : Memory) (old : List (Option FolioValue)) (at : ℕ) (now : List (Option FolioValue)) (m : Memory) (g : Giving before old at now m) where
  abbrev front : List (Option FolioValue)
  front = replicate at None

  front_long : length front ≡ at
  front_long = length-replicate {A = Option FolioValue} at None

  pub giving_long : length now ≡ length old
  giving_long = ap length g.places ∙ length-append front (drop at old) ∙ omega (arith, front_long, length-drop at old, g.within)

  module _ (lt : at < length now) where
    inside : at < length old
    inside = omega (arith, giving_long)

    shape : now ≡ front ++ slot_at old at ∷ drop (at + 1) old
    shape = g.places ∙ ap (λ d. front ++ d) (drop_more old at None inside)

    slot_same : slot_at now at ≡ slot_at old at
    slot_same = ap (λ xs. slot_at xs at) shape ∙ get_or_at front (slot_at old at) (drop (at + 1) old) None at front_long

    of_slot : (home : HomeId) (order : Order) (p : ℕ) (s : Option FolioValue) → IsSlot home order p s → home ≡ m.home → MatchOption s (Unit {0}) (λ f. f.home ≡ m.home)
    of_slot home order p None is same = tt
    of_slot home order p (Some f) is same = is.of_home ∙ same

    pub giving_fits : (home : HomeId) (order : Order) (p : ℕ) → AreSlots home order p old → home ≡ before.home → MatchOption (slot_at now at) (Unit {0}) (λ f. f.home ≡ m.home)
    giving_fits home order p are same = subst (λ s. MatchOption s (Unit {0}) (λ f. f.home ≡ m.home)) (sym slot_same) (of_slot home order p (slot_at old at) (are.at at) (same ∙ sym g.home_same))

    pub giving_more : (next : List (Option FolioValue)) (n : Memory) → next ≡ slice_set now at None → n ≡ given_home m (slot_at now at) → AreOut m (slot_list (slot_at now at)) → Giving before old (at + 1) next n
    giving_more next n en em were = record {
      within = omega (arith, inside);
      places = en ∙ ap (λ xs. slice_set xs at None) shape ∙ set_at front (slot_at old at) (drop (at + 1) old) None at front_long
          ∙ sym (append_assoc front (None ∷ []) (drop (at + 1) old))
          ∙ ap (λ f. f ++ drop (at + 1) old) (replicate-append-replicate at 1 None);
      home_same = ap (λ x. x.home) em ∙ same_home m (slot_at now at) ∙ g.home_same;
      came = ap (λ x. with_folios x (folios_in (drop (at + 1) old))) (em ∙ ap (given_home m) slot_same)
          ∙ given_list m (slot_at old at) (folios_in (drop (at + 1) old))
          ∙ ap (with_folios m) (sym (folios_at old at None inside)) ∙ g.came;
      out = λ h. g.out (subst (AreOut m) (sym (folios_at old at None inside))
          (out_list m (slot_at old at) (folios_in (drop (at + 1) old)) (subst (λ s. AreOut m (slot_list s)) slot_same were)
          (subst (λ x. AreOut x (folios_in (drop (at + 1) old))) (em ∙ ap (given_home m) slot_same) h)));
    }

  module _ (done : length now ≤ at) where
    pub given_all : m ≡ with_folios before (folios_in old)
    given_all = sym (no_more m) ∙ ap (with_folios m) (sym (past_folios old at (omega (arith, giving_long)))) ∙ g.came

    pub given_out : AreOut before (folios_in old)
    given_out = g.out (subst (AreOut m) (sym (past_folios old at (omega (arith, giving_long)))) tt)

    pub given_places : (n : ℕ) → n ≡ length now → drop 0 now ≡ replicate (n - 0) None
    given_places n e =
        g.places ∙ ap (λ d. front ++ d) (drop_all at old (omega (arith, giving_long))) ∙ append-nil front ∙ ap (λ k. replicate k None) (omega (arith, e, done, giving_long, g.within))
