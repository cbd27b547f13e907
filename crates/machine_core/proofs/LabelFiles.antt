-- Pairs of labels and file numbers.
use Rattle.std.proofs.Common.{ℕ, ◌<◌, nat_lt, Bool, true, false, cond, List, [], ◌∷◌, ◌++◌, filter, refl, arith, IsTrue}
use Rattle.std.specs.Prelude.{Some, IfSome}
use Rattle.std.proofs.lemmas.Bool.Decides.{nat_tests}
use Rattle.ho_base.specs.declared.limits.TheConstants.{FILES}
use Rattle.ho_base.specs.declared.numbers.FileNo.{FileNo}
use Rattle.ho_events.specs.ByName.{among}
use Rattle.ho_events.specs.Lists.{same_bytes}
use Rattle.ho_world.proofs.Fronts.{and_both, and_left, and_right}
use Rattle.machine_core.specs.LabelsShown.{AreFiles}

abbrev Pairs : Type 0
Pairs = List (List ℕ × FileNo)

below : (f : FileNo) → IsTrue (nat_lt f.0 FILES) → f.0 < FILES
below f h = grind (arith, nat_tests)

test_below : (f : FileNo) → f.0 < FILES → IsTrue (nat_lt f.0 FILES)
test_below f h = grind (arith, nat_tests)

pub among_within : (label : List ℕ) (pairs : Pairs) → AreFiles pairs → IfSome (among label pairs) (λ f. f.0 < FILES)
unfolding among
among_within label [] h = tt
among_within label (e ∷ pairs) h = go (same_bytes e.0 label) (among_within label pairs (and_right (nat_lt e.1.0 FILES) _ h))
  where
    go : (b : Bool) → IfSome (among label pairs) (λ f. f.0 < FILES) → IfSome (cond b (Some e.1) (among label pairs)) (λ f. f.0 < FILES)
    go true others = below e.1 (and_left (nat_lt e.1.0 FILES) _ h)
    go false others = others

pub files_filter : (p : List ℕ × FileNo → Bool) (pairs : Pairs) → AreFiles pairs → AreFiles (filter p pairs)
files_filter p [] h = h
files_filter p (e ∷ pairs) h = go (p e) (files_filter p pairs (and_right (nat_lt e.1.0 FILES) _ h))
  where
    go : (b : Bool) → AreFiles (filter p pairs) → AreFiles (cond b (e ∷ filter p pairs) (filter p pairs))
    go true others = and_both (nat_lt e.1.0 FILES) _ (and_left (nat_lt e.1.0 FILES) _ h) others
    go false others = others

pub files_push : (pairs : Pairs) (label : List ℕ) (f : FileNo) → AreFiles pairs → f.0 < FILES → AreFiles (pairs ++ (label, f) ∷ [])
files_push [] label f h less = and_both (nat_lt f.0 FILES) _ (test_below f less) refl
files_push (e ∷ pairs) label f h less =
    and_both (nat_lt e.1.0 FILES) _ (and_left (nat_lt e.1.0 FILES) _ h) (files_push pairs label f (and_right (nat_lt e.1.0 FILES) _ h) less)
