-- A set of runs with frames marked by themselves.
use Rattle.std.proofs.Common.{◌≡◌, ℕ, Bool, true, false, eqb, List, [], ◌∷◌, ◌++◌, map, refl, sym, ap, ◌∙◌, append_assoc}
use Rattle.std.specs.Prelude.{◌&&◌, ◌||◌}
use Rattle.std.specs.FinSet as set
use Rattle.std.specs.List.{flat_map}
use Rattle.std.proofs.lemmas.List.{map-append}
use Rattle.std.proofs.lemmas.List.Folds.{list_any-append}
use Rattle.folio_bitmaps.specs.Runs.{Run, Runs}
use Rattle.folio_bitmaps.specs.Written.{with_frames}
use Rattle.folio_bitmaps.proofs.Sets.{run_total, tied}
use Rattle.record_frames.specs.Kept.{devices, bound_frames}
use Rattle.record_frames.specs.Owners.{single, given}
use Rattle.record_frames.specs.State.{bound_among}
use Rattle.record_frames.specs.Writing.{files_in}
use Rattle.kho_laws.specs.Owners.{same_run, is_one_of}
use Rattle.kho_laws.specs.Carrying.{runs_of_file, to_mark}
use Rattle.kho_laws.specs.Marks.{numbered, own_runs, MarkedAfter}

one_more : (runs : Runs) (p : ℕ) (r : Run) → set.contains (set.insert runs (single p)) r ≡ (same_run r (single p) || set.contains runs r)
one_more runs p r =
    set.contains-insert run_total runs (single p) r
    ∙ ap (λ (b : Bool). b || set.contains runs r) (tied r (single p) ∙ turned (eqb r.order 0) (eqb r.first p))
  where
    turned : (a b : Bool) → (a && b) ≡ (b && a)
    turned true true = refl
    turned true false = refl
    turned false true = refl
    turned false false = refl

with_all : (runs : Runs) (ats : List ℕ) (r : Run) → set.contains (with_frames runs (numbered ats)) r ≡ (is_one_of (map single ats) r || set.contains runs r)
unfolding with_frames
with_all runs [] r = refl
with_all runs (p ∷ ats) r =
    with_all (set.insert runs (single p)) ats r
    ∙ ap (λ (b : Bool). is_one_of (map single ats) r || b) (one_more runs p r)
    ∙ turned (is_one_of (map single ats) r) (same_run r (single p)) (set.contains runs r)
  where
    turned : (a b c : Bool) → (a || (b || c)) ≡ ((b || a) || c)
    turned true true c = refl
    turned true false c = refl
    turned false true c = refl
    turned false false c = refl

pub marked_after : MarkedAfter
marked_after c ats runs h r =
    let bounds = given (bound_frames (map (bound_among c.bounds) devices)) in
    let files = flat_map runs_of_file (files_in c.sessions) in
    let parts : to_mark c ats ≡ map single ats ++ own_runs c =
    ap (λ (l : List Run). l ++ files) (map-append single ats bounds) ∙ append_assoc (map single ats) (map single bounds) files in
    with_all runs ats r ∙ ap (λ (b : Bool). is_one_of (map single ats) r || b) (h r)
    ∙ sym (list_any-append (same_run r) (map single ats) (own_runs c)) ∙ ap (λ (l : List Run). is_one_of l r) (sym parts)
