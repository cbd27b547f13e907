-- Runs that are pinned, or let go, one after the other.
use Rattle.std.proofs.Common.{◌≡◌, ◌≢◌, ℕ, ◌+◌, ◌^◌, ◌<◌, ◌≤◌, ◌==◌, ◌&&◌, not, Bool, true, false, List, [], ◌∷◌, get_or, refl, ap, sym, ◌∙◌, arith, subst}
use Rattle.std.specs.List.{list_any, list_all}
use Rattle.std.specs.FinSet as finset
use Rattle.std.proofs.lemmas.Bool.{and_parts, or_parts, not-true, eqb-false}
use Rattle.ho_base.specs.declared.numbers.Pfn.{Pfn}
use Rattle.ho_events.specs.Lists.{are_distinct, firsts}
use Rattle.ho_events.specs.Pool.{is_owned_run, is_unpinned_run, is_pinned_run, can_give, can_unmark, pin_runs, unpin_runs}
use Rattle.folio_bitmaps.specs.Runs.{Run, Runs, Marks, IsRun}
use Rattle.pool_core.specs.PoolTags.{TableValue}
use Rattle.pool_core.specs.PoolFramesValues.{PoolFramesValue, state_of, pinned_of, KeepsPoolFrames, EachIsRun, EachMarked, mark_runs, unmark_runs, with_pinned, with_unpinned}
use Rattle.pool_core.proofs.PoolHeld.{small_order}
use Rattle.pool_core.proofs.PoolSteps.{given_within}
use Rattle.pool_core.proofs.PoolMarks.{run_by, fewer_other, run_pinned, pinned_more, pinned_fewer, keeps_marked, keeps_unmarked}
use Rattle.pool_core.proofs.PoolTaken.{pool_of}
use Rattle.pool_core.proofs.PoolPasses.{run_tag}

-- the first run of a list, and the others
module _ (n o : ℕ) (r : Pfn) (rest left : List Pfn) (so : left ≡ r ∷ rest) (h : EachIsRun n o left) where
  pub run_first : IsRun n (run_by o r.0)
  unfolding EachIsRun
  run_first = (subst (EachIsRun n o) so h).0

  pub run_rest : EachIsRun n o rest
  unfolding EachIsRun
  run_rest = (subst (EachIsRun n o) so h).1

module _ (marks : Runs) (o : ℕ) (r : Pfn) (rest left : List Pfn) (so : left ≡ r ∷ rest) (h : EachMarked o left marks) where
  pub marked_first : finset.contains marks (run_by o r.0) ≡ true
  unfolding EachMarked
  marked_first = (subst (λ l. EachMarked o l marks) so h).0

  pub marked_rest : EachMarked o rest (finset.remove marks (run_by o r.0))
  unfolding EachMarked
  marked_rest = (subst (λ l. EachMarked o l marks) so h).1

-- each run is owned at an order, by its number
unfoldable EachTag : TableValue → ℕ → List Pfn → Type 0
EachTag t o [] = Unit {0}
EachTag t o (r ∷ runs) = (get_or t.tags r.0 0 ≡ o + 1) × EachTag t o runs

each_tag : (t : TableValue) (marks : Runs) (o : ℕ) (test : ℕ → Bool) (runs : List Pfn) → list_all (λ p. is_owned_run (state_of t marks) o p && test p) (firsts runs) ≡ true → EachTag t o runs
unfolding EachTag
each_tag t marks o test [] h = tt
each_tag t marks o test (r ∷ runs) h =
    let both : ((is_owned_run (state_of t marks) o r.0 && test r.0) ≡ true) × (list_all (λ p. is_owned_run (state_of t marks) o p && test p) (firsts runs) ≡ true) = and_parts _ _ h in
    (run_tag t marks o r.0 (and_parts _ _ both.0).0, each_tag t marks o test runs both.1)

each_run : (t : TableValue) (free : List Bool) (m : Marks) (o : ℕ) (runs : List Pfn) → KeepsPoolFrames t free m → EachTag t o runs → EachIsRun m.frames o runs
unfolding EachTag EachIsRun
each_run t free m o [] k h = tt
each_run t free m o (r ∷ runs) k h =
    let small : o < 10 = small_order t.tags r.0 o h.0 t.shape k.runs in
    let within : r.0 + 2 ^ o ≤ t.shape.frames = given_within t m.runs o r.0 k.runs h.0 in
    ((omega (arith, small), k.runs.aligned r.0 o h.0, omega (arith, within, k.frames)), each_run t free m o runs k h.1)

-- pinned runs
marked_keeps : (t : TableValue) (free : List Bool) (m : Marks) (o : ℕ) (runs : List Pfn) → KeepsPoolFrames t free m → EachTag t o runs → KeepsPoolFrames t free (record m { runs = mark_runs o (firsts runs) m.runs })
unfolding EachTag
marked_keeps t free m o [] k h = k
marked_keeps t free m o (r ∷ runs) k h = marked_keeps t free (record m { runs = finset.insert m.runs (run_by o r.0) }) o runs (keeps_marked t free m o r.0 k h.0) h.1

marked_pins : (t : TableValue) (free : List Bool) (m : Marks) (o : ℕ) (runs : List Pfn) → KeepsPoolFrames t free m → EachTag t o runs → pinned_of t.shape.frames (mark_runs o (firsts runs) m.runs) ≡ pin_runs o (firsts runs) (pinned_of t.shape.frames m.runs)
unfolding EachTag
marked_pins t free m o [] k h = refl
marked_pins t free m o (r ∷ runs) k h =
    marked_pins t free (record m { runs = finset.insert m.runs (run_by o r.0) }) o runs (keeps_marked t free m o r.0 k h.0) h.1
    ∙ ap (pin_runs o (firsts runs)) (pinned_more t.shape.frames m.runs o r.0 (k.runs.aligned r.0 o h.0) (small_order t.tags r.0 o h.0 t.shape k.runs) (given_within t m.runs o r.0 k.runs h.0))

module _ (t : TableValue) (free : List Bool) (m : Marks) (v : PoolFramesValue) (o : ℕ) (runs : List Pfn) (k : KeepsPoolFrames t free m) (e : pool_of t m.runs ≡ v) (can : can_give v.state o (firsts runs) ≡ true) where
  tags : EachTag t o runs
  tags = each_tag t m.runs o (is_unpinned_run (state_of t m.runs) o) runs (and_parts _ _ (subst (λ (x : PoolFramesValue). can_give x.state o (firsts runs) ≡ true) (sym e) can)).1

  pub mark_runs_are : EachIsRun m.frames o runs
  mark_runs_are = each_run t free m o runs k tags

  pub mark_keeps : (n : Marks) → n ≡ record m { runs = mark_runs o (firsts runs) m.runs } → KeepsPoolFrames t free n
  mark_keeps n is = subst (λ (x : Marks). KeepsPoolFrames t free x) (sym is) (marked_keeps t free m o runs k tags)

  pub mark_value : (n : Marks) → n ≡ record m { runs = mark_runs o (firsts runs) m.runs } → pool_of t n.runs ≡ with_pinned o runs v
  mark_value n is =
      ap (λ (x : Marks). pool_of t x.runs) is
      ∙ (λ i. record { state = record { shape = t.shape; owned = (state_of t m.runs).owned; pinned = marked_pins t free m o runs k tags i }; home = t.home; marks = mark_runs o (firsts runs) m.runs })
      ∙ ap (with_pinned o runs) e

-- runs that are let go
unfoldable AllMarked : ℕ → List Pfn → Runs → Type 0
AllMarked o [] marks = Unit {0}
AllMarked o (r ∷ runs) marks = (finset.contains marks (run_by o r.0) ≡ true) × AllMarked o runs marks

all_marked_of : (t : TableValue) (free : List Bool) (m : Marks) (o : ℕ) (runs : List Pfn) → KeepsPoolFrames t free m → EachTag t o runs → list_all (λ p. is_owned_run (state_of t m.runs) o p && is_pinned_run (state_of t m.runs) o p) (firsts runs) ≡ true → AllMarked o runs m.runs
unfolding AllMarked EachTag
all_marked_of t free m o [] k numbers h = tt
all_marked_of t free m o (r ∷ runs) k numbers h =
    let both : ((is_owned_run (state_of t m.runs) o r.0 && is_pinned_run (state_of t m.runs) o r.0) ≡ true) × (list_all (λ p. is_owned_run (state_of t m.runs) o p && is_pinned_run (state_of t m.runs) o p) (firsts runs) ≡ true) = and_parts _ _ h in
    (sym (run_pinned t.shape t.tags k.runs m.runs k.marks o r.0 numbers.0) ∙ (and_parts _ _ both.0).1, all_marked_of t free m o runs k numbers.1 both.1)

still_marked : (o p : ℕ) (runs : List Pfn) (marks : Runs) → list_any (λ y. y == p) (firsts runs) ≡ false → AllMarked o runs marks → AllMarked o runs (finset.remove marks (run_by o p))
unfolding AllMarked
still_marked o p [] marks none h = tt
still_marked o p (r ∷ runs) marks none h =
    let parts : ((r.0 == p) ≡ false) × (list_any (λ y. y == p) (firsts runs) ≡ false) = or_parts _ _ none in
    let ne : r.0 ≢ p = eqb-false r.0 p parts.0 in
    (fewer_other marks o p (run_by o r.0) (λ e. ne (ap (λ (x : Run). x.first) e)) h.0, still_marked o p runs marks parts.1 h.1)

each_marked : (o : ℕ) (runs : List Pfn) (marks : Runs) → are_distinct (firsts runs) ≡ true → AllMarked o runs marks → EachMarked o runs marks
unfolding AllMarked EachMarked
each_marked o [] marks d h = tt
each_marked o (r ∷ runs) marks d h =
    let both : (not (list_any (λ y. y == r.0) (firsts runs)) ≡ true) × (are_distinct (firsts runs) ≡ true) = and_parts _ _ d in
    (h.0, each_marked o runs (finset.remove marks (run_by o r.0)) both.1 (still_marked o r.0 runs marks (not-true _ both.0) h.1))

unmarked_keeps : (t : TableValue) (free : List Bool) (m : Marks) (o : ℕ) (runs : List Pfn) → KeepsPoolFrames t free m → KeepsPoolFrames t free (record m { runs = unmark_runs o (firsts runs) m.runs })
unmarked_keeps t free m o [] k = k
unmarked_keeps t free m o (r ∷ runs) k = unmarked_keeps t free (record m { runs = finset.remove m.runs (run_by o r.0) }) o runs (keeps_unmarked t free m o r.0 k)

unmarked_unpins : (t : TableValue) (free : List Bool) (m : Marks) (o : ℕ) (runs : List Pfn) → KeepsPoolFrames t free m → EachTag t o runs → pinned_of t.shape.frames (unmark_runs o (firsts runs) m.runs) ≡ unpin_runs o (firsts runs) (pinned_of t.shape.frames m.runs)
unfolding EachTag
unmarked_unpins t free m o [] k h = refl
unmarked_unpins t free m o (r ∷ runs) k h =
    unmarked_unpins t free (record m { runs = finset.remove m.runs (run_by o r.0) }) o runs (keeps_unmarked t free m o r.0 k) h.1
    ∙ ap (unpin_runs o (firsts runs)) (pinned_fewer t.shape t.tags k.runs m.runs k.marks o r.0 h.0)

module _ (t : TableValue) (free : List Bool) (m : Marks) (v : PoolFramesValue) (o : ℕ) (runs : List Pfn) (k : KeepsPoolFrames t free m) (e : pool_of t m.runs ≡ v) (can : can_unmark v.state o (firsts runs) ≡ true) where
  both_parts : (are_distinct (firsts runs) ≡ true) × (list_all (λ p. is_owned_run (state_of t m.runs) o p && is_pinned_run (state_of t m.runs) o p) (firsts runs) ≡ true)
  both_parts = and_parts _ _ (subst (λ (x : PoolFramesValue). can_unmark x.state o (firsts runs) ≡ true) (sym e) can)

  pinned_tags : EachTag t o runs
  pinned_tags = each_tag t m.runs o (is_pinned_run (state_of t m.runs) o) runs both_parts.1

  pub unmark_runs_are : EachMarked o runs m.runs
  unmark_runs_are = each_marked o runs m.runs both_parts.0 (all_marked_of t free m o runs k pinned_tags both_parts.1)

  pub unmark_keeps : (n : Marks) → n ≡ record m { runs = unmark_runs o (firsts runs) m.runs } → KeepsPoolFrames t free n
  unmark_keeps n is = subst (λ (x : Marks). KeepsPoolFrames t free x) (sym is) (unmarked_keeps t free m o runs k)

  pub unmark_value : (n : Marks) → n ≡ record m { runs = unmark_runs o (firsts runs) m.runs } → pool_of t n.runs ≡ with_unpinned o runs v
  unmark_value n is =
      ap (λ (x : Marks). pool_of t x.runs) is
      ∙ (λ i. record { state = record { shape = t.shape; owned = (state_of t m.runs).owned; pinned = unmarked_unpins t free m o runs k pinned_tags i }; home = t.home; marks = unmark_runs o (firsts runs) m.runs })
      ∙ ap (with_unpinned o runs) e
