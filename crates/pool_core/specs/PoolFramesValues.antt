-- What contracts see of the frames of a pool, and how the parts show it.
use Rattle.std.specs.Prelude.{◌≡◌, ℕ, ◌+◌, Bool, true, not, ◌&&◌, ◌==◌, nat_lt, nat_le, List, [], ◌∷◌, length, slice_index}
use Rattle.std.specs.List.{list_any, list_all}
use Rattle.std.specs.Ordering.{nat_cmp}
use Rattle.std.specs.FinSet as finset
use Rattle.ho_base.specs.declared.numbers.Pfn.{Pfn}
use Rattle.ho_base.specs.ShapeRule.{Layout, in_scratch}
use Rattle.ho_events.specs.Lists.{upto, firsts, are_distinct}
use Rattle.ho_events.specs.Pool.{PoolState, is_free, own, disown, pin_runs, unpin_runs, run_start, is_owned_run, is_unpinned_run, is_pinned_run}
use Rattle.phys_frames.specs.Homes.{HomeId}
use Rattle.folio_bitmaps.specs.Runs.{Run, Runs, Marks, IsRun}
use Rattle.buddy_pages.specs.FreeFrames as buddy
use Rattle.pool_core.specs.PoolTags.{TableValue, AreRuns, owned_of, is_usable}

-- the frames of a pool: its state, the home of its frames, and the runs that are marked
pub record PoolFramesValue : Type 0 where
  pub state : PoolState
  pub home : HomeId
  pub marks : Runs

-- the run of an order that holds frame p
abbrev pub run_over : ℕ → ℕ → Run
run_over o p = record { first = run_start o p; order = o }

-- a marked run of some order holds frame p
unfoldable pub is_marked : Runs → ℕ → Bool
is_marked marks p = list_any (λ o. finset.contains marks (run_over o p)) (upto 10)

-- a marked run of some order below n holds frame p
unfoldable pub is_marked_below : Runs → ℕ → ℕ → Bool
is_marked_below marks p n = list_any (λ o. finset.contains marks (run_over o p)) (upto n)

-- the frames below n of marked runs
unfoldable pub pinned_of : ℕ → Runs → finset.FinSet nat_cmp
pinned_of n marks = finset.retain (finset.from_list (upto n)) (is_marked marks)

-- the state that a table and marks show
abbrev pub state_of : TableValue → Runs → PoolState
state_of t marks = record { shape = t.shape; owned = owned_of t.tags; pinned = pinned_of t.shape.frames marks }

-- the free frames of the buddy allocator are those of the state, and a marked run is owned at its order
pub record KeepsPoolFrames (t : TableValue) (set : List Bool) (marked : Marks) : Type 0 where
  pub runs : AreRuns t.shape t.tags
  pub set_len : length set ≡ t.shape.frames
  pub free : (p : ℕ) → buddy.is_free set p ≡ is_free (state_of t marked.runs) p
  pub frames : marked.frames ≡ t.shape.frames
  pub marks : (r : Run) → finset.contains marked.runs r ≡ true → slice_index t.tags r.first ≡ r.order + 1

-- a set of runs with more runs of an order;  with fewer
abbrev pub mark_runs : ℕ → List ℕ → Runs → Runs
mark_runs o [] marks = marks
mark_runs o (p ∷ ps) marks = mark_runs o ps (finset.insert marks (record { first = p; order = o }))

abbrev pub unmark_runs : ℕ → List ℕ → Runs → Runs
unmark_runs o [] marks = marks
unmark_runs o (p ∷ ps) marks = unmark_runs o ps (finset.remove marks (record { first = p; order = o }))

-- the frames of a pool with more owned runs of an order;  with fewer owned runs;  with more runs pinned;  with fewer
abbrev pub with_owned : ℕ → List Pfn → PoolFramesValue → PoolFramesValue
with_owned o runs v = record v { state = record v.state { owned = own o (firsts runs) v.state.owned } }

abbrev pub with_disowned : List Pfn → PoolFramesValue → PoolFramesValue
with_disowned runs v = record v { state = record v.state { owned = disown (firsts runs) v.state.owned } }

abbrev pub with_pinned : ℕ → List Pfn → PoolFramesValue → PoolFramesValue
with_pinned o runs v = record v { state = record v.state { pinned = pin_runs o (firsts runs) v.state.pinned }; marks = mark_runs o (firsts runs) v.marks }

abbrev pub with_unpinned : ℕ → List Pfn → PoolFramesValue → PoolFramesValue
with_unpinned o runs v = record v { state = record v.state { pinned = unpin_runs o (firsts runs) v.state.pinned }; marks = unmark_runs o (firsts runs) v.marks }

-- a set of frames is those that runs may have;  so far as the scratch frames below p are taken out
pub record AreUsable (shape : Layout) (set : List Bool) : Type 0 where
  pub len : length set ≡ shape.frames
  pub each : (q : ℕ) → buddy.is_free set q ≡ is_usable shape q

pub record AreUsableBelow (shape : Layout) (p : ℕ) (set : List Bool) : Type 0 where
  pub len : length set ≡ shape.frames
  pub each : (q : ℕ) → buddy.is_free set q ≡ (nat_lt 0 q && nat_lt q shape.frames && not (nat_lt q p && in_scratch shape.scratch q))

-- each of these is a run of an order of n frames;  each is marked when its turn comes to lose its mark
unfoldable pub EachIsRun : ℕ → ℕ → List Pfn → Type 0
EachIsRun n o [] = Unit {0}
EachIsRun n o (p ∷ runs) = IsRun n (record { first = p.0; order = o }) × EachIsRun n o runs

unfoldable pub EachMarked : ℕ → List Pfn → Runs → Type 0
EachMarked o [] marks = Unit {0}
EachMarked o (p ∷ runs) marks =
    (finset.contains marks (record { first = p.0; order = o }) ≡ true) × EachMarked o runs (finset.remove marks (record { first = p.0; order = o }))

-- one of so many frames from one on is pinned
unfoldable pub any_pinned : finset.FinSet nat_cmp → ℕ → ℕ → Bool
any_pinned pinned first count = list_any (λ i. finset.contains pinned (first + i)) (upto count)

-- a run is owned at an order and not pinned;  and pinned;  each of some runs is so
unfoldable pub is_loose : PoolState → ℕ → ℕ → Bool
is_loose s o p = is_owned_run s o p && is_unpinned_run s o p

unfoldable pub is_kept : PoolState → ℕ → ℕ → Bool
is_kept s o p = is_owned_run s o p && is_pinned_run s o p

unfoldable pub each_is_loose : PoolState → ℕ → List Pfn → Bool
each_is_loose s o runs = list_all (λ r. is_loose s o r.0) runs

unfoldable pub each_is_kept : PoolState → ℕ → List Pfn → Bool
each_is_kept s o runs = list_all (λ r. is_kept s o r.0) runs

-- no run stands twice;  a run begins at this frame;  each run begins at a higher frame than the one before
unfoldable pub are_different : List Pfn → Bool
are_different runs = are_distinct (firsts runs)

unfoldable pub has_run : ℕ → List Pfn → Bool
has_run p runs = list_any (λ r. r.0 == p) runs

unfoldable pub are_rising_from : ℕ → List Pfn → Bool
are_rising_from p [] = true
are_rising_from p (r ∷ runs) = nat_le p r.0 && are_rising_from (r.0 + 1) runs
