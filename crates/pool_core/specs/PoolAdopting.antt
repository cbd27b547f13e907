-- Runs that are owned from the start, with the bytes that they have.
use Rattle.std.specs.Prelude.{◌≡◌, ◌⊎◌, ℕ, ◌+◌, ◌%◌, ◌^◌, ◌<◌, ◌≤◌, Bool, true, false, List, [], ◌∷◌, slice_set, Option, None, Some}
use Rattle.std.specs.List.{All, AllPairs, flat_map}
use Rattle.std.specs.Ordering.{nat_cmp}
use Rattle.std.specs.FinMap as finmap
use Rattle.std.specs.FinSet as finset
use Rattle.ho_base.specs.declared.numbers.Pfn.{Pfn}
use Rattle.ho_base.specs.declared.numbers.Order.{Order}
use Rattle.ho_base.specs.ShapeRule.{Layout}
use Rattle.ho_events.specs.Pool.{PoolState, cold_pool, is_free_run}
use Rattle.phys_frames.specs.Memory.{Memory, FolioValue, RunHome, run_at, without_run}
use Rattle.buddy_pages.specs.FreeFrames as buddy
use Rattle.folio_bitmaps.specs.Runs.{Runs}
use Rattle.pool_core.specs.PoolTags.{TableValue, with_tag}
use Rattle.pool_core.specs.PoolFramesValues.{state_of}

-- two runs share no frame
abbrev pub ApartRuns : Pfn × Order → Pfn × Order → Type 0
ApartRuns r s = (r.0.0 + 2 ^ r.1.0 ≤ s.0.0) ⊎ (s.0.0 + 2 ^ s.1.0 ≤ r.0.0)

-- runs that a pool may begin with: their orders are 0 to 9, each is aligned and of frames that runs may have, and no
-- two share a frame
pub record CanAdopt (shape : Layout) (runs : List (Pfn × Order)) : Type 0 where
  pub orders : All (λ r. r.1.0 ≤ 9) runs
  pub free : All (λ r. is_free_run (cold_pool shape) r.1.0 r.0.0 ≡ true) runs
  pub apart : AllPairs ApartRuns runs

-- owned runs, each with its order, and those too
unfoldable pub owned_at : List (Pfn × Order) → finmap.FinMap nat_cmp ℕ → finmap.FinMap nat_cmp ℕ
owned_at [] owned = owned
owned_at (r ∷ runs) owned = owned_at runs (finmap.insert owned r.0.0 r.1.0)

-- the state before any entry: these runs are owned, and nothing is pinned
abbrev pub adopted_pool : Layout → List (Pfn × Order) → PoolState
adopted_pool shape runs = record { shape = shape; owned = owned_at runs finmap.empty; pinned = finset.empty }

-- the bytes of a page; none of one that is out
abbrev pub bytes_at : Option (List ℕ) → List ℕ
bytes_at None = []
bytes_at (Some bytes) = bytes

-- the folio of a run with the bytes that its frames have at home
abbrev pub adopted_run : Memory → Pfn × Order → FolioValue
adopted_run m r = record { first = r.0; order = r.1; bytes = flat_map bytes_at (run_at m r.0 r.1); home = m.home }

-- the folios of runs that are taken one after the other;  what is left of the frames
unfoldable pub each_adopted : Memory → List (Pfn × Order) → List FolioValue
each_adopted m [] = []
each_adopted m (r ∷ runs) = adopted_run m r ∷ each_adopted (without_run m r.0 r.1) runs

unfoldable pub without_all : List (Pfn × Order) → Memory → Memory
without_all [] m = m
without_all (r ∷ runs) m = without_all runs (without_run m r.0 r.1)

-- a run that can be taken from frames;  each of these can when its turn comes
pub record CanGoOut (m : Memory) (p : Pfn) (o : Order) : Type 0 where
  pub small : o.0 ≤ 9
  pub aligned : p.0 % 2 ^ o.0 ≡ 0
  pub home : RunHome m p o

unfoldable pub EachCanGoOut : List (Pfn × Order) → Memory → Type 0
EachCanGoOut [] m = Unit {0}
EachCanGoOut (r ∷ runs) m = CanGoOut m r.0 r.1 × EachCanGoOut runs (without_run m r.0 r.1)

-- a set of free frames without those of these runs;  each of them is free when its turn comes
unfoldable pub without_adopted : List (Pfn × Order) → List Bool → List Bool
without_adopted [] free = free
without_adopted (r ∷ runs) free = without_adopted runs (buddy.with_frames free r.0.0 (2 ^ r.1.0) false)

unfoldable pub EachReserves : List (Pfn × Order) → List Bool → Type 0
EachReserves [] free = Unit {0}
EachReserves (r ∷ runs) free =
    ((r.1.0 ≤ 9) × (buddy.is_free_run free r.1.0 r.0.0 ≡ true)) × EachReserves runs (buddy.with_frames free r.0.0 (2 ^ r.1.0) false)

-- the numbers of frames with those of these runs;  each run begins at one of n frames, and its number is small
unfoldable pub adopted_tags : List (Pfn × Order) → List ℕ → List ℕ
adopted_tags [] tags = tags
adopted_tags (r ∷ runs) tags = adopted_tags runs (slice_set tags r.0.0 (r.1.0 + 1))

unfoldable pub EachBegins : ℕ → List (Pfn × Order) → Type 0
EachBegins n [] = Unit {0}
EachBegins n (r ∷ runs) = ((r.0.0 < n) × (r.1.0 ≤ 9)) × EachBegins n runs

-- each of these runs is wholly free when its turn comes to be owned
unfoldable pub EachIsFree : Runs → List (Pfn × Order) → TableValue → Type 0
EachIsFree marks [] t = Unit {0}
EachIsFree marks (r ∷ runs) t =
    ((r.1.0 ≤ 9) × (is_free_run (state_of t marks) r.1.0 r.0.0 ≡ true)) × EachIsFree marks runs (with_tag t r.0.0 (r.1.0 + 1))
