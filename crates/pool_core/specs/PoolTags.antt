-- How a table with a number for each frame shows the owned runs: 0, or 1 + o where an owned run of order o begins.
use Rattle.std.specs.Prelude.{◌≡◌, ℕ, zero, suc, ◌+◌, ◌%◌, ◌^◌, ◌<◌, ◌≤◌, Bool, true, false, not, ◌&&◌, ◌==◌, nat_lt, List, [], ◌∷◌, length, slice_index, slice_index_or, slice_set}
use Rattle.std.specs.Prelude.{Option, None, Some}
use Rattle.std.specs.Option.{IsSome}
use Rattle.std.specs.List.{list_any}
use Rattle.std.specs.Ordering.{nat_cmp}
use Rattle.std.specs.FinMap as finmap
use Rattle.ho_base.specs.ShapeRule.{Layout, in_scratch}
use Rattle.ho_base.specs.declared.numbers.Pfn.{Pfn}
use Rattle.ho_events.specs.Lists.{upto}
use Rattle.ho_events.specs.Pool.{run_start}
use Rattle.phys_frames.specs.Homes.{HomeId}
use Rattle.phys_frames.specs.Memory.{Memory}

-- the order of the owned run that begins at a frame with this number
abbrev pub order_at : ℕ → Option ℕ
order_at zero = None
order_at (suc o) = Some o

-- the owned runs with the one that begins at frame p, where its number says that one does
abbrev pub with_run : ℕ → ℕ → finmap.FinMap nat_cmp ℕ → finmap.FinMap nat_cmp ℕ
with_run zero p owned = owned
with_run (suc o) p owned = finmap.insert owned p o

-- the owned runs that begin below frame n;  all of them
unfoldable pub owned_below : List ℕ → ℕ → finmap.FinMap nat_cmp ℕ
owned_below tags zero = finmap.empty
owned_below tags (suc n) = with_run (slice_index tags n) n (owned_below tags n)

unfoldable pub owned_of : List ℕ → finmap.FinMap nat_cmp ℕ
owned_of tags = owned_below tags (length tags)

-- an owned run of some order below n holds the frame;  of some order
unfoldable pub is_held_below : List ℕ → ℕ → ℕ → Bool
is_held_below tags p n = list_any (λ o. slice_index tags (run_start o p) == o + 1) (upto n)

unfoldable pub is_held : List ℕ → ℕ → Bool
is_held tags p = list_any (λ o. slice_index tags (run_start o p) == o + 1) (upto 10)

-- a frame that runs may have: it isn't frame 0, nor past the last one, nor in a scratch area
unfoldable pub is_usable : Layout → ℕ → Bool
is_usable shape p = nat_lt 0 p && nat_lt p shape.frames && not (in_scratch shape.scratch p)

-- the owned runs are of the orders 0 to 9, aligned, and of frames that runs may have, and no two share a frame
pub record AreRuns (shape : Layout) (tags : List ℕ) : Type 0 where
  pub len : length tags ≡ shape.frames
  pub small : (p : ℕ) → slice_index tags p ≤ 10
  pub aligned : (p o : ℕ) → slice_index tags p ≡ o + 1 → p % 2 ^ o ≡ 0
  pub apart : (p o q : ℕ) → slice_index tags p ≡ o + 1 → p < q → q < p + 2 ^ o → slice_index tags q ≡ 0
  pub usable : (p o q : ℕ) → slice_index tags p ≡ o + 1 → p ≤ q → q < p + 2 ^ o → is_usable shape q ≡ true

-- a machine's frames and its table: its shape, its home, and the number of each frame
pub record TableValue : Type 0 where
  pub shape : Layout
  pub home : HomeId
  pub tags : List ℕ

-- the same with another number at one frame;  at each of these frames, one after the other
abbrev pub with_tag : TableValue → ℕ → ℕ → TableValue
with_tag t p n = record t { tags = slice_set t.tags p n }

unfoldable pub with_tags : ℕ → List Pfn → TableValue → TableValue
with_tags n [] t = t
with_tags n (r ∷ runs) t = with_tags n runs (with_tag t r.0 n)

-- the frames and the numbers are as many as the shape says, and a frame that no owned run holds is home
pub record KeepsHome (shape : Layout) (frames : Memory) (tags : List ℕ) : Type 0 where
  pub pages : length frames.pages ≡ shape.frames
  pub places : frames.home.frames ≡ shape.frames
  pub len : length tags ≡ shape.frames
  pub home : (p : ℕ) → p < shape.frames → is_held tags p ≡ false → IsSome (slice_index_or frames.pages p None)

-- a run that can be lent: it is aligned and within the frames, none begins there, and no owned run holds a frame of it
pub record CanLend (t : TableValue) (o p : ℕ) : Type 0 where
  pub aligned : p % 2 ^ o ≡ 0
  pub within : p + 2 ^ o ≤ t.shape.frames
  pub blank : slice_index t.tags p ≡ 0
  pub each : (q : ℕ) → p ≤ q → q < p + 2 ^ o → is_held t.tags q ≡ false

-- each of these runs can be lent when its turn comes
unfoldable pub EachCanLend : TableValue → ℕ → List Pfn → Type 0
EachCanLend t o [] = Unit {0}
EachCanLend t o (r ∷ runs) = CanLend t o r.0 × EachCanLend (with_tag t r.0 (o + 1)) o runs
