-- What contracts see of the pool.
use Rattle.std.specs.Prelude.{◌≡◌, ℕ, List, MatchOption, Some}
use Rattle.ho_base.specs.ShapeRule.{Layout}
use Rattle.phys_frames.specs.Homes.{HomeId}
use Rattle.ho_events.specs.declared.entry.Entry.{Entry}
use Rattle.ho_events.specs.Pool.{PoolState}
use Rattle.ho_events.specs.History.{pool_from}

-- the pool: its machine's shape, the home of its frames, its state before the first entry of its history, that
-- history, and how many more entries there is room for
pub record PoolValue : Type 0 where
  pub shape : Layout
  pub home : HomeId
  pub start : PoolState
  pub history : List Entry
  pub room : ℕ

-- the pool is in a state of which a fact holds: its history is a run of its steps from its start to that state
abbrev pub PoolIs : PoolValue → (PoolState → Type 0) → Type 0
PoolIs p P = MatchOption (pool_from p.start p.history) ⊥ P

-- the history is a run of the pool's steps from its start to this state
pub record KeepsPool (s start : PoolState) (history : List Entry) : Type 0 where
  pub run : pool_from start history ≡ Some s
