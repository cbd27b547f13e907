-- What contracts see of the registry.
use Rattle.std.specs.Prelude.{ℕ, List, IsTrue, MatchOption}
use Rattle.std.specs.Cmp.Lexicographic.{slice_cmp}
use Rattle.std.specs.FinSet as finset
use Rattle.std.specs.Ordering.{nat_cmp}
use Rattle.ho_events.specs.declared.entry.Entry.{Entry}
use Rattle.ho_events.specs.Registry.{RegistryState}
use Rattle.ho_events.specs.History.{registry_from}

-- the registry: its state before the first entry of its history, that history, the names that are ready (their slots
-- are changed without memory), and how many more entries there is room for
pub record RegistryValue : Type 0 where
  pub start : RegistryState
  pub history : List Entry
  pub ready : finset.FinSet (slice_cmp nat_cmp)
  pub room : ℕ

-- the registry is in a state of which a fact holds: its history is a run of its steps from its start to that state
abbrev pub RegistryIs : RegistryValue → (RegistryState → Type 0) → Type 0
RegistryIs r P = MatchOption (registry_from r.start r.history) ⊥ P

-- a name is ready
abbrev pub IsReady : List ℕ → RegistryValue → Type 0
IsReady name r = IsTrue (finset.contains r.ready name)
