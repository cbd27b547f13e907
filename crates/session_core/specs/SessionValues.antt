-- What contracts see of a session slot.
use Rattle.std.specs.Prelude.{ℕ, List, MatchOption}
use Rattle.ho_events.specs.declared.entry.Entry.{Entry}
use Rattle.ho_events.specs.Session.{SessionState}
use Rattle.ho_events.specs.History.{session_from}

-- a session slot: its object's number, its state before the first entry of its history, that history, how many more
-- entries there is room for, and how many more tokens fit without memory
pub record SessionValue : Type 0 where
  pub number : ℕ
  pub start : SessionState
  pub history : List Entry
  pub room : ℕ
  pub spare : ℕ

-- the slot is in a state of which a fact holds: its history is a run of its steps from its start to that state
abbrev pub SessionIs : SessionValue → (SessionState → Type 0) → Type 0
SessionIs s P = MatchOption (session_from s.start s.history) ⊥ P
