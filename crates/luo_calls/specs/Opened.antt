-- An object in hand, for a turn with an entry.
use Rattle.std.specs.Prelude.{◌≡◌, ℕ, ◌<◌, ◌≤◌, ◌^◌, Some, None}
use Rattle.ho_events.specs.declared.slip.At.{At}
use Rattle.ho_events.specs.History.{last_stamp}
use Rattle.machine_core.specs.declared.object.Object.{Object}
use Rattle.machine_core.specs.Objects.{start_of, history_of, known_of, number_of, room_of, spot_of, spot_at, IsRunOf, IsOfMachine}
use Rattle.machine_core.specs.Agents.{Agent, took, with_at}

-- the object is that of this number in the agent's kernel, and its history is a run
pub record IsThere (a : Agent) (n : ℕ) (o : Object) : Type 0 where
  pub number : number_of o ≡ n
  pub kind : spot_of o ≡ spot_at n
  pub machine : IsOfMachine a.anchor.shape a.anchor.home o
  pub start : a.starts n ≡ Some (start_of o)
  pub run : IsRunOf o

-- an object was taken, with room for an entry in its history and in the agent's log
pub record Opens (at : At) (n : ℕ) (a a' : Agent) (state : Object) : Type 0 where
  pub found : IsThere a n state
  pub early : at.last < 2 ^ 63
  pub last : last_stamp (history_of state) < 2 ^ 63
  pub room : 1 ≤ room_of state
  pub log_room : 1 ≤ a'.room
  pub same : a' ≡ record (took n (known_of state) a) { room = a'.room; back = a'.back }

-- the agent as it is but for the object n, which it has in hand
abbrev pub without : ℕ → Agent → Agent
without n a = record a { hands = with_at n None a.hands }

-- an object that is in hand as it was taken: it is of this kernel, its last stamp isn't too great, and it is what the
-- agent has in hand at its number
pub record Holds (n : ℕ) (a : Agent) (o : Object) : Type 0 where
  pub found : IsThere a n o
  pub last : last_stamp (history_of o) < 2 ^ 63
  pub held : a.hands n ≡ Some (known_of o)
