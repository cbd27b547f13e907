-- Histories: runs of an object's steps, and the parts of a list of entries that one object or agent has.
use Rattle.std.specs.Prelude.{◌≡◌, ℕ, ◌+◌, Bool, false, ◌==◌, max, List, [], ◌∷◌, ◌++◌, filter}
use Rattle.std.specs.Prelude.{Option, None, Some}
use Rattle.ho_events.specs.Pool.{PoolState, pool_step}
use Rattle.ho_events.specs.Registry.{RegistryState, registry_step}
use Rattle.ho_events.specs.Session.{SessionState, session_step}
use Rattle.ho_events.specs.File.{FileState, file_step}
use Rattle.ho_events.specs.declared.entry.Entry.{Entry}
use Rattle.ho_events.specs.declared.entry.Place.{Place}
use Rattle.ho_events.specs.declared.entry.Place.TheVariants.{Object, Own}
use Rattle.ho_events.specs.declared.event.Event.{Event}
use Rattle.ho_events.specs.declared.reply.Reply.{Reply}

-- one more step, where the run came so far
abbrev pub then_entry : {S : Type 0} → (S → Event → Reply → Option S) → Option S → Entry → Option S
then_entry step None e = None
then_entry step (Some s) e = step s e.event e.reply

-- the state to which a run of entries leads, and none where an entry can't come where it stands
unfoldable pub run_from : {S : Type 0} → (S → Event → Reply → Option S) → Option S → List Entry → Option S
run_from step s [] = s
run_from step s (e ∷ es) = run_from step (then_entry step s e) es

-- the states of the objects after their histories, from the states in which their kernel began
abbrev pub pool_from : PoolState → List Entry → Option PoolState
pool_from start es = run_from pool_step (Some start) es

abbrev pub registry_from : RegistryState → List Entry → Option RegistryState
registry_from start es = run_from registry_step (Some start) es

abbrev pub session_from : SessionState → List Entry → Option SessionState
session_from start es = run_from session_step (Some start) es

abbrev pub file_from : Option FileState → List Entry → Option (Option FileState)
file_from start es = run_from file_step (Some start) es

-- whether an entry is on an object
abbrev pub is_on : ℕ → Place → Bool
is_on o (Object n) = n.0 == o
is_on o Own = false

-- the entries on an object;  those of an agent
unfoldable pub on : ℕ → List Entry → List Entry
on o es = filter (λ e. is_on o e.object) es

unfoldable pub by : ℕ → List Entry → List Entry
by a es = filter (λ e. e.agent.0 == a) es

-- the entries at a place: in an agent's own log there is none to speak of
abbrev pub at_place : Place → List Entry → List Entry
at_place (Object n) es = on n.0 es
at_place Own es = []

-- the stamp of the last entry, and 0 where there is none
unfoldable pub last_stamp_from : ℕ → List Entry → ℕ
last_stamp_from t [] = t
last_stamp_from t (e ∷ es) = last_stamp_from e.stamp es

abbrev pub last_stamp : List Entry → ℕ
last_stamp es = last_stamp_from 0 es

-- the greatest stamp, and 0 where there is no entry
unfoldable pub greatest_stamp : List Entry → ℕ
greatest_stamp [] = 0
greatest_stamp (e ∷ es) = max e.stamp (greatest_stamp es)
