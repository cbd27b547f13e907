-- The world: a state for each object number, and what entries make of it.
use Rattle.std.specs.Prelude.{◌≡◌, ℕ, ◌+◌, ◌-◌, ◌==◌, nat_lt, if◌then◌else◌, List, [], ◌∷◌, option_map, unwrap_or, Option, None, Some}
use Rattle.ho_base.specs.ShapeRule.{Layout}
use Rattle.ho_base.specs.declared.limits.TheConstants.{FILES}
use Rattle.ho_base.specs.Objects.{pool_no, registry_no, handler_no, session_no, file_no}
use Rattle.ho_events.specs.Pool.{PoolState, pool_step, cold_pool}
use Rattle.ho_events.specs.Registry.{RegistryState, registry_step, cold_registry}
use Rattle.ho_events.specs.Handler.{HandlerState, handler_step, cold_handler}
use Rattle.ho_events.specs.Session.{SessionState, session_step, Free}
use Rattle.ho_events.specs.File.{FileState, file_step}
use Rattle.ho_events.specs.History.{run_from, on}
use Rattle.ho_events.specs.declared.entry.Entry.{Entry}
use Rattle.ho_events.specs.declared.event.Event.{Event}
use Rattle.ho_events.specs.declared.reply.Reply.{Reply}

-- the state of one object;  at a number without an object there is nothing
pub data State : Type 0 where
  Nothing : State
  PoolIn : PoolState → State
  RegistryIn : RegistryState → State
  HandlerIn : HandlerState → State
  SessionIn : SessionState → State
  FileIn : Option FileState → State

-- what an event with this reply makes of an object, and none where the object can't make it
abbrev pub step : State → Event → Reply → Option State
step Nothing event reply = None
step (PoolIn s) event reply = option_map PoolIn (pool_step s event reply)
step (RegistryIn s) event reply = option_map RegistryIn (registry_step s event reply)
step (HandlerIn s) event reply = option_map HandlerIn (handler_step s event reply)
step (SessionIn s) event reply = option_map SessionIn (session_step s event reply)
step (FileIn s) event reply = option_map FileIn (file_step s event reply)

-- the pool's, the registry's, a handler's, a session slot's and a file's state, where the object is of that sort
abbrev pub pool_in : State → PoolState
pool_in (PoolIn s) = s
pool_in s = cold_pool (record { frames = 0; scratch = [] })

abbrev pub registry_in : State → RegistryState
registry_in (RegistryIn s) = s
registry_in s = cold_registry

abbrev pub handler_in : State → HandlerState
handler_in (HandlerIn s) = s
handler_in s = cold_handler

abbrev pub session_in : State → SessionState
session_in (SessionIn s) = s
session_in s = Free

abbrev pub file_in : State → Option FileState
file_in (FileIn s) = s
file_in s = None

-- the kernel's update number, and the state of each object
pub record World : Type 0 where
  pub number : ℕ
  pub at : ℕ → State

abbrev pub pool_at : World → PoolState
pool_at w = pool_in (w.at pool_no)

abbrev pub registry_at : World → RegistryState
registry_at w = registry_in (w.at registry_no)

abbrev pub handler_at : World → ℕ → HandlerState
handler_at w k = handler_in (w.at (handler_no k))

abbrev pub session_at : World → ℕ → SessionState
session_at w s = session_in (w.at (session_no s))

abbrev pub file_at : World → ℕ → Option FileState
file_at w f = file_in (w.at (file_no f))

-- states of each sort, by object number
abbrev pub by_number : PoolState → RegistryState → (ℕ → HandlerState) → (ℕ → SessionState) → (ℕ → Option FileState) → ℕ → State
by_number pool registry handler session file o =
    if o == pool_no then PoolIn pool
    else if o == registry_no then RegistryIn registry
    else if nat_lt o (session_no 0) then HandlerIn (handler (o - handler_no 0))
    else if nat_lt o (file_no 0) then SessionIn (session (o - session_no 0))
    else if nat_lt o (file_no FILES) then FileIn (file (o - file_no 0))
    else Nothing

-- a machine as it is switched on
abbrev pub cold : Layout → World
cold shape = record {
  number = 0;
  at = by_number (cold_pool shape) cold_registry (λ k. cold_handler) (λ s. Free) (λ f. None);
}

-- the run of an object's steps over entries: none where one of them can't come where it stands
abbrev pub run : State → List Entry → Option State
run s es = run_from step (Some s) es

-- the world after entries of one kernel, each object by itself
abbrev pub after : World → List Entry → World
after w es = record {
  number = w.number;
  at = λ o. unwrap_or (run (w.at o) (on o es)) (w.at o);
}
