-- The parts of a world whose files are memfds.
use Rattle.std.specs.Prelude.{ℕ, Option}
use Rattle.ho_events.specs.File.{FileState}
use Rattle.ho_events.specs.Handler.{cold_handler}
use Rattle.ho_events.specs.Pool.{PoolState}
use Rattle.ho_events.specs.Registry.{RegistryState}
use Rattle.ho_events.specs.Session.{SessionState}
use Rattle.ho_world.specs.World.{State, World, pool_at, registry_at, session_at, file_at, by_number}

-- the states of the pool, the registry, the session slots and the files
pub record Parts : Type 0 where
  pub pool : PoolState
  pub registry : RegistryState
  pub sessions : ℕ → SessionState
  pub files : ℕ → Option FileState

abbrev pub parts_of : World → Parts
parts_of w = record {
  pool = pool_at w;
  registry = registry_at w;
  sessions = session_at w;
  files = file_at w;
}

-- the state of each object by its number, where no handler has done anything
abbrev pub state_at : Parts → ℕ → State
state_at x = by_number x.pool x.registry (λ k. cold_handler) x.sessions x.files
