-- Events that an object can't make, whatever the reply.
use Rattle.std.proofs.Common.{◌≡◌, ℕ, Bool, true, false, List, [], ◌∷◌, ◌++◌, refl, sym, ap, subst, ◌∙◌, IsTrue, ◌↔◌, ◌&&◌, not}
use Rattle.std.specs.Prelude.{Option, None, Some, option_map, MatchOption}
use Rattle.ho_base.specs.declared.numbers.FileNo.{FileNo}
use Rattle.ho_events.specs.declared.entry.Entry.{Entry}
use Rattle.ho_events.specs.declared.event.Event.{Event}
use Rattle.ho_events.specs.declared.reply.Reply.{Reply}
use Rattle.ho_events.specs.declared.slip.At.{At}
use Rattle.ho_events.specs.File.{FileState, file_step}
use Rattle.ho_events.specs.History.{run_from, then_entry, pool_from, registry_from, session_from, file_from}
use Rattle.ho_events.specs.Pool.{PoolState, pool_step}
use Rattle.ho_events.specs.Registry.{RegistryState, registry_step}
use Rattle.ho_events.specs.Session.{SessionState, session_step}
use Rattle.ho_events.proofs.Runs.{run_push}
use Rattle.ho_world.specs.Logs.{deed_at, entry_of}
use Rattle.ho_world.specs.World.{PoolIn, RegistryIn, SessionIn, FileIn, run}
use Rattle.ho_world.proofs.Grow.{pool_run, registry_run, session_run, file_run}
use Rattle.pool_core.specs.PoolValues.{PoolValue}
use Rattle.registry_core.specs.RegistryValues.{RegistryValue}
use Rattle.session_core.specs.SessionValues.{SessionValue}
use Rattle.memfd_file.specs.FileValues.{FileValue}
use Rattle.machine_core.specs.declared.object.Object.TheVariants.{Pool, Registry, Session, File}
use Rattle.machine_core.specs.Objects.{start_of}
use Rattle.machine_core.specs.Turns.{CannotCome}

-- no step from any state that a run came to
no_step : {S : Type 0} → (step : S → Event → Reply → Option S) (s : Option S) (e : Entry) → MatchOption s (Unit {0}) (λ x. step x e.event e.reply ≡ None) → then_entry step s e ≡ None
no_step step None e h = refl
no_step step (Some s) e h = h

pub pool_cannot : (p : PoolValue) (event : Event) → MatchOption (pool_from p.start p.history) (Unit {0}) (λ s. (reply : Reply) → pool_step s event reply ≡ None) → (at : At) (n : ℕ) → CannotCome (Some (start_of (Pool p))) p.history at n event
pool_cannot p event h at n reply =
    pool_run p.start _ ∙ ap (option_map PoolIn) (run_push pool_step (Some p.start) p.history _ ∙ no_step pool_step _ _ (each (pool_from p.start p.history) h))
  where
    each : (s : Option PoolState) → MatchOption s (Unit {0}) (λ s. (reply : Reply) → pool_step s event reply ≡ None) → MatchOption s (Unit {0}) (λ s. pool_step s event reply ≡ None)
    each None h = tt
    each (Some s) h = h reply

pub registry_cannot : (r : RegistryValue) (event : Event) → MatchOption (registry_from r.start r.history) (Unit {0}) (λ s. (reply : Reply) → registry_step s event reply ≡ None) → (at : At) (n : ℕ) → CannotCome (Some (start_of (Registry r))) r.history at n event
registry_cannot r event h at n reply =
    registry_run r.start _ ∙ ap (option_map RegistryIn) (run_push registry_step (Some r.start) r.history _ ∙ no_step registry_step _ _ (each (registry_from r.start r.history) h))
  where
    each : (s : Option RegistryState) → MatchOption s (Unit {0}) (λ s. (reply : Reply) → registry_step s event reply ≡ None) → MatchOption s (Unit {0}) (λ s. registry_step s event reply ≡ None)
    each None h = tt
    each (Some s) h = h reply

pub session_cannot : (x : SessionValue) (event : Event) → MatchOption (session_from x.start x.history) (Unit {0}) (λ s. (reply : Reply) → session_step s event reply ≡ None) → (at : At) (n : ℕ) → CannotCome (Some (start_of (Session x))) x.history at n event
session_cannot x event h at n reply =
    session_run x.start _ ∙ ap (option_map SessionIn) (run_push session_step (Some x.start) x.history _ ∙ no_step session_step _ _ (each (session_from x.start x.history) h))
  where
    each : (s : Option SessionState) → MatchOption s (Unit {0}) (λ s. (reply : Reply) → session_step s event reply ≡ None) → MatchOption s (Unit {0}) (λ s. session_step s event reply ≡ None)
    each None h = tt
    each (Some s) h = h reply

pub file_cannot : (f : FileValue) (event : Event) → MatchOption (file_from f.start f.history) (Unit {0}) (λ s. (reply : Reply) → file_step s event reply ≡ None) → (at : At) (n : ℕ) → CannotCome (Some (start_of (File f))) f.history at n event
file_cannot f event h at n reply =
    file_run f.start _ ∙ ap (option_map FileIn) (run_push file_step (Some f.start) f.history _ ∙ no_step file_step _ _ (each (file_from f.start f.history) h))
  where
    each : (s : Option (Option FileState)) → MatchOption s (Unit {0}) (λ s. (reply : Reply) → file_step s event reply ≡ None) → MatchOption s (Unit {0}) (λ s. file_step s event reply ≡ None)
    each None h = tt
    each (Some s) h = h reply
