-- The states of a kernel's objects, by what is told of the objects.
use Rattle.std.proofs.Common.{◌≡◌, ◌≢◌, ℕ, List, [], ◌∷◌, refl, ap, sym, ◌∙◌, subst, arith}
use Rattle.std.specs.Prelude.{Option, None, Some, MatchOption, option_map, unwrap_or}
use Rattle.ho_base.specs.Objects.{pool_no, registry_no, session_no, file_no}
use Rattle.ho_events.specs.declared.entry.Entry.{Entry}
use Rattle.ho_events.specs.declared.event.Event.{Event}
use Rattle.ho_events.specs.declared.reply.Reply.{Reply}
use Rattle.ho_events.specs.File.{FileState, file_step}
use Rattle.ho_events.specs.History.{run_from, then_entry}
use Rattle.ho_events.specs.Pool.{PoolState, pool_step}
use Rattle.ho_events.specs.Registry.{RegistryState, registry_step}
use Rattle.ho_events.specs.Session.{SessionState, session_step}
use Rattle.ho_world.specs.World.{State, World, PoolIn, RegistryIn, SessionIn, FileIn, step, run, file_in, session_in, registry_in, file_at, session_at, registry_at}
use Rattle.pool_core.specs.PoolValues.{PoolValue, PoolIs}
use Rattle.registry_core.specs.RegistryValues.{RegistryValue, RegistryIs}
use Rattle.session_core.specs.SessionValues.{SessionValue, SessionIs}
use Rattle.memfd_file.specs.FileValues.{FileValue, FileIs}
use Rattle.machine_core.specs.declared.object.Object as object
use Rattle.machine_core.specs.declared.object.Object.TheVariants.{Pool, Registry, Session, File}
use Rattle.machine_core.specs.Kernels.{object_at}
use Rattle.machine_core.specs.Worlds.{state_of, states_in}
use Rattle.kernel_carried.specs.Gathered.{Agrees}

one_step : {S : Type 0} (sort : S → State) (own : S → Event → Reply → Option S) → ((s : S) (event : Event) (reply : Reply) → step (sort s) event reply ≡ option_map sort (own s event reply)) → (o : Option S) (e : Entry) → then_entry step (option_map sort o) e ≡ option_map sort (then_entry own o e)
one_step sort own same None e = refl
one_step sort own same (Some s) e = same s e.event e.reply

pub runs_alike : {S : Type 0} (sort : S → State) (own : S → Event → Reply → Option S) → ((s : S) (event : Event) (reply : Reply) → step (sort s) event reply ≡ option_map sort (own s event reply)) → (o : Option S) (es : List Entry) → run_from step (option_map sort o) es ≡ option_map sort (run_from own o es)
unfolding run_from
runs_alike sort own same o [] = refl
runs_alike sort own same o (e ∷ es) = ap (λ x. run_from step x es) (one_step sort own same o e) ∙ runs_alike sort own same (then_entry own o e) es

-- a state of a sort, of which a fact holds
pub record Stands {S : Type 0} (sort : S → State) (P : S → Type 0) (o : Option State) : Type 0 where
  pub state : S
  pub is : o ≡ Some (sort state)
  pub holds : P state

at_state : {S : Type 0} (sort : S → State) (own : S → Event → Reply → Option S) → ((s : S) (event : Event) (reply : Reply) → step (sort s) event reply ≡ option_map sort (own s event reply)) → (s : S) (es : List Entry) (P : S → Type 0) → MatchOption (run_from own (Some s) es) ⊥ P → Stands sort P (Some (unwrap_or (run (sort s) es) (sort s)))
at_state sort own same s es P h = go (run_from own (Some s) es) refl h
  where
    go : (o : Option _) → run_from own (Some s) es ≡ o → MatchOption o ⊥ P → Stands sort P (Some (unwrap_or (run (sort s) es) (sort s)))
    go None e k = absurd k
    go (Some t) e k = record {
      state = t;
      is = ap (λ (x : Option State). Some (unwrap_or x (sort s))) (runs_alike sort own same (Some s) es ∙ ap (option_map sort) e);
      holds = k;
    }

pub file_stands : (objects : List (Option object.Object)) (n : ℕ) (f : FileValue) (P : Option FileState → Type 0) → object_at objects n ≡ Some (File f) → FileIs f P → Stands FileIn P (states_in objects n)
file_stands objects n f P at h =
    subst (λ o. Stands FileIn P (option_map state_of o)) (sym at) (at_state FileIn file_step (λ s event reply. refl) f.start f.history P h)

pub session_stands : (objects : List (Option object.Object)) (n : ℕ) (f : SessionValue) (P : SessionState → Type 0) → object_at objects n ≡ Some (Session f) → SessionIs f P → Stands SessionIn P (states_in objects n)
session_stands objects n f P at h =
    subst (λ o. Stands SessionIn P (option_map state_of o)) (sym at) (at_state SessionIn session_step (λ s event reply. refl) f.start f.history P h)

pub registry_stands : (objects : List (Option object.Object)) (n : ℕ) (f : RegistryValue) (P : RegistryState → Type 0) → object_at objects n ≡ Some (Registry f) → RegistryIs f P → Stands RegistryIn P (states_in objects n)
registry_stands objects n f P at h =
    subst (λ o. Stands RegistryIn P (option_map state_of o)) (sym at) (at_state RegistryIn registry_step (λ s event reply. refl) f.start f.history P h)

pub pool_stands : (objects : List (Option object.Object)) (n : ℕ) (f : PoolValue) (P : PoolState → Type 0) → object_at objects n ≡ Some (Pool f) → PoolIs f P → Stands PoolIn P (states_in objects n)
pool_stands objects n f P at h =
    subst (λ o. Stands PoolIn P (option_map state_of o)) (sym at) (at_state PoolIn pool_step (λ s event reply. refl) f.start f.history P h)

-- ---- in a world that agrees with the objects

no_pool_file : (n : ℕ) → file_no n ≢ pool_no
no_pool_file n e = absurd (omega (arith, e))

no_pool_session : (n : ℕ) → session_no n ≢ pool_no
no_pool_session n e = absurd (omega (arith, e))

no_pool_registry : registry_no ≢ pool_no
no_pool_registry e = absurd (omega (arith, e))

pub file_there : (w : World) (objects : List (Option object.Object)) (n : ℕ) (s : Option FileState) → Agrees w objects → states_in objects (file_no n) ≡ Some (FileIn s) → file_at w n ≡ s
file_there w objects n s agrees is = ap file_in (agrees (file_no n) (FileIn s) (no_pool_file n) is)

pub session_there : (w : World) (objects : List (Option object.Object)) (n : ℕ) (s : SessionState) → Agrees w objects → states_in objects (session_no n) ≡ Some (SessionIn s) → session_at w n ≡ s
session_there w objects n s agrees is = ap session_in (agrees (session_no n) (SessionIn s) (no_pool_session n) is)

pub registry_there : (w : World) (objects : List (Option object.Object)) (s : RegistryState) → Agrees w objects → states_in objects registry_no ≡ Some (RegistryIn s) → registry_at w ≡ s
registry_there w objects s agrees is = ap registry_in (agrees registry_no (RegistryIn s) no_pool_registry is)
