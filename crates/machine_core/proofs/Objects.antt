-- Runs of an object's own steps as runs of the world's.
use Rattle.std.proofs.Common.{◌≡◌, List, [], ◌∷◌, refl, ap, sym, ◌∙◌, subst, IsTrue, is_some}
use Rattle.std.specs.Prelude.{Option, None, Some, option_map}
use Rattle.ho_events.specs.declared.entry.Entry.{Entry}
use Rattle.ho_events.specs.declared.event.Event.{Event}
use Rattle.ho_events.specs.declared.reply.Reply.{Reply}
use Rattle.ho_events.specs.File.{FileState, file_step}
use Rattle.ho_events.specs.History.{run_from, then_entry, pool_from, registry_from, session_from, file_from}
use Rattle.ho_events.specs.Pool.{PoolState, pool_step}
use Rattle.ho_events.specs.Registry.{RegistryState, registry_step}
use Rattle.ho_events.specs.Session.{SessionState, session_step}
use Rattle.ho_world.specs.World.{State, PoolIn, RegistryIn, SessionIn, FileIn, step, run}

one_step : {S : Type 0} (sort : S → State) (own : S → Event → Reply → Option S) → ((s : S) (event : Event) (reply : Reply) → step (sort s) event reply ≡ option_map sort (own s event reply)) → (o : Option S) (e : Entry) → then_entry step (option_map sort o) e ≡ option_map sort (then_entry own o e)
one_step sort own same None e = refl
one_step sort own same (Some s) e = same s e.event e.reply

runs_alike : {S : Type 0} (sort : S → State) (own : S → Event → Reply → Option S) → ((s : S) (event : Event) (reply : Reply) → step (sort s) event reply ≡ option_map sort (own s event reply)) → (o : Option S) (es : List Entry) → run_from step (option_map sort o) es ≡ option_map sort (run_from own o es)
unfolding run_from
runs_alike sort own same o [] = refl
runs_alike sort own same o (e ∷ es) = ap (λ x. run_from step x es) (one_step sort own same o e) ∙ runs_alike sort own same (then_entry own o e) es

some_both : {S T : Type 0} (f : S → T) (o : Option S) → IsTrue (is_some o) → IsTrue (is_some (option_map f o))
some_both f None h = h
some_both f (Some s) h = refl

pub pool_run : (s : PoolState) (es : List Entry) → IsTrue (is_some (pool_from s es)) → IsTrue (is_some (run (PoolIn s) es))
pool_run s es h = subst (λ o. IsTrue (is_some o)) (sym (runs_alike PoolIn pool_step (λ s event reply. refl) (Some s) es)) (some_both PoolIn (pool_from s es) h)

pub registry_run : (s : RegistryState) (es : List Entry) → IsTrue (is_some (registry_from s es)) → IsTrue (is_some (run (RegistryIn s) es))
registry_run s es h = subst (λ o. IsTrue (is_some o)) (sym (runs_alike RegistryIn registry_step (λ s event reply. refl) (Some s) es)) (some_both RegistryIn (registry_from s es) h)

pub session_run : (s : SessionState) (es : List Entry) → IsTrue (is_some (session_from s es)) → IsTrue (is_some (run (SessionIn s) es))
session_run s es h = subst (λ o. IsTrue (is_some o)) (sym (runs_alike SessionIn session_step (λ s event reply. refl) (Some s) es)) (some_both SessionIn (session_from s es) h)

pub file_run : (s : Option FileState) (es : List Entry) → IsTrue (is_some (file_from s es)) → IsTrue (is_some (run (FileIn s) es))
file_run s es h = subst (λ o. IsTrue (is_some o)) (sym (runs_alike FileIn file_step (λ s event reply. refl) (Some s) es)) (some_both FileIn (file_from s es) h)
