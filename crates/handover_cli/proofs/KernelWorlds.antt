-- The world of a kernel that is as entries say, and how a kernel begins.
use Rattle.std.proofs.Common.{◌≡◌, ℕ, ◌<◌, List, [], ◌∷◌, length, replicate, slice_index_or, refl, sym, ap, subst, ◌∙◌, IsTrue, is_some, zero, suc, arith}
use Rattle.std.specs.Prelude.{Option, None, Some, option_map, unwrap_or}
use Rattle.ho_base.specs.Objects.{handler_no}
use Rattle.ho_base.specs.ShapeRule.{Layout}
use Rattle.ho_events.specs.History.{on, run_from}
use Rattle.ho_events.specs.declared.entry.Entry.{Entry}
use Rattle.ho_world.specs.Frozen.{Frozen, next}
use Rattle.ho_world.specs.Sequences.{Labels}
use Rattle.ho_world.specs.World.{State, World, run, after, cold, handler_in, handler_at}
use Rattle.machine_core.specs.Agents.{state_in}
use Rattle.machine_core.specs.Kernels.{KernelValue, IsRunAt, object_at, start_in, history_in, begun_in, histories_in, if_built}
use Rattle.machine_core.specs.Objects.{Start, Spot, PoolSpot, RegistrySpot, SessionSpot, FileSpot, NoSpot, spot_at, start_of, history_of}
use Rattle.machine_core.specs.Worlds.{IsWorldOf, state_of}
use Rattle.machine_core.specs.declared.object.Object.{Object}

-- a place without a start is without a history
pub no_history : (x : Option Object) → start_in x ≡ None → history_in x ≡ []
no_history None h = refl
no_history (Some o) h = absurd cc

no_run : (s : State) (h : List Entry) → h ≡ [] → IsTrue (is_some (run s h))
unfolding run_from
no_run s [] e = refl
no_run s (x ∷ xs) e = absurd cc

-- a history of an object that began so is a run
pub ran : (at : State) (s : Option Start) (h : List Entry) → ((x : State) → state_in s ≡ Some x → at ≡ x) → (s ≡ None → h ≡ []) → IsRunAt s h → IsTrue (is_some (run at h))
ran at None h is none r = no_run at h (none refl)
ran at (Some s) h is none r = subst (λ x. IsTrue (is_some (run x h))) (sym (is s.state refl)) r

-- a place where nothing began is without a history
no_begun : (x : Option Object) → state_in (start_in x) ≡ None → history_in x ≡ []
no_begun None h = refl
no_begun (Some o) h = absurd cc

same_value : (x y : State) → ◌≡◌ {A = Option State} (Some x) (Some y) → x ≡ y
same_value x y e = cc

no_state : (s : State) → ◌≡◌ {A = Option State} None (Some s) → ⊥
no_state s e = cc

-- an object without an entry is as it began
none_ran : (s : State) (h : List Entry) → h ≡ [] → unwrap_or (run s h) s ≡ s
unfolding run_from
none_ran s [] e = refl
none_ran s (x ∷ xs) e = absurd cc

-- A kernel whose objects began as in a world, and whose histories are those of entries: its world is that world after the
-- entries.
pub world_is : (w : World) (kernel : KernelValue) (es : List Entry) → kernel.updates ≡ w.number → ((o : ℕ) (s : State) → begun_in kernel.objects o ≡ Some s → w.at o ≡ s) → ((o : ℕ) → histories_in kernel.objects o ≡ on o es)
    → ((n : ℕ) → n < 4 → (handler_at w n).outgoing.files ≡ 0) → ((n : ℕ) → n < 4 → begun_in kernel.objects (handler_no n) ≡ None) → IsWorldOf kernel (after w es)
world_is w kernel es updates begun histories quiet unbuilt = record {
  number = sym updates;
  objects = λ n s is. at_place n s (object_at kernel.objects n) refl is;
  handlers = λ n less. ap (λ s. (handler_in s).outgoing.files) (none_ran (w.at (handler_no n)) (on (handler_no n) es) (untouched n less)) ∙ quiet n less;
}
  where
    at_place : (n : ℕ) (s : State) (x : Option Object) → object_at kernel.objects n ≡ x → option_map state_of x ≡ Some s → unwrap_or (run (w.at n) (on n es)) (w.at n) ≡ s
    at_place n s None here is = absurd (no_state s is)
    at_place n s (Some o) here is =
        let first : w.at n ≡ (start_of o).state = begun n (start_of o).state (ap (λ y. state_in (start_in y)) here) in
        let told : on n es ≡ history_of o = sym (histories n) ∙ ap history_in here in
        ap (λ x. unwrap_or (run x (on n es)) x) first ∙ ap (λ h. unwrap_or (run (start_of o).state h) (start_of o).state) told ∙ same_value (state_of o) s is

    untouched : (n : ℕ) → n < 4 → on (handler_no n) es ≡ []
    untouched n less = sym (histories (handler_no n)) ∙ no_begun (object_at kernel.objects (handler_no n)) (unbuilt n less)

-- what an object that is built begins with
pub built_is : (spot : Spot) (x s : State) → if_built spot x ≡ Some s → x ≡ s
built_is PoolSpot x s h = cc
built_is RegistrySpot x s h = cc
built_is SessionSpot x s h = cc
built_is FileSpot x s h = cc
built_is NoSpot x s h = absurd cc

-- no handler is built
pub no_handler : (n : ℕ) → n < 4 → (s : State) → if_built (spot_at (handler_no n)) s ≡ None
no_handler zero less s = refl
no_handler (suc zero) less s = refl
no_handler (suc (suc zero)) less s = refl
no_handler (suc (suc (suc zero))) less s = refl
no_handler (suc (suc (suc (suc n)))) less s = absurd (omega (arith, less))

-- no handler has an outgoing file at first
pub cold_quiet : (shape : Layout) (n : ℕ) → n < 4 → (handler_at (cold shape) n).outgoing.files ≡ 0
cold_quiet shape zero less = refl
cold_quiet shape (suc zero) less = refl
cold_quiet shape (suc (suc zero)) less = refl
cold_quiet shape (suc (suc (suc zero))) less = refl
cold_quiet shape (suc (suc (suc (suc n)))) less = absurd (omega (arith, less))

pub next_quiet : (f : Frozen) (n : ℕ) → n < 4 → (handler_at (next f) n).outgoing.files ≡ 0
next_quiet f zero less = refl
next_quiet f (suc zero) less = refl
next_quiet f (suc (suc zero)) less = refl
next_quiet f (suc (suc (suc zero))) less = refl
next_quiet f (suc (suc (suc (suc n)))) less = absurd (omega (arith, less))

-- the same labels for every agent
pub all_same : (n a : ℕ) (x : Labels) → slice_index_or (replicate n x) a x ≡ x
all_same zero a x = refl
all_same (suc n) zero x = refl
all_same (suc n) (suc a) x = all_same n a x

pub how_many : (n : ℕ) (x : Labels) → length (replicate n x) ≡ n
how_many zero x = refl
how_many (suc n) x = ap suc (how_many n x)
