-- What the registry can't do.
use Rattle.std.proofs.Common.{inl, ◌≡◌, ℕ, Bool, true, false, List, [], refl, sym, ap, subst, ◌∙◌, IsTrue, ◌↔◌}
use Rattle.std.specs.Prelude.{Option, None, Some, MatchOption}
use Rattle.std.specs.FinMap as finmap
use Rattle.std.specs.FinSet as finset
use Rattle.ho_base.specs.declared.numbers.FileNo.{FileNo}
use Rattle.ho_events.specs.declared.event.Event.TheVariants.{RegDropName, RegFreeFile}
use Rattle.ho_events.specs.declared.reply.Reply.{Reply}
use Rattle.ho_events.specs.declared.reply.Reply.TheVariants.{Ok}
use Rattle.ho_events.specs.Registry.{RegistryState, registry_step}
use Rattle.registry_core.specs.Registries.{IsOutgoing, IsInUse}
use Rattle.registry_core.specs.RegistryValues.{RegistryValue}
use Rattle.ho_base.specs.Objects.{registry_no}
use Rattle.ho_events.specs.declared.event.Event.{Event}
use Rattle.ho_events.specs.declared.slip.At.{At}
use Rattle.machine_core.specs.declared.halt.Halt.TheVariants.{Broken}
use Rattle.machine_core.specs.declared.object.Object.TheVariants.{Registry}
use Rattle.machine_core.specs.Objects.{start_of}
use Rattle.machine_core.specs.Agents.{Agent}
use Rattle.machine_core.specs.Turns.{CannotCome}
use Rattle.luo_calls.specs.Opened.{Opens}
use Rattle.luo_calls.specs.declared.stuck.Stuck.{Stuck}
use Rattle.luo_calls.specs.Stuck.{Sticks, SticksWith, turn}
use Rattle.luo_calls.proofs.Sticking.{sticks_open}

is_false : (b : Bool) → (IsTrue b → ⊥) → b ≡ false
is_false true h = absurd (h refl)
is_false false h = refl

pub not_true : (b : Bool) → b ≡ false → IsTrue b → ⊥
not_true true e h = absurd cc
not_true false e h = absurd cc

no_drop : (s : RegistryState) (name : List ℕ) → finmap.contains_key s.outgoing name ≡ false → (reply : Reply) → registry_step s (RegDropName name) reply ≡ None
no_drop s name h Ok = rw h refl
no_drop s name h reply = refl

no_free : (s : RegistryState) (f : FileNo) → finset.contains s.files f.0 ≡ false → (reply : Reply) → registry_step s (RegFreeFile f) reply ≡ None
no_free s f h Ok = rw h refl
no_free s f h reply = refl

pub cannot_drop : (o : Option RegistryState) (name : List ℕ) (b : Bool) → b ≡ false → MatchOption o ⊥ (λ s. IsTrue b ↔ IsOutgoing name s) → MatchOption o (Unit {0}) (λ s. (reply : Reply) → registry_step s (RegDropName name) reply ≡ None)
cannot_drop None name b e h = tt
cannot_drop (Some s) name b e h = no_drop s name (is_false _ (λ x. not_true b e (h.1 x)))

pub cannot_free : (o : Option RegistryState) (f : FileNo) (b : Bool) → b ≡ false → MatchOption o ⊥ (λ s. IsTrue b ↔ IsInUse f.0 s) → MatchOption o (Unit {0}) (λ s. (reply : Reply) → registry_step s (RegFreeFile f) reply ≡ None)
cannot_free None f b e h = tt
cannot_free (Some s) f b e h = no_free s f (is_false _ (λ x. not_true b e (h.1 x)))

-- the registry, in hand for an open turn, can't make the event that is due
pub broken_sticks : (at : At) (a a1 : Agent) (r : RegistryValue) (stuck : Stuck) → a.hands registry_no ≡ None → Opens at registry_no a a1 (Registry r) → (event : Event) → CannotCome (Some (start_of (Registry r))) r.history at registry_no event → stuck.halt ≡ Broken (record { 0 = registry_no }) → stuck.held ≡ Some (record { 0 = registry_no }, Registry r) → Sticks at (turn registry_no event) stuck a a1
broken_sticks at a a1 r stuck free opens event cannot halt held =
    subst (λ h. SticksWith at (turn registry_no event) h stuck.held a a1) (sym halt)
    (subst (λ x. SticksWith at (turn registry_no event) (Broken (record { 0 = registry_no })) x a a1) (sym held)
    (sticks_open at (turn registry_no event) (Broken (record { 0 = registry_no })) (record { 0 = registry_no }) a a1 (Registry r) free opens (refl, (refl, inl cannot))))
