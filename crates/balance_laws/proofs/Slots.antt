-- A session that changes, or stays.
use Rattle.std.proofs.Common.{◌≡◌, ◌⊎◌, inl, inr, ℕ, ◌<◌, ◌≤◌, Bool, List, ◌∷◌, sym, ap, subst, ◌∙◌}
use Rattle.std.specs.Prelude.{Option, None, Some}
use Rattle.std.specs.Ordering.{nat_cmp}
use Rattle.std.specs.FinMap as finmap
use Rattle.std.proofs.lemmas.Bool.{cases_eq}
use Rattle.ho_base.specs.declared.limits.TheConstants.{OUT_SLOTS, SESSION_FILES}
use Rattle.ho_events.specs.Registry.{RegistryState, find_step}
use Rattle.ho_events.specs.Session.{SessionState, Listed, In, files_of}
use Rattle.ho_events.specs.declared.event.Event.{Event}
use Rattle.ho_events.specs.declared.reply.Reply.{Reply}
use Rattle.ho_events.specs.declared.reply.Reply.TheVariants.{OkSlot, NoSession}
use Rattle.ho_world.specs.Acts.{Act, AllHold}
use Rattle.ho_world.specs.Sequences.{Labels}
use Rattle.ho_world.specs.World.{State, World}
use Rattle.balance_laws.specs.Acted.{Acted}
use Rattle.balance_laws.specs.Parts.{Parts, state_at}
use Rattle.balance_laws.specs.Sound.{AreSound, SlotsFit, name_out}
use Rattle.balance_laws.proofs.Acts.{set_at, set_same, set_other}
use Rattle.balance_laws.proofs.Base.{same_value, not_some}
use Rattle.balance_laws.proofs.Flags.{set_self}
use Rattle.balance_laws.proofs.Stands.{Stands, RegistryCame}
use Rattle.balance_laws.proofs.Steps.{only_is}

-- slots fit, where a session is set that does
pub slots_set : (sessions : ℕ → SessionState) (s : ℕ) (v : SessionState) → SlotsFit sessions → ((name : List ℕ) → name_out v ≡ Some name → s < OUT_SLOTS)
    → ((name : List ℕ) (opened : Bool) (files : finmap.FinMap nat_cmp Listed) → v ≡ In name opened files → OUT_SLOTS ≤ s) → finmap.len (files_of v) ≤ SESSION_FILES → SlotsFit (set_at s v sessions)
slots_set sessions s v fit out «in» few = record {
  outgoing = λ k n e. outgoing k n (cases_eq k s) e;
  incoming = λ k n opened files e. incoming k n opened files (cases_eq k s) e;
  few = λ k. few_now k (cases_eq k s);
}
  where
    outgoing : (k : ℕ) (n : List ℕ) → (k ≡ s) ⊎ (k ≡ s → ⊥) → name_out (set_at s v sessions k) ≡ Some n → k < OUT_SLOTS
    outgoing k n (inl p) e = subst (λ i. i < OUT_SLOTS) (sym p) (out n (ap name_out (sym (set_same s v sessions k p)) ∙ e))
    outgoing k n (inr p) e = fit.outgoing k n (ap name_out (sym (set_other s v sessions k p)) ∙ e)

    incoming : (k : ℕ) (n : List ℕ) (opened : Bool) (files : finmap.FinMap nat_cmp Listed) → (k ≡ s) ⊎ (k ≡ s → ⊥) → set_at s v sessions k ≡ In n opened files → OUT_SLOTS ≤ k
    incoming k n opened files (inl p) e = subst (λ i. OUT_SLOTS ≤ i) (sym p) («in» n opened files (sym (set_same s v sessions k p) ∙ e))
    incoming k n opened files (inr p) e = fit.incoming k n opened files (sym (set_other s v sessions k p) ∙ e)

    few_now : (k : ℕ) → (k ≡ s) ⊎ (k ≡ s → ⊥) → finmap.len (files_of (set_at s v sessions k)) ≤ SESSION_FILES
    few_now k (inl p) = subst (λ u. finmap.len (files_of u) ≤ SESSION_FILES) (sym (set_same s v sessions k p)) few
    few_now k (inr p) = subst (λ u. finmap.len (files_of u) ≤ SESSION_FILES) (sym (set_other s v sessions k p)) (fit.few k)

module _ (x : Parts) (labels : ℕ → Labels) (sound : AreSound x labels) where
  pub session_stays : (s : ℕ) (now : SessionState) → now ≡ x.sessions s → AreSound (record x { sessions = set_at s now x.sessions }) labels
  session_stays s now e = subst (λ h. AreSound (record x { sessions = h }) labels) (sym (set_self s now x.sessions e)) sound

-- the registry's finds change nothing
pub find_same : (g h : RegistryState) (slot : Option ℕ) (r : Reply) → find_step g slot r ≡ Some h → h ≡ g
find_same g h None NoSession e = sym (same_value g h e)
find_same g h (Some slot) (OkSlot found) e = (only_is _ g h e).1
find_same g h slot r e = absurd (not_some h e)

-- an event on the registry that changes nothing
pub registry_same : (begun : ℕ → State) (x : Parts) (e : Event) (r : Reply) (acts : List Act) (v : World) → (c : RegistryCame begun x e r acts v) → c.now ≡ x.registry → Stands begun x acts v
registry_same begun x e r acts v c same = subst (λ g. Stands begun (record x { registry = g }) acts v) same c.then

-- what the first act reads is true
pub first_claims : (begun : ℕ → State) (x : Parts) (v : World) (act : Act) (acts : List Act) → Stands begun x (act ∷ acts) v → AllHold begun (state_at x) act.claims
unfolding Acted
first_claims begun x v act acts s = let same : s.world.at ≡ state_at x = λ j o. s.is o j in subst (λ at. AllHold begun at act.claims) same s.rest.2
