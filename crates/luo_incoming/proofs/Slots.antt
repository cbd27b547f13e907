-- What the registry and session slots can't do.
use Rattle.std.proofs.Common.{◌≡◌, ℕ, Bool, true, false, List, refl, sym, ◌∙◌, IsTrue, ◌↔◌}
use Rattle.std.specs.Prelude.{Option, None, Some, MatchOption}
use Rattle.std.specs.FinMap as finmap
use Rattle.ho_events.specs.declared.event.Event.TheVariants.{RegDropIn, SessionOpen}
use Rattle.ho_events.specs.declared.reply.Reply.{Reply}
use Rattle.ho_events.specs.declared.reply.Reply.TheVariants.{Ok}
use Rattle.ho_events.specs.Registry.{RegistryState, registry_step}
use Rattle.ho_events.specs.Session.{SessionState, Free, Out, In, session_step}
use Rattle.registry_core.specs.Registries.{IsOpened}
use Rattle.session_core.specs.Sessions.{waits}
use Rattle.luo_calls.proofs.RegistryHalts.{not_true}

is_false : (b : Bool) → (IsTrue b → ⊥) → b ≡ false
is_false true h = absurd (h refl)
is_false false h = refl

no_drop_in : (s : RegistryState) (name : List ℕ) → finmap.contains_key s.opened name ≡ false → (reply : Reply) → registry_step s (RegDropIn name) reply ≡ None
no_drop_in s name h Ok = rw h refl
no_drop_in s name h reply = refl

-- a name that isn't opened doesn't end as an opened one
pub cannot_drop_in : (o : Option RegistryState) (name : List ℕ) (b : Bool) → b ≡ false → MatchOption o ⊥ (λ s. IsTrue b ↔ IsOpened name s) → MatchOption o (Unit {0}) (λ s. (reply : Reply) → registry_step s (RegDropIn name) reply ≡ None)
cannot_drop_in None name b e h = tt
cannot_drop_in (Some s) name b e h = no_drop_in s name (is_false _ (λ x. not_true b e (h.1 x)))

no_open : (s : SessionState) (name : List ℕ) → waits s name ≡ false → (reply : Reply) → session_step s (SessionOpen name) reply ≡ None
no_open Free name h reply = refl
no_open (Out own files) name h reply = refl
no_open (In own opened files) name h Ok = rw h refl
no_open (In own opened files) name h reply = refl

-- a session that doesn't wait isn't opened
pub cannot_open : (o : Option SessionState) (name : List ℕ) (b : Bool) → b ≡ false → MatchOption o ⊥ (λ s. b ≡ waits s name) → MatchOption o (Unit {0}) (λ s. (reply : Reply) → session_step s (SessionOpen name) reply ≡ None)
cannot_open None name b e h = tt
cannot_open (Some s) name b e h = no_open s name (sym h ∙ e)
