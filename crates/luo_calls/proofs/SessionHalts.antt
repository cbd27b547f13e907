-- What a session slot can't do.
use Rattle.std.proofs.Common.{◌≡◌, ℕ, Bool, true, false, List, [], refl, sym, ap, subst, ◌∙◌, IsTrue, ◌↔◌}
use Rattle.std.specs.Prelude.{Option, None, Some, MatchOption}
use Rattle.ho_events.specs.declared.event.Event.TheVariants.{SessionBegin}
use Rattle.ho_events.specs.declared.reply.Reply.{Reply}
use Rattle.ho_events.specs.Session.{SessionState, Free, Out, In, session_step}
use Rattle.luo_calls.proofs.RegistryHalts.{not_true}

-- a slot that isn't free doesn't become a session
no_begin : (s : SessionState) (name : List ℕ) → (s ≡ Free → ⊥) → (reply : Reply) → session_step s (SessionBegin name) reply ≡ None
no_begin Free name h reply = absurd (h refl)
no_begin (Out own files) name h reply = refl
no_begin (In own opened files) name h reply = refl

pub cannot_begin : (o : Option SessionState) (name : List ℕ) (b : Bool) → b ≡ false → MatchOption o ⊥ (λ s. IsTrue b ↔ (s ≡ Free)) → MatchOption o (Unit {0}) (λ s. (reply : Reply) → session_step s (SessionBegin name) reply ≡ None)
cannot_begin None name b e h = tt
cannot_begin (Some s) name b e h = no_begin s name (λ x. not_true b e (h.1 x))
