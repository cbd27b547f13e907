use Rattle.std.proofs.Common.{◌≡◌, Some, sym, subst}
use Rattle.ho_events.specs.Session.{session_step}
use Rattle.ho_events.specs.declared.entry.Entry.{Entry}
use Rattle.session_core.proofs.Sessions.{stay_keeps}
use Rattle.session_core.specs.SessionValues.{SessionIs}
use Rattle.session_core.proofs.session.SessionObject.stay.Goals as goal

pub invariant_of-self : goal.invariant_of-self
invariant_of-self c =
    let e = c.append_plain_turn.result.entry in
    rw c.append_plain_turn.ensures.kept
    (stay_keeps _ _ e _ _ _ c.self.invariant
    (subst (λ v. SessionIs v (λ s. session_step s e.event e.reply ≡ Some s)) (sym c.self.view_is)
    (subst (λ (x : Entry). SessionIs c.args.self.now (λ s. session_step s x.event x.reply ≡ Some s)) (sym c.append_plain_turn.ensures.told) c.requires.stays)))
