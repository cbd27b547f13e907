use Rattle.std.proofs.Common.{ap, sym, subst}
use Rattle.ho_events.specs.declared.entry.Entry.{Entry}
use Rattle.session_core.proofs.Sessions.{begin_keeps}
use Rattle.session_core.specs.Sessions.{IsFree}
use Rattle.session_core.specs.SessionValues.{SessionIs}
use Rattle.session_core.proofs.session.SessionObject.begin.Goals as goal

pub invariant_of-self : goal.invariant_of-self
invariant_of-self c =
    rw c.append_plain_turn-turned.ensures.kept
    (begin_keeps _ _ _ _ _ _ c.args.name c.self.invariant
    (subst (λ v. SessionIs v IsFree) (sym c.self.view_is) c.requires.free)
    (ap (λ (e : Entry). e.event) c.append_plain_turn-turned.ensures.told) (ap (λ (e : Entry). e.reply) c.append_plain_turn-turned.ensures.told))
