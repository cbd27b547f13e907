use Rattle.std.proofs.Common.{IsTrue, ap, sym, subst}
use Rattle.ho_events.specs.Session.{is_in}
use Rattle.ho_events.specs.declared.entry.Entry.{Entry}
use Rattle.session_core.proofs.OpenedSlots.{leave_keeps, leave_run}
use Rattle.session_core.specs.SessionValues.{SessionIs}
use Rattle.session_core.proofs.session.SessionObject.leave.Goals as goal

pub invariant_of-self : goal.invariant_of-self
invariant_of-self c =
    rw (c.clear.ensures.items, c.append_plain_turn.ensures.kept)
    (leave_keeps _ _ _ _ _ _ c.args.name c.self.invariant
    (subst (λ v. SessionIs v (λ s. IsTrue (is_in s c.args.name))) (sym c.self.view_is) c.requires.opened)
    (ap (λ (e : Entry). e.event) c.append_plain_turn.ensures.told) (ap (λ (e : Entry). e.reply) c.append_plain_turn.ensures.told))

pub returns-clause-run : goal.returns-clause-run
returns-clause-run c =
    rw c.append_plain_turn.ensures.kept
    (leave_run _ _ _ _ _ _ c.args.name c.self.invariant
    (subst (λ v. SessionIs v (λ s. IsTrue (is_in s c.args.name))) (sym c.self.view_is) c.requires.opened)
    (ap (λ (e : Entry). e.event) c.append_plain_turn.ensures.told) (ap (λ (e : Entry). e.reply) c.append_plain_turn.ensures.told))
