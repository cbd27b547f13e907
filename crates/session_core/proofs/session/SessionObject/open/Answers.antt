use Rattle.std.proofs.Common.{IsTrue, ap, sym, subst}
use Rattle.ho_events.specs.declared.entry.Entry.{Entry}
use Rattle.session_core.proofs.OpenedSlots.{open_keeps, open_run}
use Rattle.session_core.specs.Sessions.{waits}
use Rattle.session_core.specs.SessionValues.{SessionIs}
use Rattle.session_core.proofs.session.SessionObject.open.Goals as goal

pub invariant_of-self : goal.invariant_of-self
invariant_of-self c =
    rw c.append_plain_turn-turned.ensures.kept
    (open_keeps _ _ _ _ _ _ _ c.args.name c.self.invariant
    (subst (λ v. SessionIs v (λ s. IsTrue (waits s c.args.name))) (sym c.self.view_is) c.requires.waits) c.open_up.ensures
    (ap (λ (e : Entry). e.event) c.append_plain_turn-turned.ensures.told) (ap (λ (e : Entry). e.reply) c.append_plain_turn-turned.ensures.told))

pub returns-clause-run : goal.returns-clause-run
returns-clause-run c =
    rw c.append_plain_turn-turned.ensures.kept
    (open_run _ _ _ _ _ _ _ c.args.name c.self.invariant
    (subst (λ v. SessionIs v (λ s. IsTrue (waits s c.args.name))) (sym c.self.view_is) c.requires.waits) c.open_up.ensures
    (ap (λ (e : Entry). e.event) c.append_plain_turn-turned.ensures.told) (ap (λ (e : Entry). e.reply) c.append_plain_turn-turned.ensures.told))
