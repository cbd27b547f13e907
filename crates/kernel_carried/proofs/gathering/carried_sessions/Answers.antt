use Rattle.std.proofs.Common.{◌<◌, ◌+◌, refl, rules, subst, sym}
use Rattle.ho_base.specs.declared.limits.TheConstants.{OUT_SLOTS, IN_SLOTS}
use Rattle.registry_core.specs.Outgoing.{with_number}
use Rattle.kernel_carried.specs.Gathered.{IsSessionOf}
use Rattle.kernel_carried.proofs.Carried.{no_sessions, one_session, slot_at}
use Rattle.kernel_carried.proofs.gathering.carried_sessions.Goals as goal

pub loop-entry-init : goal.loop-entry-init
loop-entry-init c = λ w agrees. no_sessions c.args.kernel.now.objects w _ _ refl c.new-sessions.ensures.items

pub loop-entry-preserved : goal.loop-entry-preserved
loop-entry-preserved c = λ w agrees.
    one_session with_number c.args.kernel.now.objects w c.args.names.now c.loop-entry.entry-index c.entry-item.result c.loop-entry.sessions.items c.push.new.self.items c.in_ok-carried.carried
    c.loop-entry-test.true (c.loop-entry.invariant w agrees) (subst (λ e. IsSessionOf c.args.kernel.now.objects w (with_number e) c.in_ok-carried.carried) c.entry-item.is (c.in_ok-carried.ensures w agrees)) (search rules)

pub carried_session-requires : goal.carried_session-requires
carried_session-requires c =
    subst (λ e. (with_number e).1 < OUT_SLOTS + IN_SLOTS) (sym c.entry-item.is)
    (slot_at with_number c.args.names.now c.loop-entry.entry-index c.entry-item.result c.loop-entry-test.true c.requires)
