use Rattle.std.proofs.Common.{IsTrue, ◌∙◌, ap, subst}
use Rattle.std.specs.Prelude.{nat_le, Some}
use Rattle.std.specs.List.{list_all}
use Rattle.ho_world.specs.Logs.{Paired}
use Rattle.machine_core.specs.Kernels.{KernelValue, histories_in}
use Rattle.machine_core.specs.Plain.{earlier_in}
use Rattle.machine_core.proofs.Earlier.{earlier_up_to}
use Rattle.machine_core.proofs.PlainSteps.{pairs_none}
use Rattle.machine_core.proofs.PlainEnds as ends
use Rattle.machine_core.proofs.plain.PlainReach.new.Goals as goal

pub invariant_of-result : goal.invariant_of-result
invariant_of-result c =
    rw (c.of.ensures, c.new.ensures.items) (c.kernel.invariant, ends.begins _ _ _ c.kernel.inside.objects.items c.kernel.invariant)

pub returns-clause-log : goal.returns-clause-log
returns-clause-log c = rw c.new.ensures.items (pairs_none _ _)

pub returns-clause-told : goal.returns-clause-told
returns-clause-told c =
    rw (c.of.ensures, c.new.ensures.items)
    (ap Some (ends.begins_told (histories_in c.kernel.inside.objects.items)) ∙ ap (λ (v : KernelValue). Some (histories_in v.objects)) c.kernel.view_is)

pub returns-clause-hands : goal.returns-clause-hands
returns-clause-hands c =
    rw (c.of.ensures, c.new.ensures.items) (ends.begins_free _ _ _ c.kernel.inside.objects.items c.kernel.invariant)

pub returns-clause-earlier : goal.returns-clause-earlier
returns-clause-earlier c =
    rw c.of.ensures (subst (λ (v : KernelValue). IsTrue (list_all (λ (p : Paired). nat_le p.entry.stamp v.base) (earlier_in c.args.agent.0 (histories_in c.kernel.inside.objects.items)))) c.kernel.view_is
    (earlier_up_to c.args.agent.0 c.kernel.inside.base (histories_in c.kernel.inside.objects.items) c.kernel.invariant.stamps))
