-- An agent begins after the kernel's greatest stamp, and what it did is shown by the kernel afterwards.
use Rattle.std.proofs.Common.{sym, ap, ◌∙◌, subst, ◌<◌, slice_index_or}
use Rattle.std.specs.FinMap as finmap
use Rattle.machine_core.specs.Kernels.{KernelValue, starts_in}
use Rattle.machine_core.specs.Plain.{agent_of, anchor_of}
use Rattle.handover_cli.proofs.WorkedAlone.{none_later, at_same, labels_set, worked_alone}
use Rattle.handover_cli.proofs.agent_runner.run_alone.Goals as goal

pub do_commands-requires-clause-ready : goal.do_commands-requires-clause-ready
do_commands-requires-clause-ready c = record {
  agent = sym c.new-reach.ensures.agent;
  kernel = c.number.ensures ∙ sym (ap (λ (k : KernelValue). k.number) (c.new-reach.ensures.kernel ∙ c.take_labels-all.ensures.kernel));
  last = none_later _ _ _ _ c.new-reach.ensures.earlier c.new-reach.ensures.log (ap (λ (k : KernelValue). k.base) c.take_labels-all.ensures.kernel ∙ sym c.base.ensures.value);
}

pub returns-in-Ok : goal.returns-in-Ok
returns-in-Ok c =
    worked_alone c.args.kernel c.take_labels-all.new.self c.log-kernel.result.0 c.put_labels.new.self c.args.work.now
    (agent_of c.new-reach.result) (agent_of c.do_commands.new.reach) c.log-kernel.result.1.items _ _ _ _
    c.take_labels-all.ensures.kernel
    (ap anchor_of c.new-reach.ensures.kernel)
    (ap (λ (k : KernelValue). starts_in k.objects) c.new-reach.ensures.kernel)
    c.new-reach.ensures.told
    c.in-Ok.ensures.same
    c.in-Ok.ensures.told
    c.in-Ok.ensures.done
    c.as_slice.ensures
    c.log-kernel.ensures.anchor
    c.log-kernel.ensures.starts
    c.log-kernel.ensures.told
    c.log-kernel.ensures.runs
    c.log-kernel.ensures.entries
    c.log-kernel.ensures.log
    (at_same c.args.kernel c.args.work.now _ _ c.number.ensures c.base.ensures.value)
    (c.take-labels.ensures.labels ∙ ap (λ ls. slice_index_or ls c.args.work.now.agent.0 finmap.empty) c.take_labels-all.ensures.labels)
    (subst (λ n. c.args.work.now.agent.0 < n) (sym c.requires.lists) c.requires.agent)
    (labels_set c.args.kernel c.log-kernel.result.0 c.put_labels.new.self _ _ _ _ _ c.put_labels.ensures c.put.ensures c.take-labels.ensures.others c.take_labels-all.ensures.labels)
