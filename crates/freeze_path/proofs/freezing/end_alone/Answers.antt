use Rattle.std.proofs.Common.{refl, ap, ◌∙◌}
use Rattle.machine_core.specs.Kernels.{KernelValue, starts_in}
use Rattle.machine_core.specs.Plain.{agent_of, anchor_of}
use Rattle.freeze_path.proofs.Reached.{Ran, begins_ready, ended_hands, ended_on, ended_still}
use Rattle.freeze_path.proofs.freezing.end_alone.Goals as goal

ran : (c : goal.After-put_labels) → Ran c.args.kernel c.take_labels-labels.new.self c.log-kernel.result.0 c.put_labels.new.self (agent_of c.new-reach.result) (agent_of c.end_first-done.new.reach) c.log-kernel.result.1.items c.take_labels-labels.result
ran c = record {
  emptied = c.take_labels-labels.ensures.kernel;
  labelled = c.take_labels-labels.ensures.labels;
  anchored = ap anchor_of c.new-reach.ensures.kernel;
  started = ap (λ (k : KernelValue). starts_in k.objects) c.new-reach.ensures.kernel;
  told = c.new-reach.ensures.told;
  empty = c.new-reach.ensures.log;
  anchor = c.log-kernel.ensures.anchor;
  starts = c.log-kernel.ensures.starts;
  told_now = c.log-kernel.ensures.told;
  runs = c.log-kernel.ensures.runs;
  entries = c.log-kernel.ensures.entries;
  log = c.log-kernel.ensures.log;
  filled = c.put_labels.ensures;
}

pub end_first-done-requires-clause-ready : goal.end_first-done-requires-clause-ready
end_first-done-requires-clause-ready c =
    begins_ready c.args.kernel c.take_labels-labels.new.self c.args.at (agent_of c.new-reach.result) c.args.at.agent.0 c.take_labels-labels.ensures.kernel (ap anchor_of c.new-reach.ensures.kernel) c.new-reach.ensures.log refl
    c.new-reach.ensures.agent c.requires.kernel c.requires.last c.new-reach.ensures.earlier

pub log-kernel-requires : goal.log-kernel-requires
log-kernel-requires c = record { free = ended_hands _ _ _ _ _ c.end_first-done.ensures ∙ c.new-reach.ensures.hands }

pub returns-clause-stays : goal.returns-clause-stays
returns-clause-stays c = ended_still _ _ _ _ _ _ _ _ _ _ _ (ran c) c.end_first-done.ensures

pub returns-clause-done : goal.returns-clause-done
returns-clause-done c = ended_on _ _ _ _ _ _ _ _ _ _ _ (ran c) c.end_first-done.ensures
