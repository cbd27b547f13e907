use Rattle.std.proofs.Common.{ap}
use Rattle.machine_core.specs.Kernels.{KernelValue, starts_in}
use Rattle.machine_core.specs.Plain.{agent_of, anchor_of}
use Rattle.freeze_path.proofs.Reached.{Ran, no_entries, nothing_done, untouched_still}
use Rattle.freeze_path.proofs.freezing.untouched.Goals as goal

ran : (c : goal.After-put_labels) → Ran c.args.kernel c.take_labels-labels.new.self c.log-kernel.result.0 c.put_labels.new.self (agent_of c.new-reach.result) (agent_of c.new-reach.result) c.log-kernel.result.1.items c.take_labels-labels.result
ran c = record {
  emptied = c.take_labels-labels.ensures.kernel;
  labelled = c.take_labels-labels.ensures.labels;
  anchored = ap anchor_of c.new-reach.ensures.kernel;
  started = ap (λ (k : KernelValue). starts_in k.objects) c.new-reach.ensures.kernel;
  told = c.new-reach.ensures.told;
  empty = c.new-reach.ensures.log;
  anchor = c.log-kernel.ensures.anchor;
  starts = c.log-kernel.ensures.starts;
  told_now = c.log-kernel.ensures.told;
  runs = c.log-kernel.ensures.runs;
  entries = c.log-kernel.ensures.entries;
  log = c.log-kernel.ensures.log;
  filled = c.put_labels.ensures;
}

pub returns-clause-stays : goal.returns-clause-stays
returns-clause-stays c = untouched_still _ _ _ _ _ _ _ (record { kernel = 0; agent = record { 0 = 0 }; command = 0; last = 0 }) (ran c)

pub returns-clause-entries : goal.returns-clause-entries
returns-clause-entries c =
    no_entries (agent_of c.new-reach.result) (agent_of c.new-reach.result) (record { kernel = 0; agent = record { 0 = 0 }; command = 0; last = 0 }) (record { kernel = 0; agent = record { 0 = 0 }; command = 0; last = 0 })
    c.log-kernel.result.1.items c.new-reach.ensures.log (nothing_done _ (agent_of c.new-reach.result)) c.log-kernel.ensures.entries
