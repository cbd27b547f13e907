use Rattle.std.proofs.Common.{ℕ, refl, ap, ◌∙◌, arith}
use Rattle.std.specs.Prelude.{Option}
use Rattle.ho_base.specs.Objects.{pool_no}
use Rattle.ho_world.specs.Logs.{Known}
use Rattle.machine_core.specs.Kernels.{KernelValue, starts_in}
use Rattle.machine_core.specs.Plain.{agent_of, anchor_of}
use Rattle.freeze_path.proofs.Reached.{Ran, begins_ready, hands_stay, told_early, took_on, took_still}
use Rattle.freeze_path.proofs.freezing.take_all.Goals as goal

ran : (c : goal.After-put_labels) → Ran c.args.kernel c.take_labels-labels.new.self c.log-kernel.result.0 c.put_labels.new.self (agent_of c.new-reach.result) (agent_of c.take_frames-took.new.reach) c.log-kernel.result.1.items c.take_labels-labels.result
ran c = record {
  emptied = c.take_labels-labels.ensures.kernel;
  labelled = c.take_labels-labels.ensures.labels;
  anchored = ap anchor_of c.new-reach.ensures.kernel;
  started = ap (λ (k : KernelValue). starts_in k.objects) c.new-reach.ensures.kernel;
  told = c.new-reach.ensures.told;
  empty = c.new-reach.ensures.log;
  anchor = c.log-kernel.ensures.anchor;
  starts = c.log-kernel.ensures.starts;
  told_now = c.log-kernel.ensures.told;
  runs = c.log-kernel.ensures.runs;
  entries = c.log-kernel.ensures.entries;
  log = c.log-kernel.ensures.log;
  filled = c.put_labels.ensures;
}

pub take_frames-took-requires-clause-ready : goal.take_frames-took-requires-clause-ready
take_frames-took-requires-clause-ready c =
    begins_ready c.args.kernel c.take_labels-labels.new.self c.args.at (agent_of c.new-reach.result) c.args.at.agent.0 c.take_labels-labels.ensures.kernel (ap anchor_of c.new-reach.ensures.kernel) c.new-reach.ensures.log refl
    c.new-reach.ensures.agent c.requires.kernel c.requires.last c.new-reach.ensures.earlier

pub take_frames-took-requires-clause-free : goal.take_frames-took-requires-clause-free
take_frames-took-requires-clause-free c = ap (λ (hands : ℕ → Option Known). hands pool_no) c.new-reach.ensures.hands

pub take_frames-took-requires-clause-early : goal.take_frames-took-requires-clause-early
take_frames-took-requires-clause-early c = omega (arith, c.requires.early, c.requires.last)

pub take_frames-took-requires-clause-told : goal.take_frames-took-requires-clause-told
take_frames-took-requires-clause-told c =
    told_early c.args.kernel c.take_labels-labels.new.self c.base-base.result (agent_of c.new-reach.result).told c.take_labels-labels.ensures.kernel c.new-reach.ensures.told c.base-base.ensures.value c.base-base.ensures.greatest c.requires.early

pub log-kernel-requires : goal.log-kernel-requires
log-kernel-requires c = record { free = hands_stay _ _ _ _ _ c.take_frames-took.ensures.took ∙ c.new-reach.ensures.hands }

pub returns-clause-stays : goal.returns-clause-stays
returns-clause-stays c = took_still _ _ _ _ _ _ _ _ _ _ _ (ran c) c.take_frames-took.ensures.took

pub returns-clause-took : goal.returns-clause-took
returns-clause-took c = took_on _ _ _ _ _ _ _ _ _ _ _ (ran c) c.take_frames-took.ensures.took
