use Rattle.std.proofs.Common.{◌+◌, length, sym, ap, ◌∙◌, arith}
use Rattle.std.proofs.lemmas.List.{length_push}
use Rattle.record_frames.proofs.ListFronts.{read_none, read_more, read_all}
use Rattle.record_frames.proofs.lists.runs_in.Goals as goal

pub returns-then-not-is_run-clause-kept : goal.returns-then-not-is_run-clause-kept
returns-then-not-is_run-clause-kept c =
    read_none c.args.frames c.args.order c.args.count c.loop-i.i c.get_u64-first.result c.args.bytes.now c.loop-i.runs.items c.loop-i.invariant.read c.loop-i-test.true
    c.get_u64-first.ensures (sym c.is_run.ensures.exact ∙ c.if-not-is_run.true)

pub loop-i-preserved : goal.loop-i-preserved
loop-i-preserved c = record {
  read = read_more c.args.frames c.args.order c.args.count c.loop-i.i c.get_u64-first.result c.args.bytes.now c.loop-i.runs.items c.push.new.self.items c.loop-i.invariant.read
      c.loop-i-test.true c.get_u64-first.ensures (sym c.is_run.ensures.exact ∙ c.if-not-is_run.false) c.in_ok-push.ensures.items;
  long = ap length c.in_ok-push.ensures.items ∙ length_push c.loop-i.runs.items (record { 0 = c.get_u64-first.result }) ∙ ap (λ n. n + 1) c.loop-i.invariant.long;
}

pub returns-clause-kept : goal.returns-clause-kept
returns-clause-kept c =
    read_all c.args.frames c.args.order c.args.count c.loop-i.i c.args.bytes.now c.loop-i.runs.items c.loop-i.invariant.read (omega (arith, c.loop-i-test.false, c.loop-i.auto.i-end))
