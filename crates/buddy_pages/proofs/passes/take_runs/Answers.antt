use Rattle.std.proofs.Common.{◌≡◌, ◌+◌, ◌^◌, ◌<◌, ◌≤◌, ◌∷◌, ◌++◌, [], refl, length, rules, arith}
use Rattle.buddy_pages.specs.Blocks.{free_frames}
use Rattle.buddy_pages.proofs.Frames.{IsRun-from}
use Rattle.buddy_pages.proofs.Covered.{length-free_frames}
use Rattle.buddy_pages.proofs.Runs.{run_begins, run_fits}
use Rattle.buddy_pages.proofs.Collect.{collects_begins, collects_goes_on}
use Rattle.buddy_pages.proofs.passes.take_runs.Goals as goal

pub loop-init : goal.loop-init
loop-init c = record {
  collects = collects_begins c.args.map.now c.args.order c.args.from c.args.out.now.items c.requires.blocks c.requires.aligned c.requires.none;
  room = search rules;
  capacity = search rules;
}

pub next_run-first-requires-clause-some : goal.next_run-first-requires-clause-some
next_run-first-requires-clause-some c = omega (arith, c.loop.invariant.collects.runs.left, c.requires.enough)

pub overflow_cast-first : goal.overflow_cast-first
overflow_cast-first c =
    let below : c.next_run-first.result < length (free_frames c.loop.map) =
    run_begins (free_frames c.loop.map) c.args.order c.next_run-first.result (IsRun-from (free_frames c.loop.map) c.args.order c.next_run-first.result c.next_run-first.ensures.run) in
    let few : c.next_run-first.result < 2 ^ 32 = omega (arith, length-free_frames c.loop.map, c.loop.invariant.collects.runs.blocks.few) in
    search rules

pub overflow_add-at : goal.overflow_add-at
overflow_add-at c =
    let fits : c.next_run-first.result + 2 ^ c.args.order ≤ length (free_frames c.loop.map) =
    run_fits (free_frames c.loop.map) c.args.order c.next_run-first.result (IsRun-from (free_frames c.loop.map) c.args.order c.next_run-first.result c.next_run-first.ensures.run) in
    let few : c.next_run-first.result + c.run_len.result < 2 ^ 33 = omega (arith, length-free_frames c.loop.map, c.loop.invariant.collects.runs.blocks.few, c.run_len.ensures) in
    search rules

pub loop-preserved : goal.loop-preserved
loop-preserved c =
    let more : c.push.new.self.items ≡ c.loop.out.items ++ record { 0 = c.next_run-first.result } ∷ [] = search rules in
    record {
      collects = collects_goes_on c.args.map.now c.loop.map c.take_run.new.map c.args.order c.loop.counter c.loop.at (c.next_run-first.result + c.run_len.result) c.next_run-first.result
          c.run_len.result c.args.out.now.items c.loop.out.items c.push.new.self.items (record { 0 = c.next_run-first.result }) c.loop.invariant.collects
          c.next_run-first.ensures.run c.next_run-first.ensures.none c.next_run-first.ensures.from c.take_run.ensures.blocks c.take_run.ensures.frames c.take_run.ensures.set
          c.run_len.ensures refl refl more;
      room = search rules;
      capacity = search rules;
    }
