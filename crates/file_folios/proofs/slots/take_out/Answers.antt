use Rattle.std.proofs.Common.{◌<◌, length, ◌∙◌, arith}
use Rattle.file_folios.proofs.Cutting.{taking_more, next_fits, rest_fits, taken_runs, taken_given}
use Rattle.file_folios.proofs.slots.take_out.Goals as goal

pub take_one-requires-clause-runs_room : goal.take_one-requires-clause-runs_room
take_one-requires-clause-runs_room c =
    omega (
      arith,
      c.loop-at.invariant.1,
      next_fits c.args.from c.args.slots.now.items c.args.runs.now.items c.args.given.now.items c.loop-at.at c.loop-at.slots.items c.loop-at.runs.items c.loop-at.given.items
          c.loop-at.invariant.0 (omega (arith, c.loop-at.slots.ok, c.loop-at-test.true)),
    )

pub take_one-requires-clause-given_room : goal.take_one-requires-clause-given_room
take_one-requires-clause-given_room c =
    omega (
      arith,
      c.loop-at.invariant.2,
      next_fits c.args.from c.args.slots.now.items c.args.runs.now.items c.args.given.now.items c.loop-at.at c.loop-at.slots.items c.loop-at.runs.items c.loop-at.given.items
          c.loop-at.invariant.0 (omega (arith, c.loop-at.slots.ok, c.loop-at-test.true)),
    )

pub loop-at-preserved : goal.loop-at-preserved
loop-at-preserved c =
    let lt : c.loop-at.at < length c.loop-at.slots.items = omega (arith, c.loop-at.slots.ok, c.loop-at-test.true) in
    let rest = rest_fits c.args.from c.args.slots.now.items c.args.runs.now.items c.args.given.now.items c.loop-at.at c.loop-at.slots.items c.loop-at.runs.items c.loop-at.given.items c.loop-at.invariant.0 lt in (
      taking_more c.args.from c.args.slots.now.items c.args.runs.now.items c.args.given.now.items c.loop-at.at c.loop-at.slots.items c.loop-at.runs.items c.loop-at.given.items c.loop-at.invariant.0 lt
          c.take_one.new.slots.items c.take_one.new.runs.items c.take_one.new.given.items c.take_one.ensures.slots c.take_one.ensures.runs c.take_one.ensures.given,
      omega (arith, c.loop-at.invariant.1, rest, c.take_one.ensures.runs_len, c.take_one.ensures.runs_left),
      omega (arith, c.loop-at.invariant.2, rest, c.take_one.ensures.given_len, c.take_one.ensures.given_left),
      c.take_one.ensures.capacity ∙ c.loop-at.invariant.3,
    )

pub returns-clause-runs : goal.returns-clause-runs
returns-clause-runs c =
    taken_runs c.args.from c.args.slots.now.items c.args.runs.now.items c.args.given.now.items c.loop-at.at c.loop-at.slots.items c.loop-at.runs.items c.loop-at.given.items c.loop-at.invariant.0 (omega (arith, c.loop-at.slots.ok, c.loop-at-test.false))

pub returns-clause-given : goal.returns-clause-given
returns-clause-given c =
    taken_given c.args.from c.args.slots.now.items c.args.runs.now.items c.args.given.now.items c.loop-at.at c.loop-at.slots.items c.loop-at.runs.items c.loop-at.given.items c.loop-at.invariant.0 (omega (arith, c.loop-at.slots.ok, c.loop-at-test.false))
