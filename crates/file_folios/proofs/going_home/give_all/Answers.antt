use Rattle.std.proofs.Common.{◌<◌, ◌≤◌, length, vec_len, arith}
use Rattle.file_folios.proofs.Giving.{giving_begins, giving_fits, giving_more, given_all, given_out, given_places}
use Rattle.file_folios.proofs.going_home.give_all.Goals as goal

pub loop-at-init : goal.loop-at-init
loop-at-init c = giving_begins c.args.frames.now c.args.slots.now.items

pub give_one-requires-clause-of_home : goal.give_one-requires-clause-of_home
give_one-requires-clause-of_home c =
    let lt : c.loop-at.at < length c.loop-at.slots.items = omega (arith, c.loop-at.slots.ok, c.loop-at-test.true) in
    giving_fits c.args.frames.now c.args.slots.now.items c.loop-at.at c.loop-at.slots.items c.loop-at.frames c.loop-at.invariant lt c.args.home.now.value c.args.order c.args.piece c.requires.slots c.requires.home

pub loop-at-preserved : goal.loop-at-preserved
loop-at-preserved c =
    let lt : c.loop-at.at < length c.loop-at.slots.items = omega (arith, c.loop-at.slots.ok, c.loop-at-test.true) in
    giving_more c.args.frames.now c.args.slots.now.items c.loop-at.at c.loop-at.slots.items c.loop-at.frames c.loop-at.invariant lt c.give_one.new.slots.items c.give_one.new.frames c.give_one.ensures.slots c.give_one.ensures.frames c.give_one.ensures.were_out

pub pop_holes-requires-clause-holes : goal.pop_holes-requires-clause-holes
pop_holes-requires-clause-holes c =
    let done : length c.loop-at.slots.items ≤ c.loop-at.at = omega (arith, c.loop-at.slots.ok, c.loop-at-test.false) in
    given_places c.args.frames.now c.args.slots.now.items c.loop-at.at c.loop-at.slots.items c.loop-at.frames c.loop-at.invariant done (vec_len c.loop-at.slots) (omega (arith, c.loop-at.slots.ok))

pub returns-clause-frames : goal.returns-clause-frames
returns-clause-frames c =
    let done : length c.loop-at.slots.items ≤ c.loop-at.at = omega (arith, c.loop-at.slots.ok, c.loop-at-test.false) in
    given_all c.args.frames.now c.args.slots.now.items c.loop-at.at c.loop-at.slots.items c.loop-at.frames c.loop-at.invariant done

pub returns-clause-were_out : goal.returns-clause-were_out
returns-clause-were_out c =
    let done : length c.loop-at.slots.items ≤ c.loop-at.at = omega (arith, c.loop-at.slots.ok, c.loop-at-test.false) in
    given_out c.args.frames.now c.args.slots.now.items c.loop-at.at c.loop-at.slots.items c.loop-at.frames c.loop-at.invariant done
