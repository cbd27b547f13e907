use Rattle.std.proofs.Common.{◌≡◌, ◌+◌, ◌*◌, ◌≤◌, length, vec_len, arith, refl, ◌∙◌}
use Rattle.file_folios.proofs.Writing.{wrote_none, wrote_all, index_there, next_there, next_more}
use Rattle.file_folios.proofs.slots.write_range.Goals as goal

pub loop-done-init : goal.loop-done-init
loop-done-init c = (wrote_none c.args.home.now.value c.args.order c.args.piece c.args.off c.args.bytes.now c.args.slots.now.items c.requires.slots, refl)

pub put-requires-clause-within : goal.put-requires-clause-within
put-requires-clause-within c =
    let long : length c.args.slots.now.items ≡ vec_len c.args.slots.now = omega (arith, c.args.slots.now.ok) in
    let fits : c.args.off + length c.args.bytes.now ≤ length c.args.slots.now.items * c.args.piece = rw long c.requires.within in
    omega (
      arith,
      c.loop-done.slots.ok,
      index_there c.args.home.now.value c.args.order c.args.piece c.args.off c.args.bytes.now c.args.slots.now.items c.loop-done.done c.loop-done.slots.items
          c.requires.some c.requires.slots c.loop-done.invariant.0 c.requires.there fits c.loop-done-test.true,
    )

pub put-requires-clause-there : goal.put-requires-clause-there
put-requires-clause-there c =
    let long : length c.args.slots.now.items ≡ vec_len c.args.slots.now = omega (arith, c.args.slots.now.ok) in
    let fits : c.args.off + length c.args.bytes.now ≤ length c.args.slots.now.items * c.args.piece = rw long c.requires.within in
    next_there c.args.home.now.value c.args.order c.args.piece c.args.off c.args.bytes.now c.args.slots.now.items c.loop-done.done c.loop-done.slots.items
    c.requires.some c.requires.slots c.loop-done.invariant.0 c.requires.there fits c.loop-done-test.true c.min-part.result c.min-part.ensures

pub loop-done-preserved : goal.loop-done-preserved
loop-done-preserved c =
    let long : length c.args.slots.now.items ≡ vec_len c.args.slots.now = omega (arith, c.args.slots.now.ok) in
    let fits : c.args.off + length c.args.bytes.now ≤ length c.args.slots.now.items * c.args.piece = rw long c.requires.within in (
      next_more c.args.home.now.value c.args.order c.args.piece c.args.off c.args.bytes.now c.args.slots.now.items c.loop-done.done c.loop-done.slots.items
          c.requires.some c.requires.slots c.loop-done.invariant.0 c.requires.there fits c.loop-done-test.true c.min-part.result c.min-part.ensures c.put.new.slots.items c.put.ensures.value,
      c.put.ensures.capacity ∙ c.loop-done.invariant.1,
    )

pub returns-clause-bytes : goal.returns-clause-bytes
returns-clause-bytes c =
    wrote_all c.args.home.now.value c.args.order c.args.piece c.args.off c.args.bytes.now c.args.slots.now.items c.loop-done.done c.loop-done.slots.items c.loop-done.invariant.0 (omega arith)
