use Rattle.std.proofs.Common.{◌≡◌, ◌+◌, ◌*◌, ◌≤◌, length, replicate, vec_len, arith, refl, ◌∙◌}
use Rattle.file_folios.proofs.Writing.{wrote_none}
use Rattle.file_folios.proofs.Setting.{set_all, set_index, set_there, set_more}
use Rattle.file_folios.proofs.same_byte.set_range.Goals as goal

pub loop-done-init : goal.loop-done-init
loop-done-init c = (wrote_none c.args.home.now.value c.args.order c.args.piece c.args.off (replicate c.args.len c.args.byte) c.args.slots.now.items c.requires.slots, refl)

pub set_at-requires-clause-within : goal.set_at-requires-clause-within
set_at-requires-clause-within c =
    let long : length c.args.slots.now.items ≡ vec_len c.args.slots.now = omega (arith, c.args.slots.now.ok) in
    let fits : c.args.off + c.args.len ≤ length c.args.slots.now.items * c.args.piece = rw long c.requires.within in
    omega (
      arith,
      c.loop-done.slots.ok,
      set_index c.args.home.now.value c.args.order c.args.piece c.args.off c.args.len c.args.byte c.args.slots.now.items c.loop-done.done c.loop-done.slots.items
          c.requires.some c.requires.slots c.loop-done.invariant.0 c.requires.there fits c.loop-done-test.true,
    )

pub set_at-requires-clause-there : goal.set_at-requires-clause-there
set_at-requires-clause-there c =
    let long : length c.args.slots.now.items ≡ vec_len c.args.slots.now = omega (arith, c.args.slots.now.ok) in
    let fits : c.args.off + c.args.len ≤ length c.args.slots.now.items * c.args.piece = rw long c.requires.within in
    set_there c.args.home.now.value c.args.order c.args.piece c.args.off c.args.len c.args.byte c.args.slots.now.items c.loop-done.done c.loop-done.slots.items
    c.requires.some c.requires.slots c.loop-done.invariant.0 c.requires.there fits c.loop-done-test.true c.min-part.result c.min-part.ensures

pub loop-done-preserved : goal.loop-done-preserved
loop-done-preserved c =
    let long : length c.args.slots.now.items ≡ vec_len c.args.slots.now = omega (arith, c.args.slots.now.ok) in
    let fits : c.args.off + c.args.len ≤ length c.args.slots.now.items * c.args.piece = rw long c.requires.within in (
      set_more c.args.home.now.value c.args.order c.args.piece c.args.off c.args.len c.args.byte c.args.slots.now.items c.loop-done.done c.loop-done.slots.items
          c.requires.some c.requires.slots c.loop-done.invariant.0 c.requires.there fits c.loop-done-test.true c.min-part.result c.min-part.ensures c.set_at.new.slots.items c.set_at.ensures.value,
      c.set_at.ensures.capacity ∙ c.loop-done.invariant.1,
    )

pub returns-clause-bytes : goal.returns-clause-bytes
returns-clause-bytes c =
    set_all c.args.home.now.value c.args.order c.args.piece c.args.off c.args.len c.args.byte c.args.slots.now.items c.loop-done.done c.loop-done.slots.items c.loop-done.invariant.0 (omega arith)
