use Rattle.std.proofs.Common.{refl, arith}
use Rattle.kexec_boot.proofs.HeldSteps.{holding_more, of_left_over}
use Rattle.kexec_boot.proofs.holding.hold_all.Goals as goal

pub hold_next-requires-clause-of_home : goal.hold_next-requires-clause-of_home
hold_next-requires-clause-of_home c =
    of_left_over c.args.pool.now.home c.args.files.now c.args.store.now.folios.items c.loop-file.file-index c.loop-file.store.files.items c.loop-file.store.folios.items c.loop-file.invariant.0

pub loop-file-preserved : goal.loop-file-preserved
loop-file-preserved c = (
  holding_more c.args.pool.now.home c.args.files.now c.args.store.now.folios.items c.loop-file.file-index _ _ c.loop-file.store.files.items c.loop-file.store.folios.items c.loop-file.invariant.0 c.loop-file-test.true refl
      c.hold_next.new.store.files.items c.hold_next.new.store.folios.items c.hold_next.ensures.held
      (let count = c.in_ok-hold_next.ensures.count in omega (arith, count, c.hold_next.new.store.files.ok.0, c.loop-file.store.files.ok.0)) c.in_ok-hold_next.ensures.start c.in_ok-hold_next.ensures.rest,
  (let room = c.hold_next.ensures.room in let before = c.loop-file.invariant.1 in omega (arith, room, before)),
)
