use Rattle.std.proofs.Common.{◌≡◌, length, arith}
use Rattle.kexec_boot.proofs.HeldSteps.{moved_front, moved_rest}
use Rattle.kexec_boot.proofs.holding.next_folios.Goals as goal

pub returns-clause-taken : goal.returns-clause-taken
returns-clause-taken c =
    let all : length c.loop-folios.list.items ≡ c.args.count = omega (arith, c.loop-folios.invariant.1, c.len.ensures, c.loop-folios.list.ok.0, c.loop-folios-test.false) in
    moved_front c.args.folios.now.items c.loop-folios.list.items c.loop-folios.folios.items c.args.count c.loop-folios.invariant.0 all

pub returns-clause-rest : goal.returns-clause-rest
returns-clause-rest c =
    let all : length c.loop-folios.list.items ≡ c.args.count = omega (arith, c.loop-folios.invariant.1, c.len.ensures, c.loop-folios.list.ok.0, c.loop-folios-test.false) in
    moved_rest c.args.folios.now.items c.loop-folios.list.items c.loop-folios.folios.items c.args.count c.loop-folios.invariant.0 all
