use Rattle.std.proofs.Common.{arith}
use Rattle.kho_records.proofs.Found.{found_none, found_some, right_is, right_more}
use Rattle.kho_records.proofs.Tables.{read_is}
use Rattle.kho_records.proofs.owners.owned.first_ill_frame.Goals as goal

pub returns-then-not-is_right : goal.returns-then-not-is_right
returns-then-not-is_right c = λ k shape chain users.
    found_some k c.args.shape.now c.args.users.now c.args.chunks.now shape chain users c.args.count c.loop-p.p c.loop-p.invariant c.loop-p-test.true
    (right_is c.args.users.now c.args.shape.now.scratch c.args.chunks.now c.loop-p.p c.index.result.now c.marked_owner.result c.is_right.result _ (read_is c.in_ok-owners.owners.items c.loop-p.p c.index.result.now _ (omega (arith, c.loop-p-test.true, c.in_ok-owners.ensures.long)) c.index.ensures (c.in_ok-owners.ensures.owners c.loop-p.p c.loop-p-test.true)) c.marked_owner.ensures c.is_right.ensures c.if-not-is_right.true)

pub loop-p-preserved : goal.loop-p-preserved
loop-p-preserved c =
    right_more c.args.users.now c.args.shape.now.scratch c.args.chunks.now c.loop-p.p c.loop-p.invariant
    (right_is c.args.users.now c.args.shape.now.scratch c.args.chunks.now c.loop-p.p c.index.result.now c.marked_owner.result c.is_right.result _ (read_is c.in_ok-owners.owners.items c.loop-p.p c.index.result.now _ (omega (arith, c.loop-p-test.true, c.in_ok-owners.ensures.long)) c.index.ensures (c.in_ok-owners.ensures.owners c.loop-p.p c.loop-p-test.true)) c.marked_owner.ensures c.is_right.ensures c.if-not-is_right.false)

pub returns : goal.returns
returns c = λ k shape chain users.
    found_none k c.args.shape.now c.args.users.now c.args.chunks.now shape chain users c.args.count c.loop-p.p c.loop-p.invariant (omega (arith, c.loop-p-test.false))
