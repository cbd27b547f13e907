use Rattle.std.proofs.Common.{◌∙◌, sym, arith}
use Rattle.pool_core.proofs.PoolAsking.{none_pinned_yet, none_pinned_more, found_pinned, found_none}
use Rattle.pool_core.proofs.frames.pool.PoolFrames.pinned.Goals as goal

pub loop-i-init : goal.loop-i-init
loop-i-init c = none_pinned_yet c.args.self.now.state.pinned c.args.first.0

pub loop-i-preserved : goal.loop-i-preserved
loop-i-preserved c = none_pinned_more c.args.self.now.state.pinned c.args.first.0 c.loop-i.i c.loop-i.invariant (sym c.pins.ensures ∙ c.if-pins.false)

pub returns-then-pins : goal.returns-then-pins
returns-then-pins c =
    found_pinned c.args.self.now.state.pinned c.args.first.0 c.loop-i.i c.args.order.0 c.run_len-i-end.result c.run_len-i-end.ensures.value c.loop-i-test.true (sym c.pins.ensures ∙ c.if-pins.true)

pub returns : goal.returns
returns c =
    found_none c.args.self.now.state.pinned c.args.first.0 c.args.order.0 c.loop-i.i (omega (arith, c.loop-i-test.false, c.loop-i.auto.i-end, c.run_len-i-end.ensures.value, c.run_len-i-end.ensures.few)) c.loop-i.invariant
