use Rattle.std.proofs.Common.{◌≡◌, ◌^◌, ◌<◌, List, ℕ, replicate, subst, sym, rules, arith}
use Rattle.buddy_pages.proofs.Fill.{Filling, filling_begins, filling_taken, filling_goes_on, filling_ends}
use Rattle.buddy_pages.proofs.passes.all_but_first_free.Goals as goal

pub loop-frame-init : goal.loop-frame-init
loop-frame-init c =
    let few : c.args.frames < 2 ^ 32 = search rules in
    let is : c.in_ok-map.map ≡ replicate c.args.frames 0 = search rules in
    subst (λ (z : List ℕ). Filling c.args.frames z 1) (sym is) (filling_begins c.args.frames few)

pub give_run-requires-clause-taken : goal.give_run-requires-clause-taken
give_run-requires-clause-taken c = filling_taken c.args.frames c.loop-frame.map c.loop-frame.frame c.loop-frame.invariant

pub loop-frame-preserved : goal.loop-frame-preserved
loop-frame-preserved c =
    filling_goes_on c.args.frames c.loop-frame.map c.give_run.new.map c.loop-frame.frame c.loop-frame.invariant (omega arith) (omega arith)
    c.give_run.ensures.blocks c.give_run.ensures.frames c.give_run.ensures.set

pub returns-clause-set : goal.returns-clause-set
returns-clause-set c = filling_ends c.args.frames c.loop-frame.map c.loop-frame.frame c.loop-frame.invariant (omega arith)
