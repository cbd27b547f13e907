use Rattle.std.proofs.Common.{◌∷◌, [], ◌∙◌, ap}
use Rattle.pool_core.specs.PoolFramesValues.{with_disowned}
use Rattle.pool_core.proofs.PoolHeld.{run_below}
use Rattle.pool_core.proofs.PoolTaken.{given_value}
use Rattle.pool_core.proofs.PoolPasses.{run_tag_of, unmarked_of, can_free, given_keeps}
use Rattle.pool_core.proofs.frames.pool.PoolFrames.give_one.Goals as goal

pub take_back-requires-clause-owned : goal.take_back-requires-clause-owned
take_back-requires-clause-owned c =
    run_tag_of c.self.inside.table c.self.inside.marks.runs c.args.self.now c.args.folio.order.0 c.args.folio.first.0 c.self.view_is c.requires.owned

pub give-requires-clause-within : goal.give-requires-clause-within
give-requires-clause-within c =
    (can_free c.self.inside.table c.self.inside.buddy c.self.inside.marks c.args.folio.first c.first-first.result c.args.folio.order c.order-order.result c.first-first.ensures.value c.order-order.ensures.value c.self.invariant (run_tag_of c.self.inside.table c.self.inside.marks.runs c.args.self.now c.args.folio.order.0 c.args.folio.first.0 c.self.view_is c.requires.owned)).within

pub give-requires-clause-later : goal.give-requires-clause-later
give-requires-clause-later c =
    (can_free c.self.inside.table c.self.inside.buddy c.self.inside.marks c.args.folio.first c.first-first.result c.args.folio.order c.order-order.result c.first-first.ensures.value c.order-order.ensures.value c.self.invariant (run_tag_of c.self.inside.table c.self.inside.marks.runs c.args.self.now c.args.folio.order.0 c.args.folio.first.0 c.self.view_is c.requires.owned)).later

pub give-requires-clause-taken : goal.give-requires-clause-taken
give-requires-clause-taken c =
    (can_free c.self.inside.table c.self.inside.buddy c.self.inside.marks c.args.folio.first c.first-first.result c.args.folio.order c.order-order.result c.first-first.ensures.value c.order-order.ensures.value c.self.invariant (run_tag_of c.self.inside.table c.self.inside.marks.runs c.args.self.now c.args.folio.order.0 c.args.folio.first.0 c.self.view_is c.requires.owned)).taken

pub invariant_of-self : goal.invariant_of-self
invariant_of-self c =
    given_keeps c.self.inside.table c.take_back.new.self c.self.inside.buddy c.give.new.self c.self.inside.marks c.args.folio.first c.first-first.result c.args.folio.order c.order-order.result
    c.first-first.ensures.value c.order-order.ensures.value c.self.invariant (run_tag_of c.self.inside.table c.self.inside.marks.runs c.args.self.now c.args.folio.order.0 c.args.folio.first.0 c.self.view_is c.requires.owned)
    (unmarked_of c.self.inside.table c.self.inside.buddy c.self.inside.marks c.args.self.now c.args.folio.order.0 c.args.folio.first.0 c.self.invariant c.self.view_is (run_tag_of c.self.inside.table c.self.inside.marks.runs c.args.self.now c.args.folio.order.0 c.args.folio.first.0 c.self.view_is c.requires.owned) c.requires.unpinned)
    c.take_back.ensures c.give.ensures

pub returns : goal.returns
returns c =
    given_value c.self.inside.table c.take_back.new.self c.self.inside.marks.runs c.args.folio.first
    (run_below c.self.inside.table.tags c.args.folio.first.0 c.args.folio.order.0 (run_tag_of c.self.inside.table c.self.inside.marks.runs c.args.self.now c.args.folio.order.0 c.args.folio.first.0 c.self.view_is c.requires.owned))
    c.take_back.ensures
    ∙ ap (with_disowned (c.args.folio.first ∷ [])) c.self.view_is
