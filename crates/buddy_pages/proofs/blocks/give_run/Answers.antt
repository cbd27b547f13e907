use Rattle.std.proofs.Common.{◌≡◌, ◌+◌, ◌^◌, ◌<◌, get_or, subst, sym, ap, ◌∙◌, rules}
use Rattle.std.proofs.lemmas.Bool.{iff_false}
use Rattle.std.specs.Int.Bits.{bit_xor}
use Rattle.buddy_pages.specs.Blocks.{AreBlocks, free_frames}
use Rattle.buddy_pages.proofs.Give.{giving_begins, giving_goes_on, given_blocks, given_set, given_none}
use Rattle.buddy_pages.proofs.blocks.give_run.Goals as goal

pub loop-buddy-init : goal.loop-buddy-init
loop-buddy-init c =
    giving_begins c.args.map.now c.args.first c.args.order c.requires.blocks c.requires.order c.requires.aligned c.requires.within c.requires.later c.requires.taken

pub loop-buddy-preserved : goal.loop-buddy-preserved
loop-buddy-preserved c =
    let lt : c.loop-buddy.size < 9 = search rules in
    let t : get_or c.loop-buddy.map (bit_xor c.loop-buddy.start (2 ^ c.loop-buddy.size)) 0 ≡ c.loop-buddy.size + 1 = search rules in
    giving_goes_on c.args.map.now c.loop-buddy.map c.clear.new.self c.args.first c.args.order c.loop-buddy.start c.loop-buddy.size c.buddy_of-buddy.result c.min-start.result
    c.loop-buddy.invariant lt t c.buddy_of-buddy.ensures c.clear.ensures c.min-start.ensures

pub put-requires-clause-none : goal.put-requires-clause-none
put-requires-clause-none c =
    given_none c.args.map.now c.loop-buddy.map c.args.first c.args.order c.loop-buddy.start c.loop-buddy.size c.loop-buddy.invariant (λ a b. iff_false c.has_free_buddy.ensures c.loop-buddy-test.false (a, b))

pub returns-clause-blocks : goal.returns-clause-blocks
returns-clause-blocks c =
    subst AreBlocks (sym c.put.ensures) (given_blocks c.args.map.now c.loop-buddy.map c.args.first c.args.order c.loop-buddy.start c.loop-buddy.size c.loop-buddy.invariant (λ a b. iff_false c.has_free_buddy.ensures c.loop-buddy-test.false (a, b)))

pub returns-clause-set : goal.returns-clause-set
returns-clause-set c =
    ap free_frames c.put.ensures ∙ given_set c.args.map.now c.loop-buddy.map c.args.first c.args.order c.loop-buddy.start c.loop-buddy.size c.loop-buddy.invariant (λ a b. iff_false c.has_free_buddy.ensures c.loop-buddy-test.false (a, b))
