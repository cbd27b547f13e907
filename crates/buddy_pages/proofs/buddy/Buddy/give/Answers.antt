use Rattle.std.proofs.Common.{◌≡◌, ◌+◌, ◌^◌, ◌≤◌, length, ap, sym, ◌∙◌, rules, arith}
use Rattle.buddy_pages.specs.Blocks.{free_frames}
use Rattle.buddy_pages.proofs.Covered.{length-free_frames}
use Rattle.buddy_pages.proofs.Low.{low_given}
use Rattle.buddy_pages.proofs.buddy.Buddy.give.Goals as goal

pub give_run-requires-clause-within : goal.give_run-requires-clause-within
give_run-requires-clause-within c =
    let v : free_frames c.self.inside.map ≡ c.args.self.now = c.self.view_is in
    let e : length c.self.inside.map ≡ length c.args.self.now = sym (length-free_frames c.self.inside.map) ∙ ap length v in
    omega arith

pub invariant_of-self : goal.invariant_of-self
invariant_of-self c =
    let e : length (free_frames c.self.inside.map) ≡ length c.args.self.now = ap length c.self.view_is in
    let fits : c.args.first.0 + 2 ^ c.args.order.0 ≤ length (free_frames c.self.inside.map) = omega (arith, c.requires.within) in
    let low : c.min-self-inside.result ≤ c.self.inside.low = search rules in
    let first : c.min-self-inside.result ≤ c.args.first.0 = search rules in (
      c.give_run.ensures.blocks,
      low_given (free_frames c.self.inside.map) (free_frames c.give_run.new.map) c.args.first.0 (2 ^ c.args.order.0) c.self.inside.low c.min-self-inside.result fits c.give_run.ensures.set
          low first c.self.invariant.1,
    )
