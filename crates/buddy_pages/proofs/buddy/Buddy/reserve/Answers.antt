use Rattle.std.proofs.Common.{◌≡◌, true, List, Bool, subst, sym}
use Rattle.buddy_pages.specs.Blocks.{free_frames}
use Rattle.buddy_pages.specs.FreeFrames.{is_free_run}
use Rattle.buddy_pages.proofs.Low.{low_taken}
use Rattle.buddy_pages.proofs.buddy.Buddy.reserve.Goals as goal

pub invariant_of-self : goal.invariant_of-self
invariant_of-self c =
    let run : is_free_run (free_frames c.self.inside.map) c.args.order.0 c.args.first.0 ≡ true =
    subst (λ (z : List Bool). is_free_run z c.args.order.0 c.args.first.0 ≡ true) (sym c.self.view_is) c.requires.run in (
      c.take_run.ensures.blocks,
      low_taken (free_frames c.self.inside.map) (free_frames c.take_run.new.map) c.args.order.0 c.args.first.0 c.self.inside.low run c.take_run.ensures.set c.self.invariant.1,
    )
