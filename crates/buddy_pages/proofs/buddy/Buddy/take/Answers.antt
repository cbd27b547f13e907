use Rattle.buddy_pages.specs.Blocks.{free_frames}
use Rattle.buddy_pages.specs.FreeFrames.{appended}
use Rattle.buddy_pages.proofs.Low.{low_runs, low_all_taken}
use Rattle.buddy_pages.proofs.buddy.Buddy.take.Goals as goal

pub take_runs-end-requires-clause-none : goal.take_runs-end-requires-clause-none
take_runs-end-requires-clause-none c =
    low_runs (free_frames c.self.inside.map) c.args.order.0 c.self.inside.low c.start_of-from.result c.start_of-from.ensures c.self.invariant.1

pub invariant_of-self-else-order-eq0 : goal.invariant_of-self-else-order-eq0
invariant_of-self-else-order-eq0 c = (
  c.take_runs-end.ensures.blocks,
  low_all_taken (free_frames c.self.inside.map) (free_frames c.take_runs-end.new.map) c.args.order.0 (appended c.args.out.now.items c.take_runs-end.new.out.items) c.self.inside.low
      c.take_runs-end.ensures.free c.take_runs-end.ensures.set c.self.invariant.1,
)
