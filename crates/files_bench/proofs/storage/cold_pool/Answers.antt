use Rattle.std.proofs.Common.{subst, sym}
use Rattle.phys_frames.specs.Memory.{Memory, AllHome}
use Rattle.files_bench.specs.declared.storage.TheConstants.{FRAMES}
use Rattle.files_bench.proofs.Fills.{new_home}
use Rattle.files_bench.proofs.storage.cold_pool.Goals as goal

pub new-requires-clause-home : goal.new-requires-clause-home
new-requires-clause-home c = new_home FRAMES _ c.in-Ok-zeroed.ensures.pages

pub end-requires : goal.end-requires
end-requires c = subst (λ (m : Memory). AllHome m) (sym c.in-Err.ensures.kept) (new_home FRAMES _ c.in-Ok-zeroed.ensures.pages)
