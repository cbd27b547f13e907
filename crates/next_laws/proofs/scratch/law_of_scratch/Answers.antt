use Rattle.next_laws.proofs.Stays.{scratch_is_free}
use Rattle.next_laws.proofs.scratch.law_of_scratch.Goals as goal

pub returns : goal.returns
returns c = scratch_is_free
