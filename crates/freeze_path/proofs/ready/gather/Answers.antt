use Rattle.std.specs.Prelude.{IsTrue}
use Rattle.std.proofs.lemmas.Result.{IfOk-weaker}
use Rattle.kho_laws.specs.Carrying.{can_be_carried}
use Rattle.kernel_carried.specs.Gathered.{IsGathered}
use Rattle.freeze_path.proofs.SoundKernel.{can, have_slots}
use Rattle.freeze_path.proofs.ready.gather.Goals as goal

pub carried_of-requires : goal.carried_of-requires
carried_of-requires c = record { slots = have_slots c.args.kernel.now c.requires.sound }

pub returns-clause-can : goal.returns-clause-can
returns-clause-can c =
    IfOk-weaker c.carried_of.result (IsGathered c.args.kernel.now) (λ x. IsTrue (can_be_carried x)) (λ x g. can c.args.kernel.now c.requires.sound c.has_pool.ensures x g c.carried_is_fit.ensures) c.carried_of.ensures
