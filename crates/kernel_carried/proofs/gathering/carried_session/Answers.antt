use Rattle.std.proofs.Common.{refl}
use Rattle.kernel_carried.proofs.Carried.{session_so}
use Rattle.kernel_carried.proofs.gathering.carried_session.Goals as goal

pub returns : goal.returns
returns c = λ w agrees. session_so c.args.kernel.now.objects w _ _ _ _ agrees c.session.ensures.at c.files.ensures.content (c.in_ok-files.ensures w agrees) refl c.as_bytes-bytes.ensures.valid
