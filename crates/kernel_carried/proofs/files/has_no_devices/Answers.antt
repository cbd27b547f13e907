use Rattle.kernel_carried.proofs.Survey.{no_devices}
use Rattle.kernel_carried.proofs.files.has_no_devices.Goals as goal

pub returns-clause-devices : goal.returns-clause-devices
returns-clause-devices c = λ w agrees. no_devices w c.args.kernel.now.objects c.are_memfds.ensures agrees (c.list_files.ensures w agrees)
