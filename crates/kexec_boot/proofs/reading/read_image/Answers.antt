use Rattle.record_frames.specs.Sheeted.{ram_of}
use Rattle.kexec_boot.proofs.BootReads.{read_memfds, unbuilt}
use Rattle.kexec_boot.proofs.reading.read_image.Goals as goal

pub returns-in-Ok-clause-memfds : goal.returns-in-Ok-clause-memfds
returns-in-Ok-clause-memfds c = read_memfds (ram_of c.args.frames.now) c.in-Ok.carried c.built.result c.built.ensures.same c.built.ensures.memfds

pub returns-in-Ok-clause-refused : goal.returns-in-Ok-clause-refused
returns-in-Ok-clause-refused c = unbuilt (ram_of c.args.frames.now) c.args.entry c.in-Ok.carried c.built.result c.in-Ok.ensures.carries c.built.ensures.refused
