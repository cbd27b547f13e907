use Rattle.std.proofs.Common.{subst}
use Rattle.record_frames.specs.Carries.{Carries}
use Rattle.record_frames.specs.Sheeted.{ram_of}
use Rattle.record_frames.specs.State.{state_in}
use Rattle.kexec_boot.proofs.BootReads.{read_memfds, read_shape, unread}
use Rattle.kexec_boot.proofs.reading.read.Goals as goal

pub returns-in-Ok-clause-shape : goal.returns-in-Ok-clause-shape
returns-in-Ok-clause-shape c = read_shape c.args.shape.now c.in-Ok.carried c.checked.result c.checked.ensures.same c.checked.ensures.shape

pub returns-in-Ok-clause-memfds : goal.returns-in-Ok-clause-memfds
returns-in-Ok-clause-memfds c = read_memfds (ram_of c.args.frames.now) c.in-Ok.carried c.checked.result c.checked.ensures.same c.checked.ensures.memfds

pub returns-in-Ok-clause-refused : goal.returns-in-Ok-clause-refused
returns-in-Ok-clause-refused c =
    unread c.args.shape.now (ram_of c.args.frames.now) c.args.entry.0 c.in-Ok.carried c.checked.result
    (subst (λ n. Carries (ram_of c.args.frames.now) n (state_in (ram_of c.args.frames.now) c.in-Ok.carried)) c.from.ensures c.in-Ok.ensures.carries) c.checked.ensures.refused
