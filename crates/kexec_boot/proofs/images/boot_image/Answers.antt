use Rattle.record_frames.specs.Sheeted.{ram_of}
use Rattle.record_frames.specs.State.{state_in}
use Rattle.kexec_boot.proofs.ImageSteps.{begins_from, frames_carried}
use Rattle.kexec_boot.proofs.images.boot_image.Goals as goal

pub begin-requires-clause-count : goal.begin-requires-clause-count
begin-requires-clause-count c = frames_carried (ram_of c.args.frames) c.args.entry (state_in (ram_of c.args.frames) c.in-Ok.carried) c.in-Ok.ensures.carries

pub begin-requires-clause-can : goal.begin-requires-clause-can
begin-requires-clause-can c =
    c.law_of_following.ensures (ram_of c.args.frames) c.args.entry (state_in (ram_of c.args.frames) c.in-Ok.carried)
    (frames_carried (ram_of c.args.frames) c.args.entry (state_in (ram_of c.args.frames) c.in-Ok.carried) c.in-Ok.ensures.carries) c.hold_pages.ensures c.in-Ok.ensures.memfds c.in-Ok.ensures.carries

pub returns-in-Ok-clause-next : goal.returns-in-Ok-clause-next
returns-in-Ok-clause-next c =
    begins_from c.args.number (ram_of c.args.frames) c.args.entry (state_in (ram_of c.args.frames) c.in-Ok.carried) c.begin.result c.in-Ok.ensures.carries c.in-Ok.ensures.memfds c.begin.ensures.begins
