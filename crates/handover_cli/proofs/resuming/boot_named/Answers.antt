-- A kernel that begins with an image's frames begins with the image, in a sound world; and why none does.
use Rattle.kexec_boot.specs.Images.{BeginsFrom}
use Rattle.record_frames.specs.Sheeted.{ram_of}
use Rattle.handover_cli.specs.Resumes.{BeginsWith, IsIllFor, IsUnfitFor}
use Rattle.handover_cli.proofs.ImageLoads.{begins_with, ill_unfit}
use Rattle.handover_cli.proofs.Stopping.{ok_by, err_by}
use Rattle.handover_cli.proofs.resuming.boot_named.Goals as goal

pub returns-in-Ok-clause-begins : goal.returns-in-Ok-clause-begins
returns-in-Ok-clause-begins g c =
    let told = g.H.Host.holds c.args.host.now c.args.name.now in
    ok_by (BeginsFrom 0 (ram_of c.in-Ok.frames) c.in-Ok.entry) (BeginsWith told)
    (λ k h. begins_with told c.in-Ok.frames c.in-Ok.entry c.in-Ok.ensures.loaded k c.law_of_sound_beginnings.ensures c.hold_pages.ensures h) c.boot_frames.result c.boot_frames.ensures.begins

pub returns-in-Ok-clause-unfit : goal.returns-in-Ok-clause-unfit
returns-in-Ok-clause-unfit g c =
    let told = g.H.Host.holds c.args.host.now c.args.name.now in
    err_by (IsIllFor (ram_of c.in-Ok.frames) c.in-Ok.entry) (IsUnfitFor told)
    (λ e h. ill_unfit told c.in-Ok.frames c.in-Ok.entry c.in-Ok.ensures.loaded e h) c.boot_frames.result c.boot_frames.ensures.unfit
