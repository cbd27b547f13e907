use Rattle.std.proofs.Common.{ap, sym, ◌∙◌, arith}
use Rattle.ho_base.specs.ShapeRule.{Layout}
use Rattle.record_frames.specs.Sheeted.{ram_of}
use Rattle.record_frames.specs.State.{state_in}
use Rattle.kexec_boot.proofs.BootSteps.{begins_so, refusal}
use Rattle.kexec_boot.proofs.boots.boot.Goals as goal

pub begin-requires-clause-can : goal.begin-requires-clause-can
begin-requires-clause-can c =
    c.law_of_following.ensures (ram_of c.load.new.frames) c.args.handoff.entry.0 (state_in (ram_of c.load.new.frames) c.in-Ok.carried)
    (ap (λ (s : Layout). s.frames) c.in-Ok.ensures.shape ∙ c.args.handoff.fits ∙ sym c.load.ensures.count) c.hold_pages.ensures c.in-Ok.ensures.memfds c.in-Ok.ensures.carries

pub returns-in-Ok-clause-next : goal.returns-in-Ok-clause-next
returns-in-Ok-clause-next c =
    begins_so c.args.handoff.shape (ram_of c.args.handoff.frames) (ram_of c.load.new.frames) c.args.handoff.entry.0 (omega (arith, c.count-count.ensures.at_most, c.count-count.ensures.value)) c.load.ensures.beside
    c.law_of_scratch.ensures c.law_of_carrying.ensures.one_state c.law_of_carrying.ensures.no_state c.args.number (state_in (ram_of c.load.new.frames) c.in-Ok.carried) c.begin.result c.in-Ok.ensures.carries c.in-Ok.ensures.shape
    c.begin.ensures.begins

pub returns-clause-refused : goal.returns-clause-refused
returns-clause-refused c =
    refusal c.args.handoff c.args.blob (ram_of c.load.new.frames) (omega (arith, c.count-count.ensures.at_most, c.count-count.ensures.value)) c.load.ensures.beside c.load.ensures.loaded c.law_of_scratch.ensures
    c.law_of_carrying.ensures.one_state c.law_of_carrying.ensures.no_state c.in-Err.error c.in-Err.ensures.refused
