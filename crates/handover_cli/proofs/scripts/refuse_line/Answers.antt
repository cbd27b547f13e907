-- The text that is written is the line of the refusal.
use Rattle.std.proofs.Common.{ap, ◌∙◌}
use Rattle.ho_io.specs.Told.{behind}
use Rattle.handover_cli.proofs.Refused.{line_is, front_of}
use Rattle.handover_cli.proofs.scripts.refuse_line.Goals as goal

pub returns-in-Ok-put_all-clause-whole : goal.returns-in-Ok-put_all-clause-whole
returns-in-Ok-put_all-clause-whole g c = λ h.
    c.in-Ok-put_all.ensures.all
    ∙ ap (behind (g.H.Host.out c.args.host.now)) (line_is c.args.line c.args.reason _ _ (c.as_bytes.ensures.value ∙ c.in-Ok.ensures.ok) c.word_of-word.ensures)

pub returns-in-Ok-clause-part : goal.returns-in-Ok-clause-part
returns-in-Ok-clause-part g c = λ h.
    front_of _ _ _ _ (line_is c.args.line c.args.reason _ _ (c.as_bytes.ensures.value ∙ c.in-Ok.ensures.ok) c.word_of-word.ensures) c.in-Err-put_all.ensures.part
