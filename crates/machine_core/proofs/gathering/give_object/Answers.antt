use Rattle.std.proofs.Common.{Some, ap, sym, subst, ◌∙◌}
use Rattle.machine_core.proofs.Gathered.{Held, registry_holds, session_holds, file_holds, file_more}
use Rattle.machine_core.proofs.gathering.give_object.Goals as goal

pub returns-in-Some-Registry-clause-file : goal.returns-in-Some-Registry-clause-file
returns-in-Some-Registry-clause-file c =
    subst (λ o. Held o c.args.frames.now) (sym (c.in-Some-Registry.is ∙ ap (λ o. Some o) c.in-Some-Registry.field-0-is)) (registry_holds c.args.frames.now c.in-Some-Registry.registry)

pub returns-in-Some-Session-clause-file : goal.returns-in-Some-Session-clause-file
returns-in-Some-Session-clause-file c =
    subst (λ o. Held o c.args.frames.now) (sym (c.in-Some-Session.is ∙ ap (λ o. Some o) c.in-Some-Session.field-0-is)) (session_holds c.args.frames.now c.in-Some-Session.session)

pub returns-in-Some-File-clause-file : goal.returns-in-Some-File-clause-file
returns-in-Some-File-clause-file c =
    subst (λ o. Held o c.scrap.new.frames) (sym (c.in-Some-File.is ∙ ap (λ o. Some o) c.in-Some-File.field-0-is))
    (file_holds c.in-Some-File.file c.args.frames.now c.scrap.new.frames c.scrap.ensures.home c.scrap.ensures.were_out)

pub returns-in-Some-File-clause-frames : goal.returns-in-Some-File-clause-frames
returns-in-Some-File-clause-frames c = file_more c.in-Some-File.file c.args.frames.now c.scrap.new.frames c.scrap.ensures.home c.scrap.ensures.were_out
