use Rattle.std.proofs.Common.{◌≡◌, ℕ, eqb, true, map, Result, Some, None, sym, ap, List, subst, ◌∙◌}
use Rattle.std.specs.Prelude.{Vec}
use Rattle.std.specs.Global.{Global}
use Rattle.std.proofs.lemmas.Bool.{ne_eqb}
use Rattle.record_frames.specs.Reading.{each_item, file_at}
use Rattle.record_frames.specs.Fronts.{file_front_at}
use Rattle.record_frames.specs.Slots.{file_view, session_view}
use Rattle.record_frames.specs.Files.{file_record, ToldFiles}
use Rattle.record_frames.specs.Sessions.{seen_of}
use Rattle.record_frames.specs.Sheeted.{ram_of}
use Rattle.record_frames.specs.declared.slot_reading.ReadFile.{ReadFile}
use Rattle.record_frames.specs.declared.files.FileRead.{FileRead}
use Rattle.record_frames.proofs.ListFronts.{given}
use Rattle.record_frames.proofs.RecordSteps.{no_files, front_breaks, files_break, whole_session}
use Rattle.record_frames.proofs.sessions.read_session.Goals as goal

pub returns-then-slot-eq0-clause-read : goal.returns-then-slot-eq0-clause-read
returns-then-slot-eq0-clause-read c =
    let none : eqb c.args.slot.now.files 0 ≡ true = ap (λ (n : ℕ). eqb n 0) c.if-slot-eq0.true in
    no_files (ram_of c.args.frames.now) (seen_of c.args.seen.now.numbers c.args.before) (session_view c.args.slot.now) none 0 (map file_record c.new-files.result.items)
    (ap (map file_record) c.new-files.ensures.items)

pub returns-in_default-clause-read : goal.returns-in_default-clause-read
returns-in_default-clause-read c =
    front_breaks (ram_of c.args.frames.now) (seen_of c.args.seen.now.numbers c.args.before) (session_view c.args.slot.now) (ne_eqb c.args.slot.now.files 0 c.if-slot-eq0.false)
    (given (λ v. map file_view v.items) c.in_ok-slots.field-0 None (file_front_at (ram_of c.args.frames.now) c.args.before c.args.slot.now.files c.args.seen.now.numbers c.args.slot.now.first)
    c.in_default.is c.in_ok-slots.ensures.front)

pub returns-in-Ok-clause-read : goal.returns-in-Ok-clause-read
returns-in-Ok-clause-read c =
    let ram = ram_of c.args.frames.now in
    let slot = c.args.slot.now in
    let old = c.args.seen.now.numbers in
    let front = given (λ v. map file_view v.items) c.in_ok-slots.field-0 (Some c.in-Some.slots) (file_front_at ram c.args.before slot.files old slot.first) c.in-Some.is c.in_ok-slots.ensures.front in
    let Told : Result (Vec FileRead Global) ℕ → Type 0 = λ r. ToldFiles (λ v. v.items) ram c.push.new.self.numbers c.read_files.new.seen.numbers c.deref.result.now r in
    whole_session ram (seen_of old c.args.before) (session_view slot) (ne_eqb slot.files 0 c.if-slot-eq0.false) (map file_view c.in-Some.slots.items) front
    (map file_record c.in-Ok.files.items) c.read_files.new.seen.numbers
    (ap (λ (l : List ℕ). each_item (file_at ram) l (map file_view c.in-Some.slots.items)) (sym c.in_ok-push.ensures.numbers)
    ∙ ap (λ (l : List ReadFile). each_item (file_at ram) c.push.new.self.numbers (map file_view l)) (sym c.deref.ensures.value)
    ∙ subst Told c.in-Ok.is c.in_ok-files.ensures.read)

pub returns-clause-read : goal.returns-clause-read
returns-clause-read c =
    let ram = ram_of c.args.frames.now in
    let slot = c.args.slot.now in
    let old = c.args.seen.now.numbers in
    let front = given (λ v. map file_view v.items) c.in_ok-slots.field-0 (Some c.in-Some.slots) (file_front_at ram c.args.before slot.files old slot.first) c.in-Some.is c.in_ok-slots.ensures.front in
    let Told : Result (Vec FileRead Global) ℕ → Type 0 = λ r. ToldFiles (λ v. v.items) ram c.push.new.self.numbers c.read_files.new.seen.numbers c.deref.result.now r in
    files_break ram (seen_of old c.args.before) (session_view slot) (ne_eqb slot.files 0 c.if-slot-eq0.false) (map file_view c.in-Some.slots.items) front c.in-Err.at
    (ap (λ (l : List ℕ). each_item (file_at ram) l (map file_view c.in-Some.slots.items)) (sym c.in_ok-push.ensures.numbers)
    ∙ ap (λ (l : List ReadFile). each_item (file_at ram) c.push.new.self.numbers (map file_view l)) (sym c.deref.ensures.value)
    ∙ subst Told c.in-Err.is c.in_ok-files.ensures.read)
