use Rattle.std.proofs.Common.{ℕ, ◌≤◌, get_or, Result, refl, subst, ◌∙◌}
use Rattle.std.proofs.lemmas.List.Elements.{All-get_or}
use Rattle.ho_base.specs.declared.limits.TheConstants.{MAX_ORDER}
use Rattle.ho_base.specs.declared.numbers.Kind.TheVariants.{Memfd}
use Rattle.record_frames.specs.Reading.{file_at}
use Rattle.record_frames.specs.Slots.{file_view}
use Rattle.record_frames.specs.Files.{file_record, TellsFile}
use Rattle.record_frames.specs.Sheeted.{ram_of}
use Rattle.record_frames.specs.declared.slot_reading.ReadFile.{ReadFile}
use Rattle.record_frames.specs.declared.files.FileRead.{FileRead}
use Rattle.record_frames.proofs.EachItem.{more, refused, ended}
use Rattle.record_frames.proofs.files.read_files.Goals as goal

abbrev no_slot : ReadFile
no_slot = record { token = 0; kind = Memfd; order = 0; size = 0; position = 0; handle = 0; first = 0; folios = 0 }

abbrev Small : ReadFile → Type 0
Small f = f.order ≤ MAX_ORDER

pub read_file-requires-clause-order : goal.read_file-requires-clause-order
read_file-requires-clause-order c = All-get_or Small c.args.slots.now c.loop-slot.slot-index no_slot c.loop-slot-test.true c.requires.orders

pub loop-slot-preserved : goal.loop-slot-preserved
loop-slot-preserved c =
    let slot = get_or c.args.slots.now c.loop-slot.slot-index no_slot in
    let Told : Result FileRead ℕ → Type 0 = λ r. TellsFile (ram_of c.args.frames.now) c.loop-slot.seen.numbers c.read_file.new.seen.numbers slot r in
    record {
      read = more (file_at (ram_of c.args.frames.now)) c.args.seen.now.numbers file_view file_record c.args.slots.now c.loop-slot.slot-index c.loop-slot.files.items c.push.new.self.items
          c.loop-slot.seen.numbers c.read_file.new.seen.numbers slot no_slot c.in-Ok.file c.loop-slot.invariant.read c.loop-slot-test.true refl
          (subst Told c.in-Ok.is c.in_ok-file.ensures.read) c.in_ok-push-in-Ok.ensures.items;
      count = c.in_ok-file.ensures.count ∙ c.loop-slot.invariant.count;
    }

pub returns-in-Err-clause-read : goal.returns-in-Err-clause-read
returns-in-Err-clause-read c =
    let slot = get_or c.args.slots.now c.loop-slot.slot-index no_slot in
    let Told : Result FileRead ℕ → Type 0 = λ r. TellsFile (ram_of c.args.frames.now) c.loop-slot.seen.numbers c.read_file.new.seen.numbers slot r in
    refused (file_at (ram_of c.args.frames.now)) c.args.seen.now.numbers file_view file_record c.args.slots.now c.loop-slot.slot-index c.loop-slot.files.items
    c.loop-slot.seen.numbers slot no_slot c.in-Err.at c.loop-slot.invariant.read c.loop-slot-test.true refl
    (subst Told c.in-Err.is c.in_ok-file.ensures.read)

pub returns-clause-read : goal.returns-clause-read
returns-clause-read c =
    ended (file_at (ram_of c.args.frames.now)) c.args.seen.now.numbers file_view file_record c.args.slots.now c.loop-slot.slot-index c.loop-slot.files.items
    c.loop-slot.seen.numbers c.loop-slot.invariant.read c.loop-slot-test.false
