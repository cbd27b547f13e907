use Rattle.std.proofs.Common.{◌+◌, ◌++◌, [], ◌∷◌, ℕ, List, replicate, refl, ◌∙◌, arith}
use Rattle.std.specs.List.{flat_map}
use Rattle.record_frames.specs.Sheets.{number, file_slot_bytes}
use Rattle.record_frames.specs.Writing.{file_slot_of}
use Rattle.record_frames.proofs.WrittenBytes.{folio_behind, folio_size, slot_numbers}
use Rattle.record_frames.proofs.writing.slots.put_file_slot.Goals as goal

abbrev numbers : (token kind order size position handle first folios : ℕ) → List ℕ
numbers token kind order size position handle first folios =
    flat_map number (token ∷ kind ∷ order ∷ size ∷ position ∷ handle ∷ first ∷ folios ∷ [])

pub put_zeros-requires-clause-size : goal.put_zeros-requires-clause-size
put_zeros-requires-clause-size c =
    folio_size c.args.folio.now c.put_numbers.new.folio
    (numbers c.args.file.now.token.0 c.kind_number.result c.from.result c.from-2.result c.from-3.result c.args.file.now.handle c.args.first c.len.result)
    c.args.at c.requires.size (omega (arith, c.requires.room)) c.put_numbers.ensures

pub returns : goal.returns
returns c =
    folio_behind c.args.folio.now c.put_numbers.new.folio c.put_zeros.new.folio
    (numbers c.args.file.now.token.0 c.kind_number.result c.from.result c.from-2.result c.from-3.result c.args.file.now.handle c.args.first c.len.result)
    (replicate 64 0)
    (file_slot_bytes (file_slot_of c.args.file.now c.args.first)) c.args.at (c.args.at + 64) c.requires.size (omega (arith, c.requires.room)) refl c.put_numbers.ensures c.put_zeros.ensures
    ((λ i. numbers c.args.file.now.token.0 (c.kind_number.ensures i) (c.from.ensures i) (c.from-2.ensures i) (c.from-3.ensures i) c.args.file.now.handle c.args.first (c.len.ensures i) ++ replicate 64 0)
    ∙ slot_numbers (file_slot_of c.args.file.now c.args.first))
