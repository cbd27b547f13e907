use Rattle.std.proofs.Common.{◌+◌, ◌*◌, ℕ, List, length, get_or, sym, ap, ◌∙◌, arith}
use Rattle.std.proofs.lemmas.List.{take_all}
use Rattle.std.specs.List.{flat_map}
use Rattle.phys_frames.specs.Memory.{FolioValue, with_bytes, written}
use Rattle.record_frames.specs.Sheets.{number}
use Rattle.record_frames.proofs.WrittenBytes.{number_more, length_so_far, written_none}
use Rattle.record_frames.proofs.writing.frame.put_numbers.Goals as goal

pub loop-i-init : goal.loop-i-init
loop-i-init c = ap (with_bytes c.args.folio.now) (sym (written_none c.args.folio.now.bytes c.args.at))

pub write-requires : goal.write-requires
write-requires c =
    let same = ap (λ (f : FolioValue). length f.bytes) c.loop-i.invariant in
    let long = length_so_far c.args.folio.now.bytes c.args.at c.args.numbers.now c.loop-i.i (omega (arith, c.loop-i-test.true)) (omega (arith, c.requires.size, c.requires.room)) in
    omega (arith, same, long, c.requires.size, c.requires.room, c.loop-i-test.true)

pub loop-i-preserved : goal.loop-i-preserved
loop-i-preserved c =
    c.write.ensures
    ∙ ap (λ (bs : List ℕ). with_bytes c.loop-i.folio (written c.loop-i.folio.bytes (c.args.at + 8 * c.loop-i.i) bs)) c.to_le_bytes.ensures
    ∙ ap (λ (f : FolioValue). with_bytes f (written f.bytes (c.args.at + 8 * c.loop-i.i) (number (get_or c.args.numbers.now c.loop-i.i 0)))) c.loop-i.invariant
    ∙ ap (with_bytes c.args.folio.now) (number_more c.args.folio.now.bytes c.args.at c.args.numbers.now c.loop-i.i c.loop-i-test.true (omega (arith, c.requires.size, c.requires.room)))

pub returns : goal.returns
returns c =
    c.loop-i.invariant
    ∙ ap (λ (ns : List ℕ). with_bytes c.args.folio.now (written c.args.folio.now.bytes c.args.at (flat_map number ns)))
    (take_all c.loop-i.i c.args.numbers.now (omega (arith, c.loop-i-test.false, c.loop-i.auto.i-end)))
