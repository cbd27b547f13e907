use Rattle.std.proofs.Common.{◌-◌, ◌/◌, ◌<◌, length, ap, sym, ◌∙◌, arith}
use Rattle.file_folios.specs.Slots.{places, holes_in}
use Rattle.file_folios.specs.Sized.{places_of}
use Rattle.file_folios.proofs.FileStates.{touched_are}
use Rattle.file_folios.proofs.file.FileFolios.holes.Goals as goal

pub returns : goal.returns
returns c =
    let some : 0 < c.args.len = omega arith in
    let first = c.args.off / c.piece_of-piece.result in
    c.count_holes.ensures
    ∙ ap (λ s. length (holes_in s (places first (c.pieces_of.result - first)))) c.as_slice.ensures.value
    ∙ ap (λ n. length (holes_in c.self.inside.slots.items (places first (n - first)))) c.pieces_of.ensures
    ∙ ap (λ p. length (holes_in c.self.inside.slots.items (places_of p c.args.off c.args.len))) c.piece_of-piece.ensures.value
    ∙ sym (ap length (touched_are c.args.self.now.state c.self.inside.order c.self.inside.slots.items c.args.off c.args.len (ap (λ v. v.state.order) (sym c.self.view_is)) (ap (λ v. v.state.runs) (sym c.self.view_is)) some))
