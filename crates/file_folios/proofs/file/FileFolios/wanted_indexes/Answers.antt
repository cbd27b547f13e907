use Rattle.std.proofs.Common.{◌+◌, ap, sym, arith, ◌∙◌}
use Rattle.file_folios.proofs.FileStates.{wanted_are}
use Rattle.file_folios.proofs.file.FileFolios.wanted_indexes.Goals as goal

pub returns-then-wanted-count : goal.returns-then-wanted-count
returns-then-wanted-count c =
    wanted_are c.args.self.now.state (c.args.off + c.args.len) c.self.inside.order c.piece_of.result c.pieces_of-wanted.result c.index_count-count.result
    (ap (λ v. v.state.order) (sym c.self.view_is)) c.piece_of.ensures.value (omega arith) (sym c.is_frozen_below.ensures ∙ c.if-is_frozen_below.false) c.pieces_of-wanted.ensures c.index_count-count.ensures.value
