use denote.Param.Send.{IsSync}
use Rattle.phys_frames.proofs.Crosses.{Cells-sync}
use Rattle.phys_frames.specs.contracts.cells.Cells.{the_row}

pub sync : IsSync the_row
sync = Cells-sync
