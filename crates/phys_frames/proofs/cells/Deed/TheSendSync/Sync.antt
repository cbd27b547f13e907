use denote.Param.Send.{IsSync}
use Rattle.phys_frames.proofs.Crosses.{Deed-sync}
use Rattle.phys_frames.specs.contracts.cells.Deed.{the_row}

pub sync : IsSync the_row
sync = Deed-sync
