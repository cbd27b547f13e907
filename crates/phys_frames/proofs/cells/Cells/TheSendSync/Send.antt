use denote.Param.Send.{IsSend}
use Rattle.phys_frames.proofs.Crosses.{Cells-send}
use Rattle.phys_frames.specs.contracts.cells.Cells.{the_row}

pub send : IsSend the_row
send = Cells-send
