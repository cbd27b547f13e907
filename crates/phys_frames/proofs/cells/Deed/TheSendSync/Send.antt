use denote.Param.Send.{IsSend}
use Rattle.phys_frames.proofs.Crosses.{Deed-send}
use Rattle.phys_frames.specs.contracts.cells.Deed.{the_row}

pub send : IsSend the_row
send = Deed-send
