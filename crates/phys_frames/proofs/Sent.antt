-- Frames and folios may go to another thread.
use denote.Builtin.{u8}
use denote.Param.Send.{IsSend, sendable}
use Rattle.std.proofs.Crossing.{crosses}
use Rattle.phys_frames.proofs.Crosses.{Cells-send, Deed-send}
use Rattle.phys_frames.specs.contracts.cells.Base as Base
use Rattle.phys_frames.specs.contracts.cells.Cells as Cells
use Rattle.phys_frames.specs.contracts.home.Home as Home
use Rattle.phys_frames.specs.contracts.folio.Folio as Folio
use Rattle.phys_frames.specs.contracts.frames.Frames as Frames

byte : IsSend u8
byte = search sendable

base : IsSend (Base.the_row)
base = search (sendable, crosses) depth 20

cells : IsSend Cells.the_row
cells = Cells-send

home : IsSend Home.the_row
home = search (sendable, crosses) depth 20

pub folio_send : IsSend Folio.the_row
folio_send = search (sendable, crosses, cells, home) depth 20

pub frames_send : IsSend Frames.the_row
frames_send = search (sendable, crosses, cells, Deed-send) depth 20
