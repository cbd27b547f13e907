-- Each command keeps a world sound.
use Rattle.ho_events.specs.declared.command.Command.TheVariants as command
use Rattle.balance_laws.specs.Keeps.{EachKeeps}
use Rattle.balance_laws.proofs.Closing.{close_keeps, finish_keeps}
use Rattle.balance_laws.proofs.Creating.{create_keeps}
use Rattle.balance_laws.proofs.Letting.{close_fd_keeps}
use Rattle.balance_laws.proofs.Making.{memfd_keeps}
use Rattle.balance_laws.proofs.Opening.{open_keeps}
use Rattle.balance_laws.proofs.Preserves.{preserve_keeps}
use Rattle.balance_laws.proofs.Reading.{read_keeps, seek_keeps, tell_keeps}
use Rattle.balance_laws.proofs.Retrieving.{retrieve_keeps}
use Rattle.balance_laws.proofs.Truncating.{truncate_keeps}
use Rattle.balance_laws.proofs.Writing.{write_keeps, fill_keeps}

pub each_keeps : EachKeeps
each_keeps labels a (command.Memfd label o) may = memfd_keeps labels a label o may.0 may.1
each_keeps labels a (command.Device label kind size) may = absurd may
each_keeps labels a (command.Write label off bytes) may = write_keeps labels a label off bytes
each_keeps labels a (command.Fill label off len byte) may = fill_keeps labels a label off len byte
each_keeps labels a (command.Read label off len) may = read_keeps labels a label off len
each_keeps labels a (command.Truncate label size) may = truncate_keeps labels a label size
each_keeps labels a (command.Seek label to) may = seek_keeps labels a label to
each_keeps labels a (command.Tell label) may = tell_keeps labels a label
each_keeps labels a (command.CloseFd label) may = close_fd_keeps labels a label
each_keeps labels a (command.Create name) may = create_keeps labels a name
each_keeps labels a (command.Preserve name t label) may = preserve_keeps labels a name t label
each_keeps labels a (command.Close name) may = close_keeps labels a name
each_keeps labels a (command.Open name) may = open_keeps labels a name
each_keeps labels a (command.Retrieve name t label) may = retrieve_keeps labels a name t label may
each_keeps labels a (command.Finish name) may = finish_keeps labels a name
