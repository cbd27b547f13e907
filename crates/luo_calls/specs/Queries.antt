-- What is asked of a file by a `read`, a `seek` or a `tell`.
use Rattle.std.specs.Prelude.{ℕ, List}
use Rattle.ho_events.specs.declared.command.Command.{Command}
use Rattle.ho_events.specs.declared.command.Command.TheVariants as command
use Rattle.ho_events.specs.declared.event.Event.{Event}
use Rattle.ho_events.specs.declared.event.Event.TheVariants.{FileRead, FileSeek, FileTell}
use Rattle.luo_calls.specs.declared.turns.query.Query.{Query}
use Rattle.luo_calls.specs.declared.turns.query.Query.TheVariants.{Read, Seek, Tell}

-- how many bytes the reply has at most
abbrev pub query_bytes : Query → ℕ
query_bytes (Read off len) = len
query_bytes query = 0

-- the event that asks it;  the command that asks it of a label's file
abbrev pub query_event : Query → Event
query_event (Read off len) = FileRead off len
query_event (Seek to) = FileSeek to
query_event Tell = FileTell

abbrev pub query_command : List ℕ → Query → Command
query_command label (Read off len) = command.Read label off len
query_command label (Seek to) = command.Seek label to
query_command label Tell = command.Tell label
