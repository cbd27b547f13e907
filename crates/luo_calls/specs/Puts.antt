-- What is put into a file by a `write` or a `fill`.
use Rattle.std.specs.Prelude.{ℕ, List, length}
use Rattle.ho_base.specs.declared.numbers.Pfn.{Pfn}
use Rattle.ho_events.specs.declared.command.Command.{Command}
use Rattle.ho_events.specs.declared.command.Command.TheVariants.{Write, Fill}
use Rattle.ho_events.specs.declared.event.Event.{Event}
use Rattle.ho_events.specs.declared.event.Event.TheVariants.{FileWrite, FileFill}
use Rattle.luo_calls.specs.declared.turns.put.Put.{Put}
use Rattle.luo_calls.specs.declared.turns.put.Put.TheVariants.{Bytes, Same}

-- how many bytes are put;  how many of them the event lists
abbrev pub put_len : Put → ℕ
put_len (Bytes bytes) = length bytes.now
put_len (Same len byte) = len

abbrev pub put_text : Put → ℕ
put_text (Bytes bytes) = length bytes.now
put_text (Same len byte) = 0

-- the event that puts them at an offset, with runs for the holes that they touch
abbrev pub put_event : Put → ℕ → List Pfn → Event
put_event (Bytes bytes) off fills = FileWrite off bytes.now fills
put_event (Same len byte) off fills = FileFill off len byte fills

-- the command that puts them into a label's file
abbrev pub put_command : List ℕ → ℕ → Put → Command
put_command label off (Bytes bytes) = Write label off bytes.now
put_command label off (Same len byte) = Fill label off len byte
