-- What is told of a file that an incoming session has.
use Rattle.std.specs.Prelude.{Bool, false, not, ◌&&◌, Option, None, Some}
use Rattle.file_folios.specs.declared.facts.Facts.{Facts}

-- by what is told of a file, an incoming session has it;  it has it, and no label does
abbrev pub is_held : Option Facts → Bool
is_held None = false
is_held (Some f) = f.hold

abbrev pub waits_for_label : Option Facts → Bool
waits_for_label None = false
waits_for_label (Some f) = f.hold && not f.opened
