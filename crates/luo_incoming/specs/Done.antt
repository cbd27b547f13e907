-- The commands that are done here.
use Rattle.std.specs.Prelude.{Bool, true}
use Rattle.ho_events.specs.Script.Rules.{is_built}
use Rattle.ho_events.specs.declared.command.Command.{Command}
use Rattle.ho_events.specs.declared.command.Command.TheVariants.{Open, Retrieve, Finish}

-- the built commands, and those on incoming sessions
abbrev pub is_done : Command → Bool
is_done (Open name) = true
is_done (Retrieve name t label) = true
is_done (Finish name) = true
is_done command = is_built command
