-- The commands that are done here.
use Rattle.std.specs.Prelude.{Bool, false}
use Rattle.ho_events.specs.Script.Rules.{is_built}
use Rattle.ho_events.specs.declared.command.Command.{Command}
use Rattle.ho_events.specs.declared.command.Command.TheVariants.{Open, Retrieve, Finish}

-- the built commands but for those on incoming sessions
abbrev pub is_done_here : Command → Bool
is_done_here (Open name) = false
is_done_here (Retrieve name t label) = false
is_done_here (Finish name) = false
is_done_here command = is_built command
