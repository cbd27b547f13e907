-- What a command of an agent does: a whole sequence of it, or some deeds before it stops.
use Rattle.std.specs.Prelude.{◌≡◌, List, ◌++◌, Some}
use Rattle.ho_events.specs.declared.command.Command.{Command}
use Rattle.ho_events.specs.declared.reply.Reply.{Reply}
use Rattle.ho_events.specs.declared.slip.At.{At}
use Rattle.ho_world.specs.Acts.{Sequence}
use Rattle.ho_world.specs.Logs.{Deed, deeds_of, labels_after}
use Rattle.ho_world.specs.Sequences.{Labels, Outcome, command_acts}
use Rattle.machine_core.specs.declared.halt.Halt.{Halt}
use Rattle.machine_core.specs.Agents.{Agent}
use Rattle.machine_core.specs.Turns.{Goes, Stops}

-- the agent does a whole sequence of a command, which is answered so, and its labels are what the command makes of them
pub record Comes (labels labels' : Labels) (command : Command) (reply : Reply) (at at' : At) (a a' : Agent) : Type 0 where
  pub outcome : Outcome
  pub sequence : Sequence
  pub is_one : command_acts labels command outcome ≡ Some sequence
  pub reply_is : sequence.reply ≡ reply
  pub goes : Goes (deeds_of sequence) at at' a a'
  pub labels_are : labels' ≡ labels_after labels command sequence

-- the agent halts in the middle of a command: the deeds that it did are the front of a whole sequence of the command, and
-- the cause is at the next one of that sequence; its labels stay
pub record Halts (labels labels' : Labels) (command : Command) (halt : Halt) (at at' : At) (a a' : Agent) : Type 0 where
  pub outcome : Outcome
  pub sequence : Sequence
  pub is_one : command_acts labels command outcome ≡ Some sequence
  pub deeds : List Deed
  pub due : List Deed
  pub front : deeds ++ due ≡ deeds_of sequence
  pub stops : Stops halt deeds due at at' a a'
  pub labels_stay : labels' ≡ labels
