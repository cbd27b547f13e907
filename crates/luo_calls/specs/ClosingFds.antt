-- What the turns of a `closefd` did.
use Rattle.std.specs.Prelude.{◌≡◌, List, [], ◌∷◌, ◌++◌}
use Rattle.ho_base.specs.declared.numbers.FileNo.{FileNo}
use Rattle.ho_base.specs.declared.numbers.Kind.TheVariants.{Memfd}
use Rattle.ho_base.specs.declared.numbers.Order.{Order}
use Rattle.ho_events.specs.declared.event.Event.TheVariants.{RegFreeFile}
use Rattle.ho_events.specs.declared.reply.Reply.{Reply}
use Rattle.ho_events.specs.declared.reply.Reply.TheVariants.{Ok, Gone}
use Rattle.ho_events.specs.declared.slip.At.{At}
use Rattle.ho_world.specs.Acts.{Act, Claim, IsFile, registry, ending}
use Rattle.ho_world.specs.Logs.{end_with}
use Rattle.ho_world.specs.Sequences.Files.{CloseFdOutcome, close_fd_acts}
use Rattle.machine_core.specs.Agents.{Agent}
use Rattle.machine_core.specs.Turns.{Goes}
use Rattle.luo_calls.specs.Closing.{deeds, given_back}

-- what is read of the file at the end of a label's hold that is answered so: its kind and order where it is gone
abbrev pub read_of : FileNo → Order → Reply → List Claim
read_of f o (Gone runs) = IsFile f Memfd o ∷ []
read_of f o reply = []

-- what follows the end of a label's hold that was answered so: where the file is gone, its runs are given back, where it
-- has some, and its number
abbrev pub after_close_fd : FileNo → Order → Reply → List Act
after_close_fd f o (Gone runs) = given_back o runs ++ registry (RegFreeFile f) Ok ∷ []
after_close_fd f o reply = []

-- a `closefd` on the label of this file came to its end
pub record ClosesLabel (f : FileNo) (at at' : At) (a a' : Agent) : Type 0 where
  pub outcome : CloseFdOutcome
  pub acts : List Act
  pub is_one : close_fd_acts f outcome ≡ ending acts Ok
  pub goes : Goes (deeds acts ++ end_with Ok ∷ []) at at' a a'
