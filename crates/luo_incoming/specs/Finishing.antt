-- How far a `finish` is with the files of its session.
use Rattle.std.specs.Prelude.{◌≡◌, ℕ, List, [], ◌∷◌, ◌++◌, map, flat_map}
use Rattle.ho_base.specs.Objects.{registry_no, session_no}
use Rattle.ho_base.specs.declared.numbers.FileNo.{FileNo}
use Rattle.ho_base.specs.declared.numbers.Order.{Order}
use Rattle.ho_base.specs.declared.numbers.SlotNo.{SlotNo}
use Rattle.ho_events.specs.declared.event.Event.TheVariants.{RegDropIn, RegFindIn, RegFreeFile, SessionFinish}
use Rattle.ho_events.specs.declared.reply.Reply.{Reply}
use Rattle.ho_events.specs.declared.reply.Reply.TheVariants.{Ok, OkSlot, Gone}
use Rattle.ho_events.specs.declared.slip.At.{At}
use Rattle.ho_world.specs.Acts.{Act, Claim, registry, ending}
use Rattle.ho_world.specs.Logs.{Deed, deed_at, end_with}
use Rattle.ho_world.specs.Sequences.Parts.{Part, part_reference, devices, finish_part, FinishOutcome, finish_acts}
use Rattle.machine_core.specs.Agents.{Agent}
use Rattle.machine_core.specs.Turns.{Goes}
use Rattle.luo_calls.specs.Closing.{Kept, kept_reference, deeds, given_back}

-- what follows the end of an incoming session's hold that was answered so: where the file is gone, its runs are given
-- back, where it has some, and its number
abbrev pub after_finish : FileNo → Order → Reply → List Act
after_finish f o (Gone runs) = given_back o runs ++ registry (RegFreeFile f) Ok ∷ []
after_finish f o reply = []

-- the parts of these files are done, one after another; no handler is asked, since none is a device file
pub record HasFinished (files : List Kept) (at at' : At) (a a' : Agent) : Type 0 where
  pub parts : List Part
  pub listed : map part_reference parts ≡ map kept_reference files
  pub plain : devices parts ≡ []
  pub goes : Goes (deeds (flat_map finish_part parts)) at at' a a'

-- these are the deeds of the parts of these files, in whichever way each comes out
pub record AreFinishesOf (files : List Kept) (ds : List Deed) : Type 0 where
  pub parts : List Part
  pub listed : map part_reference parts ≡ map kept_reference files
  pub plain : devices parts ≡ []
  pub deeds_are : ds ≡ deeds (flat_map finish_part parts)

-- the end of a session whose files' parts are done, its name's, and the command's
abbrev pub session_ends_in : SlotNo → List ℕ → List Claim → List Deed
session_ends_in slot name claims =
    deed_at (session_no slot.0) claims (SessionFinish name) Ok ∷ deed_at registry_no [] (RegDropIn name) Ok ∷ end_with Ok ∷ []

-- a `finish` came to its end with this reply, from the question for the slot on
pub record FinishesSlot (name : List ℕ) (slot : SlotNo) (reply : Reply) (at at' : At) (a a' : Agent) : Type 0 where
  pub outcome : FinishOutcome
  pub acts : List Act
  pub is_one : finish_acts name outcome ≡ ending (registry (RegFindIn name) (OkSlot slot) ∷ acts) reply
  pub goes : Goes (deeds acts ++ end_with reply ∷ []) at at' a a'
