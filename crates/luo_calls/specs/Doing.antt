-- A command under way: some deeds, and then a turn that can't be taken.
use Rattle.std.specs.Prelude.{◌≡◌, ℕ, List, [], ◌∷◌, ◌++◌, Option, Some}
use Rattle.ho_base.specs.Objects.{registry_no}
use Rattle.ho_base.specs.declared.numbers.SlotNo.{SlotNo}
use Rattle.ho_events.specs.declared.event.Event.TheVariants.{RegFindOut}
use Rattle.ho_events.specs.declared.reply.Reply.TheVariants.{OkSlot}
use Rattle.ho_events.specs.declared.slip.At.{At}
use Rattle.ho_world.specs.Acts.{Sequence}
use Rattle.ho_world.specs.Logs.{Deed, deed_at, deeds_of}
use Rattle.machine_core.specs.Agents.{Agent}
use Rattle.machine_core.specs.Turns.{Goes}
use Rattle.luo_calls.specs.declared.stuck.Stuck.{Stuck}
use Rattle.luo_calls.specs.Stuck.{Sticks, turn_of}

-- these are the deeds of a whole sequence, of those that `acts` has for the ways in which a command can come out
pub record AreWhole {X : Type 0} (acts : X → Option Sequence) (ds : List Deed) : Type 0 where
  pub outcome : X
  pub sequence : Sequence
  pub is_one : acts outcome ≡ Some sequence
  pub deeds_are : ds ≡ deeds_of sequence

-- they are the rest of such a sequence, after some that are done
abbrev pub AreRest : {X : Type 0} → (X → Option Sequence) → List Deed → List Deed → Type 0
AreRest acts before ds = AreWhole acts (before ++ ds)

-- the slot of an outgoing name was found
abbrev pub slot_found : List ℕ → SlotNo → List Deed
slot_found name slot = deed_at registry_no [] (RegFindOut name) (OkSlot slot) ∷ []

-- The agent does some deeds, and then a turn can't be taken. What it did is the front of deeds that may come here, and the
-- turn is that of the first one that is left.
pub record SticksAfter (MayCome : List Deed → Type 0) (stuck : Stuck) (at at' : At) (a a' : Agent) : Type 0 where
  pub deeds : List Deed
  pub due : List Deed
  pub front : MayCome (deeds ++ due)
  pub middle : Agent
  pub goes : Goes deeds at at' a middle
  pub sticks : Sticks at' (turn_of due) stuck middle a'
