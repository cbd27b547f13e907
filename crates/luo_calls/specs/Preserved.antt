-- What the turns of a `preserve` on a session, the pool and a file did.
use Rattle.std.specs.Prelude.{◌≡◌, ℕ, IsTrue, List, [], ◌∷◌, ◌++◌, map}
use Rattle.ho_base.specs.Objects.{session_no}
use Rattle.ho_base.specs.declared.numbers.FileNo.{FileNo}
use Rattle.ho_base.specs.declared.numbers.Order.{Order}
use Rattle.ho_base.specs.declared.numbers.Pfn.{Pfn}
use Rattle.ho_base.specs.declared.numbers.SlotNo.{SlotNo}
use Rattle.ho_base.specs.declared.numbers.Token.{Token}
use Rattle.ho_events.specs.declared.event.Event.TheVariants.{PoolMark, RegFindOut, SessionAdd}
use Rattle.ho_events.specs.declared.reply.Reply.{Reply}
use Rattle.ho_events.specs.declared.reply.Reply.TheVariants.{Ok, OkSlot, NoFrames, NoSession, SessionFull, TokenTaken, NotFinished, AlreadyPinned}
use Rattle.ho_events.specs.declared.slip.At.{At}
use Rattle.ho_world.specs.Acts.{Act, ending, pool, registry, unless_empty}
use Rattle.ho_world.specs.Logs.{Deed, deed_at, deed_of, end_with}
use Rattle.ho_world.specs.Sequences.Preserving.{PreserveOutcome, is_session_refusal, preserve_acts}
use Rattle.machine_core.specs.Agents.{Agent}
use Rattle.machine_core.specs.Turns.{Goes}
use Rattle.luo_calls.specs.Pins.{IsPin, pin_deeds}
use Rattle.luo_calls.specs.declared.commands.preserve.Preserved.{Preserved}
use Rattle.luo_calls.specs.declared.commands.preserve.Preserved.TheVariants.{NotAdmitted, Tried}
use Rattle.luo_calls.specs.declared.turns.pin.Pin.{Pin}
use Rattle.luo_calls.specs.declared.turns.pin.Pin.TheVariants.{Refused, Starved, Whole}

-- a file is added to a session, which is answered so
abbrev pub added : SlotNo → List ℕ → Token → FileNo → Reply → List Deed
added s name t f x = deed_at (session_no s.0) [] (SessionAdd name t f 0) x ∷ []

-- the frames of runs are pinned, where there are some
abbrev pub marked : Order → List Pfn → List Deed
marked o runs = map deed_of (unless_empty runs (pool [] (PoolMark o runs) Ok))

-- what a session is answered that admits the file, by how the file's pin came out
abbrev pub pin_reply : Pin → Reply
pin_reply (Refused x) = x
pin_reply (Starved o h) = NoFrames
pin_reply (Whole o fills runs) = Ok

-- what follows a file's pin that came out so: the frames of all its runs are pinned, and the session is answered
abbrev pub after_pin : SlotNo → List ℕ → Token → FileNo → Pin → List Deed
after_pin s name t f (Whole o fills runs) = marked o runs ++ added s name t f Ok
after_pin s name t f (Starved o h) = added s name t f NoFrames
after_pin s name t f (Refused x) = added s name t f x

-- the deeds on the session of a slot, the pool and a file that came out so: the session's turn ends last
abbrev pub preserve_deeds : SlotNo → List ℕ → Token → FileNo → Preserved → List Deed
preserve_deeds s name t f (NotAdmitted x) = added s name t f x
preserve_deeds s name t f (Tried p) = pin_deeds f p ++ after_pin s name t f p

-- a refusal of the session is one of its own, and the pin came out as one may
abbrev pub IsPreserved : Preserved → Type 0
IsPreserved (NotAdmitted x) = IsTrue (is_session_refusal x)
IsPreserved (Tried p) = IsPin p

-- what the command is answered
abbrev pub reply_to : Preserved → Reply
reply_to (NotAdmitted x) = x
reply_to (Tried p) = pin_reply p

-- the last replies of the command, once the session was taken
abbrev pub IsEnd : Reply → Type 0
IsEnd Ok = Unit {0}
IsEnd NoSession = Unit {0}
IsEnd SessionFull = Unit {0}
IsEnd TokenTaken = Unit {0}
IsEnd NotFinished = Unit {0}
IsEnd AlreadyPinned = Unit {0}
IsEnd NoFrames = Unit {0}
IsEnd x = ⊥

-- a `preserve` came to its end with this reply, from the question for the slot on
pub record PreservesSlot (name : List ℕ) (t : Token) (f : FileNo) (slot : SlotNo) (reply : Reply) (at at' : At) (a a' : Agent) : Type 0 where
  pub outcome : PreserveOutcome
  pub acts : List Act
  pub is_one : preserve_acts name t f outcome ≡ ending (registry (RegFindOut name) (OkSlot slot) ∷ acts) reply
  pub goes : Goes (map deed_of acts ++ end_with reply ∷ []) at at' a a'
