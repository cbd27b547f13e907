-- What the turns of a `retrieve` on a session and a file did.
use Rattle.std.specs.Prelude.{ℕ, ◌<◌, List, [], ◌∷◌}
use Rattle.ho_base.specs.Objects.{registry_no, file_no, session_no}
use Rattle.ho_base.specs.declared.limits.TheConstants.{FILES}
use Rattle.ho_base.specs.declared.numbers.Kind.TheVariants.{Memfd}
use Rattle.ho_base.specs.declared.numbers.SlotNo.{SlotNo}
use Rattle.ho_base.specs.declared.numbers.Token.{Token}
use Rattle.ho_events.specs.declared.event.Event.TheVariants.{RegFindIn, FileOpenHeld, SessionTake}
use Rattle.ho_events.specs.declared.reply.Reply.TheVariants.{Ok, OkFile, OkSlot}
use Rattle.ho_world.specs.Acts.{IsFile, HasToken}
use Rattle.ho_world.specs.Logs.{Deed, deed_at}
use Rattle.ho_world.specs.Sequences.Sessions.{listed}
use Rattle.luo_incoming.specs.Replies.{IsTakeRefusal}
use Rattle.luo_incoming.specs.declared.commands.retrieve.Retrieved.{Retrieved}
use Rattle.luo_incoming.specs.declared.commands.retrieve.Retrieved.TheVariants.{Refused, Taken}

-- the slot of an opened name was found
abbrev pub slot_opened : List ℕ → SlotNo → List Deed
slot_opened name slot = deed_at registry_no [] (RegFindIn name) (OkSlot slot) ∷ []

-- the deeds on the session of a slot and on a file that came out so: the session's turn ends last
abbrev pub retrieve_deeds : SlotNo → List ℕ → Token → Retrieved → List Deed
retrieve_deeds s name t (Refused x) = deed_at (session_no s.0) [] (SessionTake name t) x ∷ []
retrieve_deeds s name t (Taken f o handle) =
    deed_at (file_no f.0) (IsFile f Memfd o ∷ []) FileOpenHeld Ok
    ∷ deed_at (session_no s.0) (HasToken s t.0 (listed f handle) ∷ []) (SessionTake name t) (OkFile f) ∷ []

-- a refusal is one of the session's, and a file has a file number
abbrev pub IsRetrieved : Retrieved → Type 0
IsRetrieved (Refused x) = IsTakeRefusal x
IsRetrieved (Taken f o handle) = f.0 < FILES
