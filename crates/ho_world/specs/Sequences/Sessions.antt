-- The sequences of the commands that make, open and read sessions.
use Rattle.std.specs.Prelude.{◌≡◌, ℕ, ◌+◌, ◌-◌, ◌*◌, ◌/◌, ◌^◌, Bool, true, false, ◌&&◌, ◌||◌, ◌==◌, if◌then◌else◌, List, [], ◌∷◌, ◌++◌, Option, None}
use Rattle.ho_base.specs.declared.numbers.Kind.{Kind}
use Rattle.ho_base.specs.declared.numbers.Kind.TheVariants.{Memfd}
use Rattle.ho_base.specs.declared.numbers.Order.{Order}
use Rattle.ho_base.specs.declared.numbers.Token.{Token}
use Rattle.ho_base.specs.declared.numbers.FileNo.{FileNo}
use Rattle.ho_base.specs.declared.numbers.SlotNo.{SlotNo}
use Rattle.ho_events.specs.File.{is_device}
use Rattle.ho_events.specs.declared.event.Event.TheVariants.{RegCreate, RegFindIn, RegOpen, FileOpenHeld, SessionBegin, SessionOpen, SessionTake, HandlerRetrieve}
use Rattle.ho_events.specs.declared.reply.Reply.{Reply}
use Rattle.ho_events.specs.declared.reply.Reply.TheVariants.{Ok, OkFile, OkSlot, OkBound, Failed, NameTaken, SessionsFull, NoSession, AlreadyOpen, HandlerFailed, NoToken, AlreadyTaken}
use Rattle.ho_world.specs.Acts.{IsFile, HasToken, Reference, Sequence, registry, session, file, handler, ending, single}

-- how `create` comes out
pub data CreateOutcome : Type 0 where
  CreateRefused : Reply → CreateOutcome
  Created : SlotNo → CreateOutcome

abbrev pub is_create_refusal : Reply → Bool
is_create_refusal NameTaken = true
is_create_refusal SessionsFull = true
is_create_refusal reply = false

abbrev pub create_acts : List ℕ → CreateOutcome → Option Sequence
create_acts name (CreateRefused x) = (if is_create_refusal x then ending (registry (RegCreate name) x ∷ []) x else None)
create_acts name (Created s) = ending (registry (RegCreate name) (OkSlot s) ∷ session s [] (SessionBegin name) Ok ∷ []) Ok

-- how `open` comes out
pub data OpenOutcome : Type 0 where
  OpenRefused : Reply → OpenOutcome
  OpenedIn : SlotNo → OpenOutcome

abbrev pub is_open_refusal : Reply → Bool
is_open_refusal NoSession = true
is_open_refusal AlreadyOpen = true
is_open_refusal reply = false

abbrev pub open_acts : List ℕ → OpenOutcome → Option Sequence
open_acts name (OpenRefused x) = (if is_open_refusal x then ending (registry (RegOpen name) x ∷ []) x else None)
open_acts name (OpenedIn s) = ending (registry (RegOpen name) (OkSlot s) ∷ session s [] (SessionOpen name) Ok ∷ []) Ok

-- how `retrieve` comes out: no session of the name; the session refuses; the handler fails; or the file
pub data RetrieveOutcome : Type 0 where
  NotOpened : RetrieveOutcome
  NotGiven : SlotNo → Reply → RetrieveOutcome
  NotRetrieved : SlotNo → FileNo → Kind → ℕ → ℕ → RetrieveOutcome
  MemfdTaken : SlotNo → FileNo → Order → ℕ → RetrieveOutcome
  DeviceTaken : SlotNo → FileNo → Kind → ℕ → List ℕ → RetrieveOutcome

abbrev pub is_take_refusal : Reply → Bool
is_take_refusal NoSession = true
is_take_refusal NoToken = true
is_take_refusal AlreadyTaken = true
is_take_refusal reply = false

abbrev pub listed : FileNo → ℕ → Reference
listed f handle = record { file = f.0; handle = handle }

abbrev pub retrieve_acts : List ℕ → Token → RetrieveOutcome → Option Sequence
retrieve_acts name t NotOpened = ending (registry (RegFindIn name) NoSession ∷ []) NoSession
retrieve_acts name t (NotGiven s x) =
    if is_take_refusal x then ending (registry (RegFindIn name) (OkSlot s) ∷ session s [] (SessionTake name t) x ∷ []) x else None
retrieve_acts name t (NotRetrieved s f k handle m) =
    if is_device k then
    ending (registry (RegFindIn name) (OkSlot s) ∷ handler k (IsFile f k single ∷ []) (HandlerRetrieve f handle) (Failed m)
    ∷ session s (HasToken s t.0 (listed f handle) ∷ []) (SessionTake name t) HandlerFailed ∷ []) HandlerFailed
    else None
retrieve_acts name t (MemfdTaken s f o handle) =
    ending (registry (RegFindIn name) (OkSlot s) ∷ file f (IsFile f Memfd o ∷ []) FileOpenHeld Ok
    ∷ session s (HasToken s t.0 (listed f handle) ∷ []) (SessionTake name t) (OkFile f) ∷ []) Ok
retrieve_acts name t (DeviceTaken s f k handle bound) =
    if is_device k then
    ending (registry (RegFindIn name) (OkSlot s) ∷ handler k (IsFile f k single ∷ []) (HandlerRetrieve f handle) (OkBound bound)
    ∷ file f (IsFile f k single ∷ []) FileOpenHeld Ok
    ∷ session s (HasToken s t.0 (listed f handle) ∷ []) (SessionTake name t) (OkFile f) ∷ []) Ok
    else None
