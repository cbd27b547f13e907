-- The sequences of `preserve`.
use Rattle.std.specs.Prelude.{◌≡◌, ℕ, ◌+◌, ◌-◌, ◌*◌, ◌/◌, ◌^◌, Bool, true, false, ◌&&◌, ◌||◌, ◌==◌, if◌then◌else◌, List, [], ◌∷◌, ◌++◌, length, Option, None, Some}
use Rattle.ho_base.specs.declared.numbers.Kind.{Kind}
use Rattle.ho_base.specs.declared.numbers.Kind.TheVariants.{Memfd}
use Rattle.ho_base.specs.declared.numbers.Order.{Order}
use Rattle.ho_base.specs.declared.numbers.Pfn.{Pfn}
use Rattle.ho_base.specs.declared.numbers.Token.{Token}
use Rattle.ho_base.specs.declared.numbers.FileNo.{FileNo}
use Rattle.ho_base.specs.declared.numbers.SlotNo.{SlotNo}
use Rattle.ho_events.specs.File.{is_device}
use Rattle.ho_events.specs.declared.event.Event.TheVariants.{PoolTake, PoolGive, PoolMark, RegFindOut, FilePin, SessionAdd, HandlerPreserve}
use Rattle.ho_events.specs.declared.reply.Reply.{Reply}
use Rattle.ho_events.specs.declared.reply.Reply.TheVariants.{Ok, OkSlot, OkRuns, OkHandle, Got, NoFrames, NoFramesOf, Failed, NoSession, NotFinished, AlreadyPinned, HandlerFailed, SessionFull, TokenTaken}
use Rattle.ho_world.specs.Acts.{IsFile, Act, Sequence, pool, registry, session, file, handler, unless_empty, ending, single, frame_list}
use Rattle.ho_world.specs.Sequences.Files.{fits_file}

-- how `preserve` comes out: no session of the name; the session refuses; the file refuses; for a memfd too few
-- runs for its holes, or pinned with these; for a device file no frame for the bound record, a handler that
-- fails, or pinned with this handle
pub data PreserveOutcome : Type 0 where
  NoName : PreserveOutcome
  NotAdmitted : SlotNo → Reply → PreserveOutcome
  NotPinned : SlotNo → Reply → PreserveOutcome
  HolesStarved : SlotNo → Order → ℕ → PreserveOutcome
  Pinned : SlotNo → Order → List Pfn → List Pfn → PreserveOutcome
  DeviceStarved : SlotNo → Kind → PreserveOutcome
  DeviceFailed : SlotNo → Kind → Option Pfn → ℕ → PreserveOutcome
  DevicePinned : SlotNo → Kind → Option Pfn → ℕ → List ℕ → Pfn → PreserveOutcome

abbrev pub is_session_refusal : Reply → Bool
is_session_refusal NoSession = true
is_session_refusal SessionFull = true
is_session_refusal TokenTaken = true
is_session_refusal reply = false

abbrev pub is_pin_refusal : Reply → Bool
is_pin_refusal NotFinished = true
is_pin_refusal AlreadyPinned = true
is_pin_refusal reply = false

-- the take of a memfd's missing runs
abbrev pub take_holes : FileNo → Order → List Pfn → List Act
take_holes f o [] = []
take_holes f o (p ∷ fills) = pool (IsFile f Memfd o ∷ []) (PoolTake o (length (p ∷ fills))) (Got (p ∷ fills)) ∷ []

abbrev pub no_or_fits : Order → List Pfn → Bool
no_or_fits o [] = true
no_or_fits o (p ∷ fills) = fits_file o (length (p ∷ fills))

-- the take of the bound record's frame
abbrev pub take_bound : FileNo → Kind → Option Pfn → List Act
take_bound f k None = []
take_bound f k (Some p) = pool (IsFile f k single ∷ []) (PoolTake single 1) (Got (p ∷ [])) ∷ []

abbrev pub preserve_acts : List ℕ → Token → FileNo → PreserveOutcome → Option Sequence
preserve_acts name t f NoName = ending (registry (RegFindOut name) NoSession ∷ []) NoSession
preserve_acts name t f (NotAdmitted s x) =
    if is_session_refusal x then ending (registry (RegFindOut name) (OkSlot s) ∷ session s [] (SessionAdd name t f 0) x ∷ []) x else None
preserve_acts name t f (NotPinned s x) =
    if is_pin_refusal x then
    ending (registry (RegFindOut name) (OkSlot s) ∷ file f [] (FilePin []) x ∷ session s [] (SessionAdd name t f 0) x ∷ []) x
    else None
preserve_acts name t f (HolesStarved s o h) =
    if fits_file o h then
    ending (registry (RegFindOut name) (OkSlot s) ∷ pool (IsFile f Memfd o ∷ []) (PoolTake o h) NoFrames
    ∷ file f (IsFile f Memfd o ∷ []) (FilePin []) (NoFramesOf h) ∷ session s [] (SessionAdd name t f 0) NoFrames ∷ []) NoFrames
    else None
preserve_acts name t f (Pinned s o fills runs) =
    if no_or_fits o fills then
    ending (registry (RegFindOut name) (OkSlot s) ∷ (take_holes f o fills
    ++ file f (IsFile f Memfd o ∷ []) (FilePin fills) (OkRuns runs)
    ∷ (unless_empty runs (pool [] (PoolMark o runs) Ok) ++ session s [] (SessionAdd name t f 0) Ok ∷ []))) Ok
    else None
preserve_acts name t f (DeviceStarved s k) =
    if is_device k then
    ending (registry (RegFindOut name) (OkSlot s) ∷ pool (IsFile f k single ∷ []) (PoolTake single 1) NoFrames
    ∷ handler k [] (HandlerPreserve f None) NoFrames ∷ file f (IsFile f k single ∷ []) (FilePin []) (NoFramesOf 0)
    ∷ session s [] (SessionAdd name t f 0) NoFrames ∷ []) NoFrames
    else None
preserve_acts name t f (DeviceFailed s k p m) =
    if is_device k then
    ending (registry (RegFindOut name) (OkSlot s) ∷ (take_bound f k p
    ++ handler k (IsFile f k single ∷ []) (HandlerPreserve f p) (Failed m)
    ∷ (unless_empty (frame_list p) (pool [] (PoolGive single (frame_list p)) Ok)
    ++ file f (IsFile f k single ∷ []) (FilePin []) HandlerFailed
    ∷ session s [] (SessionAdd name t f 0) HandlerFailed ∷ []))) HandlerFailed
    else None
preserve_acts name t f (DevicePinned s k p handle bound r) =
    if is_device k then
    ending (registry (RegFindOut name) (OkSlot s) ∷ (take_bound f k p
    ++ handler k (IsFile f k single ∷ []) (HandlerPreserve f p) (OkHandle handle bound)
    ∷ file f (IsFile f k single ∷ []) (FilePin []) (OkRuns (r ∷ []))
    ∷ pool [] (PoolMark single (frame_list p ++ r ∷ [])) Ok
    ∷ session s [] (SessionAdd name t f handle) Ok ∷ [])) Ok
    else None
