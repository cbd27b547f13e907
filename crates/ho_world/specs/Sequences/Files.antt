-- The sequences of the commands on files.
use Rattle.std.specs.Prelude.{◌≡◌, ℕ, ◌+◌, ◌-◌, ◌*◌, ◌/◌, ◌^◌, Bool, true, false, ◌&&◌, ◌||◌, ◌==◌, nat_lt, nat_le, if◌then◌else◌, List, [], ◌∷◌, ◌++◌, length, Option, None}
use Rattle.ho_base.specs.declared.limits.TheConstants.{PAGE_BYTES, FILE_BYTES}
use Rattle.ho_base.specs.declared.numbers.Kind.{Kind}
use Rattle.ho_base.specs.declared.numbers.Kind.TheVariants.{Memfd}
use Rattle.ho_base.specs.declared.numbers.Order.{Order}
use Rattle.ho_base.specs.declared.numbers.Pfn.{Pfn}
use Rattle.ho_base.specs.declared.numbers.FileNo.{FileNo}
use Rattle.ho_events.specs.Lists.{pieces}
use Rattle.ho_events.specs.declared.event.Event.{Event}
use Rattle.ho_events.specs.declared.event.Event.TheVariants.{PoolTake, PoolGive, RegNewFile, RegFreeFile, FileInit, FileTruncate, FileCloseFd}
use Rattle.ho_events.specs.declared.reply.Reply.{Reply}
use Rattle.ho_events.specs.declared.reply.Reply.TheVariants.{Ok, OkFile, OkRuns, Kept, Gone, Got, NoFrames, NoFramesOf, FilesFull, TooBig, SizeFrozen}
use Rattle.ho_world.specs.Acts.{IsFile, Sequence, pool, registry, file, unless_empty, ending, single}

-- some memfd of this order has so many holes among the indexes that a range touches
abbrev pub fits_range : Order → ℕ → ℕ → ℕ → Bool
fits_range o off len h =
    nat_lt 0 h && nat_le (off + len) FILE_BYTES
    && nat_le h (pieces (off + len) (PAGE_BYTES * 2 ^ o.0) - off / (PAGE_BYTES * 2 ^ o.0))

-- some memfd of this order has so many holes below its size
abbrev pub fits_file : Order → ℕ → Bool
fits_file o h = nat_lt 0 h && nat_le h (pieces FILE_BYTES (PAGE_BYTES * 2 ^ o.0))

-- how `memfd` comes out
pub data MemfdOutcome : Type 0 where
  NoNumber : MemfdOutcome
  Made : FileNo → MemfdOutcome

abbrev pub memfd_acts : Order → MemfdOutcome → Option Sequence
memfd_acts o NoNumber = ending (registry RegNewFile FilesFull ∷ []) FilesFull
memfd_acts o (Made f) = ending (registry RegNewFile (OkFile f) ∷ file f [] (FileInit Memfd o 0 []) Ok ∷ []) Ok

-- how `device` comes out
pub data DeviceOutcome : Type 0 where
  NoDeviceNumber : DeviceOutcome
  NoDeviceFrame : FileNo → DeviceOutcome
  DeviceMade : FileNo → Pfn → DeviceOutcome

abbrev pub device_acts : Kind → ℕ → DeviceOutcome → Option Sequence
device_acts kind size NoDeviceNumber = ending (registry RegNewFile FilesFull ∷ []) FilesFull
device_acts kind size (NoDeviceFrame f) =
    ending (registry RegNewFile (OkFile f) ∷ pool [] (PoolTake single 1) NoFrames ∷ registry (RegFreeFile f) Ok ∷ []) NoFrames
device_acts kind size (DeviceMade f p) =
    ending (registry RegNewFile (OkFile f) ∷ pool [] (PoolTake single 1) (Got (p ∷ []))
    ∷ file f [] (FileInit kind single size (p ∷ [])) Ok ∷ []) Ok

-- how `write` and `fill` come out
pub data WriteOutcome : Type 0 where
  WriteRefused : Reply → WriteOutcome
  Starved : Order → ℕ → WriteOutcome
  WrittenOver : WriteOutcome
  Written : Order → List Pfn → WriteOutcome

abbrev pub is_write_refusal : Reply → Bool
is_write_refusal TooBig = true
is_write_refusal SizeFrozen = true
is_write_refusal reply = false

-- `event` has the event for the runs that fill its holes
abbrev pub write_acts : FileNo → ℕ → ℕ → (List Pfn → Event) → WriteOutcome → Option Sequence
write_acts f off len event (WriteRefused x) = (if is_write_refusal x then ending (file f [] (event []) x ∷ []) x else None)
write_acts f off len event (Starved o h) =
    if fits_range o off len h then
    ending (pool (IsFile f Memfd o ∷ []) (PoolTake o h) NoFrames ∷ file f (IsFile f Memfd o ∷ []) (event []) (NoFramesOf h) ∷ []) NoFrames
    else None
write_acts f off len event WrittenOver = ending (file f [] (event []) Ok ∷ []) Ok
write_acts f off len event (Written o fills) =
    if fits_range o off len (length fills) then
    ending (pool (IsFile f Memfd o ∷ []) (PoolTake o (length fills)) (Got fills)
    ∷ file f (IsFile f Memfd o ∷ []) (event fills) Ok ∷ []) Ok
    else None

-- how `truncate` comes out
pub data TruncateOutcome : Type 0 where
  TruncateRefused : Reply → TruncateOutcome
  Truncated : Kind → Order → List Pfn → TruncateOutcome

abbrev pub truncate_acts : FileNo → ℕ → TruncateOutcome → Option Sequence
truncate_acts f size (TruncateRefused x) = (if is_write_refusal x then ending (file f [] (FileTruncate size) x ∷ []) x else None)
truncate_acts f size (Truncated k o given) =
    ending (file f (IsFile f k o ∷ []) (FileTruncate size) (OkRuns given) ∷ unless_empty given (pool [] (PoolGive o given) Ok)) Ok

-- how `closefd` comes out
pub data CloseFdOutcome : Type 0 where
  LabelKept : CloseFdOutcome
  LabelGone : Kind → Order → List Pfn → CloseFdOutcome

abbrev pub close_fd_acts : FileNo → CloseFdOutcome → Option Sequence
close_fd_acts f LabelKept = ending (file f [] FileCloseFd Kept ∷ []) Ok
close_fd_acts f (LabelGone k o runs) =
    ending (file f (IsFile f k o ∷ []) FileCloseFd (Gone runs)
    ∷ (unless_empty runs (pool [] (PoolGive o runs) Ok) ++ registry (RegFreeFile f) Ok ∷ [])) Ok
