-- The sequences of `close` and `finish`: a part for each file of the session.
use Rattle.std.specs.Prelude.{◌≡◌, ℕ, ◌+◌, ◌-◌, ◌*◌, ◌/◌, ◌^◌, Bool, ◌&&◌, ◌||◌, ◌==◌, nat_lt, if◌then◌else◌, List, [], ◌∷◌, ◌++◌, map, filter, length, flat_map, Option, None, Some}
use Rattle.ho_base.specs.declared.numbers.Kind.{Kind}
use Rattle.ho_base.specs.declared.numbers.Order.{Order}
use Rattle.ho_base.specs.declared.numbers.Pfn.{Pfn}
use Rattle.ho_base.specs.declared.numbers.FileNo.{FileNo}
use Rattle.ho_base.specs.declared.numbers.SlotNo.{SlotNo}
use Rattle.ho_events.specs.Lists.{are_distinct}
use Rattle.ho_events.specs.File.{is_device}
use Rattle.ho_events.specs.declared.event.Event.TheVariants.{PoolGive, PoolUnmark, RegFreeFile, RegDropName, RegDropIn, RegFindOut, RegFindIn, FileUnpin, FileFinish, SessionClose, SessionFinish, HandlerUnpreserve, HandlerFinish, HandlerCanFinish}
use Rattle.ho_events.specs.declared.reply.Reply.{Reply}
use Rattle.ho_events.specs.declared.reply.Reply.TheVariants.{Ok, OkSlot, Kept, KeptRuns, Gone, Last, Failed, NoSession, HandlerFailed}
use Rattle.ho_world.specs.Acts.{Claim, IsFile, BeganAs, HasFiles, Reference, Act, Sequence, pool, registry, session, file, handler, unless_empty, ending, frame_list}

-- a file that leaves a session: its number and handle as the session lists them, its kind, order and runs, the
-- frame of the bound record where that goes too, and whether nothing holds the file any more
pub record Part : Type 0 where
  pub number : FileNo
  pub handle : ℕ
  pub kind : Kind
  pub order : Order
  pub runs : List Pfn
  pub last : Option Pfn
  pub gone : Bool

abbrev pub part_reference : Part → Reference
part_reference c = record { file = c.number.0; handle = c.handle }

abbrev pub have_distinct_files : List Part → Bool
have_distinct_files parts = are_distinct (map (λ c. c.number.0) parts)

abbrev pub kept_or_last : Option Pfn → Reply
kept_or_last None = Kept
kept_or_last (Some p) = Last p

-- the frame of the bound record where that goes: only a device file has a handler
abbrev pub bound_frame : Part → List Pfn
bound_frame c = (if is_device c.kind then frame_list c.last else [])

abbrev pub gone_runs : Part → List Pfn
gone_runs c = (if c.gone then c.runs else [])

abbrev pub freed : Part → List Act
freed c = (if c.gone then registry (RegFreeFile c.number) Ok ∷ [] else [])

-- the part of `close`
abbrev pub unpreserved : Part → List Act
unpreserved c =
    if is_device c.kind then
    handler c.kind (IsFile c.number c.kind c.order ∷ []) (HandlerUnpreserve c.number c.handle) (kept_or_last c.last) ∷ []
    else []

abbrev pub close_part : Part → List Act
close_part c =
    unpreserved c
    ++ file c.number (IsFile c.number c.kind c.order ∷ []) FileUnpin (if c.gone then Gone c.runs else KeptRuns c.runs)
    ∷ (unless_empty (bound_frame c ++ c.runs) (pool [] (PoolUnmark c.order (bound_frame c ++ c.runs)) Ok)
    ++ (unless_empty (bound_frame c ++ gone_runs c) (pool [] (PoolGive c.order (bound_frame c ++ gone_runs c)) Ok)
    ++ freed c))

-- how `close` comes out
pub data CloseOutcome : Type 0 where
  NoSuchName : CloseOutcome
  NotOut : SlotNo → CloseOutcome
  Closed : SlotNo → List Part → CloseOutcome

abbrev pub close_acts : List ℕ → CloseOutcome → Option Sequence
close_acts name NoSuchName = ending (registry (RegFindOut name) NoSession ∷ []) NoSession
close_acts name (NotOut s) = ending (registry (RegFindOut name) (OkSlot s) ∷ session s [] (SessionClose name) NoSession ∷ []) NoSession
close_acts name (Closed s parts) =
    if have_distinct_files parts then
    ending (registry (RegFindOut name) (OkSlot s) ∷ (flat_map close_part parts
    ++ session s (HasFiles s (map part_reference parts) ∷ []) (SessionClose name) Ok ∷ registry (RegDropName name) Ok ∷ [])) Ok
    else None

-- the device files among parts
abbrev pub devices : List Part → List Part
devices parts = filter (λ c. is_device c.kind) parts

abbrev pub can_finish : Reply → Part → Act
can_finish reply c = handler c.kind (IsFile c.number c.kind c.order ∷ []) (HandlerCanFinish c.number c.handle) reply

-- the part of `finish`
abbrev pub handler_finished : Part → List Act
handler_finished c =
    if is_device c.kind then
    handler c.kind (IsFile c.number c.kind c.order ∷ []) (HandlerFinish c.number c.handle) (kept_or_last c.last) ∷ []
    else []

abbrev pub finish_part : Part → List Act
finish_part c =
    handler_finished c
    ++ file c.number (IsFile c.number c.kind c.order ∷ []) FileFinish (if c.gone then Gone c.runs else Kept)
    ∷ (unless_empty (bound_frame c ++ gone_runs c) (pool [] (PoolGive c.order (bound_frame c ++ gone_runs c)) Ok)
    ++ freed c)

-- the file had this kind and order as the kernel began. Its kind now can't be asked: in the order of stamps
-- another agent's whole `finish` may stand before the end of this one
abbrev pub part_began : Part → Claim
part_began c = BeganAs c.number c.kind c.order

-- what is asked of the device files up to number n, of which the last one fails
abbrev pub asked_until : List Part → ℕ → ℕ → List Act
asked_until [] n m = []
asked_until (c ∷ cs) n m = (if n == 0 then can_finish (Failed m) c ∷ [] else can_finish Ok c ∷ asked_until cs (n - 1) m)

-- how `finish` comes out: no session of the name; the slot has another session by now; the handler of the n-th
-- device file fails; or the session ends, with all its files
pub data FinishOutcome : Type 0 where
  NotFound : FinishOutcome
  NotIn : SlotNo → FinishOutcome
  NotEnded : SlotNo → List Part → ℕ → ℕ → FinishOutcome
  Ended : SlotNo → List Part → FinishOutcome

abbrev pub finish_acts : List ℕ → FinishOutcome → Option Sequence
finish_acts name NotFound = ending (registry (RegFindIn name) NoSession ∷ []) NoSession
finish_acts name (NotIn s) = ending (registry (RegFindIn name) (OkSlot s) ∷ session s [] (SessionFinish name) NoSession ∷ []) NoSession
finish_acts name (NotEnded s parts n m) =
    if have_distinct_files parts && nat_lt n (length (devices parts)) then
    ending (registry (RegFindIn name) (OkSlot s) ∷ (asked_until (devices parts) n m
    ++ session s (HasFiles s (map part_reference parts) ∷ map part_began parts) (SessionFinish name) HandlerFailed ∷ [])) HandlerFailed
    else None
finish_acts name (Ended s parts) =
    if have_distinct_files parts then
    ending (registry (RegFindIn name) (OkSlot s) ∷ (map (can_finish Ok) (devices parts) ++ (flat_map finish_part parts
    ++ session s (HasFiles s (map part_reference parts) ∷ []) (SessionFinish name) Ok ∷ registry (RegDropIn name) Ok ∷ []))) Ok
    else None
