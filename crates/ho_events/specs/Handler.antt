-- A handler of a kind of device files.
use Rattle.std.specs.Prelude.{◌≡◌, ℕ, ◌+◌, ◌-◌, Bool, true, false, not, ◌&&◌, ◌==◌, nat_lt, nat_le, ◌||◌, if◌then◌else◌, List, length, is_some, is_none}
use Rattle.std.specs.Prelude.{Option, None, Some}
use Rattle.ho_base.specs.declared.limits.TheConstants.{BOUND_BYTES}
use Rattle.ho_base.specs.declared.numbers.Pfn.{Pfn}
use Rattle.ho_events.specs.Lists.{only, same_bytes}
use Rattle.ho_events.specs.declared.event.Event.{Event}
use Rattle.ho_events.specs.declared.event.Event.TheVariants.{HandlerPreserve, HandlerUnpreserve, HandlerFinish, HandlerFreeze, HandlerCanFinish, HandlerUnfreeze, HandlerRetrieve}
use Rattle.ho_events.specs.declared.reply.Reply.{Reply}
use Rattle.ho_events.specs.declared.reply.Reply.TheVariants.{Ok, OkHandle, OkBound, Kept, Last, NoFrames, Failed}

-- a bound record: its bytes and its frame
pub record BoundState : Type 0 where
  pub bytes : List ℕ
  pub frame : ℕ

-- the outgoing or the incoming side: its number of files, and its bound record where there are some
pub record Side : Type 0 where
  pub files : ℕ
  pub bound : Option BoundState

-- both sides, and the count of faults that the last failure told
pub record HandlerState : Type 0 where
  pub outgoing : Side
  pub incoming : Side
  pub failures : ℕ

abbrev pub no_side : Side
no_side = record { files = 0; bound = None }

abbrev pub cold_handler : HandlerState
cold_handler = record { outgoing = no_side; incoming = no_side; failures = 0 }

-- whether a side has these bound bytes;  this frame
abbrev pub has_bytes : Option BoundState → List ℕ → Bool
has_bytes None bytes = false
has_bytes (Some b) bytes = same_bytes b.bytes bytes

abbrev pub has_frame : Option BoundState → ℕ → Bool
has_frame None p = false
has_frame (Some b) p = b.frame == p

-- one more file;  one fewer, and the bound record goes with the last
abbrev pub one_more : Side → Side
one_more s = record s { files = s.files + 1 }

abbrev pub one_fewer : Side → Side
one_fewer s = record s { files = s.files - 1 }

-- the first file of a kind brings the frame of the bound record, and no other does
abbrev pub brings_frame : Side → Option Pfn → Bool
brings_frame s frame = (is_some frame && s.files == 0) || (is_none frame && nat_lt 0 s.files)

-- a failure tells a count of faults that is greater than the last one
abbrev pub failed_step : HandlerState → ℕ → Option HandlerState
failed_step s m = only (nat_lt s.failures m) (record s { failures = m })

abbrev pub preserved : HandlerState → Option Pfn → List ℕ → Option HandlerState
preserved s (Some p) bytes =
    only (s.outgoing.files == 0 && nat_le (length bytes) BOUND_BYTES)
    (record s { outgoing = record { files = 1; bound = Some (record { bytes = bytes; frame = p.0 }) } })
preserved s None bytes =
    only (nat_lt 0 s.outgoing.files && has_bytes s.outgoing.bound bytes) (record s { outgoing = one_more s.outgoing })

abbrev pub preserve_step : HandlerState → Option Pfn → Reply → Option HandlerState
preserve_step s frame (OkHandle handle bytes) = preserved s frame bytes
preserve_step s frame NoFrames = only (s.outgoing.files == 0 && is_none frame) s
preserve_step s frame (Failed m) = (if brings_frame s.outgoing frame then failed_step s m else None)
preserve_step s frame reply = None

-- a file leaves a side: kept while others are left, and the last one gives the record's frame back
abbrev pub leave : Side → Reply → Option Side
leave side Kept = only (nat_lt 1 side.files) (one_fewer side)
leave side (Last p) = only (side.files == 1 && has_frame side.bound p.0) no_side
leave side reply = None

abbrev pub with_outgoing : HandlerState → Option Side → Option HandlerState
with_outgoing s None = None
with_outgoing s (Some side) = Some (record s { outgoing = side })

abbrev pub with_incoming : HandlerState → Option Side → Option HandlerState
with_incoming s None = None
with_incoming s (Some side) = Some (record s { incoming = side })

-- what may fail and changes nothing else
abbrev pub ask_step : HandlerState → Side → Reply → Option HandlerState
ask_step s side Ok = only (nat_lt 0 side.files) s
ask_step s side (Failed m) = (if nat_lt 0 side.files then failed_step s m else None)
ask_step s side reply = None

abbrev pub retrieve_step : HandlerState → Reply → Option HandlerState
retrieve_step s (OkBound bytes) = only (nat_lt 0 s.incoming.files && has_bytes s.incoming.bound bytes) s
retrieve_step s (Failed m) = (if nat_lt 0 s.incoming.files then failed_step s m else None)
retrieve_step s reply = None

abbrev pub handler_step : HandlerState → Event → Reply → Option HandlerState
handler_step s (HandlerPreserve file frame) reply = preserve_step s frame reply
handler_step s (HandlerUnpreserve file handle) reply = with_outgoing s (leave s.outgoing reply)
handler_step s (HandlerFinish file handle) reply = with_incoming s (leave s.incoming reply)
handler_step s (HandlerFreeze file handle) reply = ask_step s s.outgoing reply
handler_step s (HandlerCanFinish file handle) reply = ask_step s s.incoming reply
handler_step s (HandlerUnfreeze file handle) Ok = only (nat_lt 0 s.outgoing.files) s
handler_step s (HandlerRetrieve file handle) reply = retrieve_step s reply
handler_step s event reply = None
