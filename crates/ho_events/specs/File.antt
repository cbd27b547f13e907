-- A file: absent, or bytes with a position, runs at some of its indexes, and what holds it.
use Rattle.std.specs.Prelude.{◌≡◌, ℕ, ◌+◌, ◌-◌, ◌*◌, ◌/◌, ◌%◌, ◌^◌, Bool, true, false, not, ◌&&◌, ◌||◌, ◌==◌, nat_lt, nat_le, min, if◌then◌else◌, List, [], ◌∷◌, ◌++◌, map, filter, length, take, drop, replicate}
use Rattle.std.specs.Prelude.{Option, None, Some}
use Rattle.std.specs.Ordering.{nat_cmp}
use Rattle.std.specs.FinMap as finmap
use Rattle.ho_base.specs.declared.limits.TheConstants.{PAGE_BYTES, FILE_BYTES, DEVICE_BYTES}
use Rattle.ho_base.specs.declared.numbers.Kind.{Kind}
use Rattle.ho_base.specs.declared.numbers.Kind.TheVariants.{Memfd}
use Rattle.ho_base.specs.declared.numbers.Order.{Order}
use Rattle.ho_base.specs.declared.numbers.Pfn.{Pfn}
use Rattle.ho_events.specs.Lists.{only, upto, between, pieces, same_bytes, firsts, no_runs}
use Rattle.ho_events.specs.declared.event.Event.{Event}
use Rattle.ho_events.specs.declared.event.Event.TheVariants.{FileInit, FileWrite, FileFill, FileRead, FileTruncate, FileSeek, FileTell, FileCloseFd, FilePin, FileUnpin, FileOpenHeld, FileFinish}
use Rattle.ho_events.specs.declared.reply.Reply.{Reply}
use Rattle.ho_events.specs.declared.reply.Reply.TheVariants.{Ok, OkBytes, OkAt, OkRuns, Kept, KeptRuns, Gone, NoFramesOf, TooBig, SizeFrozen, PastEnd, NotFinished, AlreadyPinned, HandlerFailed}

-- a file's kind and order, bytes and position, the first frame of the run at each index that has one,
-- and whether a label, an outgoing session (`pin`) or an incoming session (`hold`) has it
pub record FileState : Type 0 where
  pub kind : Kind
  pub order : ℕ
  pub bytes : List ℕ
  pub position : ℕ
  pub runs : finmap.FinMap nat_cmp ℕ
  pub opened : Bool
  pub pin : Bool
  pub hold : Bool

abbrev pub is_device : Kind → Bool
is_device Memfd = false
is_device kind = true

-- the bytes that one index covers
abbrev pub index_bytes : FileState → ℕ
index_bytes f = PAGE_BYTES * 2 ^ f.order

-- the size can't change while a session has the file, and a device file's never does
abbrev pub is_frozen : FileState → Bool
is_frozen f = f.pin || f.hold || is_device f.kind

-- the indexes that a range of bytes touches
abbrev pub touched : FileState → ℕ → ℕ → List ℕ
touched f off len = between (off / index_bytes f) (pieces (off + len) (index_bytes f))

-- the indexes below an end;  those among some indexes that have no run
abbrev pub indexes : FileState → List ℕ
indexes f = upto (pieces (length f.bytes) (index_bytes f))

abbrev pub holes : FileState → List ℕ → List ℕ
holes f places = filter (λ i. not (finmap.contains_key f.runs i)) places

-- the holes that a range of bytes touches: none where the range is empty
abbrev pub touched_holes : FileState → ℕ → ℕ → List ℕ
touched_holes f off len = (if len == 0 then [] else holes f (touched f off len))

-- all runs by index
abbrev pub runs_of : FileState → List ℕ
runs_of f = finmap.values f.runs

-- runs put at holes, in rising index
abbrev pub filled : List ℕ → List ℕ → finmap.FinMap nat_cmp ℕ → finmap.FinMap nat_cmp ℕ
filled [] fills runs = runs
filled (i ∷ places) [] runs = runs
filled (i ∷ places) (p ∷ fills) runs = filled places fills (finmap.insert runs i p)

-- the bytes, extended with zeros to at least n
abbrev pub extended : ℕ → List ℕ → List ℕ
extended n bytes = bytes ++ replicate (n - length bytes) 0

-- the bytes with a range replaced; zeros stand between the old end and the range
abbrev pub overwritten : ℕ → List ℕ → List ℕ → List ℕ
overwritten off new bytes = take off (extended off bytes) ++ new ++ drop (off + length new) bytes

-- a range that ends past the greatest size;  one that would change a size that can't
abbrev pub is_too_big : ℕ → Bool
is_too_big end = nat_lt FILE_BYTES end

abbrev pub grows_frozen : FileState → ℕ → Bool
grows_frozen f end = nat_lt (length f.bytes) end && is_frozen f

-- a write of bytes at an offset: refused as too big, then as frozen; `NoFrames` with the number of
-- touched holes where there are some and no runs came; else one run a touched hole, in rising index
abbrev pub write_step : FileState → ℕ → List ℕ → List Pfn → Reply → Option (Option FileState)
write_step f off new fills TooBig = only (no_runs fills && is_too_big (off + length new)) (Some f)
write_step f off new fills SizeFrozen =
    only (no_runs fills && not (is_too_big (off + length new)) && grows_frozen f (off + length new)) (Some f)
write_step f off new fills (NoFramesOf h) =
    only (no_runs fills && not (is_too_big (off + length new)) && not (grows_frozen f (off + length new))
    && nat_lt 0 h && length (touched_holes f off (length new)) == h) (Some f)
write_step f off new fills Ok =
    only (not (is_too_big (off + length new)) && not (grows_frozen f (off + length new))
    && length fills == length (touched_holes f off (length new)))
    (Some (record f {
      bytes = overwritten off new f.bytes;
      runs = filled (touched_holes f off (length new)) (firsts fills) f.runs;
    }))
write_step f off new fills reply = None

-- the runs of the indexes wholly at or past a size, by index;  the runs without them
abbrev pub cut_runs : FileState → ℕ → List ℕ
cut_runs f size = map (λ e. e.1) (filter (λ e. nat_le (pieces size (index_bytes f)) e.0) (finmap.entries f.runs))

abbrev pub left_runs : FileState → ℕ → finmap.FinMap nat_cmp ℕ
left_runs f size = finmap.retain_keys f.runs (λ i. nat_lt i (pieces size (index_bytes f)))

-- the file when it has all its runs: where no session has it
abbrev pub pin_step : FileState → List Pfn → Reply → Option (Option FileState)
pin_step f fills NotFinished = only (no_runs fills && f.hold) (Some f)
pin_step f fills AlreadyPinned = only (no_runs fills && not f.hold && f.pin) (Some f)
pin_step f fills (NoFramesOf h) =
    only (no_runs fills && not f.hold && not f.pin
    && (if is_device f.kind then h == 0 else (nat_lt 0 h && length (holes f (indexes f)) == h))) (Some f)
pin_step f fills HandlerFailed = only (no_runs fills && not f.hold && not f.pin && is_device f.kind) (Some f)
pin_step f fills (OkRuns runs) =
    let places = holes f (indexes f) in
    let g : FileState = record f { runs = filled places (firsts fills) f.runs; pin = true } in
    only (not f.hold && not f.pin && length fills == length places && same_bytes (firsts runs) (runs_of g)) (Some g)
pin_step f fills reply = None

-- the end of the label's, the outgoing session's or the incoming session's hold: kept where another is
-- left, else gone with all runs by index
abbrev pub let_go : FileState → Reply → Option (Option FileState)
let_go g Kept = only (g.opened || g.pin || g.hold) (Some g)
let_go g (Gone runs) = only (not (g.opened || g.pin || g.hold) && same_bytes (firsts runs) (runs_of g)) None
let_go g reply = None

abbrev pub unpin_step : FileState → Reply → Option (Option FileState)
unpin_step g (KeptRuns runs) = only ((g.opened || g.hold) && same_bytes (firsts runs) (runs_of g)) (Some g)
unpin_step g (Gone runs) = only (not (g.opened || g.hold) && same_bytes (firsts runs) (runs_of g)) None
unpin_step g reply = None

-- an open file of zero bytes at position 0: without a run for a memfd, with one for a device file
abbrev pub new_file : Kind → ℕ → ℕ → List ℕ → FileState
new_file kind order size runs = record {
  kind = kind;
  order = order;
  bytes = replicate size 0;
  position = 0;
  runs = filled (upto (length runs)) runs finmap.empty;
  opened = true;
  pin = false;
  hold = false;
}

abbrev pub can_init : Kind → ℕ → ℕ → List Pfn → Bool
can_init Memfd order size runs = size == 0 && no_runs runs
can_init kind order size runs = order == 0 && nat_lt 0 size && nat_le size DEVICE_BYTES && length runs == 1

abbrev pub seek_step : FileState → ℕ → Reply → Option (Option FileState)
seek_step f to Ok = only (nat_le to (length f.bytes)) (Some (record f { position = to }))
seek_step f to PastEnd = only (nat_lt (length f.bytes) to) (Some f)
seek_step f to reply = None

abbrev pub read_step : FileState → ℕ → ℕ → Reply → Option (Option FileState)
read_step f off len (OkBytes bytes) =
    only (nat_le (off + len) (length f.bytes) && same_bytes bytes (take len (drop off f.bytes))) (Some f)
read_step f off len PastEnd = only (nat_lt (length f.bytes) (off + len)) (Some f)
read_step f off len reply = None

-- a new size: the bytes are cut or extended with zeros, and the position is at most the size
abbrev pub truncate_step : FileState → ℕ → Reply → Option (Option FileState)
truncate_step f size TooBig = only (is_too_big size) (Some f)
truncate_step f size SizeFrozen =
    only (not (is_too_big size) && is_frozen f && not (size == length f.bytes)) (Some f)
truncate_step f size (OkRuns given) =
    only (not (is_too_big size) && not (is_frozen f && not (size == length f.bytes))
    && same_bytes (firsts given) (cut_runs f size))
    (Some (record f {
      bytes = take size (extended size f.bytes);
      position = min f.position size;
      runs = left_runs f size;
    }))
truncate_step f size reply = None

abbrev pub init_step : Kind → Order → ℕ → List Pfn → Reply → Option (Option FileState)
init_step kind order size runs Ok =
    only (can_init kind order.0 size runs) (Some (new_file kind order.0 size (firsts runs)))
init_step kind order size runs reply = None

abbrev pub tell_step : FileState → Reply → Option (Option FileState)
tell_step f (OkAt at) = only (at == f.position) (Some f)
tell_step f reply = None

abbrev pub open_held_step : FileState → Reply → Option (Option FileState)
open_held_step f Ok = only (f.hold && not f.opened) (Some (record f { opened = true }))
open_held_step f reply = None

-- only an absent file can become one, and all other events are of a file that is there
abbrev pub file_step : Option FileState → Event → Reply → Option (Option FileState)
file_step None (FileInit kind order size runs) reply = init_step kind order size runs reply
file_step (Some f) (FileWrite off new fills) reply = write_step f off new fills reply
file_step (Some f) (FileFill off len byte fills) reply = write_step f off (replicate len byte) fills reply
file_step (Some f) (FileRead off len) reply = read_step f off len reply
file_step (Some f) (FileTruncate size) reply = truncate_step f size reply
file_step (Some f) (FileSeek to) reply = seek_step f to reply
file_step (Some f) FileTell reply = tell_step f reply
file_step (Some f) FileCloseFd reply = (if f.opened then let_go (record f { opened = false }) reply else None)
file_step (Some f) (FilePin fills) reply = pin_step f fills reply
file_step (Some f) FileUnpin reply = (if f.pin then unpin_step (record f { pin = false }) reply else None)
file_step (Some f) FileOpenHeld reply = open_held_step f reply
file_step (Some f) FileFinish reply = (if f.hold then let_go (record f { hold = false }) reply else None)
file_step f event reply = None
