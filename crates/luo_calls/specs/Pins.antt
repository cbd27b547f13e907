-- What the turns of a pin did.
use Rattle.std.specs.Prelude.{◌≡◌, ℕ, ◌<◌, ◌^◌, ◌||◌, Bool, false, List, [], ◌∷◌, ◌++◌, length, map, IsTrue, Option, None, Some, if◌then◌else◌}
use Rattle.std.specs.declared.snapshot.Snapshot.{Snapshot}
use Rattle.ho_base.specs.Objects.{pool_no, file_no}
use Rattle.ho_base.specs.declared.items.Items.{Items}
use Rattle.ho_base.specs.declared.numbers.FileNo.{FileNo}
use Rattle.ho_base.specs.declared.numbers.Kind.TheVariants.{Memfd}
use Rattle.ho_base.specs.declared.numbers.Order.{Order}
use Rattle.ho_base.specs.declared.numbers.Pfn.{Pfn}
use Rattle.ho_events.specs.File.{FileState, holes, indexes}
use Rattle.ho_events.specs.declared.event.Event.TheVariants.{FilePin, PoolTake}
use Rattle.ho_events.specs.declared.reply.Reply.{Reply}
use Rattle.ho_events.specs.declared.reply.Reply.TheVariants.{NoFrames, NoFramesOf, OkRuns}
use Rattle.ho_world.specs.Acts.{IsFile}
use Rattle.ho_world.specs.Logs.{Deed, deed_at, deed_of}
use Rattle.ho_world.specs.Sequences.Files.{fits_file}
use Rattle.ho_world.specs.Sequences.Preserving.{is_pin_refusal, no_or_fits, take_holes}
use Rattle.file_folios.specs.declared.facts.Facts.{Facts}
use Rattle.luo_calls.specs.declared.turns.pin.Pin.{Pin}
use Rattle.luo_calls.specs.declared.turns.pin.Pin.TheVariants.{Refused, Starved, Whole}

-- a session has the file; none is told where no file is there
abbrev pub is_kept_by : Option Facts → Bool
is_kept_by None = false
is_kept_by (Some f) = f.pin || f.hold

-- how many runs a pin takes: one for each hole below the size, and none where a session has the file
abbrev pub wanted_pins : FileState → ℕ
wanted_pins f = (if f.pin || f.hold then 0 else length (holes f (indexes f)))

-- no session has the file, and so many indexes below its size have no run: there are some
pub record HasHoles (f : FileState) (count : ℕ) : Type 0 where
  pub unpinned : f.pin ≡ false
  pub unheld : f.hold ≡ false
  pub count_is : count ≡ length (holes f (indexes f))
  pub some : 0 < count

-- a memfd of this order is pinned with these runs for its holes, which is answered so
abbrev pub pinned_with : FileNo → Order → List Pfn → Reply → Deed
pinned_with f o fills reply = deed_at (file_no f.0) (IsFile f Memfd o ∷ []) (FilePin fills) reply

-- the deeds of a pin that came out so: the take of runs for the holes, where there are some, and the pin
abbrev pub pin_deeds : FileNo → Pin → List Deed
pin_deeds f (Refused reply) = deed_at (file_no f.0) [] (FilePin []) reply ∷ []
pin_deeds f (Starved o h) = deed_at pool_no (IsFile f Memfd o ∷ []) (PoolTake o h) NoFrames ∷ pinned_with f o [] (NoFramesOf h) ∷ []
pin_deeds f (Whole o fills runs) = map deed_of (take_holes f o fills.value) ++ pinned_with f o fills.value (OkRuns runs) ∷ []

-- a refusal is one of the file's, and a memfd of that order may have so many holes
abbrev pub IsPin : Pin → Type 0
IsPin (Refused reply) = IsTrue (is_pin_refusal reply)
IsPin (Starved o h) = IsTrue (fits_file o h)
IsPin (Whole o fills runs) = IsTrue (no_or_fits o fills.value) × (length runs < 2 ^ 32)

-- all runs of a file that was pinned
abbrev pub runs_in : Pin → List Pfn
runs_in (Whole o fills runs) = runs
runs_in p = []

-- these are the deeds of a pin of the file, in whichever way it comes out
pub record ArePins (f : FileNo) (ds : List Deed) : Type 0 where
  pub outcome : Pin
  pub fits : IsPin outcome
  pub deeds_are : ds ≡ pin_deeds f outcome

-- what a pin came to that was answered so, with these runs for the holes
abbrev pub came_to : Order → Snapshot (Items Pfn) → Reply → Pin
came_to o fills (OkRuns runs) = Whole o fills runs
came_to o fills reply = Refused reply
