-- What a file answers.
use Rattle.std.specs.Prelude.{◌≡◌, ℕ, ◌≤◌, Bool, true, false, ◌||◌, IsTrue, List, []}
use Rattle.std.specs.Prelude.{Option, None, Some, MatchOption}
use Rattle.std.specs.FinMap as finmap
use Rattle.ho_base.specs.declared.limits.TheConstants.{MAX_ORDER}
use Rattle.ho_base.specs.declared.numbers.Kind.TheVariants.{Memfd}
use Rattle.phys_frames.specs.Homes.{HomeId}
use Rattle.phys_frames.specs.Memory.{Memory, FolioValue}
use Rattle.ho_events.specs.Lists.{firsts}
use Rattle.ho_events.specs.File.{FileState, runs_of}
use Rattle.ho_events.specs.Contents.{Content, Plain, OfFile}
use Rattle.ho_events.specs.declared.reply.Reply.{Reply}
use Rattle.ho_events.specs.declared.reply.Reply.TheVariants.{Kept, KeptRuns, Gone}
use Rattle.file_folios.specs.Slots.{with_folios, AreOut}
use Rattle.file_folios.specs.FileAnswers.{folios_of}
use Rattle.file_folios.specs.declared.facts.Facts.{Facts}
use Rattle.memfd_file.specs.FileValues.{FileValue, FileIs}

-- the file is there, in a state of which a fact holds
abbrev pub FileHas : FileValue → (FileState → Type 0) → Type 0
FileHas v P = FileIs v (λ s. MatchOption s ⊥ P)

-- a memfd of an order that runs may have
pub record IsMemfdFile (f : FileState) : Type 0 where
  pub kind : f.kind ≡ Memfd
  pub order : f.order ≤ MAX_ORDER

-- a file by its facts, as a sequence reads it
abbrev pub content_told : Option Facts → Content
content_told None = Plain
content_told (Some facts) = OfFile facts.kind facts.order.0

-- the first frame of the run at an index; none where there is none, or no file
abbrev pub run_at : Option FileState → ℕ → Option ℕ
run_at None i = None
run_at (Some f) i = finmap.get f.runs i

-- a label has the file;  an outgoing session has it
abbrev pub is_opened : Option FileState → Bool
is_opened None = false
is_opened (Some f) = f.opened

abbrev pub is_pinned : Option FileState → Bool
is_pinned None = false
is_pinned (Some f) = f.pin

-- what the end of a pin is answered: all runs by index, kept where a label or an incoming session has the
-- file, and else gone with it
abbrev pub IsUnpinAnswer : FileState → Reply → Type 0
IsUnpinAnswer f (KeptRuns runs) = IsTrue (f.opened || f.hold) × (firsts runs ≡ runs_of f)
IsUnpinAnswer f (Gone runs) = ((f.opened || f.hold) ≡ false) × (firsts runs ≡ runs_of f)
IsUnpinAnswer f reply = ⊥

-- what the end of a label's hold is answered: kept where an outgoing or an incoming session has the file, and else
-- gone with all runs by index
abbrev pub IsCloseFdAnswer : FileState → Reply → Type 0
IsCloseFdAnswer f Kept = IsTrue (f.pin || f.hold)
IsCloseFdAnswer f (Gone runs) = ((f.pin || f.hold) ≡ false) × (firsts runs ≡ runs_of f)
IsCloseFdAnswer f reply = ⊥

-- what the end of an incoming session's hold is answered: kept where a label or an outgoing session has the file, and
-- else gone with all runs by index
abbrev pub IsFinishAnswer : FileState → Reply → Type 0
IsFinishAnswer f Kept = IsTrue (f.opened || f.pin)
IsFinishAnswer f (Gone runs) = ((f.opened || f.pin) ≡ false) × (firsts runs ≡ runs_of f)
IsFinishAnswer f reply = ⊥

-- the folios that a file gives up: all, by index, where it is gone
abbrev pub given_up : HomeId → FileState → Reply → List FolioValue
given_up home f (Gone runs) = folios_of f home
given_up home f reply = []

-- frames to which a file gave its folios back;  each frame of these is out
abbrev pub with_file_home : Memory → HomeId → Option FileState → Memory
with_file_home m home None = m
with_file_home m home (Some f) = with_folios m (folios_of f home)

abbrev pub FileIsOut : Memory → HomeId → Option FileState → Type 0
FileIsOut m home None = Unit {0}
FileIsOut m home (Some f) = AreOut m (folios_of f home)
