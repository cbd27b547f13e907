-- The replies that come to some events.
use Rattle.std.specs.Prelude.{◌≡◌, ◌<◌, List, []}
use Rattle.std.specs.List.{All}
use Rattle.ho_base.specs.declared.numbers.Order.{Order}
use Rattle.ho_base.specs.declared.limits.TheConstants.{FILES, OUT_SLOTS}
use Rattle.ho_events.specs.declared.reply.Reply.{Reply}
use Rattle.ho_events.specs.declared.reply.Reply.TheVariants.{OkFile, OkSlot, Kept, KeptRuns, Gone, FilesFull, NameTaken, SessionsFull, NoSession}
use Rattle.phys_frames.specs.Homes.{HomeId}
use Rattle.phys_frames.specs.Memory.{AreOf, FolioValue, first_frames}

-- a file number, or that all are in use
abbrev pub IsFileReply : Reply → Type 0
IsFileReply (OkFile f) = f.0 < FILES
IsFileReply FilesFull = Unit {0}
IsFileReply reply = ⊥

-- a slot for a new name, that the name is there, or that all slots are in use
abbrev pub IsCreateReply : Reply → Type 0
IsCreateReply (OkSlot s) = s.0 < OUT_SLOTS
IsCreateReply NameTaken = Unit {0}
IsCreateReply SessionsFull = Unit {0}
IsCreateReply reply = ⊥

-- the slot of a name, or that there is none
abbrev pub IsFindReply : Reply → Type 0
IsFindReply (OkSlot s) = s.0 < OUT_SLOTS
IsFindReply NoSession = Unit {0}
IsFindReply reply = ⊥

-- all runs of a file that something still holds, or of one that is gone
abbrev pub IsUnpinReply : Reply → Type 0
IsUnpinReply (KeptRuns runs) = Unit {0}
IsUnpinReply (Gone runs) = Unit {0}
IsUnpinReply reply = ⊥

-- that a session still holds a file, or all runs of one that is gone
abbrev pub IsCloseFdReply : Reply → Type 0
IsCloseFdReply Kept = Unit {0}
IsCloseFdReply (Gone runs) = Unit {0}
IsCloseFdReply reply = ⊥

-- the folios that a file of this order gives up when a label's hold or a pin ends: none where it is kept, and those of
-- its runs where it is gone
abbrev pub IsGivenUp : HomeId → Order → Reply → List FolioValue → Type 0
IsGivenUp home order Kept folios = folios ≡ []
IsGivenUp home order (KeptRuns runs) folios = folios ≡ []
IsGivenUp home order (Gone runs) folios = (first_frames folios ≡ runs) × AreOf home folios × All (λ f. f.order ≡ order) folios
IsGivenUp home order reply folios = ⊥
