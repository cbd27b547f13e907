-- What the turns of a `truncate` did.
use Rattle.std.specs.Prelude.{◌≡◌, List, [], ◌∷◌}
use Rattle.std.specs.List.{All}
use Rattle.ho_base.specs.declared.numbers.FileNo.{FileNo}
use Rattle.ho_base.specs.declared.numbers.Kind.TheVariants.{Memfd}
use Rattle.ho_base.specs.declared.numbers.Order.{Order}
use Rattle.ho_events.specs.declared.reply.Reply.{Reply}
use Rattle.ho_events.specs.declared.reply.Reply.TheVariants.{Ok, OkRuns, SizeFrozen, TooBig}
use Rattle.ho_world.specs.Acts.{Act, Claim, IsFile}
use Rattle.phys_frames.specs.Homes.{HomeId}
use Rattle.phys_frames.specs.Memory.{AreOf, FolioValue, first_frames}
use Rattle.luo_calls.specs.Closing.{given_back}

-- that the size is refused, or the runs of the indexes past it
abbrev pub IsTruncateReply : Reply → Type 0
IsTruncateReply TooBig = Unit {0}
IsTruncateReply SizeFrozen = Unit {0}
IsTruncateReply (OkRuns runs) = Unit {0}
IsTruncateReply reply = ⊥

-- the folios that a file of this order gives up at such a reply: those of its runs, and none where the size is refused
abbrev pub IsCutOff : HomeId → Order → Reply → List FolioValue → Type 0
IsCutOff home order (OkRuns runs) folios = (first_frames folios ≡ runs) × AreOf home folios × All (λ f. f.order ≡ order) folios
IsCutOff home order reply folios = folios ≡ []

-- what is read of the file at a reply: its kind and order where the size is changed
abbrev pub truncate_read : FileNo → Order → Reply → List Claim
truncate_read f o (OkRuns runs) = IsFile f Memfd o ∷ []
truncate_read f o reply = []

-- what follows a reply: the runs are given back, where there are some
abbrev pub after_truncate : Order → Reply → List Act
after_truncate o (OkRuns runs) = given_back o runs
after_truncate o reply = []

-- what the command is answered
abbrev pub truncate_answer : Reply → Reply
truncate_answer (OkRuns runs) = Ok
truncate_answer reply = reply
