-- The sequences of the commands: for each way in which a command can come out, the exact list of its acts.
use Rattle.std.specs.Prelude.{◌≡◌, ℕ, ◌+◌, ◌-◌, ◌*◌, ◌/◌, ◌^◌, ◌&&◌, ◌||◌, ◌==◌, if◌then◌else◌, List, [], ◌∷◌, ◌++◌, length, Option, None, Some}
use Rattle.std.specs.Ordering.{nat_cmp}
use Rattle.std.specs.Cmp.Lexicographic.{slice_cmp}
use Rattle.std.specs.FinMap as finmap
use Rattle.ho_base.specs.declared.numbers.Kind.TheVariants.{Memfd}
use Rattle.ho_base.specs.declared.numbers.Pfn.{Pfn}
use Rattle.ho_base.specs.declared.numbers.Token.{Token}
use Rattle.ho_base.specs.declared.numbers.FileNo.{FileNo}
use Rattle.ho_events.specs.declared.command.Command.{Command}
use Rattle.ho_events.specs.declared.event.Event.{Event}
use Rattle.ho_events.specs.declared.event.Event.TheVariants.{FileWrite, FileFill, FileRead, FileSeek, FileTell}
use Rattle.ho_events.specs.declared.reply.Reply.{Reply}
use Rattle.ho_events.specs.declared.reply.Reply.TheVariants.{BadFd}
use Rattle.ho_events.specs.declared.command.Command.TheVariants as command
use Rattle.ho_world.specs.World.{World}
use Rattle.ho_world.specs.Acts.{Sequence, file, ending}
use Rattle.ho_world.specs.Tasks.{Task, Ask, Reboot}
use Rattle.ho_world.specs.Sequences.Files.{MemfdOutcome, memfd_acts, DeviceOutcome, device_acts, WriteOutcome, write_acts, TruncateOutcome, truncate_acts, CloseFdOutcome, close_fd_acts}
use Rattle.ho_world.specs.Sequences.Sessions.{CreateOutcome, create_acts, OpenOutcome, open_acts, RetrieveOutcome, retrieve_acts}
use Rattle.ho_world.specs.Sequences.Preserving.{PreserveOutcome, preserve_acts}
use Rattle.ho_world.specs.Sequences.Parts.{CloseOutcome, close_acts, FinishOutcome, finish_acts}
use Rattle.ho_world.specs.Sequences.Kexecs.{KexecOutcome, kexec_acts}
pub mod Files
pub mod Kexecs
pub mod Parts
pub mod Preserving
pub mod Sessions

-- an agent's labels with their files
abbrev pub Labels : Type 0
Labels = finmap.FinMap (slice_cmp nat_cmp) FileNo

-- how a task comes out
pub data Outcome : Type 0 where
  NoFile : Outcome
  MemfdCame : MemfdOutcome → Outcome
  DeviceCame : DeviceOutcome → Outcome
  WriteCame : WriteOutcome → Outcome
  ReadCame : Reply → Outcome
  TruncateCame : TruncateOutcome → Outcome
  CloseFdCame : CloseFdOutcome → Outcome
  CreateCame : CreateOutcome → Outcome
  PreserveCame : PreserveOutcome → Outcome
  CloseCame : CloseOutcome → Outcome
  OpenCame : OpenOutcome → Outcome
  RetrieveCame : RetrieveOutcome → Outcome
  FinishCame : FinishOutcome → Outcome
  KexecCame : KexecOutcome → Outcome

-- a command on a label: without a file it is refused before all else
abbrev pub on_label : Option FileNo → (FileNo → Outcome → Option Sequence) → Outcome → Option Sequence
on_label None made NoFile = ending [] BadFd
on_label None made outcome = None
on_label (Some f) made outcome = made f outcome

abbrev pub written : ℕ → ℕ → (List Pfn → Event) → FileNo → Outcome → Option Sequence
written off len event f (WriteCame x) = write_acts f off len event x
written off len event f outcome = None

abbrev pub answered : Event → FileNo → Outcome → Option Sequence
answered event f (ReadCame x) = ending (file f [] event x ∷ []) x
answered event f outcome = None

abbrev pub truncated : ℕ → FileNo → Outcome → Option Sequence
truncated size f (TruncateCame x) = truncate_acts f size x
truncated size f outcome = None

abbrev pub closed_fd : FileNo → Outcome → Option Sequence
closed_fd f (CloseFdCame x) = close_fd_acts f x
closed_fd f outcome = None

abbrev pub preserved : List ℕ → Token → FileNo → Outcome → Option Sequence
preserved name t f (PreserveCame x) = preserve_acts name t f x
preserved name t f outcome = None

-- the sequence of a command with this outcome, where the command can come out so
abbrev pub command_acts : Labels → Command → Outcome → Option Sequence
command_acts labels (command.Memfd label o) (MemfdCame x) = memfd_acts o x
command_acts labels (command.Device label kind size) (DeviceCame x) = device_acts kind size x
command_acts labels (command.Write label off bytes) x =
    on_label (finmap.get labels label) (written off (length bytes) (λ fills. FileWrite off bytes fills)) x
command_acts labels (command.Fill label off len byte) x =
    on_label (finmap.get labels label) (written off len (λ fills. FileFill off len byte fills)) x
command_acts labels (command.Read label off len) x = on_label (finmap.get labels label) (answered (FileRead off len)) x
command_acts labels (command.Truncate label size) x = on_label (finmap.get labels label) (truncated size) x
command_acts labels (command.Seek label to) x = on_label (finmap.get labels label) (answered (FileSeek to)) x
command_acts labels (command.Tell label) x = on_label (finmap.get labels label) (answered FileTell) x
command_acts labels (command.CloseFd label) x = on_label (finmap.get labels label) closed_fd x
command_acts labels (command.Create name) (CreateCame x) = create_acts name x
command_acts labels (command.Preserve name t label) x = on_label (finmap.get labels label) (preserved name t) x
command_acts labels (command.Close name) (CloseCame x) = close_acts name x
command_acts labels (command.Open name) (OpenCame x) = open_acts name x
command_acts labels (command.Retrieve name t label) (RetrieveCame x) = retrieve_acts name t x
command_acts labels (command.Finish name) (FinishCame x) = finish_acts name x
command_acts labels command outcome = None

-- the sequence of a task: a command knows its agent's labels alone, a kexec the world
abbrev pub sequence : Labels → World → Task → Outcome → Option Sequence
sequence labels w (Ask c) outcome = command_acts labels c outcome
sequence labels w (Reboot blob) (KexecCame x) = kexec_acts w blob x
sequence labels w (Reboot blob) outcome = None
