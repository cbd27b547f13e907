-- What freezing a kernel comes to.
use Rattle.std.specs.Prelude.{◌≡◌, ℕ, ◌+◌, ◌≤◌, ◌^◌, max, List, [], length, Some}
use Rattle.std.specs.List.{All}
use Rattle.ho_base.specs.declared.numbers.Blob.{Blob}
use Rattle.ho_base.specs.declared.numbers.Pfn.{Pfn}
use Rattle.ho_base.specs.declared.numbers.Kind.TheVariants.{Memfd}
use Rattle.ho_events.specs.History.{last_stamp}
use Rattle.ho_events.specs.declared.entry.Entry.{Entry}
use Rattle.ho_events.specs.declared.slip.At.{At}
use Rattle.ho_world.specs.Acts.{Sequence}
use Rattle.ho_world.specs.Frozen.{carried_files, frozen, scratch_need, scratch_have, need}
use Rattle.ho_world.specs.Logs.{AreDone, deeds_of, grown, paired_on}
use Rattle.ho_world.specs.Sequences.Kexecs.{KexecOutcome, TooSmall, NoRoom, KernelEnds, kexec_acts}
use Rattle.ho_world.specs.World.{World}
use Rattle.phys_frames.specs.Memory.{AreOf}
use Rattle.machine_core.specs.Gathered.{IsAccounted}
use Rattle.machine_core.specs.Kernels.{KernelValue, starts_in, begun_in, histories_in, IsRunAt}
use Rattle.machine_core.specs.Worlds.{IsWorldOf}
use Rattle.record_frames.specs.Ram.{Ram}
use Rattle.record_frames.specs.State.{state_in}
use Rattle.kho_writer.specs.Folios.{CarryIt}
use Rattle.kernel_carried.specs.Gathered.{HoldsFilesIn}
use Rattle.freeze_path.specs.declared.freezing.Frozen.{Frozen}
use Rattle.freeze_path.specs.declared.freezing.Freezing.{Freezing}
use Rattle.freeze_path.specs.declared.freezing.Freezing.TheVariants as came

-- a kernel is another one after entries: all stays but the histories, which are longer by the entries and still runs, and the greatest
-- stamp
pub record IsStill (kernel kernel' : KernelValue) (entries : List Entry) : Type 0 where
  pub number : kernel'.number ≡ kernel.number
  pub updates : kernel'.updates ≡ kernel.updates
  pub shape : kernel'.shape ≡ kernel.shape
  pub home : kernel'.home ≡ kernel.home
  pub labels : kernel'.labels ≡ kernel.labels
  pub starts : starts_in kernel'.objects ≡ starts_in kernel.objects
  pub histories : histories_in kernel'.objects ≡ grown (histories_in kernel.objects) entries
  pub runs : (n : ℕ) → IsRunAt (starts_in kernel'.objects n) (histories_in kernel'.objects n)
  pub base : kernel'.base ≡ max kernel.base (last_stamp entries)

-- the entries are a whole sequence of a kexec on this kernel, which came out so
pub record DidKexec (kernel : KernelValue) (at : At) (blob : Blob) (outcome : KexecOutcome) (entries : List Entry) : Type 0 where
  pub sequence : Sequence
  pub is_one : (w : World) → IsWorldOf kernel w → kexec_acts w blob outcome ≡ Some sequence
  pub last : ℕ
  pub done : AreDone (begun_in kernel.objects) at at.last (deeds_of sequence) (paired_on (begun_in kernel.objects) (histories_in kernel.objects) [] entries) last

-- What was frozen is this kernel's as it stands: what is carried is what a kexec of it carries, where the frames hold its files; all
-- carried files are memfds; the folios carry it; each is one frame of the kernel's machine; and each owned frame is one of them or
-- stands in a run of a file.
pub record IsOfKernel (kernel : KernelValue) (f : Frozen) : Type 0 where
  pub carried : (w : World) → IsWorldOf kernel w → (ram : Ram) → ram.count ≡ kernel.shape.frames → HoldsFilesIn ram kernel.objects → state_in ram f.carried ≡ frozen w
  pub memfds : (ram : Ram) → All (λ c. c.kind ≡ Memfd) (carried_files (state_in ram f.carried))
  pub carry : CarryIt f.carried f.folios.items
  pub some : 1 ≤ length f.folios.items
  pub bounds : f.carried.bounds ≡ []
  pub home : AreOf kernel.home f.folios.items
  pub single : All (λ g. g.order.0 ≡ 0) f.folios.items
  pub shape : f.carried.shape ≡ kernel.shape
  pub accounted : IsAccounted kernel.shape.frames kernel.objects f.folios.items
  pub fits : scratch_need kernel.shape f.blob ≤ scratch_have kernel.shape

-- the kernel was frozen: the kexec took frames and ended the kernel
pub record FrozeAll (kernel : KernelValue) (at : At) (blob : Blob) (kernel' : KernelValue) (entries : List Entry) (f : Frozen) : Type 0 where
  pub runs : List Pfn
  pub did : DidKexec kernel at blob (KernelEnds runs) entries
  pub is_of : IsOfKernel kernel' f
  pub blob_is : f.blob ≡ blob

-- the scratch area is too small for the program
pub record FoundSmall (kernel : KernelValue) (at : At) (blob : Blob) (entries : List Entry) (needed have : ℕ) : Type 0 where
  pub did : DidKexec kernel at blob TooSmall entries
  pub needed_is : needed ≡ scratch_need kernel.shape blob
  pub have_is : have ≡ scratch_have kernel.shape

-- too few frames are free for the records
pub record FoundFew (kernel : KernelValue) (at : At) (blob : Blob) (entries : List Entry) (needed : ℕ) : Type 0 where
  pub did : DidKexec kernel at blob NoRoom entries
  pub needed_is : (w : World) → IsWorldOf kernel w → needed ≡ need (frozen w)

-- the greatest stamp is too great for two entries more
pub record IsLate (kernel : KernelValue) (entries : List Entry) (t : ℕ) : Type 0 where
  pub stamp : t ≡ kernel.base
  pub late : 2 ^ 63 ≤ t + 1
  pub none : entries ≡ []

abbrev pub Froze : KernelValue → At → Blob → KernelValue → List Entry → Freezing → Type 0
Froze kernel at blob kernel' entries (came.Frozen f) = FrozeAll kernel at blob kernel' entries f
Froze kernel at blob kernel' entries (came.ScratchSmall needed have) = FoundSmall kernel at blob entries needed have
Froze kernel at blob kernel' entries (came.NoFrames needed) = FoundFew kernel at blob entries needed
Froze kernel at blob kernel' entries (came.Late t) = IsLate kernel entries t
Froze kernel at blob kernel' entries came.Memory = entries ≡ []
