-- What a block leaves: the kernel that goes on, or the frames of one that ended.
use Rattle.std.specs.Prelude.{◌≡◌, ℕ, ◌+◌, ◌<◌, ◌≤◌, Bool, true, false, List}
use Rattle.std.specs.List.{All}
use Rattle.ho_base.specs.declared.limits.TheConstants.{KEXECS}
use Rattle.ho_base.specs.declared.numbers.Kind.TheVariants.{Memfd}
use Rattle.ho_events.specs.declared.entry.Entry.{Entry}
use Rattle.ho_events.specs.declared.script.Block.{Block}
use Rattle.ho_world.specs.Frozen.{Frozen, frozen, carried_files, scratch_need, scratch_have}
use Rattle.ho_world.specs.World.{World}
use Rattle.kexec_boot.specs.Begins.{BeginsAs}
use Rattle.machine_core.specs.Kernels.{KernelValue}
use Rattle.machine_core.specs.Worlds.{IsWorldOf}
use Rattle.record_frames.specs.Carries.{Carries}
use Rattle.record_frames.specs.Sheeted.{ram_of}
use Rattle.handover_cli.specs.Images.{IsReadBack}
use Rattle.handover_cli.specs.Works.{DidBlock}
use Rattle.handover_cli.specs.declared.rebooting.Ended.{Ended}
use Rattle.handover_cli.specs.declared.rebooting.Next.{Next}
use Rattle.handover_cli.specs.declared.rebooting.Next.TheVariants as next

-- every carried file of a state is a memfd
abbrev pub HasMemfds : Frozen → Type 0
HasMemfds f = All (λ c. c.kind ≡ Memfd) (carried_files f)

-- A kernel ended so: its frames carry what is frozen of its world, and are read back from their image; the machine's shape
-- stays, and the program fits.
pub record EndedAs (old : KernelValue) (e : Ended) : Type 0 where
  pub kernel : e.kernel ≡ old.number
  pub shape : e.handoff.shape ≡ old.shape
  pub back : IsReadBack e.handoff.frames e.handoff.entry.0
  pub carries : (w : World) → IsWorldOf old w → Carries (ram_of e.handoff.frames) e.handoff.entry.0 (frozen w)
  pub same_shape : (w : World) → IsWorldOf old w → (frozen w).shape ≡ old.shape
  pub memfds : (w : World) → IsWorldOf old w → HasMemfds (frozen w)
  pub fits : scratch_need old.shape e.blob ≤ scratch_have old.shape

-- a block left its kernel so
abbrev pub LeftAs : KernelValue → Next → Type 0
LeftAs old (next.Same kernel) = kernel ≡ old
LeftAs old (next.Ended e) = EndedAs old e

-- whether the kernel ended
abbrev pub has_ended : Next → Bool
has_ended (next.Same kernel) = false
has_ended (next.Ended e) = true

-- a block was done on a kernel, with these entries, and left it so
pub record DidAndLeft (number : ℕ) (block : Block) (kernel : KernelValue) (entries : List Entry) (n : Next) : Type 0 where
  pub old : KernelValue
  pub did : DidBlock number block kernel old entries (has_ended n)
  pub left : LeftAs old n

-- the next kernel can boot from what the last one left
pub record CanBoot (e : Ended) : Type 0 where
  pub state : Frozen
  pub carries : Carries (ram_of e.handoff.frames) e.handoff.entry.0 state
  pub shape : state.shape ≡ e.handoff.shape
  pub memfds : HasMemfds state
  pub fits : scratch_need e.handoff.shape e.blob ≤ scratch_have e.handoff.shape
  pub few : e.kernel < KEXECS

abbrev pub CanGoOn : Next → Type 0
CanGoOn (next.Same kernel) = Unit {0}
CanGoOn (next.Ended e) = CanBoot e

-- a kernel begins with what the frames carry that the last one left;  or the same one runs
abbrev pub BootsAs : Ended → KernelValue → Type 0
BootsAs e kernel' = (f : Frozen) → Carries (ram_of e.handoff.frames) e.handoff.entry.0 f → BeginsAs (e.kernel + 1) f kernel'

abbrev pub RunsAs : Next → KernelValue → Type 0
RunsAs (next.Same kernel) kernel' = kernel' ≡ kernel
RunsAs (next.Ended e) kernel' = BootsAs e kernel'
