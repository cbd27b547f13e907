-- What a run can do so far, and what it does: rounds of one agent, or of none, and kexecs.
use Rattle.std.specs.Prelude.{◌≡◌, ℕ, ◌+◌, ◌<◌, ◌≤◌, ◌^◌, Bool, true, false, List, [], ◌∷◌, length, slice_get, IsTrue, Some}
use Rattle.std.specs.List.{list_all}
use Rattle.ho_base.specs.declared.limits.TheConstants.{KEXECS, MAX_FRAMES}
use Rattle.ho_base.specs.declared.numbers.Blob.{Blob}
use Rattle.ho_events.specs.Script.Rules.{is_built, kexecs_in}
use Rattle.ho_events.specs.declared.entry.Entry.{Entry}
use Rattle.ho_events.specs.declared.script.AgentWork.{AgentWork}
use Rattle.ho_events.specs.declared.script.Block.{Block}
use Rattle.ho_events.specs.declared.script.Block.TheVariants.{Round, Kexec}
use Rattle.ho_events.specs.declared.slip.At.{At}
use Rattle.ho_world.specs.Alone.{IsRoundOf}
use Rattle.ho_world.specs.Frozen.{frozen}
use Rattle.ho_world.specs.Sequences.Kexecs.{KexecOutcome}
use Rattle.ho_world.specs.Through.{HasRisingNumbers}
use Rattle.ho_world.specs.World.{World}
use Rattle.kexec_laws.specs.Kexecs.{IsKexecOf, kexec_number, ends}
use Rattle.machine_core.specs.Kernels.{KernelValue}
use Rattle.machine_core.specs.LabelsShown.{agent_count}
use Rattle.machine_core.specs.Worlds.{IsWorldOf}
use Rattle.kexec_boot.specs.Begins.{BeginsAs}
use Rattle.freeze_path.specs.Freezes.{IsStill, DidKexec}
use Rattle.sound_histories.specs.Scripts.{AreSoundBlocks}
use Rattle.handover_cli.specs.Rounds.{WorkedAlone}

-- an agent's commands are built ones, and its number and theirs are in their ranges
pub record IsFit (work : AgentWork) : Type 0 where
  pub above : 0 < work.agent.0
  pub agent : work.agent.0 < agent_count
  pub built : IsTrue (list_all is_built work.commands)
  pub numbers : work.first + length work.commands < 2 ^ 32

-- a blob takes at least one frame, and no more than a machine may have
pub record HasRange (blob : Blob) : Type 0 where
  pub least : 1 ≤ blob.frames
  pub most : blob.frames ≤ MAX_FRAMES

-- a block that a run can do
abbrev pub CanDo : Block → Type 0
CanDo (Round []) = Unit {0}
CanDo (Round (work ∷ [])) = IsFit work
CanDo (Round (work ∷ more ∷ works)) = ⊥
CanDo (Kexec blob) = HasRange blob

-- where agent 0's kexec of this number begins on a kernel: after the greatest stamp
abbrev pub kexec_at : KernelValue → ℕ → At
kexec_at kernel number = record { kernel = kernel.number; agent = record { 0 = 0 }; command = number; last = kernel.base }

-- A kexec of this number was done on a kernel: its entries, the kernel `old` as they left it, and whether it ended.
pub record Kexeced (number : ℕ) (blob : Blob) (kernel old : KernelValue) (entries : List Entry) (ended : Bool) : Type 0 where
  pub still : IsStill kernel old entries
  pub outcome : KexecOutcome
  pub did : DidKexec kernel (kexec_at kernel number) blob outcome entries
  pub ending : ends outcome ≡ ended

-- a round was done on a kernel: its entries, and the kernel `old` as they left it
abbrev pub DidRound : List AgentWork → KernelValue → KernelValue → List Entry → Type 0
DidRound [] kernel old entries = (old ≡ kernel) × (entries ≡ [])
DidRound (work ∷ works) kernel old entries = WorkedAlone kernel work old entries

-- A block was done on a kernel: its entries, the kernel `old` as they left it, and whether it ended. The number is that
-- of the next kexec.
abbrev pub DidBlock : ℕ → Block → KernelValue → KernelValue → List Entry → Bool → Type 0
DidBlock number (Round works) kernel old entries ended = DidRound works kernel old entries × (ended ≡ false)
DidBlock number (Kexec blob) kernel old entries ended = Kexeced number blob kernel old entries ended

-- the kernel that runs after a block: the old one, or where it ended the next one, which begins with what was frozen of
-- the old one's world
abbrev pub FollowsAs : Bool → KernelValue → KernelValue → Type 0
FollowsAs false old kernel' = kernel' ≡ old
FollowsAs true old kernel' = (w : World) → IsWorldOf old w → BeginsAs (old.number + 1) (frozen w) kernel'

-- the number of the kernel that is due after a block
abbrev pub due_after : Bool → ℕ → ℕ
due_after false k = k
due_after true k = k + 1

-- the blocks of a script that a run can do, with their numbers in order; each label of an agent is bound by one command
pub record CanRun (blocks : List Block) : Type 0 where
  pub rising : HasRisingNumbers blocks
  pub rounds : (b : ℕ) (work : AgentWork) → 0 < work.agent.0 → slice_get blocks b ≡ Some (Round (work ∷ [])) → IsRoundOf blocks b work
  pub kexecs : (b : ℕ) (blob : Blob) → slice_get blocks b ≡ Some (Kexec blob) → IsKexecOf blocks b blob (kexec_number blocks b)
  pub few : kexecs_in blocks ≤ KEXECS
  pub sound : AreSoundBlocks blocks
  pub each : (b : ℕ) (block : Block) → slice_get blocks b ≡ Some block → CanDo block
