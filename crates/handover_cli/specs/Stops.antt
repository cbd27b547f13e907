-- What a run leaves on the host where it ends before its first block, and what it has where it goes on.
use Rattle.std.specs.Prelude.{◌≡◌, ℕ, Bool, List, [], is_some, Option, Result, Err, ⊤}
use Rattle.ho_events.specs.declared.script.Block.{Block}
use Rattle.ho_events.specs.declared.script.Script.{Script}
use Rattle.ho_io.specs.declared.source.ReadError.{ReadError}
use Rattle.ho_io.specs.declared.source.ReadError.TheVariants.{Fault}
use Rattle.ho_world.specs.World.{World}
use Rattle.machine_core.specs.Kernels.{KernelValue}
use Rattle.sound_histories.specs.Scripts.{StandsSound}
use Rattle.handover_cli.specs.Due.{WroteFront}
use Rattle.handover_cli.specs.ImageRefusals.{IsImageRefusal}
use Rattle.handover_cli.specs.Images.{Seen}
use Rattle.handover_cli.specs.Refusals.{IsAccepted, IsRefusal}
use Rattle.handover_cli.specs.Rounds.{IsAfter}
use Rattle.handover_cli.specs.Run.{Spells, WroteRefusal, WroteImageRefusal, with_opened}
use Rattle.handover_cli.specs.Works.{CanRun}
use Rattle.handover_cli.specs.declared.status.Status.{Status}
use Rattle.handover_cli.specs.declared.status.Status.TheVariants as status

-- the fact, where the answer is no fault
abbrev pub ButFault : {T : Type 0} → Result T ReadError → Type 0 → Type 0
ButFault (Err Fault) fact = ⊤
ButFault r fact = fact

-- A script was read that isn't refused: it is of the kinds that a run can do.
pub record IsReady (fresh : Bool) (told : Option (List ℕ)) (script : Script) : Type 0 where
  pub read : Spells fresh told script
  pub accepted : IsAccepted fresh told
  pub shaped : is_some script.shape ≡ fresh
  pub can : CanRun script.blocks

-- where a run ends at its script: the line of its refusal was written, or a front part of it, or nothing
abbrev pub StopsAtScript : Bool → Option (List ℕ) → List ℕ → Seen → Seen → Status → Type 0
StopsAtScript fresh told name before now status.Script = WroteRefusal fresh told before.out now.out
StopsAtScript fresh told name before now status.WriteFault = WroteFront (IsRefusal fresh told) before.out now.out
StopsAtScript fresh told name before now status.ReadFault = now.out ≡ before.out
StopsAtScript fresh told name before now status.Memory = now ≡ with_opened before name
StopsAtScript fresh told name before now s = ⊥

-- the same at its image
abbrev pub StopsAtImage : Option (List ℕ) → List ℕ → Seen → Seen → Status → Type 0
StopsAtImage told name before now status.Image = WroteImageRefusal told before.out now.out
StopsAtImage told name before now status.WriteFault = WroteFront (IsImageRefusal told) before.out now.out
StopsAtImage told name before now status.ReadFault = now.out ≡ before.out
StopsAtImage told name before now status.Memory = now ≡ with_opened before name
StopsAtImage told name before now s = ⊥

-- A kernel begins blocks in a world: it is as no entries say, and the world is sound.
pub record BeginsBlocks (start : World) (blocks : List Block) (kernel : KernelValue) : Type 0 where
  pub after : IsAfter start blocks [] 0 kernel
  pub sound : StandsSound start blocks [] 0 0

-- there is such a world
abbrev pub CanBegin : List Block → KernelValue → Type 0
CanBegin blocks kernel = (start : World) × BeginsBlocks start blocks kernel
