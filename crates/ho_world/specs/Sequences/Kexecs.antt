-- The sequences of a kexec.
use Rattle.std.specs.Prelude.{◌≡◌, ℕ, ◌+◌, ◌-◌, ◌*◌, ◌/◌, ◌^◌, ◌&&◌, ◌||◌, ◌==◌, nat_lt, if◌then◌else◌, List, [], ◌∷◌, ◌++◌, map, reverse, take, slice_get, Option, None, Some}
use Rattle.ho_base.specs.declared.numbers.Pfn.{Pfn}
use Rattle.ho_base.specs.declared.numbers.Blob.{Blob}
use Rattle.ho_events.specs.declared.event.Event.TheVariants.{PoolTake, PoolGive, HandlerFreeze, HandlerUnfreeze}
use Rattle.ho_events.specs.declared.reply.Reply.{Reply}
use Rattle.ho_events.specs.declared.reply.Reply.TheVariants.{Ok, Got, NoFrames, NoFramesOf, Failed, ScratchSmall, FreezeFailed}
use Rattle.ho_world.specs.World.{World, pool_at}
use Rattle.ho_world.specs.Frozen.{Preserved, preserved_devices, frozen, need, scratch_need, scratch_have}
use Rattle.ho_world.specs.Acts.{Act, Sequence, pool, file, handler, ending, single}

-- how a kexec comes out: the scratch area is too small; too few frames are free; the handler of the n-th
-- preserved device file fails; or the kernel ends
pub data KexecOutcome : Type 0 where
  TooSmall : KexecOutcome
  NoRoom : KexecOutcome
  NotFrozen : List Pfn → ℕ → ℕ → KexecOutcome
  KernelEnds : List Pfn → KexecOutcome

abbrev pub freeze_act : Reply → Preserved → Act
freeze_act reply d = handler d.kind [] (HandlerFreeze (record { 0 = d.file }) d.handle) reply

abbrev pub unfreeze_act : Preserved → Act
unfreeze_act d = handler d.kind [] (HandlerUnfreeze (record { 0 = d.file }) d.handle) Ok

-- the device file that fails, where there is one of this number: those before it are unfrozen in reverse order
abbrev pub not_frozen_acts : ℕ → List Preserved → List Pfn → ℕ → Option Preserved → Option Sequence
not_frozen_acts need before runs m None = None
not_frozen_acts need before runs m (Some d) =
    ending (pool [] (PoolTake single need) (Got runs) ∷ (map (freeze_act Ok) before ++ freeze_act (Failed m) d
    ∷ (map unfreeze_act (reverse before) ++ pool [] (PoolGive single runs) Ok ∷ []))) (FreezeFailed d.name (record { 0 = d.token }))

abbrev pub fitting_acts : ℕ → List Preserved → KexecOutcome → Option Sequence
fitting_acts need asked TooSmall = None
fitting_acts need asked NoRoom = ending (pool [] (PoolTake single need) NoFrames ∷ []) (NoFramesOf need)
fitting_acts need asked (NotFrozen runs n m) = not_frozen_acts need (take n asked) runs m (slice_get asked n)
fitting_acts need asked (KernelEnds runs) = ending (pool [] (PoolTake single need) (Got runs) ∷ map (freeze_act Ok) asked) Ok

-- a kexec in a world, with all that it asks there
abbrev pub kexec_acts : World → Blob → KexecOutcome → Option Sequence
kexec_acts w blob TooSmall =
    let shape = (pool_at w).shape in
    if nat_lt (scratch_have shape) (scratch_need shape blob) then ending [] (ScratchSmall (scratch_need shape blob) (scratch_have shape)) else None
kexec_acts w blob outcome =
    let shape = (pool_at w).shape in
    if nat_lt (scratch_have shape) (scratch_need shape blob) then None else fitting_acts (need (frozen w)) (preserved_devices w) outcome
