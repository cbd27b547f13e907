-- What is ready before a kernel is frozen, and how its frames are taken.
use Rattle.std.specs.Prelude.{◌≡◌, ℕ, ◌+◌, ◌^◌, ◌<◌, Bool, true, false, List, [], ◌∷◌, map, IsTrue, Option, None, Some}
use Rattle.std.specs.Option.{IsSome}
use Rattle.std.specs.declared.snapshot.Snapshot.{Snapshot}
use Rattle.ho_base.specs.Objects.{pool_no, registry_no, session_no}
use Rattle.ho_base.specs.ShapeRule.{is_layout}
use Rattle.ho_base.specs.declared.items.Items.{Items}
use Rattle.ho_base.specs.declared.limits.TheConstants.{OUT_SLOTS}
use Rattle.ho_base.specs.declared.numbers.Pfn.{Pfn}
use Rattle.ho_events.specs.Pool.{PoolState, is_owned}
use Rattle.ho_events.specs.declared.event.Event.TheVariants.{PoolTake}
use Rattle.ho_events.specs.declared.reply.Reply.{Reply}
use Rattle.ho_events.specs.declared.reply.Reply.TheVariants.{Ok, Got, NoFrames, NoFramesOf}
use Rattle.ho_events.specs.declared.slip.At.{At}
use Rattle.ho_world.specs.Acts.{single}
use Rattle.ho_world.specs.Frozen.{need, preserved_devices}
use Rattle.ho_world.specs.Logs.{Deed, AreDone, deed_at, end_with, paired_on}
use Rattle.ho_world.specs.Sequences.{Labels}
use Rattle.ho_world.specs.World.{PoolIn, World}
use Rattle.phys_frames.specs.Homes.{HomeId}
use Rattle.phys_frames.specs.Memory.{FolioValue, zeroed}
use Rattle.machine_core.specs.Agents.{Agent}
use Rattle.machine_core.specs.Gathered.{IsFrameOfFile}
use Rattle.machine_core.specs.declared.object.Object as object
use Rattle.machine_core.specs.declared.object.Object.TheVariants.{Pool}
use Rattle.machine_core.specs.Kernels.{KernelValue, object_at, begun_in, histories_in}
use Rattle.pool_core.specs.PoolValues.{PoolValue}
use Rattle.ho_events.specs.History.{last_stamp, pool_from}
use Rattle.ho_events.specs.declared.entry.Entry.{Entry}
use Rattle.machine_core.specs.Turns.{Goes}
use Rattle.machine_core.specs.Worlds.{states_in, IsWorldOf}
use Rattle.balance_laws.specs.Sound.{Sound}
use Rattle.record_frames.specs.Ram.{Ram}
use Rattle.record_frames.specs.State.{state_in}
use Rattle.kho_laws.specs.Carrying.{can_be_carried}
use Rattle.kho_writer.specs.Folios.{MarksOwn, front_count}
use Rattle.kernel_carried.specs.Gathered.{Agrees, IsGathered}
use Rattle.freeze_path.specs.declared.ready.Ready.{Ready}
use Rattle.freeze_path.specs.declared.taking.Took.{Took}
use Rattle.freeze_path.specs.declared.taking.Took.TheVariants as took

-- each owned frame of a kernel stands in a run of a file
abbrev pub OwnsRuns : KernelValue → Type 0
OwnsRuns kernel = (s : PoolState) (p : ℕ) → states_in kernel.objects pool_no ≡ Some (PoolIn s) → is_owned s p ≡ true → IsFrameOfFile kernel.objects p

-- the registry and each outgoing slot are among the objects
pub record HaveSessions (objects : List (Option object.Object)) : Type 0 where
  pub registry : IsSome (object_at objects registry_no)
  pub slots : (slot : ℕ) → slot < OUT_SLOTS → IsSome (object_at objects (session_no slot))

-- a kernel's world is sound with some labels of its agents
pub record IsSoundKernel (kernel : KernelValue) : Type 0 where
  pub world : World
  pub is_world : IsWorldOf kernel world
  pub labels : ℕ → Labels
  pub sound : Sound world labels

-- the kernel's pool is in a state, which has the kernel's shape, and this is one
pub record HasPool (kernel : KernelValue) : Type 0 where
  pub value : PoolValue
  pub at : object_at kernel.objects pool_no ≡ Some (Pool value)
  pub state : PoolState
  pub run : pool_from value.start value.history ≡ Some state
  pub shape : state.shape ≡ kernel.shape
  pub layout : IsTrue (is_layout kernel.shape.frames kernel.shape.scratch)

-- All is there to freeze a kernel whose world is sound: what is carried is gathered from it and can be carried, each owned frame
-- stands in a run of a file, no device file is preserved, and the marks and the room are those of what is carried.
pub record IsReady (kernel : KernelValue) (r : Ready) : Type 0 where
  pub sound : IsSoundKernel kernel
  pub pool : HasPool kernel
  pub sessions : HaveSessions kernel.objects
  pub gathered : IsGathered kernel r.carried
  pub can : IsTrue (can_be_carried r.carried)
  pub accounted : OwnsRuns kernel
  pub devices : (w : World) → Agrees w kernel.objects → preserved_devices w ≡ []
  pub marks : MarksOwn r.carried r.tracker
  pub prepared : r.prepared ≡ front_count r.carried
  pub need_is : (ram : Ram) → r.need ≡ need (state_in ram r.carried)

-- The frames were taken, and the kexec ended so; or too few are free; or nothing was done.
abbrev pub TookFrames : ℕ → At → Agent → Agent → Took → Type 0
TookFrames count at a a' (took.Got runs) = (at' : At) × Goes (deed_at pool_no [] (PoolTake single count) (Got runs.value) ∷ end_with Ok ∷ []) at at' a a'
TookFrames count at a a' took.TooFew = (at' : At) × Goes (deed_at pool_no [] (PoolTake single count) NoFrames ∷ end_with (NoFramesOf count) ∷ []) at at' a a'
TookFrames count at a a' took.Memory = Goes [] at at a a'

-- where histories are told, the pool's has a last stamp after which two entries more may come
abbrev pub IsToldEarly : Option (ℕ → List Entry) → Type 0
IsToldEarly None = ⊥
IsToldEarly (Some f) = last_stamp (f pool_no) + 1 < 2 ^ 63

-- the folios of the frames that were taken
abbrev pub folios_of : HomeId → Took → List FolioValue
folios_of home (took.Got runs) = map (zeroed home) runs.value
folios_of home t = []

-- how the kexec ends after a take of frames, and how it came out
abbrev pub reply_for : ℕ → Option (Snapshot (Items Pfn)) → Reply
reply_for count None = NoFramesOf count
reply_for count (Some runs) = Ok

abbrev pub took_by : Option (Snapshot (Items Pfn)) → Took
took_by None = took.TooFew
took_by (Some runs) = took.Got runs

-- entries of agent 0 on this kernel are these deeds
pub record DidDeeds (kernel : KernelValue) (at : At) (ds : List Deed) (entries : List Entry) : Type 0 where
  pub last : ℕ
  pub done : AreDone (begun_in kernel.objects) at at.last ds (paired_on (begun_in kernel.objects) (histories_in kernel.objects) [] entries) last

-- the deeds of a take of frames and of the end of the kexec
abbrev pub got_deeds : ℕ → List Pfn → List Deed
got_deeds count runs = deed_at pool_no [] (PoolTake single count) (Got runs) ∷ end_with Ok ∷ []

abbrev pub few_deeds : ℕ → List Deed
few_deeds count = deed_at pool_no [] (PoolTake single count) NoFrames ∷ end_with (NoFramesOf count) ∷ []

-- the entries are those of a take of frames of a kernel that came out so
abbrev pub TookOn : KernelValue → At → ℕ → List Entry → Took → Type 0
TookOn kernel at count entries (took.Got runs) = DidDeeds kernel at (got_deeds count runs.value) entries
TookOn kernel at count entries took.TooFew = DidDeeds kernel at (few_deeds count) entries
TookOn kernel at count entries took.Memory = entries ≡ []

-- the command ended so, or nothing was done
abbrev pub EndedFirst : Bool → Reply → At → Agent → Agent → Type 0
EndedFirst true reply at a a' = (at' : At) × Goes (end_with reply ∷ []) at at' a a'
EndedFirst false reply at a a' = Goes [] at at a a'
