-- A kernel that begins with what was prepared.
use Rattle.std.proofs.Common.{◌≡◌, ℕ, ◌+◌, ◌≤◌, true, Result, Ok, Err, List, [], ◌++◌, map, length, replicate, sym, ap, ◌∙◌, subst, arith}
use Rattle.std.specs.Prelude.{IfOk, IsOk, OnOk, Option, vec_len, vec_capacity}
use Rattle.std.specs.FinMap as finmap
use Rattle.ho_base.specs.declared.numbers.Order.{Order}
use Rattle.ho_base.specs.declared.numbers.Pfn.{Pfn}
use Rattle.ho_base.specs.declared.limits.TheConstants.{FILES}
use Rattle.ho_events.specs.File.{FileState}
use Rattle.ho_events.specs.Pool.{PoolState}
use Rattle.ho_world.specs.Frozen.{Frozen}
use Rattle.ho_world.specs.World.{State}
use Rattle.machine_core.specs.Kernels.{KernelValue, begins_with, begun_in, histories_in}
use Rattle.machine_core.specs.LabelsShown.{agent_count}
use Rattle.phys_frames.specs.Homes.{HomeId}
use Rattle.phys_frames.specs.Memory.{Memory, FolioValue}
use Rattle.pool_core.specs.PoolAdopting.{CanAdopt, adopted_pool, adopted_run}
use Rattle.record_frames.specs.Sheeted.{ram_of}
use Rattle.record_frames.specs.State.{state_in}
use Rattle.record_frames.specs.declared.carried.Carried.{Carried}
use Rattle.next_laws.specs.Begins.{are_memfds, PoolIsNext, RegistryIsNext, SessionIsNext}
use Rattle.next_laws.specs.Follows.{CanBegin}
use Rattle.kexec_boot.specs.Begins.{BeginsAs}
use Rattle.kexec_boot.specs.Files.{runs_in, plain_in, FitAll, states_with}
use Rattle.kexec_boot.specs.Prepared.{IsPrepared}
use Rattle.kexec_boot.specs.declared.files.PlainFile.{PlainFile}
use Rattle.kexec_boot.specs.declared.prepared.Prepared.{Prepared}
use Rattle.kexec_boot.specs.declared.reading.BootError.{BootError}
use Rattle.kexec_boot.proofs.CarriedParts.{runs_same, all_fit, files_count, can_wait}
use Rattle.kexec_boot.proofs.NextWorld.{next_begun}

module _ (m : Memory) (c : Carried) (p : Prepared) (ready : IsPrepared c.sessions p) (can : CanBegin (state_in (ram_of m) c)) (memfds : are_memfds (state_in (ram_of m) c) ≡ true) where
  -- the runs are those that a pool may begin with
  module _ (runs : List (Pfn × Order)) (same : runs ≡ p.runs.items) where
    runs_are : runs ≡ runs_in c.sessions
    runs_are = same ∙ ready.runs

    pub can_adopt : CanAdopt c.shape runs
    can_adopt = subst (CanAdopt c.shape) (sym (runs_are ∙ runs_same (ram_of m) c.sessions)) can.free

    pub enough : vec_len p.store.folios + length runs ≤ vec_capacity p.store.folios
    enough =
        let room = ready.store.folio_room in
        omega (arith, room, ap length runs_are, ap length ready.store.no_folio)

    folios_are : (items : List FolioValue) → items ≡ p.store.folios.items ++ map (adopted_run m) runs → items ≡ map (adopted_run m) (runs_in c.sessions)
    folios_are items e =
        e ∙ ap (λ (l : List FolioValue). l ++ map (adopted_run m) runs) ready.store.no_folio
        ∙ ap (map (adopted_run m)) runs_are

    pub fit : (home : HomeId) (items : List FolioValue) (files : List PlainFile) → home ≡ m.home → items ≡ p.store.folios.items ++ map (adopted_run m) runs → files ≡ p.files.items → FitAll home files items
    fit home items files h e f =
        subst (λ (x : HomeId). FitAll x files items) (sym h)
        (subst (λ (l : List FolioValue). FitAll m.home files l) (sym (folios_are items e))
        (subst (λ (l : List PlainFile). FitAll m.home l (map (adopted_run m) (runs_in c.sessions))) (sym (f ∙ ready.files)) (all_fit m c.sessions can.fits)))

    pub states_are : (states : List (Option FileState)) (items : List FolioValue) (files : List PlainFile) → items ≡ p.store.folios.items ++ map (adopted_run m) runs → files ≡ p.files.items → states ≡ states_with files items
        → states ≡ states_with (plain_in c.sessions) (map (adopted_run m) (runs_in c.sessions))
    states_are states items files e f s = s ∙ (λ j. states_with ((f ∙ ready.files) j) (folios_are items e j))

  pub few_files : (files : List PlainFile) → files ≡ p.files.items → length files ≤ FILES
  few_files files e =
      let few = (can_wait (ram_of m) c can).files in
      omega (arith, few, ap length e, ap length ready.files, files_count c.sessions)

  -- the kernel begins as the world that follows
  pub begins_as : (number : ℕ) (k : KernelValue) (pool : PoolState) (files : List (Option FileState)) (runs : List (Pfn × Order)) → PoolIsNext → RegistryIsNext → SessionIsNext
      → runs ≡ p.runs.items → pool ≡ adopted_pool c.shape runs → files ≡ states_with (plain_in c.sessions) (map (adopted_run m) (runs_in c.sessions)) → k.number ≡ number → k.updates ≡ c.number → k.shape ≡ c.shape
      → begun_in k.objects ≡ begins_with pool p.registry.start (map (λ s. s.start) p.sessions.items) files → ((n : ℕ) → histories_in k.objects n ≡ [])
      → k.labels ≡ replicate agent_count finmap.empty → k.base ≡ 0 → BeginsAs number (state_in (ram_of m) c) k
  begins_as number k pool files runs pools registries waits same opens held numbered updates shape begun none labels base = record {
    number = numbered;
    updates = updates;
    shape = shape;
    begun = λ n. ap (λ (f : ℕ → Option State). f n) begun
        ∙ next_begun m c pool p.registry.start (map (λ s. s.start) p.sessions.items) files pools registries waits can memfds
        (opens ∙ ap (adopted_pool c.shape) (runs_are runs same)) ready.registry ready.sessions held n;
    histories = none;
    labels = labels;
    base = base;
  }

-- the kernel that comes back is one whose files are all held
pub finished : {X Y : Type 0} (number : ℕ) (f : Frozen) (kernel : KernelValue) (held : Result X Y) (P : Type 0) (r : Result KernelValue BootError) → IfOk r (λ k. k ≡ kernel) → IfOk r (λ k. IsOk held) → OnOk held P
    → (P → BeginsAs number f kernel) → IfOk r (BeginsAs number f)
finished number f kernel (Ok x) P (Ok k) same ok all begins = subst (BeginsAs number f) (sym same) (begins all)
finished number f kernel (Err y) P (Ok k) same ok all begins = absurd cc
finished number f kernel held P (Err e) same ok all begins = same
