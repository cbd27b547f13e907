-- What a kernel's end hands on.
use Rattle.std.proofs.Common.{◌≡◌, ℕ, ◌≤◌, List, [], ◌∷◌, ◌++◌, length, take, drop, map, refl, ap, sym, ◌∙◌, subst, arith}
use Rattle.std.specs.Prelude.{Some, slice_index_or, slice_index}
use Rattle.std.specs.List.{All}
use Rattle.std.proofs.lemmas.List.{append-nil, drop_all}
use Rattle.std.proofs.Math.Seq.{take-length}
use Rattle.ho_base.specs.declared.numbers.Kind.TheVariants.{Memfd}
use Rattle.ho_world.specs.Frozen.{carried_files, frozen}
use Rattle.ho_world.specs.World.{World}
use Rattle.phys_frames.specs.Memory.{Memory, FolioValue, page_at}
use Rattle.machine_core.specs.Gathered.{HoldsFiles}
use Rattle.machine_core.specs.Kernels.{KernelValue}
use Rattle.machine_core.specs.Worlds.{IsWorldOf}
use Rattle.record_frames.specs.Carries.{HavePages, Carries}
use Rattle.record_frames.specs.Kept.{bound_pages, devices}
use Rattle.record_frames.specs.Ram.{Ram}
use Rattle.record_frames.specs.Sheeted.{page_bytes, ram_of}
use Rattle.record_frames.specs.State.{bound_among, state_in}
use Rattle.record_frames.specs.Writing.{frames_of}
use Rattle.record_frames.specs.declared.carried.CarriedBound.{CarriedBound}
use Rattle.kho_writer.specs.Folios.{HoldFolios}
use Rattle.kernel_carried.proofs.Frames.{holds_files}
use Rattle.freeze_path.specs.Freezes.{IsOfKernel}
use Rattle.freeze_path.specs.declared.freezing.Frozen.{Frozen}

hold_folios : (m : Memory) (folios : List FolioValue) → All (λ (g : FolioValue). page_at m g.first ≡ Some g.bytes) folios → HoldFolios (ram_of m) folios
hold_folios m folios h = λ k d lt. ap page_bytes (h k d lt)

no_bounds : (ram : Ram) (bounds : List CarriedBound) → bounds ≡ [] → HavePages ram (bound_pages (map (bound_among bounds) devices))
no_bounds ram bounds none = subst (λ (bs : List CarriedBound). HavePages ram (bound_pages (map (bound_among bs) devices))) (sym none) tt

pub first_of : (folios : List FolioValue) (d : FolioValue) → 1 ≤ length folios → slice_index (frames_of folios) 0 ≡ (slice_index_or folios 0 d).first.0
first_of [] d h = absurd (omega (arith, h))
first_of (f ∷ fs) d h = refl

pub hands_on : (kernel : KernelValue) (f : Frozen) (m : Memory) (entry : ℕ) (w : World) → IsOfKernel kernel f → IsWorldOf kernel w → length m.pages ≡ kernel.shape.frames → HoldsFiles m kernel.objects → All (λ (g : FolioValue). page_at m g.first ≡ Some g.bytes) f.folios.items
    → entry ≡ slice_index (frames_of f.folios.items) 0 → Carries (ram_of m) entry (frozen w)
hands_on kernel f m entry w made of count files folios is =
    subst (λ n. Carries (ram_of m) n (frozen w)) (sym is)
    (subst (Carries (ram_of m) (slice_index (frames_of f.folios.items) 0)) (made.carried w of (ram_of m) count (holds_files m kernel.objects files))
    (made.carry (ram_of m) (count ∙ ap (λ s. s.frames) (sym made.shape)) (hold_folios m f.folios.items folios) (no_bounds (ram_of m) f.carried.bounds made.bounds)))

-- what is handed on, as the frames have it
as_frozen : (kernel : KernelValue) (f : Frozen) (m : Memory) (w : World) → IsOfKernel kernel f → IsWorldOf kernel w → length m.pages ≡ kernel.shape.frames → HoldsFiles m kernel.objects → state_in (ram_of m) f.carried ≡ frozen w
as_frozen kernel f m w made of count files = made.carried w of (ram_of m) count (holds_files m kernel.objects files)

pub same_shape : (kernel : KernelValue) (f : Frozen) (m : Memory) (w : World) → IsOfKernel kernel f → IsWorldOf kernel w → length m.pages ≡ kernel.shape.frames → HoldsFiles m kernel.objects → (frozen w).shape ≡ kernel.shape
same_shape kernel f m w made of count files = ap (λ x. x.shape) (sym (as_frozen kernel f m w made of count files)) ∙ made.shape

pub memfds : (kernel : KernelValue) (f : Frozen) (m : Memory) (w : World) → IsOfKernel kernel f → IsWorldOf kernel w → length m.pages ≡ kernel.shape.frames → HoldsFiles m kernel.objects → All (λ c. c.kind ≡ Memfd) (carried_files (frozen w))
memfds kernel f m w made of count files = subst (λ x. All (λ c. c.kind ≡ Memfd) (carried_files x)) (as_frozen kernel f m w made of count files) (made.memfds (ram_of m))

-- a list that was written over as a whole
pub written_over : {A : Type 0} → (n : ℕ) (new old : List A) → length new ≡ length old → n ≡ length old → take n (new ++ drop (length new) old) ≡ new
written_over n new old same len =
    ap (λ l. take n (new ++ l)) (drop_all (length new) old (omega (arith, same))) ∙ ap (take n) (append-nil new) ∙ ap (λ k. take k new) (len ∙ sym same) ∙ take-length new
