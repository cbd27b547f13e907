-- What frames carry says how many there are, and the kernel that begins with it begins from them.
use Rattle.std.proofs.Common.{◌≡◌, ℕ, Bool, true, false, cond, Result, Ok, Err, refl, sym, ap, ◌∙◌}
use Rattle.std.specs.Prelude.{Option, None, Some, IsTrue, IfOk}
use Rattle.ho_base.specs.ShapeRule.{Layout}
use Rattle.fdt_blob.specs.Trees.{Tree, properties_of, children_of, value_in, tree_in}
use Rattle.ho_world.specs.Frozen.{Frozen}
use Rattle.machine_core.specs.Kernels.{KernelValue}
use Rattle.record_frames.specs.Ram.{Ram}
use Rattle.record_frames.specs.Rules.{versions}
use Rattle.record_frames.specs.Handover.{◌>>=◌, only_if, Root, version_of, root_of, number_of, shape_of, COMPATIBLE, MEMORY_MAP, SCRATCH, LUO}
use Rattle.record_frames.specs.Carries.{Carries}
use Rattle.next_laws.specs.Begins.{are_memfds}
use Rattle.kexec_boot.specs.Begins.{BeginsAs}
use Rattle.kexec_boot.specs.Images.{BeginsFrom}
use Rattle.kexec_boot.specs.declared.reading.BootError.{BootError}

bind_some : {A B : Type 0} (o : Option A) (f : A → Option B) (y : B) → (o >>= f) ≡ Some y → (x : A) × (o ≡ Some x) × (f x ≡ Some y)
bind_some (Some x) f y e = (x, refl, e)
bind_some None f y e = absurd cc

only_some : {A : Type 0} (b : Bool) (x y : A) → only_if b x ≡ Some y → x ≡ y
only_some true x y e = cc
only_some false x y e = absurd cc

if_some : {A : Type 0} (b : Bool) (x y : A) → cond b (Some x) None ≡ Some y → x ≡ y
if_some true x y e = cc
if_some false x y e = absurd cc

-- the shape that a tree's root says on n frames has n frames
frames_said : (n : ℕ) (t : Tree) (r : Root) → root_of versions n t ≡ Some r → r.shape.frames ≡ n
unfolding root_of
frames_said n t r h =
    let a = bind_some (value_in COMPATIBLE (properties_of t)) _ r h in
    let b = bind_some (version_of versions a.0) _ r a.2 in
    let c = bind_some (value_in MEMORY_MAP (properties_of t)) _ r b.2 in
    let d = bind_some (number_of c.0) _ r c.2 in
    let e = bind_some (value_in SCRATCH (properties_of t)) _ r d.2 in
    let g = bind_some (shape_of n e.0) _ r e.2 in
    let l = bind_some (tree_in LUO (children_of t)) _ r g.2 in
    let shape = if_some _ _ g.0 g.1 in
    ap (λ (x : Root). x.shape.frames) (sym (only_some _ _ r l.2)) ∙ ap (λ (s : Layout). s.frames) (sym shape)

-- what frames carry is for a machine of as many frames
pub frames_carried : (ram : Ram) (entry : ℕ) (f : Frozen) → Carries ram entry f → f.shape.frames ≡ ram.count
frames_carried ram entry f carries =
    ap (λ (x : Frozen). x.shape.frames) (sym carries.is) ∙ frames_said ram.count carries.keep.tree _ carries.keep.root

-- what begins with a state that frames carry begins from them
pub begins_from : (number : ℕ) (ram : Ram) (entry : ℕ) (f : Frozen) (r : Result KernelValue BootError) → Carries ram entry f → IsTrue (are_memfds f) → IfOk r (BeginsAs number f)
    → IfOk r (BeginsFrom number ram entry)
begins_from number ram entry f (Ok k) carries memfds begins = record { state = f; carries = carries; frames = frames_carried ram entry f carries; memfds = memfds; begins = begins }
begins_from number ram entry f (Err e) carries memfds begins = begins
