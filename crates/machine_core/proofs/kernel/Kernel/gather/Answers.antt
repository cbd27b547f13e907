use Rattle.std.proofs.Common.{◌≡◌, ℕ, ◌<◌, false, ap, sym, subst, ◌∙◌}
use Rattle.std.specs.List.{All}
use Rattle.ho_base.specs.ShapeRule.{Layout}
use Rattle.ho_events.specs.Pool.{is_owned}
use Rattle.phys_frames.specs.Memory.{AllHome, IsHome}
use Rattle.pool_core.specs.PoolValues.{PoolIs}
use Rattle.machine_core.specs.declared.object.Object.TheVariants.{Pool}
use Rattle.machine_core.specs.Gathered.{HoldsFiles, IsAccounted}
use Rattle.machine_core.specs.Kernels.{KernelValue, IsLeft}
use Rattle.machine_core.proofs.Gathered.{files_beside, all_gathered}
use Rattle.machine_core.proofs.GivenUp.{is_pool, are_left}
use Rattle.machine_core.proofs.kernel.Kernel.gather.Goals as goal

pub bring_home-requires-clause-objects : goal.bring_home-requires-clause-objects
bring_home-requires-clause-objects c =
    let here = is_pool _ _ _ c.self.inside.objects.items c.self.invariant (Pool c.in-Pool.pool) c.in-Pool.ensures.object in
    subst (λ h. All (IsLeft h) c.take_out.new.objects.items) (sym here.machine.1)
    (subst (All (IsLeft c.self.inside.home)) (sym c.in-Pool.ensures.place) (are_left _ _ _ c.self.inside.objects.items c.self.invariant))

pub returns-clause-files : goal.returns-clause-files
returns-clause-files c =
    subst (λ (v : KernelValue). HoldsFiles c.bring_home.result v.objects) c.self.view_is
    (files_beside c.self.inside.objects.items c.in-Pool.pool c.in-Pool.ensures.object c.bring_home.result c.take_out.new.objects.items c.in-Pool.ensures.place c.bring_home.ensures.files)

pub returns-clause-gathered : goal.returns-clause-gathered
returns-clause-gathered c =
    let here = is_pool _ _ _ c.self.inside.objects.items c.self.invariant (Pool c.in-Pool.pool) c.in-Pool.ensures.object in
    subst (λ (v : KernelValue). IsAccounted v.shape.frames v.objects c.args.folios.items → AllHome c.bring_home.result) c.self.view_is
    (λ accounted. all_gathered c.self.inside.objects.items c.in-Pool.pool c.in-Pool.ensures.object c.self.inside.shape.value.frames c.args.folios.items c.bring_home.result
    (c.bring_home.ensures.count ∙ ap (λ (l : Layout). l.frames) here.machine.0)
    (files_beside c.self.inside.objects.items c.in-Pool.pool c.in-Pool.ensures.object c.bring_home.result c.take_out.new.objects.items c.in-Pool.ensures.place c.bring_home.ensures.files)
    (λ k d below. c.bring_home.ensures.folios k d below (c.requires.single k d below))
    accounted
    (subst (λ (l : Layout). PoolIs c.in-Pool.pool (λ s. (p : ℕ) → p < l.frames → is_owned s p ≡ false → IsHome c.bring_home.result (record { 0 = p }))) here.machine.0 c.bring_home.ensures.free))
