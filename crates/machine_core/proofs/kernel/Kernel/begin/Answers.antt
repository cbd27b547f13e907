use Rattle.std.proofs.Common.{◌≡◌, ◌∙◌, length, sym, ap, subst, arith}
use Rattle.machine_core.specs.declared.building.Plan.{Plan}
use Rattle.machine_core.specs.Kernels.{KeepsKernel, begun_in, histories_in}
use Rattle.machine_core.specs.Objects.{object_count}
use Rattle.machine_core.proofs.Built.{new_keeps, new_begun, new_histories}
use Rattle.machine_core.proofs.kernel.Kernel.begin.Goals as goal

pub invariant_of-result : goal.invariant_of-result
invariant_of-result c =
    let plan : Plan = record { pool = c.of.result; registry = c.of-2.result; sessions = c.of-3.result; files = c.of-4.result } in
    let count : length c.build.new.objects.items ≡ object_count = omega (arith, c.build.ensures.count) in
    subst (λ l. KeepsKernel l c.home-home.result 0 c.put_back.new.objects.items) (sym (c.of-shape.ensures ∙ c.shape.ensures.value))
    (subst (λ h. KeepsKernel c.args.pool.shape h 0 c.put_back.new.objects.items) (sym c.home-home.ensures)
    (subst (KeepsKernel c.args.pool.shape c.args.pool.home 0) (sym c.put_back.ensures.place) (new_keeps plan c.args.pool c.build.new.objects.items c.of.ensures c.requires.pool c.build.ensures.built count)))

pub returns-clause-begun : goal.returns-clause-begun
returns-clause-begun c =
    let plan : Plan = record { pool = c.of.result; registry = c.of-2.result; sessions = c.of-3.result; files = c.of-4.result } in
    let count : length c.build.new.objects.items ≡ object_count = omega (arith, c.build.ensures.count) in
    ap begun_in c.put_back.ensures.place
    ∙ new_begun plan c.args.pool c.build.new.objects.items c.of.ensures c.requires.pool c.build.ensures.built count c.args.registry c.args.sessions.items c.args.files.items
    c.of-2.ensures (ap (λ v. v.items) c.of-3.ensures) (ap (λ v. v.items) c.of-4.ensures)

pub returns-clause-histories : goal.returns-clause-histories
returns-clause-histories c =
    let plan : Plan = record { pool = c.of.result; registry = c.of-2.result; sessions = c.of-3.result; files = c.of-4.result } in
    let count : length c.build.new.objects.items ≡ object_count = omega (arith, c.build.ensures.count) in
    λ n. ap (λ objects. histories_in objects n) c.put_back.ensures.place ∙ new_histories plan c.args.pool c.build.new.objects.items c.of.ensures c.requires.pool c.build.ensures.built count n
