use Rattle.std.proofs.Common.{◌≡◌, length, arith}
use Rattle.machine_core.specs.Kernels.{IsLeft}
use Rattle.machine_core.proofs.Gathered.{Held, file_stays, files_of}
use Rattle.machine_core.proofs.MoreHome.{one_came, all_came, all_but_last}
use Rattle.machine_core.proofs.gathering.give_objects.Goals as goal

pub loop-object-preserved : goal.loop-object-preserved
loop-object-preserved c = (
  one_came Held file_stays c.args.objects.items c.loop-object.objects.items c.pop.new.self.items c.in-Some.object c.args.frames.now c.loop-object.frames c.give_object.new.frames
      c.in-Some.ensures.items c.loop-object.invariant.0 c.give_object.ensures.frames c.give_object.ensures.file,
  all_but_last (IsLeft c.args.frames.now.home) c.loop-object.objects.items c.pop.new.self.items c.in-Some.object c.in-Some.ensures.items c.loop-object.invariant.1,
)

pub returns-clause-files : goal.returns-clause-files
returns-clause-files c =
    let none : length c.loop-object.objects.items ≡ 0 = omega (arith, c.in_default.ensures.cases.0, c.loop-object.objects.ok) in
    files_of c.args.objects.items c.loop-object.frames (all_came Held c.args.objects.items c.loop-object.objects.items c.args.frames.now c.loop-object.frames none c.loop-object.invariant.0)
