use Rattle.std.proofs.Common.{◌≡◌, sym, subst, ◌∙◌}
use Rattle.std.specs.List.{All}
use Rattle.machine_core.specs.Kernels.{object_at}
use Rattle.machine_core.proofs.Gathered.{file_stays, free_stays}
use Rattle.machine_core.proofs.GivenUp.{of_home}
use Rattle.machine_core.proofs.gathering.bring_home.Goals as goal

pub give_folios-requires : goal.give_folios-requires
give_folios-requires c =
    subst (λ h. All (λ f. f.home ≡ h) c.args.folios.items) (sym (c.give_objects.ensures.frames.home ∙ c.dismantle-frames.ensures.home))
    (of_home c.args.pool.home c.args.folios.items c.requires.folios)

pub returns-clause-free : goal.returns-clause-free
returns-clause-free c =
    free_stays c.args.pool c.dismantle-frames.result c.give_objects.new.frames c.give_folios.new.frames c.give_objects.ensures.frames c.give_folios.ensures.frames c.dismantle-frames.ensures.free

pub returns-clause-files : goal.returns-clause-files
returns-clause-files c = λ n.
    file_stays (object_at c.args.objects.items n) c.give_objects.new.frames c.give_folios.new.frames c.give_folios.ensures.frames (c.give_objects.ensures.files n)
