use Rattle.std.proofs.Common.{◌<◌}
use Rattle.std.specs.List.{All}
use Rattle.ho_base.specs.declared.limits.TheConstants.{FILES}
use Rattle.ho_events.specs.Contents.{Reference}
use Rattle.kernel_carried.specs.Gathered.{listed_in}
use Rattle.kernel_carried.proofs.Survey.{one_below, lists_files}
use Rattle.kernel_carried.proofs.files.list_files.Goals as goal

pub loop-slot-preserved : goal.loop-slot-preserved
loop-slot-preserved c = λ w agrees.
    one_below (λ slot. All (λ (r : Reference). r.file < FILES) (listed_in w slot)) c.loop-slot.slot (c.loop-slot.invariant w agrees)
    (lists_files c.args.kernel.now.objects w c.loop-slot.slot _ _ agrees c.session.ensures.at c.files-files.ensures.content c.files-files.ensures.within)
