use Rattle.std.proofs.Common.{◌≤◌}
use Rattle.std.specs.List.{All}
use Rattle.ho_base.specs.declared.limits.TheConstants.{MAX_ORDER}
use Rattle.record_frames.specs.Slots.{file_view, file_kept}
use Rattle.record_frames.proofs.Items.{IsRead}
use Rattle.record_frames.proofs.file_frame.file_slots.Given as goal

abbrev pub invariant-loop-i : goal.invariant-loop-i
invariant-loop-i l = record {
  read : IsRead file_view 128 file_kept l.count l.bytes l.i l.slots.items;
  orders : All (λ f. f.order ≤ MAX_ORDER) l.slots.items;
}
