use Rattle.std.proofs.Common.{◌≡◌, length}
use Rattle.record_frames.proofs.ListFronts.{IsRead}
use Rattle.record_frames.proofs.lists.runs_in.Given as goal

abbrev pub invariant-loop-i : goal.invariant-loop-i
invariant-loop-i l = record {
  read : IsRead l.frames l.order l.count l.bytes l.i l.runs.items;
  long : length l.runs.items ≡ l.i;
}
