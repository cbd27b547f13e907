use Rattle.std.proofs.Common.{◌≡◌, ◌≤◌, ◌-◌, vec_len, is_some}
use Rattle.ho_io.specs.Told.{in_front}
use Rattle.ho_io.proofs.source.read_all.Given as goal

abbrev pub invariant-loop-bytes : goal.invariant-loop-bytes
invariant-loop-bytes g l = record {
  within : vec_len l.bytes ≤ l.most;
  block : vec_len l.block ≡ 4096;
  taken : g.S.Source.left l.fn.src ≡ in_front l.bytes.items (g.S.Source.left l.src);
  told : is_some (g.S.Source.left l.src) ≡ is_some (g.S.Source.left l.fn.src);
  counts : g.S.Source.faults l.fn.src ≤ g.S.Source.faults l.src;
}

abbrev pub decreases-loop-bytes : goal.decreases-loop-bytes
decreases-loop-bytes g l = l.most - vec_len l.bytes
