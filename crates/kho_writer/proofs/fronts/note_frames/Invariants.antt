use Rattle.std.proofs.Common.{◌≡◌, length, take}
use Rattle.phys_frames.specs.Memory.{first_frames}
use Rattle.kho_writer.proofs.fronts.note_frames.Given as goal

abbrev pub invariant-loop-i : goal.invariant-loop-i
invariant-loop-i l = record {
  size : length l.numbers.items ≡ length l.folios;
  noted : take l.i l.numbers.items ≡ take l.i (first_frames l.folios);
}
