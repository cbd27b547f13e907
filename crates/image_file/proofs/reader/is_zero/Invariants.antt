use Rattle.std.proofs.Common.{◌≡◌, ◌&&◌, drop}
use Rattle.std.specs.List.{list_all}
use Rattle.image_file.specs.Loaded.{zero_byte}
use Rattle.image_file.proofs.reader.is_zero.Given as goal

-- The bytes so far and the rest have zeros alone exactly where all bytes have.
abbrev pub invariant-loop-b : goal.invariant-loop-b
invariant-loop-b l = (l.all && list_all zero_byte (drop l.b-index l.bytes)) ≡ list_all zero_byte l.bytes
