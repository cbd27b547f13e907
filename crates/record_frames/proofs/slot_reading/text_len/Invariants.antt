use Rattle.std.proofs.Common.{◌≡◌, ◌++◌, take, drop}
use Rattle.record_frames.specs.Reading.{text_of}
use Rattle.record_frames.proofs.slot_reading.text_len.Given as goal

abbrev pub invariant-loop-b : goal.invariant-loop-b
invariant-loop-b l = record {
  counted : l.len ≡ l.b-index;
  text : take l.b-index l.bytes ++ text_of (drop l.b-index l.bytes) ≡ text_of l.bytes;
}
