use Rattle.record_frames.proofs.WrittenRead.{written_are_read}
use Rattle.record_frames.proofs.writing.laws.law_of_written_records.Goals as goal

pub returns : goal.returns
returns c = written_are_read
