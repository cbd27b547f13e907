use Rattle.std.proofs.Common.{ap, ◌∙◌, arith}
use Rattle.std.proofs.lemmas.List.{take_all}
use Rattle.record_frames.specs.Writing.{files_of_sessions}
use Rattle.record_frames.proofs.WrittenSessions.{files_more}
use Rattle.record_frames.proofs.writing.records.all_file_frames.Goals as goal

pub loop-i-preserved : goal.loop-i-preserved
loop-i-preserved c = record {
  so_far = omega (arith, files_more c.args.sessions.now c.loop-i.i c.index-sessions-i.result c.loop-i-test.true c.index-sessions-i.is, c.loop-i.invariant.so_far, c.file_frames-count.ensures.value);
  few = omega (arith, c.loop-i.invariant.few, c.file_frames-count.ensures.few);
}

pub returns : goal.returns
returns c = c.loop-i.invariant.so_far ∙ ap files_of_sessions (take_all c.loop-i.i c.args.sessions.now (omega (arith, c.loop-i-test.false)))
