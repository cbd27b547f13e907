use Rattle.std.proofs.Common.{arith}
use Rattle.record_frames.specs.Writing.{frames_of}
use Rattle.record_frames.proofs.WrittenRecords.{lists_same, written_records}
use Rattle.record_frames.proofs.writing.records.write_records.Goals as goal

pub write_file_frames-requires-clause-lists : goal.write_file_frames-requires-clause-lists
write_file_frames-requires-clause-lists c =
    omega (arith, lists_same c.args.sessions.now, c.requires.count, c.split_at_mut-first.ensures.back_len, c.split_at_mut-files.ensures.back_len, c.all_file_frames.ensures)

pub returns : goal.returns
returns c =
    written_records c.args.folios.now c.split_at_mut-first.result.0.now c.split_at_mut-first.result.1.now c.split_at_mut-files.result.0.now c.split_at_mut-files.result.1.now
    c.write_file_frames.new.files c.write_list_frames.new.lists c.args.sessions.now c.all_file_frames.result c.write_session_frame.new.folio c.index-first-0.result
    c.split_at_mut-first.ensures.front c.split_at_mut-first.ensures.back c.split_at_mut-files.ensures.front c.split_at_mut-files.ensures.back c.all_file_frames.ensures
    (omega (arith, c.requires.count, c.all_file_frames.ensures)) (c.write_session_frame.ensures (frames_of c.split_at_mut-files.result.1.now)) c.write_file_frames.ensures c.write_list_frames.ensures
