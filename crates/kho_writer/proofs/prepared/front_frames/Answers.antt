use Rattle.std.proofs.Common.{◌∙◌, [], ap, arith}
use Rattle.ho_base.specs.BitmapCount.{chunk_frames}
use Rattle.record_frames.specs.Ram.{Ram}
use Rattle.kho_writer.proofs.Limits.{limits}
use Rattle.kho_writer.proofs.Counts.{left_over}
use Rattle.kho_writer.proofs.prepared.front_frames.Goals as goal

abbrev none : Ram
none = record { count = 0; page = λ p. [] }

pub need-requires : goal.need-requires
need-requires c = let l = limits c.args.carried.now c.requires in record { sessions = l.sessions; files = l.files; runs = l.runs }

pub overflow_sub-result : goal.overflow_sub-result
overflow_sub-result c =
    omega (arith, left_over none c.args.carried.now c.need.result c.chunk_count.result (c.need.ensures none) (c.chunk_count.ensures ∙ ap chunk_frames c.frames.ensures))

pub returns : goal.returns
returns c =
    omega (arith, left_over none c.args.carried.now c.need.result c.chunk_count.result (c.need.ensures none) (c.chunk_count.ensures ∙ ap chunk_frames c.frames.ensures))
