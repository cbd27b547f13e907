use Rattle.kho_writer.proofs.Limits.{limits}
use Rattle.freeze_path.proofs.ready.frames_for.Goals as goal

pub need-requires : goal.need-requires
need-requires c = let l = limits c.args.carried.now c.requires in record { sessions = l.sessions; files = l.files; runs = l.runs }
