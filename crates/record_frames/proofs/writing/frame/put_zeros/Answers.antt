use Rattle.std.proofs.Common.{ℕ, List, ap, ◌∙◌}
use Rattle.phys_frames.specs.Memory.{with_bytes, written}
use Rattle.record_frames.proofs.WrittenBytes.{zeros_taken}
use Rattle.record_frames.proofs.writing.frame.put_zeros.Goals as goal

pub returns : goal.returns
returns c =
    c.write.ensures
    ∙ ap (λ (bs : List ℕ). with_bytes c.args.folio.now (written c.args.folio.now.bytes c.args.at bs)) (zeros_taken c.args.count 64 c.requires.few)
