use Rattle.std.proofs.Common.{◌++◌, map, ap, ◌∙◌, arith}
use Rattle.kho_records.proofs.Adding.{ended, one_each}
use Rattle.kexec_boot.proofs.FileSteps.{one_run}
use Rattle.kexec_boot.proofs.files.add_runs.Goals as goal

pub returns : goal.returns
returns c =
    ended (one_run c.args.file.now.order) c.args.runs.now.items c.as_slice-firsts.result.now c.loop-first.first-index c.loop-first.runs.items c.loop-first.invariant (omega arith)
    ∙ ap (λ l. c.args.runs.now.items ++ l) (one_each (λ p. (p, c.args.file.now.order)) c.as_slice-firsts.result.now ∙ ap (map (λ p. (p, c.args.file.now.order))) c.as_slice-firsts.ensures)
