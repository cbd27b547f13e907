use Rattle.std.proofs.Common.{[], ap, ◌∙◌, arith}
use Rattle.ho_events.specs.Lists.{firsts}
use Rattle.kho_records.proofs.Adding.{ended}
use Rattle.kho_records.proofs.Shown.{sheet_firsts, sheets_firsts}
use Rattle.kho_records.proofs.carrying.carried_runs.Goals as goal

pub returns : goal.returns
returns c =
    ap firsts c.from_vec.ensures
    ∙ ended sheet_firsts [] c.args.lists.now c.loop-sheet.sheet-index (firsts c.loop-sheet.runs.items) c.loop-sheet.invariant (omega arith) ∙ sheets_firsts c.args.lists.now
