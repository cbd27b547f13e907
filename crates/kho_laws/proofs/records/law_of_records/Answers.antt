use Rattle.kho_laws.proofs.SessionRules.{rules_kept}
use Rattle.kho_laws.proofs.records.law_of_records.Goals as goal

pub returns : goal.returns
returns c = rules_kept
