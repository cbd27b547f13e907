use Rattle.std.proofs.Common.{◌≡◌, ◌++◌, drop}
use Rattle.ho_events.specs.Text.{after_commas}
use Rattle.ho_events.proofs.text.words.extend_after_commas.Given as goal

-- what is written, with what is left, is the whole
abbrev pub invariant-loop-run : goal.invariant-loop-run
invariant-loop-run l = l.out.items ++ after_commas (drop l.run-index l.runs) ≡ l.initial.out.items ++ after_commas l.runs
