use Rattle.std.proofs.Common.{◌≡◌, ◌++◌, drop}
use Rattle.ho_events.specs.Text.{text_of}
use Rattle.ho_events.proofs.text.extend_lines.Given as goal

-- what is written, with the lines of the entries that are left, is the whole
abbrev pub invariant-loop-entry : goal.invariant-loop-entry
invariant-loop-entry l = l.out.items ++ text_of (drop l.entry-index l.entries) ≡ l.initial.out.items ++ text_of l.entries
