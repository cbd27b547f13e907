use Rattle.std.proofs.Common.{◌≡◌, ◌&&◌, drop}
use Rattle.std.specs.List.{list_all}
use Rattle.ho_events.specs.Script.Words.{is_script_byte}
use Rattle.script_text.proofs.words.has_script_bytes.Given as goal

abbrev pub invariant-loop-b : goal.invariant-loop-b
invariant-loop-b l = (l.all && list_all is_script_byte (drop l.b-index l.line)) ≡ list_all is_script_byte l.line
