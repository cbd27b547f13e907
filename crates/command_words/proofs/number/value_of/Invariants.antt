use Rattle.std.proofs.Common.{◌≡◌, ◌<◌, ◌^◌, drop}
use Rattle.ho_events.specs.Script.Forms.{with_digits}
use Rattle.command_words.proofs.number.value_of.Given as goal

abbrev pub invariant-loop-b : goal.invariant-loop-b
invariant-loop-b l = (l.value < 2 ^ 64) × (with_digits l.value (drop l.b-index l.digits) ≡ with_digits 0 l.digits)
