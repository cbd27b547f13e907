-- After the last digit the number is whole.
use Rattle.std.proofs.Common.{◌≡◌, sym, ◌∙◌, arith}
use Rattle.ho_events.specs.Script.Forms.{with_digits}
use Rattle.command_words.proofs.Numbers.{digits_end}
use Rattle.command_words.proofs.number.value_of.Goals as goal

pub returns : goal.returns
returns c =
    let whole : c.loop-b.value ≡ with_digits 0 c.args.digits.now =
    sym (digits_end c.loop-b.value c.args.digits.now c.loop-b.b-index (omega arith)) ∙ c.loop-b.invariant.1 in
    (omega (arith, c.loop-b.invariant.0), whole)
