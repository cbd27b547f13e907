-- The lines that are left give what the whole script gives: each line is taken, refused, or isn't there.
use Rattle.std.proofs.Common.{◌≡◌, length, refl, sym, ◌∙◌, ap, arith, Ok, Err}
use Rattle.std.proofs.lemmas.Bool.Decides.{nat_tests}
use Rattle.ho_events.specs.Script.{outcome_of, after_line, finished, ended}
use Rattle.std.specs.Result.{result_ok}
use Rattle.script_text.proofs.Kept.{built_script}
use Rattle.script_text.proofs.Numbered.{numbered_script}
use Rattle.script_text.proofs.Shaped.{shaped_script}
use Rattle.script_text.proofs.Single.{single_script}
use Rattle.script_text.proofs.Small.{small_script}
use Rattle.script_text.proofs.OneByOne.{is_taken, is_refused, is_ended, is_read}
use Rattle.ho_events.specs.Script.Words.{is_script_byte}
use Rattle.script_text.proofs.CleanLines.{lines_clean, left, right}
use Rattle.script_text.proofs.read.Goals as goal

pub loop-rest-init : goal.loop-rest-init
unfolding outcome_of
loop-rest-init c = (rw c.new-reader.ensures refl, omega arith, λ clean. lines_clean is_script_byte _ (sym c.has_script_bytes-clean.ensures ∙ clean))

pub take_line-requires : goal.take_line-requires
take_line-requires c = λ clean. left _ _ (rw c.next_line.ensures.cut at (c.loop-rest.invariant.2 clean))

pub returns-in-Ok-Err-clause-bad : goal.returns-in-Ok-Err-clause-bad
returns-in-Ok-Err-clause-bad c =
    let refused : after_line c.loop-rest.reader c.next_line.result.0.now ≡ Err c.in-Ok-Err.reason =
    rw c.in-Ok-Err.field-0-is at c.in-Ok-Err.ensures in
    let told : outcome_of c.args.fresh c.args.bytes.now ≡ Err (record { line = c.loop-rest.line; why = c.in-Ok-Err.reason }) =
    sym c.loop-rest.invariant.0 ∙ is_refused _ _ _ _ _ _ c.next_line.ensures.cut refused in
    rw told refl

pub loop-rest-preserved : goal.loop-rest-preserved
loop-rest-preserved c =
    let taken : after_line c.loop-rest.reader c.next_line.result.0.now ≡ Ok c.take_line.new.self =
    rw c.in-Ok-Ok.field-0-is at c.in-Ok-Ok.ensures in
    (sym (is_taken _ _ _ _ _ _ c.next_line.ensures.cut taken) ∙ c.loop-rest.invariant.0, omega (arith, c.next_line.ensures.shorter, c.loop-rest.invariant.1), λ clean. right _ _ (rw c.next_line.ensures.cut at (c.loop-rest.invariant.2 clean)))

pub returns-in-Ok-Ok-into_script-clause-ok : goal.returns-in-Ok-Ok-into_script-clause-ok
returns-in-Ok-Ok-into_script-clause-ok c =
    let empty : length c.loop-rest.rest.now ≡ 0 = grind (arith, nat_tests) in
    let whole : finished c.loop-rest.reader ≡ Ok c.in-Ok-Ok-into_script.script =
    sym (rw c.in-Ok-Ok-into_script.field-0-is at c.in-Ok-Ok-into_script.ensures) in
    let told : outcome_of c.args.fresh c.args.bytes.now ≡ Ok c.in-Ok-Ok-into_script.script =
    is_read _ _ _ _ _ _ c.loop-rest.invariant.0 empty whole in
    ap result_ok told

pub returns-in-Ok-Ok-into_script-clause-built : goal.returns-in-Ok-Ok-into_script-clause-built
returns-in-Ok-Ok-into_script-clause-built c =
    let empty : length c.loop-rest.rest.now ≡ 0 = grind (arith, nat_tests) in
    let whole : finished c.loop-rest.reader ≡ Ok c.in-Ok-Ok-into_script.script =
    sym (rw c.in-Ok-Ok-into_script.field-0-is at c.in-Ok-Ok-into_script.ensures) in
    let told : outcome_of c.args.fresh c.args.bytes.now ≡ Ok c.in-Ok-Ok-into_script.script =
    is_read _ _ _ _ _ _ c.loop-rest.invariant.0 empty whole in
    built_script _ _ _ (ap result_ok told)

pub returns-in-Ok-Ok-into_script-clause-small : goal.returns-in-Ok-Ok-into_script-clause-small
returns-in-Ok-Ok-into_script-clause-small c =
    let empty : length c.loop-rest.rest.now ≡ 0 = grind (arith, nat_tests) in
    let whole : finished c.loop-rest.reader ≡ Ok c.in-Ok-Ok-into_script.script =
    sym (rw c.in-Ok-Ok-into_script.field-0-is at c.in-Ok-Ok-into_script.ensures) in
    let told : outcome_of c.args.fresh c.args.bytes.now ≡ Ok c.in-Ok-Ok-into_script.script =
    is_read _ _ _ _ _ _ c.loop-rest.invariant.0 empty whole in
    small_script _ _ _ (ap result_ok told)

pub returns-in-Ok-Ok-into_script-clause-numbered : goal.returns-in-Ok-Ok-into_script-clause-numbered
returns-in-Ok-Ok-into_script-clause-numbered c =
    let empty : length c.loop-rest.rest.now ≡ 0 = grind (arith, nat_tests) in
    let whole : finished c.loop-rest.reader ≡ Ok c.in-Ok-Ok-into_script.script =
    sym (rw c.in-Ok-Ok-into_script.field-0-is at c.in-Ok-Ok-into_script.ensures) in
    let told : outcome_of c.args.fresh c.args.bytes.now ≡ Ok c.in-Ok-Ok-into_script.script =
    is_read _ _ _ _ _ _ c.loop-rest.invariant.0 empty whole in
    numbered_script _ _ _ (ap result_ok told)

pub returns-in-Ok-Ok-into_script-clause-shaped : goal.returns-in-Ok-Ok-into_script-clause-shaped
returns-in-Ok-Ok-into_script-clause-shaped c =
    let empty : length c.loop-rest.rest.now ≡ 0 = grind (arith, nat_tests) in
    let whole : finished c.loop-rest.reader ≡ Ok c.in-Ok-Ok-into_script.script =
    sym (rw c.in-Ok-Ok-into_script.field-0-is at c.in-Ok-Ok-into_script.ensures) in
    let told : outcome_of c.args.fresh c.args.bytes.now ≡ Ok c.in-Ok-Ok-into_script.script =
    is_read _ _ _ _ _ _ c.loop-rest.invariant.0 empty whole in
    shaped_script _ _ _ (ap result_ok told)

pub returns-in-Ok-Ok-into_script-clause-single : goal.returns-in-Ok-Ok-into_script-clause-single
returns-in-Ok-Ok-into_script-clause-single c =
    let empty : length c.loop-rest.rest.now ≡ 0 = grind (arith, nat_tests) in
    let whole : finished c.loop-rest.reader ≡ Ok c.in-Ok-Ok-into_script.script =
    sym (rw c.in-Ok-Ok-into_script.field-0-is at c.in-Ok-Ok-into_script.ensures) in
    let told : outcome_of c.args.fresh c.args.bytes.now ≡ Ok c.in-Ok-Ok-into_script.script =
    is_read _ _ _ _ _ _ c.loop-rest.invariant.0 empty whole in
    single_script _ _ _ (ap result_ok told)

pub returns-in-Ok-Err-into_script-clause-bad : goal.returns-in-Ok-Err-into_script-clause-bad
returns-in-Ok-Err-into_script-clause-bad c =
    let empty : length c.loop-rest.rest.now ≡ 0 = grind (arith, nat_tests) in
    let early : finished c.loop-rest.reader ≡ Err c.in-Ok-Err-into_script.reason =
    sym (rw c.in-Ok-Err-into_script.field-0-is at c.in-Ok-Err-into_script.ensures) in
    let told : outcome_of c.args.fresh c.args.bytes.now ≡ ended c.loop-rest.line (finished c.loop-rest.reader) =
    sym c.loop-rest.invariant.0 ∙ is_ended c.loop-rest.line c.loop-rest.reader c.loop-rest.rest.now empty in
    rw (told, early) refl
