use Rattle.std.proofs.Common.{drop, Some, None, true, false, refl, sym, ap, ◌∙◌, arith}
use Rattle.std.proofs.lemmas.List.{length-take-le}
use Rattle.ho_base.specs.Bytes.{u64_at}
use Rattle.record_frames.specs.Reading.{are_zero}
use Rattle.std.specs.Prelude.{◌&&◌, nat_le}
use Rattle.ho_base.specs.declared.limits.TheConstants.{SESSION_FILES}
use Rattle.record_frames.specs.Rules.{has_first}
use Rattle.record_frames.proofs.ListFronts.{from_place}
use Rattle.record_frames.proofs.SlotLemmas.{session_is, slot_none, slot_some, rules_break, first_breaks}
use Rattle.record_frames.proofs.slot_reading.session_slot.Goals as goal
use Rattle.record_frames.proofs.slot_reading.session_slot.Goals.{then-files-from-via-then-files-from, then-files-from-via-else-files-from+then-not-has_first}

pub slice_bounds-name_at-end : goal.slice_bounds-name_at-end
slice_bounds-name_at-end c = sym (length-take-le 64 c.args.bytes.now (omega (arith, c.requires)))

pub returns-in_default : goal.returns-in_default
returns-in_default c = session_is c.args.bytes.now None (are_zero (drop 80 c.args.bytes.now)) (u64_at c.args.bytes.now 64) (u64_at c.args.bytes.now 72) (sym c.name_at.ensures ∙ c.in_default.is) refl refl refl

pub returns-then-not-are_zero : goal.returns-then-not-are_zero
returns-then-not-are_zero c =
    session_is c.args.bytes.now (Some c.in-Some.name) false (u64_at c.args.bytes.now 64) (u64_at c.args.bytes.now 72) (sym c.name_at.ensures ∙ c.in-Some.is)
    (ap are_zero (sym (from_place 80 c.args.bytes.now)) ∙ sym c.are_zero.ensures ∙ c.if-not-are_zero.true) refl refl

pub returns-then-files-from : goal.returns-then-files-from
returns-then-files-from c =
    session_is c.args.bytes.now (Some c.in-Some.name) true c.get_u64-files.result c.get_u64-first.result (sym c.name_at.ensures ∙ c.in-Some.is)
    (ap are_zero (sym (from_place 80 c.args.bytes.now)) ∙ sym c.are_zero.ensures ∙ c.if-not-are_zero.false) (sym c.get_u64-files.ensures) (sym c.get_u64-first.ensures)
    ∙ slot_none c.in-Some.name (nat_le c.get_u64-files.result SESSION_FILES && has_first c.get_u64-files.result c.get_u64-first.result) c.get_u64-files.result c.get_u64-first.result
    (elim c.then-files-from.branch [
      | then-files-from-via-then-files-from w ↦ rules_break c.get_u64-files.result c.get_u64-first.result (omega (arith, w.if-files-from.true, c.from.ensures))
      | then-files-from-via-else-files-from+then-not-has_first w ↦ first_breaks c.get_u64-files.result c.get_u64-first.result (sym w.has_first.ensures ∙ w.if-not-has_first.true)
    ])

pub returns : goal.returns
returns c =
    session_is c.args.bytes.now (Some c.in-Some.name) true c.get_u64-files.result c.get_u64-first.result (sym c.name_at.ensures ∙ c.in-Some.is)
    (ap are_zero (sym (from_place 80 c.args.bytes.now)) ∙ sym c.are_zero.ensures ∙ c.if-not-are_zero.false) (sym c.get_u64-files.ensures) (sym c.get_u64-first.ensures)
    ∙ slot_some c.in-Some.name c.get_u64-files.result c.get_u64-first.result (omega (arith, c.if-files-from.false, c.from.ensures)) (sym c.has_first.ensures ∙ c.if-not-has_first.false)
