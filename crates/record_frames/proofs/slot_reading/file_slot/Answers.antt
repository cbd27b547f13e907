use Rattle.std.proofs.Common.{true, false, refl, sym, ap, ◌∙◌}
use Rattle.record_frames.specs.Reading.{are_zero, kind_of}
use Rattle.record_frames.proofs.ListFronts.{from_place}
use Rattle.record_frames.proofs.SlotLemmas.{file_is, file_said, file_from, said_is, file_test}
use Rattle.record_frames.proofs.slot_reading.file_slot.Goals as goal

pub returns-then-not-are_zero-clause-slot : goal.returns-then-not-are_zero-clause-slot
returns-then-not-are_zero-clause-slot c =
    file_is c.args.bytes.now c.in-Some.kind false (file_said c.args.bytes.now c.in-Some.kind) (ap kind_of (sym c.get_u64.ensures) ∙ sym c.kind_at.ensures ∙ c.in-Some.is)
    (ap are_zero (sym (from_place 64 c.args.bytes.now)) ∙ sym c.are_zero.ensures ∙ c.if-not-are_zero.true) refl

pub returns-then-is_kept-clause-slot : goal.returns-then-is_kept-clause-slot
returns-then-is_kept-clause-slot c =
    file_is c.args.bytes.now c.in-Some.kind true (file_from c.in-Some.kind c.get_u64-2.result c.get_u64-3.result c.get_u64-4.result c.get_u64-5.result c.get_u64-6.result c.get_u64-7.result c.get_u64-8.result) (ap kind_of (sym c.get_u64.ensures) ∙ sym c.kind_at.ensures ∙ c.in-Some.is)
    (ap are_zero (sym (from_place 64 c.args.bytes.now)) ∙ sym c.are_zero.ensures ∙ c.if-not-are_zero.false)
    (said_is c.args.bytes.now c.in-Some.kind c.get_u64-2.result c.get_u64-3.result c.get_u64-4.result c.get_u64-5.result c.get_u64-6.result c.get_u64-7.result c.get_u64-8.result
    c.get_u64-2.ensures c.get_u64-3.ensures c.get_u64-4.ensures c.get_u64-5.ensures c.get_u64-6.ensures c.get_u64-7.ensures c.get_u64-8.ensures)
    ∙ file_test (file_from c.in-Some.kind c.get_u64-2.result c.get_u64-3.result c.get_u64-4.result c.get_u64-5.result c.get_u64-6.result c.get_u64-7.result c.get_u64-8.result) true (sym c.is_kept.ensures.exact ∙ c.if-is_kept.true)

pub returns-else-is_kept-clause-slot : goal.returns-else-is_kept-clause-slot
returns-else-is_kept-clause-slot c =
    file_is c.args.bytes.now c.in-Some.kind true (file_from c.in-Some.kind c.get_u64-2.result c.get_u64-3.result c.get_u64-4.result c.get_u64-5.result c.get_u64-6.result c.get_u64-7.result c.get_u64-8.result) (ap kind_of (sym c.get_u64.ensures) ∙ sym c.kind_at.ensures ∙ c.in-Some.is)
    (ap are_zero (sym (from_place 64 c.args.bytes.now)) ∙ sym c.are_zero.ensures ∙ c.if-not-are_zero.false)
    (said_is c.args.bytes.now c.in-Some.kind c.get_u64-2.result c.get_u64-3.result c.get_u64-4.result c.get_u64-5.result c.get_u64-6.result c.get_u64-7.result c.get_u64-8.result
    c.get_u64-2.ensures c.get_u64-3.ensures c.get_u64-4.ensures c.get_u64-5.ensures c.get_u64-6.ensures c.get_u64-7.ensures c.get_u64-8.ensures)
    ∙ file_test (file_from c.in-Some.kind c.get_u64-2.result c.get_u64-3.result c.get_u64-4.result c.get_u64-5.result c.get_u64-6.result c.get_u64-7.result c.get_u64-8.result) false (sym c.is_kept.ensures.exact ∙ c.if-is_kept.false)
