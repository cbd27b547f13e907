use Rattle.std.proofs.Common.{◌-◌, length, map, take, drop, Some, None, true, false, refl, sym, ap, ◌∙◌, arith}
use Rattle.std.proofs.lemmas.Bool.{le-leb}
use Rattle.ho_base.specs.declared.limits.TheConstants.{OUT_SLOTS}
use Rattle.record_frames.specs.Reading.{items_at}
use Rattle.record_frames.specs.Slots.{session_view, session_kept}
use Rattle.record_frames.specs.Fronts.{names_rise}
use Rattle.record_frames.specs.Sheeted.{ram_of}
use Rattle.record_frames.proofs.ListFronts.{from_place, given}
use Rattle.record_frames.proofs.FrontTests.{front_read, many, names_kept}
use Rattle.record_frames.proofs.session_frame.session_front.Goals as goal
use Rattle.record_frames.proofs.session_frame.session_front.Goals.{then-names_rise, else-names_rise}

pub returns-then-count-from-clause-front : goal.returns-then-count-from-clause-front
returns-then-count-from-clause-front c =
    front_read (ram_of c.args.frames.now) c.args.at c.get_u64-count.result c.page_of-page.result.now (take (length c.page_of-page.result.now - 128) (drop 128 c.page_of-page.result.now)) false (items_at 128 session_kept c.get_u64-count.result (take (length c.page_of-page.result.now - 128) (drop 128 c.page_of-page.result.now))) c.page_of-page.ensures.value c.get_u64-count.ensures (from_place 128 c.page_of-page.result.now)
    (sym c.is_frame_number.ensures.exact ∙ c.if-not-is_frame_number.false) (sym c.has_head.ensures ∙ c.if-not-has_head.false)
    (many c.get_u64-count.result (omega (arith, c.if-count-from.true, c.from.ensures))) refl

pub returns-in-None-clause-front : goal.returns-in-None-clause-front
returns-in-None-clause-front c =
    front_read (ram_of c.args.frames.now) c.args.at c.get_u64-count.result c.page_of-page.result.now (take (length c.page_of-page.result.now - 128) (drop 128 c.page_of-page.result.now)) true None c.page_of-page.ensures.value c.get_u64-count.ensures (from_place 128 c.page_of-page.result.now)
    (sym c.is_frame_number.ensures.exact ∙ c.if-not-is_frame_number.false) (sym c.has_head.ensures ∙ c.if-not-has_head.false)
    (le-leb c.get_u64-count.result OUT_SLOTS (omega (arith, c.if-count-from.false, c.from.ensures)))
    (given (λ v. map session_view v.items) c.in_ok-session_slots.field-0 None (items_at 128 session_kept c.get_u64-count.result (take (length c.page_of-page.result.now - 128) (drop 128 c.page_of-page.result.now))) c.in-None.is c.in_ok-session_slots.ensures)

pub returns-after-names_rise-clause-front : goal.returns-after-names_rise-clause-front
returns-after-names_rise-clause-front c =
    let read = front_read (ram_of c.args.frames.now) c.args.at c.get_u64-count.result c.page_of-page.result.now (take (length c.page_of-page.result.now - 128) (drop 128 c.page_of-page.result.now)) true (Some (map session_view c.in-Some.slots.items)) c.page_of-page.ensures.value c.get_u64-count.ensures (from_place 128 c.page_of-page.result.now)
    (sym c.is_frame_number.ensures.exact ∙ c.if-not-is_frame_number.false) (sym c.has_head.ensures ∙ c.if-not-has_head.false)
    (le-leb c.get_u64-count.result OUT_SLOTS (omega (arith, c.if-count-from.false, c.from.ensures)))
    (given (λ v. map session_view v.items) c.in_ok-session_slots.field-0 (Some c.in-Some.slots) (items_at 128 session_kept c.get_u64-count.result (take (length c.page_of-page.result.now - 128) (drop 128 c.page_of-page.result.now))) c.in-Some.is c.in_ok-session_slots.ensures) in
    elim c.if-names_rise.branch [
      | then-names_rise w ↦ rw w.result-is (read ∙ names_kept (map session_view c.in-Some.slots.items) true (ap (λ l. names_rise (map session_view l)) (sym c.deref.ensures.value) ∙ sym c.names_rise.ensures ∙ w.if-names_rise.true))
      | else-names_rise w ↦ rw w.result-is (read ∙ names_kept (map session_view c.in-Some.slots.items) false (ap (λ l. names_rise (map session_view l)) (sym c.deref.ensures.value) ∙ sym c.names_rise.ensures ∙ w.if-names_rise.false))
    ]
