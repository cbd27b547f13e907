use Rattle.std.proofs.Common.{◌-◌, length, take, drop, true, false, Some, None, sym, ap, ◌∙◌}
use Rattle.record_frames.specs.Reading.{items_at}
use Rattle.record_frames.specs.Sheeted.{ram_of}
use Rattle.record_frames.proofs.ListFronts.{from_place, given}
use Rattle.kho_records.specs.Chunks.{elements_view}
use Rattle.kho_records.specs.Fronts.{rise_behind, element_kept, front_with}
use Rattle.kho_records.proofs.FrontTests.{front_from, rise_kept}
use Rattle.kho_records.proofs.chain.front.chunk_front.Goals as goal
use Rattle.kho_records.proofs.chain.front.chunk_front.Goals.{then-rise_behind, else-rise_behind}

pub returns-in-None-clause-front : goal.returns-in-None-clause-front
returns-in-None-clause-front c =
    front_from (ram_of c.args.frames.now) c.args.last c.args.seen.now.numbers c.args.at c.get_u64-next.result c.get_u64-count.result c.count.result c.page_of-page.result.now
    (take (length c.page_of-page.result.now - 32) (drop 32 c.page_of-page.result.now)) None (sym c.is_frame_number.ensures.exact ∙ c.if-not-is_frame_number.false) (sym c.has.ensures ∙ c.if-has.false)
    c.page_of-page.ensures.value (sym c.has_head.ensures.exact ∙ c.if-not-has_head.false) c.get_u64-next.ensures c.get_u64-count.ensures (from_place 32 c.page_of-page.result.now) c.count.ensures.value
    (given (λ v. elements_view v.items) c.in_ok-read_elements.field-0 None (items_at 528 (element_kept c.count.result) c.get_u64-count.result (take (length c.page_of-page.result.now - 32) (drop 32 c.page_of-page.result.now))) c.in-None.is c.in_ok-read_elements.ensures)

pub returns-after-rise_behind-clause-front : goal.returns-after-rise_behind-clause-front
returns-after-rise_behind-clause-front c =
    let read = front_from (ram_of c.args.frames.now) c.args.last c.args.seen.now.numbers c.args.at c.get_u64-next.result c.get_u64-count.result c.count.result c.page_of-page.result.now
    (take (length c.page_of-page.result.now - 32) (drop 32 c.page_of-page.result.now)) (Some (elements_view c.in-Some.items.items)) (sym c.is_frame_number.ensures.exact ∙ c.if-not-is_frame_number.false) (sym c.has.ensures ∙ c.if-has.false)
    c.page_of-page.ensures.value (sym c.has_head.ensures.exact ∙ c.if-not-has_head.false) c.get_u64-next.ensures c.get_u64-count.ensures (from_place 32 c.page_of-page.result.now) c.count.ensures.value
    (given (λ v. elements_view v.items) c.in_ok-read_elements.field-0 (Some c.in-Some.items) (items_at 528 (element_kept c.count.result) c.get_u64-count.result (take (length c.page_of-page.result.now - 32) (drop 32 c.page_of-page.result.now))) c.in-Some.is c.in_ok-read_elements.ensures) in
    elim c.if-rise_behind.branch [
      | then-rise_behind w ↦ rw w.result-is (read ∙ ap (front_with c.get_u64-next.result) (rise_kept c.args.last (elements_view c.in-Some.items.items) true (ap (λ l. rise_behind c.args.last (elements_view l)) (sym c.deref.ensures.value) ∙ sym c.rise_behind.ensures ∙ w.if-rise_behind.true)))
      | else-rise_behind w ↦ rw w.result-is (read ∙ ap (front_with c.get_u64-next.result) (rise_kept c.args.last (elements_view c.in-Some.items.items) false (ap (λ l. rise_behind c.args.last (elements_view l)) (sym c.deref.ensures.value) ∙ sym c.rise_behind.ensures ∙ w.if-rise_behind.false)))
    ]
