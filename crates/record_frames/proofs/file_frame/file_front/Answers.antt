use Rattle.std.proofs.Common.{◌≡◌, ℕ, ◌-◌, true, length, map, take, drop, sym, ap, ◌∙◌}
use Rattle.ho_base.specs.Bytes.{u64_at}
use Rattle.record_frames.specs.Reading.{items_at}
use Rattle.record_frames.specs.Slots.{kept_if, file_view, file_kept}
use Rattle.record_frames.specs.Fronts.{has_slots, tokens_rise, file_front_at}
use Rattle.record_frames.specs.Sheeted.{ram_of}
use Rattle.record_frames.proofs.ListFronts.{from_place}
use Rattle.record_frames.proofs.FileTests.{with_slots, given_in}
use Rattle.record_frames.proofs.file_frame.file_front.Goals as goal

pub returns-clause-front : goal.returns-clause-front
returns-clause-front c =
    let page = c.page_of-page.result.now in
    let rest = take (length page - 128) (drop 128 page) in
    let slots : has_slots (u64_at page 8) c.args.before c.args.files ≡ true =
    ap (λ (n : ℕ). has_slots n c.args.before c.args.files) (sym c.get_u64.ensures) ∙ sym c.has_slots.ensures.exact ∙ c.if-not-has_slots.false in
    given_in (λ v. map file_view v.items) c.rising_slots.result (kept_if tokens_rise (items_at 128 file_kept c.args.files rest))
    (file_front_at (ram_of c.args.frames.now) c.args.before c.args.files c.args.seen.now.numbers c.args.at)
    (with_slots (ram_of c.args.frames.now) c.args.before c.args.files c.args.seen.now.numbers c.args.at page rest c.page_of-page.ensures.value (from_place 128 page)
    (sym c.is_frame_number.ensures.exact ∙ c.if-not-is_frame_number.false) (sym c.has.ensures ∙ c.if-has.false) (sym c.has_head.ensures ∙ c.if-not-has_head.false) slots)
    c.rising_slots.ensures.kept
