use Rattle.std.proofs.Common.{Some, None, ◌-◌, length, take, drop, sym, ◌∙◌}
use Rattle.ho_events.specs.Lists.{firsts}
use Rattle.record_frames.specs.Sheeted.{ram_of, runs_kept}
use Rattle.record_frames.proofs.ListFronts.{from_place, front_from, given}
use Rattle.record_frames.proofs.lists.list_front.Goals as goal

pub returns-in-None-clause-front : goal.returns-in-None-clause-front
returns-in-None-clause-front c =
    front_from (ram_of c.args.frames.now) c.args.order c.args.folios c.args.before c.args.seen.now.numbers c.args.at c.get_u64-next.result c.get_u64-count.result c.count.result
    c.page_of-page.result.now (take (length c.page_of-page.result.now - 16) (drop 16 c.page_of-page.result.now)) None (sym c.is_frame_number.ensures.exact ∙ c.if-not-is_frame_number.false) (sym c.has.ensures ∙ c.if-has.false)
    (sym c.has_count.ensures.exact ∙ c.if-not-has_count.false) c.page_of-page.ensures.value c.get_u64-next.ensures c.get_u64-count.ensures (from_place 16 c.page_of-page.result.now) c.count.ensures.value
    (given (λ v. firsts v.items) c.in_ok-runs_in.field-0 None (runs_kept c.count.result c.args.order c.get_u64-count.result (take (length c.page_of-page.result.now - 16) (drop 16 c.page_of-page.result.now))) c.in-None.is c.in_ok-runs_in.ensures.kept)

pub returns-in-Some-clause-front : goal.returns-in-Some-clause-front
returns-in-Some-clause-front c =
    front_from (ram_of c.args.frames.now) c.args.order c.args.folios c.args.before c.args.seen.now.numbers c.args.at c.get_u64-next.result c.get_u64-count.result c.count.result
    c.page_of-page.result.now (take (length c.page_of-page.result.now - 16) (drop 16 c.page_of-page.result.now)) (Some (firsts c.in-Some.runs.items)) (sym c.is_frame_number.ensures.exact ∙ c.if-not-is_frame_number.false) (sym c.has.ensures ∙ c.if-has.false)
    (sym c.has_count.ensures.exact ∙ c.if-not-has_count.false) c.page_of-page.ensures.value c.get_u64-next.ensures c.get_u64-count.ensures (from_place 16 c.page_of-page.result.now) c.count.ensures.value
    (given (λ v. firsts v.items) c.in_ok-runs_in.field-0 (Some c.in-Some.runs) (runs_kept c.count.result c.args.order c.get_u64-count.result (take (length c.page_of-page.result.now - 16) (drop 16 c.page_of-page.result.now))) c.in-Some.is c.in_ok-runs_in.ensures.kept)
