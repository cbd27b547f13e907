use Rattle.std.proofs.Common.{◌≡◌, List, take, set, refl, sym, ap, subst, ◌∙◌, arith}
use Rattle.std.proofs.lemmas.List.{take_all}
use Rattle.std.specs.List.{All}
use Rattle.phys_frames.specs.Memory.{FolioValue}
use Rattle.record_frames.specs.Writing.{with_pages}
use Rattle.record_frames.proofs.WrittenPages.{no_pages, same_orders}
use Rattle.record_frames.proofs.WrittenSheets.{list_chain, list_count, lists_step}
use Rattle.record_frames.proofs.writing.list_frames.write_lists.Goals as goal

pub loop-i-init : goal.loop-i-init
loop-i-init c = sym (no_pages c.args.folios.now)

pub write_list_frame-requires-clause-order : goal.write_list_frame-requires-clause-order
write_list_frame-requires-clause-order c =
    let orders : All (λ f. f.order.0 ≡ 0) c.loop-i.folios =
    subst (λ (fs : List FolioValue). All (λ f. f.order.0 ≡ 0) fs) (sym c.loop-i.invariant)
    (same_orders c.args.folios.now (take c.loop-i.i (list_chain c.args.folios.now c.args.file.now.runs c.requires.count)) c.requires.orders) in
    orders c.loop-i.i c.index-folios-i.result (omega (arith, c.loop-i.auto.folios, c.loop-i-test.true))

pub loop-i-preserved : goal.loop-i-preserved
loop-i-preserved c =
    lists_step c.args.folios.now c.args.file.now.runs c.requires.count c.loop-i.folios (set c.loop-i.folios c.loop-i.i c.write_list_frame.new.folio) c.loop-i.i c.write_list_frame.new.folio
    c.index-folios-i.result c.number_at-next.result c.min-end.result c.as_slice-runs.result.now c.loop-i-test.true c.loop-i.invariant refl c.number_at-next.ensures c.as_slice-runs.ensures
    c.min-end.ensures c.write_list_frame.ensures

pub returns : goal.returns
returns c =
    c.loop-i.invariant
    ∙ ap (with_pages c.args.folios.now)
    (take_all c.loop-i.i (list_chain c.args.folios.now c.args.file.now.runs c.requires.count)
    (omega (arith, list_count c.args.folios.now c.args.file.now.runs c.requires.count, c.loop-i-test.false)))
