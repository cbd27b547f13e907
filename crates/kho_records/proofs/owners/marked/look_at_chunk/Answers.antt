use Rattle.std.proofs.Common.{◌≡◌, ℕ, List, length, get_or, ap, ◌∙◌, arith}
use Rattle.std.specs.Prelude.{◌||◌}
use Rattle.record_frames.specs.Rules.{marks}
use Rattle.kho_records.specs.declared.chain.sheet.ElementRead.{ElementRead}
use Rattle.kho_records.specs.Chunks.{element_view}
use Rattle.kho_records.specs.Owner.{holder, flag_in}
use Rattle.kho_records.proofs.Flags.{look_more}
use Rattle.kho_records.proofs.owners.marked.look_at_chunk.Goals as goal

pub loop-element-preserved : goal.loop-element-preserved
loop-element-preserved c =
    let items : List ElementRead = c.args.chunk.now.items.items in
    let i = c.loop-element.element-index in
    let same : c.deref-element-items.result.now ≡ items = c.deref-element-items.ensures.value in
    let item : c.element-item.result ≡ get_or items i c.element-item.result = c.element-item.is ∙ ap (λ (l : List ElementRead). get_or l i c.element-item.result) same in
    look_more (λ (e : ElementRead) (o : ℕ). marks (holder c.args.p o) (element_view e)) items i c.element-item.result c.args.flags.now c.loop-element.flags c.look_at.new.flags
    c.loop-element.invariant (omega (arith, c.loop-element-test.true, ap length same)) (omega (arith, c.look_at.auto.flags))
    (λ o below. c.look_at.ensures o below ∙ ap (λ (e : ElementRead). flag_in c.loop-element.flags o || marks (holder c.args.p o) (element_view e)) item)
