use Rattle.std.proofs.Common.{rules, ◌≡◌, ◌*◌, ◌^◌, [], ◌∷◌, ◌++◌, length, refl, ap, ◌∙◌, arith}
use Rattle.std.specs.Vec.Iter.{into_iter_items, into_iter_len}
use Rattle.ho_base.specs.declared.limits.TheConstants.{PAGE_BYTES}
use Rattle.file_folios.proofs.HeldStates.{holding_more}
use Rattle.file_folios.proofs.holding.slots_of.Goals as goal

pub loop-folio-preserved : goal.loop-folio-preserved
loop-folio-preserved c = (
  holding_more c.args.home.now.value c.args.order (PAGE_BYTES * 2 ^ c.args.order.0) c.args.folios.items c.loop-folio.slots.items (into_iter_items c.loop-folio.rest) c.loop-folio.invariant.0
      c.in-Some.folio (into_iter_items c.next.new.self) c.push_reserved.new.self.items c.in-Some.ensures.items refl c.as_slot.ensures.long
      (c.push_reserved.ensures.items ∙ ap (λ s. c.loop-folio.slots.items ++ s ∷ []) c.as_slot.ensures.value),
  search rules,
  search rules,
)
