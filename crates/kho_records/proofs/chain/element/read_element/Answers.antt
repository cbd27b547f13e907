use Rattle.std.proofs.Common.{ℕ, ◌-◌, List, ◌++◌, Some, length, take, drop, false, true, sym, ap, ◌∙◌}
use Rattle.record_frames.proofs.ListFronts.{from_place}
use Rattle.kho_records.proofs.Elements.{element_of, element_is}
use Rattle.kho_records.proofs.chain.element.read_element.Goals as goal

pub returns-then-not-is_element : goal.returns-then-not-is_element
returns-then-not-is_element c =
    element_is c.args.frames c.get_u64-base.result c.get_u64-order.result c.args.bytes.now (take (length c.args.bytes.now - 16) (drop 16 c.args.bytes.now)) false
    c.get_u64-base.ensures c.get_u64-order.ensures (from_place 16 c.args.bytes.now) (sym c.if-not-is_element.true ∙ c.is_element.ensures)

pub returns : goal.returns
returns c =
    element_is c.args.frames c.get_u64-base.result c.get_u64-order.result c.args.bytes.now (take (length c.args.bytes.now - 16) (drop 16 c.args.bytes.now)) true
    c.get_u64-base.ensures c.get_u64-order.ensures (from_place 16 c.args.bytes.now) (sym c.if-not-is_element.false ∙ c.is_element.ensures)
    ∙ ap (λ (l : List ℕ). Some (element_of c.get_u64-base.result c.get_u64-order.result l))
    (sym (c.in_ok-extend_from_slice.ensures.items ∙ ap (λ (l : List ℕ). l ++ take (length c.args.bytes.now - 16) (drop 16 c.args.bytes.now)) c.new-bits.ensures.items))
