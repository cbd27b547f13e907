use Rattle.std.proofs.Common.{◌≡◌, ℕ, ◌+◌, ◌*◌, ◌-◌, take, drop, sym, ap, ◌∙◌, arith, Some, None}
use Rattle.kho_records.specs.Chunks.{element_view}
use Rattle.kho_records.specs.Fronts.{element_kept}
use Rattle.record_frames.proofs.Items.{refused, more}
use Rattle.record_frames.proofs.ListFronts.{given}
use Rattle.kho_records.proofs.chain.front.read_elements.Goals as goal

width : (i : ℕ) → 528 * i + 528 - 528 * i ≡ 528
width i = omega arith

pub returns-in_default : goal.returns-in_default
returns-in_default c =
    refused element_view 528 (element_kept c.args.frames) c.args.count c.args.bytes.now c.loop-i.i c.loop-i.elements.items c.loop-i.invariant c.loop-i-test.true
    (ap (λ (n : ℕ). element_kept c.args.frames (take n (drop (528 * c.loop-i.i) c.args.bytes.now))) (sym (width c.loop-i.i)) ∙ given element_view c.in_ok-element.field-0 None (element_kept c.args.frames (take (528 * c.loop-i.i + 528 - 528 * c.loop-i.i) (drop (528 * c.loop-i.i) c.args.bytes.now))) c.in_default.is c.in_ok-element.ensures)

pub loop-i-preserved : goal.loop-i-preserved
loop-i-preserved c =
    more element_view 528 (element_kept c.args.frames) c.args.count c.args.bytes.now c.loop-i.i c.loop-i.elements.items c.push.new.self.items c.in-Some.element c.loop-i.invariant c.loop-i-test.true
    (ap (λ (n : ℕ). element_kept c.args.frames (take n (drop (528 * c.loop-i.i) c.args.bytes.now))) (sym (width c.loop-i.i)) ∙ given element_view c.in_ok-element.field-0 (Some c.in-Some.element) (element_kept c.args.frames (take (528 * c.loop-i.i + 528 - 528 * c.loop-i.i) (drop (528 * c.loop-i.i) c.args.bytes.now))) c.in-Some.is c.in_ok-element.ensures) c.in_ok-push.ensures.items
