use Rattle.std.proofs.Common.{◌≡◌, ℕ, ◌+◌, ◌*◌, ◌-◌, take, drop, sym, ap, ◌∙◌, arith}
use Rattle.record_frames.specs.Slots.{session_view, session_kept}
use Rattle.record_frames.proofs.Items.{refused, more}
use Rattle.record_frames.proofs.session_frame.session_slots.Goals as goal

width : (i : ℕ) → 128 * i + 128 - 128 * i ≡ 128
width i = omega arith

pub returns-in_default : goal.returns-in_default
returns-in_default c =
    refused session_view 128 session_kept c.args.count c.args.bytes.now c.loop-i.i c.loop-i.slots.items c.loop-i.invariant c.loop-i-test.true
    (ap (λ (n : ℕ). session_kept (take n (drop (128 * c.loop-i.i) c.args.bytes.now))) (sym (width c.loop-i.i)) ∙ c.in_default.ensures)

pub loop-i-preserved : goal.loop-i-preserved
loop-i-preserved c =
    more session_view 128 session_kept c.args.count c.args.bytes.now c.loop-i.i c.loop-i.slots.items c.push.new.self.items c.in-Some.slot c.loop-i.invariant c.loop-i-test.true
    (ap (λ (n : ℕ). session_kept (take n (drop (128 * c.loop-i.i) c.args.bytes.now))) (sym (width c.loop-i.i)) ∙ c.in-Some.ensures) c.in_ok-push.ensures.items
