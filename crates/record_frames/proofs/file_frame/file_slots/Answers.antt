use Rattle.std.proofs.Common.{◌≡◌, ℕ, ◌+◌, ◌*◌, ◌-◌, ◌≤◌, [], ◌∷◌, ◌++◌, take, drop, sym, ap, ◌∙◌, arith}
use Rattle.std.proofs.lemmas.List.Elements.{All-push, All-same}
use Rattle.ho_base.specs.declared.limits.TheConstants.{MAX_ORDER}
use Rattle.record_frames.specs.declared.slot_reading.ReadFile.{ReadFile}
use Rattle.record_frames.specs.Slots.{file_view, file_kept}
use Rattle.record_frames.proofs.Items.{refused, more}
use Rattle.record_frames.proofs.file_frame.file_slots.Goals as goal

width : (i : ℕ) → 128 * i + 128 - 128 * i ≡ 128
width i = omega arith

abbrev Small : ReadFile → Type 0
Small f = f.order ≤ MAX_ORDER

pub returns-in_default-clause-kept : goal.returns-in_default-clause-kept
returns-in_default-clause-kept c =
    refused file_view 128 file_kept c.args.count c.args.bytes.now c.loop-i.i c.loop-i.slots.items c.loop-i.invariant.read c.loop-i-test.true
    (ap (λ (n : ℕ). file_kept (take n (drop (128 * c.loop-i.i) c.args.bytes.now))) (sym (width c.loop-i.i)) ∙ c.in_default.ensures.slot)

pub loop-i-preserved : goal.loop-i-preserved
loop-i-preserved c = record {
  read = more file_view 128 file_kept c.args.count c.args.bytes.now c.loop-i.i c.loop-i.slots.items c.push.new.self.items c.in-Some.slot c.loop-i.invariant.read c.loop-i-test.true
      (ap (λ (n : ℕ). file_kept (take n (drop (128 * c.loop-i.i) c.args.bytes.now))) (sym (width c.loop-i.i)) ∙ c.in-Some.ensures.slot) c.in_ok-push.ensures.items;
  orders = All-same Small c.push.new.self.items (c.loop-i.slots.items ++ c.in-Some.slot ∷ []) c.in_ok-push.ensures.items
      (All-push Small c.loop-i.slots.items c.in-Some.slot c.loop-i.invariant.orders c.in-Some.ensures.order);
}
