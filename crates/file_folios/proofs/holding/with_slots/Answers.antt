use Rattle.std.proofs.Common.{◌≡◌, ◌*◌, ◌^◌, length, take, vec_len, ap, subst, ◌∙◌, arith}
use Rattle.ho_base.specs.declared.limits.TheConstants.{PAGE_BYTES}
use Rattle.ho_events.specs.File.{extended}
use Rattle.file_folios.specs.Slots.{all_bytes, AreSlots}
use Rattle.file_folios.proofs.HeldStates.{held_bytes, held_keeps, held_same}
use Rattle.file_folios.proofs.holding.with_slots.Goals as goal

pub invariant_of-result : goal.invariant_of-result
invariant_of-result c =
    let was : length c.args.slots.items ≡ vec_len c.args.slots = omega (arith, c.args.slots.ok) in
    let long : length c.clear_past.new.slots.items ≡ length c.args.slots.items = omega (arith, c.args.slots.ok, c.clear_past.new.slots.ok, c.clear_past.ensures.count) in
    held_keeps c.args.home.value c.args.order c.args.size c.args.slots.items c.clear_past.new.slots.items c.requires.slots (was ∙ c.requires.count) c.requires.small c.requires.within
    (subst (λ p. AreSlots c.args.home.value c.args.order p c.clear_past.new.slots.items) c.piece_of.ensures.value c.clear_past.ensures.slots) long
    (subst (λ p. all_bytes p c.clear_past.new.slots.items ≡ extended (length c.args.slots.items * p) (take c.args.size (all_bytes p c.args.slots.items))) c.piece_of.ensures.value c.clear_past.ensures.bytes)

pub returns-clause-state : goal.returns-clause-state
returns-clause-state c =
    let was : length c.args.slots.items ≡ vec_len c.args.slots = omega (arith, c.args.slots.ok) in
    held_same c.args.kind c.args.order c.args.size c.args.position c.args.slots.items c.clear_past.new.slots.items
    (held_bytes c.args.home.value c.args.order c.args.size c.args.slots.items c.clear_past.new.slots.items c.requires.slots (was ∙ c.requires.count)
    (subst (λ p. all_bytes p c.clear_past.new.slots.items ≡ extended (length c.args.slots.items * p) (take c.args.size (all_bytes p c.args.slots.items))) c.piece_of.ensures.value c.clear_past.ensures.bytes))
    c.clear_past.ensures.runs
