use Rattle.std.proofs.Common.{◌≡◌, ◌<◌, true, false, length, reverse, vec_len, refl, ap, sym, ◌∙◌, arith}
use Rattle.std.proofs.lemmas.List.{length-reverse}
use Rattle.file_folios.specs.Slots.{is_hole}
use Rattle.file_folios.proofs.Filling.{filling_begins, filling_some, filling_kept, filling_put, filled_left, filled_used, filled_runs, turned_twice, turned_none}
use Rattle.file_folios.proofs.slots.fill_holes.Goals.{then-is_hole_at, else-is_hole_at}
use Rattle.file_folios.proofs.slots.fill_holes.Goals as goal

pub loop-left-init : goal.loop-left-init
loop-left-init c =
    let long : length c.args.fills.now.items ≡ vec_len c.args.fills.now = omega (arith, c.args.fills.now.ok) in
    let turned : length c.turn_round.new.folios.items ≡ length c.args.fills.now.items = ap length c.turn_round.ensures ∙ length-reverse c.args.fills.now.items in (
      filling_begins c.args.home.now.value c.args.order c.args.piece c.args.from c.args.count c.args.fills.now.items c.args.slots.now.items
          (reverse c.turn_round.new.folios.items) c.args.runs.now.items (turned_twice c.args.fills.now.items c.turn_round.new.folios.items c.turn_round.ensures)
          c.requires.empty c.requires.slots c.requires.blank (long ∙ c.requires.holes),
      omega (arith, turned, c.turn_round.new.folios.ok, c.args.fills.now.ok, c.args.runs.now.ok, ap length c.requires.empty, c.requires.room),
      refl,
    )

pub fill_one-requires-clause-some : goal.fill_one-requires-clause-some
fill_one-requires-clause-some c =
    let is : is_hole c.loop-left.slots.items c.loop-left.at ≡ true = ap (λ s. is_hole s c.loop-left.at) (sym c.as_slice.ensures.value) ∙ sym c.is_hole_at.ensures ∙ c.if-is_hole_at.true in
    let more : 0 < length (reverse c.loop-left.fills.items) = filling_some c.args.home.now.value c.args.order c.args.piece c.args.from c.args.count c.args.fills.now.items c.args.slots.now.items
    c.loop-left.at c.loop-left.left (reverse c.loop-left.fills.items) c.loop-left.runs.items c.loop-left.slots.items c.loop-left.invariant.0 c.loop-left-test.true is in
    omega (arith, more, length-reverse c.loop-left.fills.items, c.loop-left.fills.ok)

pub loop-left-preserved : goal.loop-left-preserved
loop-left-preserved c = elim c.if-is_hole_at.branch [
  | then-is_hole_at w ↦
      let is : is_hole c.loop-left.slots.items c.loop-left.at ≡ true = ap (λ s. is_hole s c.loop-left.at) (sym c.as_slice.ensures.value) ∙ sym c.is_hole_at.ensures ∙ w.if-is_hole_at.true in
      let long : length c.loop-left.slots.items ≡ length c.args.slots.now.items = c.loop-left.invariant.0.length_same in
      let below : c.loop-left.at < length c.loop-left.slots.items = omega (arith, long, c.args.slots.now.ok, c.requires.within, c.loop-left.invariant.0.place, c.loop-left-test.true) in (
        filling_put c.args.home.now.value c.args.order c.args.piece c.args.from c.args.count c.args.fills.now.items c.args.slots.now.items
            c.loop-left.at c.loop-left.left (reverse c.loop-left.fills.items) c.loop-left.runs.items c.loop-left.slots.items c.loop-left.invariant.0 c.loop-left-test.true
            (reverse c.if-is_hole_at.fills.items) c.if-is_hole_at.runs.items c.if-is_hole_at.slots.items is below
            (ap (λ v. reverse v.items) w.fills-is ∙ w.fill_one.ensures.fills) (ap (λ v. v.items) w.runs-is ∙ w.fill_one.ensures.runs) (ap (λ v. v.items) w.slots-is ∙ w.fill_one.ensures.slots),
        rw (w.runs-is, w.fills-is) w.fill_one.ensures.room,
        rw w.slots-is (w.fill_one.ensures.capacity ∙ c.loop-left.invariant.2),
      )
  | else-is_hole_at w ↦
      let is : is_hole c.loop-left.slots.items c.loop-left.at ≡ false = ap (λ s. is_hole s c.loop-left.at) (sym c.as_slice.ensures.value) ∙ sym c.is_hole_at.ensures ∙ w.if-is_hole_at.false in
      rw (w.runs-is, w.fills-is, w.slots-is) (
        filling_kept c.args.home.now.value c.args.order c.args.piece c.args.from c.args.count c.args.fills.now.items c.args.slots.now.items
            c.loop-left.at c.loop-left.left (reverse c.loop-left.fills.items) c.loop-left.runs.items c.loop-left.slots.items c.loop-left.invariant.0 c.loop-left-test.true is,
        c.loop-left.invariant.1,
        c.loop-left.invariant.2,
      )
]

pub returns-clause-runs : goal.returns-clause-runs
returns-clause-runs c =
    filled_runs c.args.home.now.value c.args.order c.args.piece c.args.from c.args.count c.args.fills.now.items c.args.slots.now.items
    c.loop-left.at c.loop-left.left (reverse c.loop-left.fills.items) c.loop-left.runs.items c.loop-left.slots.items c.loop-left.invariant.0 (omega arith)

pub returns-clause-used : goal.returns-clause-used
returns-clause-used c =
    filled_used c.args.home.now.value c.args.order c.args.piece c.args.from c.args.count c.args.fills.now.items c.args.slots.now.items
    c.loop-left.at c.loop-left.left (reverse c.loop-left.fills.items) c.loop-left.runs.items c.loop-left.slots.items c.loop-left.invariant.0 (omega arith)

pub returns-clause-left : goal.returns-clause-left
returns-clause-left c =
    turned_none c.loop-left.fills.items (filled_left c.args.home.now.value c.args.order c.args.piece c.args.from c.args.count c.args.fills.now.items c.args.slots.now.items
    c.loop-left.at c.loop-left.left (reverse c.loop-left.fills.items) c.loop-left.runs.items c.loop-left.slots.items c.loop-left.invariant.0 (omega arith))
