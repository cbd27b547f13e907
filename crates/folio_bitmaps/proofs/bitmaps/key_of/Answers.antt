use Rattle.std.proofs.Common.{◌≡◌, ◌+◌, ◌*◌, ◌/◌, ◌%◌, ◌^◌, ◌<◌, ◌≤◌, ap, ◌∙◌, arith, rules, ℕ}
use Rattle.ho_base.specs.BitmapCount.{cover, bitmaps_below}
use Rattle.folio_bitmaps.proofs.Counts.{below_next}
use Rattle.folio_bitmaps.proofs.Keys as keys
use Rattle.folio_bitmaps.proofs.bitmaps.key_of.Goals as goal

pub loop-left-init : goal.loop-left-init
loop-left-init c = record { small = search rules; number = omega (arith, keys.none_below c.args.frames) }

pub loop-left-smaller : goal.loop-left-smaller
loop-left-smaller c =
    let more : c.loop-left.order + 1 ≤ 9 = keys.goes_on c.args.frames c.loop-left.order c.loop-left.left c.args.t c.loop-left.invariant.small c.loop-left.invariant.number c.requires (omega arith) in
    omega arith

pub loop-left-preserved : goal.loop-left-preserved
loop-left-preserved c = record {
  small = keys.goes_on c.args.frames c.loop-left.order c.loop-left.left c.args.t c.loop-left.invariant.small c.loop-left.invariant.number c.requires (omega arith);
  number = omega (arith, below_next c.args.frames c.loop-left.order, c.loop-left.invariant.number, c.of_order-left.ensures.value);
}

base_is : (c : goal.After-loop-left) → c.loop-left.left * (4096 * 2 ^ c.loop-left.order % 4294967296) ≡ c.loop-left.left * cover c.loop-left.order
base_is c = ap (λ (x : ℕ). c.loop-left.left * x) (keys.cover_shl c.loop-left.order c.loop-left.invariant.small)

pub overflow_mul-result : goal.overflow_mul-result
overflow_mul-result c =
    let e = base_is c in
    let lt : c.loop-left.left * cover c.loop-left.order < c.args.frames = keys.base_below c.args.frames c.loop-left.order c.loop-left.left (omega (arith, c.of_order.ensures.value)) in
    let fits : c.loop-left.left * (4096 * 2 ^ c.loop-left.order % 4294967296) < 2 ^ 32 = omega (arith, e) in
    search rules

pub returns-clause-aligned : goal.returns-clause-aligned
returns-clause-aligned c =
    ap (λ (x : ℕ). c.loop-left.left * x % cover c.loop-left.order) (keys.cover_shl c.loop-left.order c.loop-left.invariant.small) ∙ keys.aligned_of c.loop-left.order c.loop-left.left

pub returns-clause-below : goal.returns-clause-below
returns-clause-below c =
    let lt : c.loop-left.left * cover c.loop-left.order < c.args.frames = keys.base_below c.args.frames c.loop-left.order c.loop-left.left (omega (arith, c.of_order.ensures.value)) in
    omega (arith, base_is c)

pub returns-clause-number : goal.returns-clause-number
returns-clause-number c =
    ap (λ (x : ℕ). bitmaps_below c.args.frames c.loop-left.order + c.loop-left.left * x / cover c.loop-left.order) (keys.cover_shl c.loop-left.order c.loop-left.invariant.small)
    ∙ ap (λ (x : ℕ). bitmaps_below c.args.frames c.loop-left.order + x) (keys.quotient_of c.loop-left.order c.loop-left.left) ∙ c.loop-left.invariant.number
