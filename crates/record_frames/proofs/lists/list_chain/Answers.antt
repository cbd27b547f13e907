use Rattle.std.proofs.Common.{◌≡◌, ℕ, ◌<◌, ◌≤◌, ◌+◌, ◌-◌, Option, Some, None, length, refl, subst, ◌∙◌, arith}
use Rattle.std.specs.Prelude.{IfSome}
use Rattle.record_frames.specs.Lists.{front_view}
use Rattle.record_frames.specs.Sheeted.{ram_of, list_front_at}
use Rattle.record_frames.proofs.ListFronts.{given}
use Rattle.record_frames.proofs.ListLoop.{Reads, breaks, runs_out, ends, goes_on}
use Rattle.record_frames.specs.declared.lists.ListFront.{ListFront}
use Rattle.record_frames.proofs.lists.list_chain.Goals as goal

pub returns-in_default-clause-read : goal.returns-in_default-clause-read
returns-in_default-clause-read c =
    breaks (ram_of c.args.frames.now) c.args.order c.args.folios c.args.seen.now.numbers c.args.first (c.count-end.result - c.loop.counter) c.loop.before c.loop.at
    c.loop.seen.numbers c.loop.sheets.items c.loop.invariant.reads (omega (arith, c.loop-test.true))
    (given front_view c.in_ok-front.field-0 None (list_front_at (ram_of c.args.frames.now) c.args.order c.args.folios c.loop.before c.loop.seen.numbers c.loop.at)
    c.in_default.is c.in_ok-front.ensures.front)

pub returns-then-next-eq0-clause-read : goal.returns-then-next-eq0-clause-read
returns-then-next-eq0-clause-read c =
    ends (ram_of c.args.frames.now) c.args.order c.args.folios c.args.seen.now.numbers c.args.first (c.count-end.result - c.loop.counter) c.loop.before c.loop.at
    c.loop.seen.numbers c.loop.sheets.items c.push-in-loop.new.self.items (record { at = c.loop.at; runs = c.in-Some.front.runs }) c.in-Some.front
    c.loop.invariant.reads (omega (arith, c.loop-test.true))
    (given front_view c.in_ok-front.field-0 (Some c.in-Some.front) (list_front_at (ram_of c.args.frames.now) c.args.order c.args.folios c.loop.before c.loop.seen.numbers c.loop.at)
    c.in-Some.is c.in_ok-front.ensures.front)
    refl refl c.if-next-eq0.true c.in_ok-push-2.ensures.items

pub loop-preserved : goal.loop-preserved
loop-preserved c =
    let after : ℕ → Type 0 = λ n.
    Reads (ram_of c.args.frames.now) c.args.order c.args.folios c.args.seen.now.numbers c.args.first (c.count-end.result - (c.loop.counter + 1)) (c.loop.before + n)
    c.in-Some.front.next c.push.new.self.numbers c.push-in-loop.new.self.items in
    let Within : Option ListFront → Type 0 = λ o. IfSome o (λ f. (c.loop.at < c.loop.seen.count) × (length f.runs.items ≤ 510)) in
    let within : (c.loop.at < c.loop.seen.count) × (length c.in-Some.front.runs.items ≤ 510) = subst Within c.in-Some.is c.in_ok-front.ensures.within in
    let long : length c.in-Some.front.runs.items ≡ c.len.result = omega (arith, c.in-Some.front.runs.ok, c.len.ensures) in
    record {
      reads = subst after long
          (goes_on (ram_of c.args.frames.now) c.args.order c.args.folios c.args.seen.now.numbers c.args.first (c.count-end.result - c.loop.counter)
          (c.count-end.result - (c.loop.counter + 1)) c.loop.before c.loop.at c.loop.seen.numbers c.push.new.self.numbers c.loop.sheets.items c.push-in-loop.new.self.items
          (record { at = c.loop.at; runs = c.in-Some.front.runs }) c.in-Some.front c.loop.invariant.reads (omega (arith, c.loop-test.true)) (omega arith)
          (given front_view c.in_ok-front.field-0 (Some c.in-Some.front) (list_front_at (ram_of c.args.frames.now) c.args.order c.args.folios c.loop.before c.loop.seen.numbers c.loop.at)
          c.in-Some.is c.in_ok-front.ensures.front)
          refl refl c.if-next-eq0.false c.in_ok-push.ensures.numbers c.in_ok-push-2.ensures.items);
      end = c.loop.invariant.end;
      small = c.loop.invariant.small;
      count = c.in_ok-push.ensures.count ∙ c.loop.invariant.count;
      few = omega (arith, within.1, long, c.loop.invariant.few);
    }

pub returns-clause-read : goal.returns-clause-read
returns-clause-read c =
    runs_out (ram_of c.args.frames.now) c.args.order c.args.folios c.args.seen.now.numbers c.args.first (c.count-end.result - c.loop.counter) c.loop.before c.loop.at
    c.loop.seen.numbers c.loop.sheets.items c.loop.invariant.reads (omega (arith, c.loop-test.false))
