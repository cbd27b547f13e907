use Rattle.std.proofs.Common.{rules, ◌≡◌, ℕ, ◌+◌, ◌∷◌, [], Bool, true, false, cond, length, length-append, set, sym, refl, ap, ◌∙◌, arith, subst, get_or-set_same, get_or-set_other}
use mathlib.Core.Logic.{dite}
use native.Mathlib.Decide.{ℕ_discrete}
use Rattle.turns_table.specs.Views.{agents}
use Rattle.turns_table.specs.Kept.{items_at, has_at}
use Rattle.turns_table.proofs.Shelves.{items_set, items_else, items_front, items_last, items_beyond, either_none, has_beyond, or_no, has_is, at_true, at_false}
use Rattle.turns_table.proofs.logs.Logs.take_in.Goals as goal

pub loop-log-init : goal.loop-log-init
loop-log-init c = let mine : length c.args.self.now.logs.items ≡ agents = c.args.self.now.many.0 in let flags : length c.args.self.now.has.items ≡ agents = c.args.self.now.many.1 in let theirs : length c.args.other.logs.items ≡ agents = c.args.other.many.0 in let their_flags : length c.args.other.has.items ≡ agents = c.args.other.many.1 in record {
  few = omega arith;
  rest = λ a h. refl;
  before = λ a h. (refl, refl);
  after = λ a h. either_none (has_at c.args.self.now.has.items a) _ _ _ (items_beyond c.args.self.now.logs.items a (omega arith)) (items_beyond c.args.self.now.logs.items a (omega arith)) (items_beyond c.args.other.logs.items a h);
  flags = λ a h. or_no _ _ (has_beyond c.args.self.now.has.items a (omega arith)) (has_beyond c.args.other.has.items a (omega arith));
  number = refl;
}

pub loop-log-preserved-then-not-index : goal.loop-log-preserved-then-not-index
loop-log-preserved-then-not-index c = let i = c.loop-log.invariant in let popped = c.in-Some.ensures.items in let n : ℕ = length c.pop.new.self.items in let agent : c.len-agent.result ≡ n = search rules in
    let long : length c.loop-log.logs.items ≡ n + 1 = ap (λ l. length l) popped ∙ length-append c.pop.new.self.items (c.in-Some.log ∷ []) in let flags : length c.loop-log.self.has.items ≡ agents = c.loop-log.self.many.1 in let few = i.few in
    let rows : length c.loop-log.self.logs.items ≡ agents = c.loop-log.self.many.0 in let their_flags : length c.args.other.has.items ≡ agents = c.args.other.many.1 in
    let m : ℕ = c.len-agent.result in let b : Bool = c.index-then-not-index.result.now in
    let had : has_at c.loop-log.self.has.items n ≡ false = subst (λ (k : ℕ). has_at c.loop-log.self.has.items k ≡ false) agent (has_is c.loop-log.self.has.items m c.index.result.now (omega arith) c.index.ensures ∙ c.if-not-index.true) in
    let old : has_at c.args.self.now.has.items n ≡ false = sym (i.before n (omega arith)).1 ∙ had in
    let last : items_at c.loop-log.logs.items n ≡ c.in-Some.log.items = ap (λ l. items_at l n) popped ∙ items_last c.pop.new.self.items c.in-Some.log n refl in
    let theirs : has_at c.args.other.has.items n ≡ b = subst (λ (k : ℕ). has_at c.args.other.has.items k ≡ b) agent (has_is c.args.other.has.items m b (omega arith) c.index-then-not-index.ensures) in record {
      few = omega arith;
      rest = λ a h. sym (items_front c.pop.new.self.items (c.in-Some.log ∷ []) a h) ∙ (ap (λ l. items_at l a) (sym popped) ∙ i.rest a (omega arith));
      before = λ a h. let t = i.before a (omega arith) in (items_else c.loop-log.self.logs.items m a c.in-Some.log (λ e. omega arith) ∙ t.0, get_or-set_other c.loop-log.self.has.items m a b false (λ e. omega arith) ∙ t.1);
      after = λ a h. dite (ℕ_discrete a m)
          (λ e. let a_is : a ≡ n = e ∙ agent in
          ap (λ (k : ℕ). items_at (set c.loop-log.self.logs.items m c.in-Some.log) k) e ∙ (items_set c.loop-log.self.logs.items m c.in-Some.log (omega arith) ∙ (sym last ∙ (i.rest n (omega arith)
          ∙ subst (λ (k : ℕ). items_at c.args.other.logs.items n ≡ cond (has_at c.args.self.now.has.items k) (items_at c.args.self.now.logs.items k) (items_at c.args.other.logs.items k)) (sym a_is) (sym (at_false (has_at c.args.self.now.has.items n) (items_at c.args.self.now.logs.items n) (items_at c.args.other.logs.items n) old))))))
          (λ apart. items_else c.loop-log.self.logs.items m a c.in-Some.log apart ∙ i.after a (omega arith));
      flags = λ a h. dite (ℕ_discrete a m)
          (λ e. let a_is : a ≡ n = e ∙ agent in
          ap (λ (k : ℕ). has_at (set c.loop-log.self.has.items m b) k) e ∙ (get_or-set_same c.loop-log.self.has.items m b false (omega arith) ∙ (sym theirs
          ∙ subst (λ (k : ℕ). has_at c.args.other.has.items n ≡ cond (has_at c.args.self.now.has.items k) true (has_at c.args.other.has.items k)) (sym a_is) (sym (at_false (has_at c.args.self.now.has.items n) true (has_at c.args.other.has.items n) old)))))
          (λ apart. get_or-set_other c.loop-log.self.has.items m a b false apart ∙ i.flags a (omega arith));
      number = i.number;
    }

pub loop-log-preserved : goal.loop-log-preserved
loop-log-preserved c = let i = c.loop-log.invariant in let popped = c.in-Some.ensures.items in let n : ℕ = length c.pop.new.self.items in let agent : c.len-agent.result ≡ n = search rules in
    let long : length c.loop-log.logs.items ≡ n + 1 = ap (λ l. length l) popped ∙ length-append c.pop.new.self.items (c.in-Some.log ∷ []) in let flags : length c.loop-log.self.has.items ≡ agents = c.loop-log.self.many.1 in let few = i.few in
    let had : has_at c.loop-log.self.has.items n ≡ true = subst (λ (k : ℕ). has_at c.loop-log.self.has.items k ≡ true) agent (has_is c.loop-log.self.has.items c.len-agent.result c.index.result.now (omega arith) c.index.ensures ∙ c.if-not-index.false) in record {
      few = omega arith;
      rest = λ a h. sym (items_front c.pop.new.self.items (c.in-Some.log ∷ []) a h) ∙ (ap (λ l. items_at l a) (sym popped) ∙ i.rest a (omega arith));
      before = λ a h. i.before a (omega arith);
      after = λ a h. dite (ℕ_discrete a n)
          (λ e. subst (λ (k : ℕ). items_at c.loop-log.self.logs.items k ≡ cond (has_at c.args.self.now.has.items k) (items_at c.args.self.now.logs.items k) (items_at c.args.other.logs.items k)) (sym e)
          ((i.before n (omega arith)).0 ∙ sym (at_true (has_at c.args.self.now.has.items n) (items_at c.args.self.now.logs.items n) (items_at c.args.other.logs.items n) (sym (i.before n (omega arith)).1 ∙ had))))
          (λ apart. i.after a (omega arith));
      flags = λ a h. dite (ℕ_discrete a n)
          (λ e. subst (λ (k : ℕ). has_at c.loop-log.self.has.items k ≡ cond (has_at c.args.self.now.has.items k) true (has_at c.args.other.has.items k)) (sym e)
          (had ∙ sym (at_true (has_at c.args.self.now.has.items n) true (has_at c.args.other.has.items n) (sym (i.before n (omega arith)).1 ∙ had))))
          (λ apart. i.flags a (omega arith));
      number = i.number;
    }
