use Rattle.std.proofs.Common.{rules, ◌∷◌, [], length, length-append, ap, ◌∙◌, arith}
use mathlib.Core.Logic.{dite}
use native.Mathlib.Decide.{ℕ_discrete}
use Rattle.turns_table.specs.Kept.{items_at, has_at}
use Rattle.turns_table.proofs.Shelves.{items_snoc, has_front, has_last}
use Rattle.turns_table.proofs.Opens.{agents_is}
use Rattle.turns_table.proofs.logs.Logs.empty.Goals as goal

pub loop-preserved : goal.loop-preserved
loop-preserved c = let i = c.loop.invariant in let p = c.push_reserved.ensures.items in let q = c.push_reserved-in-loop.ensures.items in record {
  rows = ap (λ l. length l) p ∙ (length-append c.loop.logs.items (c.new.result ∷ []) ∙ (let r = i.rows in omega arith));
  flags = ap (λ l. length l) q ∙ (length-append c.loop.flags.items (c.args.has ∷ []) ∙ (let r = i.flags in omega arith));
  room = search rules;
  bare = λ a. ap (λ l. items_at l a) p ∙ items_snoc c.loop.logs.items c.new.result a i.bare c.new.ensures.items;
  set_to = λ a h. ap (λ l. has_at l a) q ∙ dite (ℕ_discrete a c.loop.counter)
      (λ e. has_last c.loop.flags.items c.args.has a (let r = i.flags in omega arith))
      (λ n. has_front c.loop.flags.items c.args.has a (let r = i.flags in omega arith) ∙ i.set_to a (omega arith));
}

pub invariant_of-result : goal.invariant_of-result
invariant_of-result c = let i = c.loop.invariant in let n = agents_is in let r = i.rows in let f = i.flags in let test = c.loop-test.false in let end_ = c.loop.auto.counter-end in record { many = (omega arith, omega arith) }
