use Rattle.std.proofs.Common.{◌≡◌, ℕ, ◌<◌, length, set, sym, ◌∙◌, arith, subst}
use Rattle.std.specs.Prelude.{Result, Ok, Err, OnOk}
use mathlib.Core.Logic.{dite}
use native.Mathlib.Decide.{ℕ_discrete}
use Rattle.turns_table.specs.Views.{agents}
use Rattle.turns_table.specs.Kept.{items_at}
use Rattle.turns_table.proofs.Shelves.{items_set, items_else, room_set, items_is}
use Rattle.turns_table.proofs.logs.Logs.reserve.Goals as goal

on_ok : {X E : Type 0} (A B : Type 0) (r : Result X E) → (A → B) → OnOk r A → OnOk r B
on_ok A B (Ok x) f a = f a
on_ok A B (Err e) f a = a

pub returns-clause-same : goal.returns-clause-same
returns-clause-same c = λ b. let many : length c.args.self.now.logs.items ≡ agents = c.args.self.now.many.0 in let a = c.requires in let near : c.args.agent < length c.args.self.now.logs.items = omega arith in
    dite (ℕ_discrete b c.args.agent)
    (λ e. subst (λ (i : ℕ). items_at (set c.args.self.now.logs.items c.args.agent c.reserve.new.self) i ≡ items_at c.args.self.now.logs.items i) (sym e)
    (items_set c.args.self.now.logs.items c.args.agent c.reserve.new.self near ∙ (c.reserve.ensures.items ∙ sym (items_is c.args.self.now.logs.items c.args.agent c.index_mut.result.now c.index_mut.result.now near c.index_mut.ensures.value))))
    (λ n. items_else c.args.self.now.logs.items c.args.agent b c.reserve.new.self n)

pub returns-clause-room : goal.returns-clause-room
returns-clause-room c = let many : length c.args.self.now.logs.items ≡ agents = c.args.self.now.many.0 in let a = c.requires in let near : c.args.agent < length c.args.self.now.logs.items = omega arith in
    let s = room_set c.args.self.now.logs.items c.args.agent c.reserve.new.self near in on_ok _ _ c.reserve.result (λ h. omega arith) c.reserve.ensures.ok
