use Rattle.std.proofs.Common.{◌≡◌, ◌<◌, ◌++◌, ◌∷◌, [], length, sym, ap, ◌∙◌, arith}
use Rattle.turns_table.specs.Views.{agents}
use Rattle.turns_table.proofs.Shelves.{items_set, items_else, room_set, items_is, room_is}
use Rattle.turns_table.proofs.logs.Logs.push.Goals as goal

pub push_reserved-requires : goal.push_reserved-requires
push_reserved-requires c = let many : length c.args.self.now.logs.items ≡ agents = c.args.self.now.many.0 in let a = c.requires.0 in let near : c.args.agent < length c.args.self.now.logs.items = omega arith in
    let r = room_is c.args.self.now.logs.items c.args.agent c.index_mut.result.now c.index_mut.result.now near c.index_mut.ensures.value in let some_room = c.requires.1 in omega arith

pub returns-clause-here : goal.returns-clause-here
returns-clause-here c = let many : length c.args.self.now.logs.items ≡ agents = c.args.self.now.many.0 in let a = c.requires.0 in let near : c.args.agent < length c.args.self.now.logs.items = omega arith in
    items_set c.args.self.now.logs.items c.args.agent c.push_reserved.new.self near ∙ (c.push_reserved.ensures.items ∙ ap (λ es. es ++ c.args.entry ∷ []) (sym (items_is c.args.self.now.logs.items c.args.agent c.index_mut.result.now c.index_mut.result.now near c.index_mut.ensures.value)))

pub returns-clause-others : goal.returns-clause-others
returns-clause-others c = λ a n. items_else c.args.self.now.logs.items c.args.agent a c.push_reserved.new.self n

pub returns-clause-room : goal.returns-clause-room
returns-clause-room c = let many : length c.args.self.now.logs.items ≡ agents = c.args.self.now.many.0 in let a = c.requires.0 in let near : c.args.agent < length c.args.self.now.logs.items = omega arith in
    let r = room_is c.args.self.now.logs.items c.args.agent c.index_mut.result.now c.index_mut.result.now near c.index_mut.ensures.value in
    let s = room_set c.args.self.now.logs.items c.args.agent c.push_reserved.new.self near in let some_room = c.requires.1 in let len = c.push_reserved.ensures.len in let cap = c.push_reserved.ensures.capacity in omega arith
