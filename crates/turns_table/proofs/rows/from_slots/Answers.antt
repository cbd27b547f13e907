use Rattle.std.proofs.Common.{rules, ◌≡◌, ◌++◌, [], List, Option, Some, map, sym, ap, ◌∙◌}
use Rattle.std.proofs.lemmas.List.{append-nil, nil_from_length}
use Rattle.std.specs.Vec.Iter.{into_iter_items}
use Rattle.turns_table.proofs.Lists.{full_at, same_full}
use Rattle.turns_table.proofs.rows.from_slots.Goals as goal

pub unwrap-requires : goal.unwrap-requires
unwrap-requires g c = let i = c.loop-slot.invariant in let all = c.into_iter-rest.ensures.rest in
    let filled : List (Option g.row.T.Denot) = map (λ (x : g.row.T.Denot). Some x) c.loop-slot.room.items in
    let t = full_at c.args._like.now.value.items filled (into_iter_items c.next.new.self) c.in-Some.slot (ap (λ l. filled ++ l) (sym c.in-Some.ensures.items) ∙ (i.0 ∙ (all ∙ c.requires.full))) in search rules

pub returns : goal.returns
returns g c = let i = c.loop-slot.invariant in let all = c.into_iter-rest.ensures.rest in
    let filled : List (Option g.row.T.Denot) = map (λ (x : g.row.T.Denot). Some x) c.loop-slot.room.items in
    let bare : into_iter_items c.loop-slot.rest ≡ [] = nil_from_length _ (sym i.1 ∙ c.in_default.ensures.cases.0) in
    same_full c.loop-slot.room.items c.args._like.now.value.items (sym (append-nil filled) ∙ (ap (λ l. filled ++ l) (sym bare) ∙ (i.0 ∙ (all ∙ c.requires.full))))
