use Rattle.std.proofs.Common.{rules, ◌≡◌, ℕ, ◌++◌, ◌∷◌, [], List, Bool, false, Option, Some, length, map, take, get_or, set, sym, ap, ◌∙◌, arith, subst, get_or-set_other}
use Rattle.std.proofs.lemmas.List.{map-append}
use Rattle.std.proofs.Math.Seq.{take-length}
use mathlib.Core.Logic.{dite}
use mathlib.Core.Option.{some, some-injective}
use native.Mathlib.Decide.{ℕ_discrete}
use lib.ListN.{get_elem?}
use Rattle.std.specs.declared.vec.Vec.{Vec}
use Rattle.std.specs.declared.alloc.Global.{Global}
use Rattle.std.specs.Slots.{slots_items, slots_filled}
use Rattle.ho_events.specs.declared.entry.Entry.{Entry}
use Rattle.turns_table.specs.Kept.{items_at, on_objects, object_logs}
use Rattle.turns_table.specs.Rule.{IsGrown}
use Rattle.turns_table.specs.Views.{agents}
use Rattle.turns_table.proofs.Lists.{take_next, unset}
use Rattle.turns_table.proofs.Opens.{closed_is, settles, comes_back, logs_are, placed_at, object_log, object_logs_long}
use Rattle.turns_table.proofs.Handed.{number_of}
use Rattle.turns_table.proofs.turns.Turns.close.Goals as goal

pub unwrap-requires : goal.unwrap-requires
unwrap-requires g c = let f = c.close_with-closed.ensures.values.2 in let i = c.loop-slot.invariant in let sized = c.args.self.sized in let slots = sized.1 in let counts = c.close_with-closed.ensures.counts.1 in let test = c.loop-slot-test.true in let end_ = c.slot_count-slot-end.ensures in
    let b = comes_back g.T.Chronicle.start g.T.Recorded.history g.T.Chronicle.balanced c.args.self.table.shared.key.value.items f.0 f.1.0 c.args.last.seat.id c.args.last.seat.me.0 f.1.1 (number_of _ c.args.last.seat.me c.args.last.sound) c.requires.whole c.requires.free (slots_items c.close_with-closed.result.slots) f.4 c.loop-slot.slot (omega arith) in
    let is : c.take.result ≡ Some b.0 = some-injective c.take.result (Some b.0) (sym c.take.ensures.value ∙ (ap (λ (l : List (Option g.row.T.Denot)). get_elem? l c.loop-slot.slot) i.same ∙ b.1)) in search rules

pub loop-slot-preserved : goal.loop-slot-preserved
loop-slot-preserved g c = let i = c.loop-slot.invariant in let o = c.take.ensures.others in let test = c.loop-slot-test.true in let end_ = c.slot_count-slot-end.ensures in let len = c.push_reserved.ensures.len in let cap = c.push_reserved.ensures.capacity in let room = c.push_reserved.ensures.items in
    let filled : slots_filled c.take.new.self.slots ≡ set (slots_filled c.loop-slot.closed.slots) c.loop-slot.slot false = o.1 in
    let some_x : c.take.result ≡ Some c.unwrap.result = search rules in let x : get_elem? (slots_items c.close_with-closed.result.slots) c.loop-slot.slot ≡ some (Some c.unwrap.result) = sym (ap (λ (l : List (Option g.row.T.Denot)). get_elem? l c.loop-slot.slot) i.same) ∙ (c.take.ensures.value ∙ ap (λ (y : Option g.row.T.Denot). some y) some_x) in record {
      same = o.0 ∙ i.same;
      long = o.2 ∙ i.long;
      gone = λ k h. ap (λ (l : List Bool). get_or l k false) filled ∙ dite (ℕ_discrete k c.loop-slot.slot)
          (λ e. ap (λ (n : ℕ). get_or (set (slots_filled c.loop-slot.closed.slots) c.loop-slot.slot false) n false) e ∙ unset (slots_filled c.loop-slot.closed.slots) c.loop-slot.slot)
          (λ n. get_or-set_other (slots_filled c.loop-slot.closed.slots) c.loop-slot.slot k false false n ∙ i.gone k (omega arith));
      there = λ k low high. ap (λ (l : List Bool). get_or l k false) filled ∙ (get_or-set_other (slots_filled c.loop-slot.closed.slots) c.loop-slot.slot k false false (λ e. omega arith) ∙ i.there k (omega arith) (let l = o.2 in omega arith));
      moved = ap (λ (l : List g.row.T.Denot). map (λ (y : g.row.T.Denot). Some y) l) room ∙ (map-append (λ (y : g.row.T.Denot). Some y) c.loop-slot.room.items (c.unwrap.result ∷ []) ∙ (ap (λ (l : List (Option g.row.T.Denot)). l ++ Some c.unwrap.result ∷ []) i.moved ∙ sym (take_next (slots_items c.close_with-closed.result.slots) c.loop-slot.slot (Some c.unwrap.result) x)));
      count = search rules;
      roomy = search rules;
    }

pub returns-clause-each : goal.returns-clause-each
returns-clause-each g c = let f = c.close_with-closed.ensures.values.2 in let r = f.1.0 in let i = c.loop-slot.invariant in let sized = c.args.self.sized in let slots = sized.1 in let counts = c.close_with-closed.ensures.counts.1 in let far = c.loop-slot-test.false in let near = c.loop-slot.auto.slot-end in let end_ = c.slot_count-slot-end.ensures in
    let items : List (Option g.row.T.Denot) = slots_items c.close_with-closed.result.slots in let deep = r.deep in let long = f.3 in let n_is : c.loop-slot.slot ≡ length items = omega arith in
    let number = number_of _ c.args.last.seat.me c.args.last.sound in
    let e : c.loop-slot.room.items ≡ r.nows = closed_is g.T.Chronicle.start g.T.Recorded.history g.T.Chronicle.balanced c.args.self.table.shared.key.value.items f.0 r c.args.last.seat.id c.args.last.seat.me.0 f.1.1 number c.requires.whole c.requires.free items c.loop-slot.room.items long f.4
    (i.moved ∙ (ap (λ (n : ℕ). take n items) n_is ∙ take-length items)) in
    λ k x at. settles g.T.Chronicle.start g.T.Recorded.history g.T.Chronicle.balanced c.args.self.table.shared.key.value.items f.0 r c.args.last.seat.id c.args.last.seat.me.0 f.1.1 number c.requires.whole k x (subst (λ (l : List g.row.T.Denot). get_elem? l k ≡ some x) e at)

pub returns-clause-balance : goal.returns-clause-balance
returns-clause-balance g c = let f = c.close_with-closed.ensures.values.2 in let r = f.1.0 in let i = c.loop-slot.invariant in let sized = c.args.self.sized in let slots = sized.1 in let counts = c.close_with-closed.ensures.counts.1 in let far = c.loop-slot-test.false in let near = c.loop-slot.auto.slot-end in let end_ = c.slot_count-slot-end.ensures in
    let items : List (Option g.row.T.Denot) = slots_items c.close_with-closed.result.slots in let deep = r.deep in let long = f.3 in let n_is : c.loop-slot.slot ≡ length items = omega arith in
    let number = number_of _ c.args.last.seat.me c.args.last.sound in
    let e : c.loop-slot.room.items ≡ r.nows = closed_is g.T.Chronicle.start g.T.Recorded.history g.T.Chronicle.balanced c.args.self.table.shared.key.value.items f.0 r c.args.last.seat.id c.args.last.seat.me.0 f.1.1 number c.requires.whole c.requires.free items c.loop-slot.room.items long f.4
    (i.moved ∙ (ap (λ (n : ℕ). take n items) n_is ∙ take-length items)) in
    let ls : List (Vec Entry Global) = c.args.last.logs.logs.items in let many : length ls ≡ agents = c.args.last.logs.many.0 in
    let l : object_logs ls ≡ r.logs = logs_are g.T.Chronicle.start g.T.Recorded.history g.T.Chronicle.balanced c.args.self.table.shared.key.value.items f.0 r c.args.last.seat.id c.args.last.seat.me.0 f.1.1 c.requires.whole (object_logs ls) (object_logs_long ls ∙ many)
    (λ a. object_log ls a ∙ (c.args.last.logged a).1) in
    let given : c.into_logs.result.items ≡ ls = ap (λ v. v.items) c.into_logs.ensures.0 in
    let real : object_logs c.into_logs.result.items ≡ r.logs = ap object_logs given ∙ l in
    subst (λ (z : List g.row.T.Denot × List (List Entry)). g.T.Chronicle.balanced (map g.T.Chronicle.start z.0) (map g.T.Recorded.history z.0) z.1) (λ j. (sym e j, sym real j)) r.balance

pub returns-clause-exact : goal.returns-clause-exact
returns-clause-exact g c = let f = c.close_with-closed.ensures.values.2 in let r = f.1.0 in let i = c.loop-slot.invariant in let sized = c.args.self.sized in let slots = sized.1 in let counts = c.close_with-closed.ensures.counts.1 in let far = c.loop-slot-test.false in let near = c.loop-slot.auto.slot-end in let end_ = c.slot_count-slot-end.ensures in
    let items : List (Option g.row.T.Denot) = slots_items c.close_with-closed.result.slots in let deep = r.deep in let long = f.3 in let n_is : c.loop-slot.slot ≡ length items = omega arith in
    let number = number_of _ c.args.last.seat.me c.args.last.sound in
    let e : c.loop-slot.room.items ≡ r.nows = closed_is g.T.Chronicle.start g.T.Recorded.history g.T.Chronicle.balanced c.args.self.table.shared.key.value.items f.0 r c.args.last.seat.id c.args.last.seat.me.0 f.1.1 number c.requires.whole c.requires.free items c.loop-slot.room.items long f.4
    (i.moved ∙ (ap (λ (n : ℕ). take n items) n_is ∙ take-length items)) in
    let ls : List (Vec Entry Global) = c.args.last.logs.logs.items in let many : length ls ≡ agents = c.args.last.logs.many.0 in
    let l : object_logs ls ≡ r.logs = logs_are g.T.Chronicle.start g.T.Recorded.history g.T.Chronicle.balanced c.args.self.table.shared.key.value.items f.0 r c.args.last.seat.id c.args.last.seat.me.0 f.1.1 c.requires.whole (object_logs ls) (object_logs_long ls ∙ many)
    (λ a. object_log ls a ∙ (c.args.last.logged a).1) in
    let given : c.into_logs.result.items ≡ ls = ap (λ v. v.items) c.into_logs.ensures.0 in
    let real : object_logs c.into_logs.result.items ≡ r.logs = ap object_logs given ∙ l in
    λ k o x at_o at_x. subst (λ (logs : List (List Entry)). IsGrown g.T.Chronicle.start g.T.Recorded.history logs k o x) (sym real) (r.grown k o x at_o (subst (λ (xs : List g.row.T.Denot). get_elem? xs k ≡ some x) e at_x))

pub returns-clause-placed : goal.returns-clause-placed
returns-clause-placed g c = let f = c.close_with-closed.ensures.values.2 in let r = f.1.0 in let given : c.into_logs.result.items ≡ c.args.last.logs.logs.items = ap (λ v. v.items) c.into_logs.ensures.0 in
    λ a i e is. placed_at g.T.Chronicle.start g.T.Recorded.history g.T.Chronicle.balanced c.args.self.table.shared.key.value.items f.0 r c.args.last.seat.id c.args.last.seat.me.0 f.1.1 a i e
    (subst (λ (es : List Entry). get_elem? es i ≡ some e) (ap (λ (ls : List (Vec Entry Global)). on_objects (items_at ls a)) given ∙ (c.args.last.logged a).1) is)
