use Rattle.std.proofs.Common.{rules, ◌≡◌, ℕ, List, false, sym, ap, ◌∙◌, subst}
use Rattle.std.specs.declared.vec.Vec.{Vec}
use Rattle.std.specs.declared.alloc.Global.{Global}
use Rattle.ho_events.specs.declared.entry.Entry.{Entry}
use Rattle.turns_table.specs.Views.{gave}
use Rattle.turns_table.specs.Kept.{has_at, IsLogged}
use Rattle.turns_table.proofs.Splits.{splits}
use Rattle.turns_table.proofs.Handed.{sound_at, wide_of, sound_gave, sound_given}
use Rattle.turns_table.proofs.Booked.{logged_at, logged_gave}
use Rattle.turns_table.proofs.turns.Turns.cut.Goals as goal

pub split_seat-seat-requires : goal.split_seat-seat-requires
split_seat-seat-requires g c = let t = c.requires.spare in
    (search rules, search rules, splits g.T.Chronicle.start g.T.Recorded.history g.T.Chronicle.balanced _ _ g.B.Numbered.number t.2.0 c.args.from.now.seat.me.0 t.0 t.1 t.2.1 t.2.2 t.2.3)

pub invariant_of-from-2 : goal.invariant_of-from-2
invariant_of-from-2 g c = let t = c.requires.spare in let e = c.split_seat-seat.ensures in let a : ℕ = g.B.Numbered.number in let named : c.args.agent ≡ a = c.requires.named in let had = c.args.from.now.sound in record {
  sound = sound_at c.args.from.now.seat.table_id.slots _ _ _ (ap (λ z. z.slots) e.0) e.2 (sound_gave c.args.from.now.seat.table_id.slots c.args.from.now.seat.me a t.2.0 had t.2.1 t.2.3);
  logged = logged_at _ _ _ _ (ap (λ m. m.0) e.2)
      (subst (λ (ls : List (Vec Entry Global)). IsLogged (gave a c.args.from.now.seat.me.0) ls c.set_has.new.self.has.items) (sym (ap (λ v. v.items) c.set_has.ensures.logs))
      (logged_gave c.args.from.now.seat.me.0 a c.args.from.now.logs.logs.items c.args.from.now.logs.has.items c.set_has.new.self.has.items c.args.from.now.logged t.0 (wide_of c.args.from.now.seat.table_id.slots c.args.from.now.seat.me had) t.1
      (subst (λ (k : ℕ). has_at c.set_has.new.self.has.items k ≡ false) named c.set_has.ensures.here) (λ b n. c.set_has.ensures.others b (λ e'. n (e' ∙ named)))));
  numbered = c.first-from.ensures;
}

pub invariant_of-result : goal.invariant_of-result
invariant_of-result g c = let t = c.requires.spare in let e = c.split_seat-seat.ensures in record {
  sound = sound_at c.args.from.now.seat.table_id.slots _ _ _ (ap (λ z. z.slots) e.3) e.4 (sound_given c.args.from.now.seat.table_id.slots c.args.from.now.seat.me g.B.Numbered.number c.args.from.now.sound t.1);
  logged = logged_at _ _ _ _ (ap (λ m. m.0) e.4) c.requires.logs;
  numbered = c.requires.numbered;
}
