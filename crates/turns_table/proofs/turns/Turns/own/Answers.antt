use Rattle.std.proofs.Common.{List, Bool, sym, ap, subst}
use Rattle.turns_table.specs.Kept.{IsLogged}
use Rattle.turns_table.proofs.Booked.{logged_own, numbered_at}
use Rattle.turns_table.proofs.turns.Turns.own.Goals as goal

pub invariant_of-pass : goal.invariant_of-pass
invariant_of-pass g c = let t = c.requires.number in record {
  sound = c.args.pass.now.sound;
  logged = subst (λ (bs : List Bool). IsLogged c.args.pass.now.seat.me.0 c.book.new.self.logs.items bs) (sym (ap (λ v. v.items) c.book.ensures.has))
      (logged_own c.args.pass.now.seat.me.0 t.0 c.args.entry c.args.pass.now.logs.logs.items c.book.new.self.logs.items c.args.pass.now.logs.has.items c.args.pass.now.logged t.1 c.requires.place c.book.ensures.here c.book.ensures.others);
  numbered = numbered_at _ _ _ _ (ap (λ v. v.items) c.book.ensures.has) c.book.ensures.number c.args.pass.now.numbered;
}
