use Rattle.std.proofs.Common.{List, Bool, sym, ap, subst}
use Rattle.turns_table.specs.Kept.{IsLogged}
use Rattle.turns_table.proofs.Booked.{logged_same, numbered_at}
use Rattle.turns_table.proofs.turns.Turns.reserve.Goals as goal

pub invariant_of-pass : goal.invariant_of-pass
invariant_of-pass g c = record {
  sound = c.args.pass.now.sound;
  logged = subst (λ (bs : List Bool). IsLogged c.args.pass.now.seat.me.0 c.reserve.new.self.logs.items bs) (sym (ap (λ v. v.items) c.reserve.ensures.has))
      (logged_same c.args.pass.now.seat.me.0 c.args.pass.now.logs.logs.items c.reserve.new.self.logs.items c.args.pass.now.logs.has.items c.args.pass.now.logged c.reserve.ensures.same);
  numbered = numbered_at _ _ _ _ (ap (λ v. v.items) c.reserve.ensures.has) c.reserve.ensures.number c.args.pass.now.numbered;
}
