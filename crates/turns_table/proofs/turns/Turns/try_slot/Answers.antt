use Rattle.std.proofs.Common.{rules, ◌∷◌, Some, sym, ap, ◌∙◌, arith}
use Rattle.atomic_table.specs.Table.{rest}
use Rattle.turns_table.proofs.Tries.{tries}
use Rattle.turns_table.proofs.Handed.{number_of}
use Rattle.turns_table.proofs.turns.Turns.try_slot.Goals as goal

pub fetch_or-requires : goal.fetch_or-requires
fetch_or-requires g c = (search rules, search rules, tries g.T.Chronicle.start g.T.Recorded.history g.T.Chronicle.balanced _ _ _ _ c.args.pass.now.seat.me (number_of _ c.args.pass.now.seat.me c.args.pass.now.sound) c.requires.range)

pub exchange-requires : goal.exchange-requires
exchange-requires g c = let t = c.fetch_or.ensures.2.0 (omega arith) in let e = ap (λ m. m.1) t.2 in
    (search rules, (Some t.0, e ∙ ap (λ l. (c.args.slot, Some t.0) ∷ rest l) (sym e)))
