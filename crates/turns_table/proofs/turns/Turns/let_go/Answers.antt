use Rattle.std.proofs.Common.{rules, ◌≡◌, ℕ, ◌<◌, Option, None, sym, ap, ◌∙◌, arith}
use Rattle.atomic_table.specs.Table.{Me}
use Rattle.turns_table.specs.Views.{let_go, holds}
use Rattle.turns_table.specs.declared.rule.Known.{Known}
use Rattle.turns_table.proofs.Ends.{releases}
use Rattle.turns_table.proofs.Handed.{handed, in_range, front_is, finished, sound_at, sound_let_go}
use Rattle.turns_table.proofs.Booked.{logged_at, logged_let_go}
use Rattle.turns_table.proofs.turns.Turns.let_go.Goals as goal

pub exchange-empty-requires : goal.exchange-empty-requires
exchange-empty-requires g c = let t = c.requires.turn in
    let h = handed c.args.pass.now.seat.table_id.slots c.args.pass.now.seat.me c.bring.new.seat.me c.bring.new.seat.me c.args.slot t.0 c.args.state c.args.pass.now.sound t.1 c.bring.ensures.2 in
    (search rules, (None, h.1))

pub unreachable-requires : goal.unreachable-requires
unreachable-requires g c = let t = c.requires.turn in
    let h = handed c.args.pass.now.seat.table_id.slots c.args.pass.now.seat.me c.bring.new.seat.me c.bring.new.seat.me c.args.slot t.0 c.args.state c.args.pass.now.sound t.1 c.bring.ensures.2 in
    c.in_default.not-None (front_is c.args.slot None c.exchange-empty.result _ _ (sym h.1 ∙ c.exchange-empty.ensures.2))

pub fetch_sub-requires : goal.fetch_sub-requires
fetch_sub-requires g c = let t = c.requires.turn in
    let h = handed c.args.pass.now.seat.table_id.slots c.args.pass.now.seat.me c.bring.new.seat.me c.exchange-empty.new.seat.me c.args.slot t.0 c.args.state c.args.pass.now.sound t.1 c.bring.ensures.2 in
    let near : c.args.slot < c.args.pass.now.seat.table_id.slots = in_range c.args.pass.now.seat.table_id.slots c.args.pass.now.seat.me c.args.slot t.0 c.args.pass.now.sound t.1 in
    let of_table : c.args.pass.now.seat.table_id ≡ c.args.self.now.table.shared.table_id = c.requires.table.0 in
    let same = ap (λ z. z.slots) of_table in let sized = c.args.self.now.sized in let words = sized.0 in let slots = sized.1 in (
      search rules,
      omega arith,
      releases g.T.Chronicle.start g.T.Recorded.history g.T.Chronicle.balanced _ _ _ c.args.slot c.exchange-empty.new.seat.me c.args.pass.now.seat.me.0 h.0 t.0 c.args.state (h.3 c.exchange-empty.ensures.3) t.1 t.2 t.3,
    )

pub invariant_of-pass : goal.invariant_of-pass
invariant_of-pass g c = let t = c.requires.turn in let n : ℕ = c.args.pass.now.seat.table_id.slots in let m : Me (Option g.row.T.Denot) (Known g.row.T.Denot) = c.args.pass.now.seat.me in let m2 : Me (Option g.row.T.Denot) (Known g.row.T.Denot) = c.exchange-empty.new.seat.me in
    let h = handed n m c.bring.new.seat.me m2 c.args.slot t.0 c.args.state c.args.pass.now.sound t.1 c.bring.ensures.2 in let is = h.3 c.exchange-empty.ensures.3 in
    let same : m2.0 ≡ m.0 = ap (λ (z : Me (Option g.row.T.Denot) (Known g.row.T.Denot)). z.0) is in
    let last = c.fetch_sub.ensures.2 t.0 (ap (λ (v : Known g.row.T.Denot). holds v c.args.slot) same ∙ t.1) in
    let slots : c.fetch_sub.new.seat.table_id.slots ≡ n = ap (λ z. z.slots) (c.fetch_sub.ensures.0 ∙ (c.exchange-empty.ensures.0 ∙ c.bring.ensures.0)) in
    record {
      sound = sound_at n _ _ _ slots (finished (let_go c.args.slot (g.T.Recorded.history t.0)) m m2 c.fetch_sub.new.seat.me c.args.slot c.args.state h.0 is last) (sound_let_go n m c.args.slot (g.T.Recorded.history t.0) h.0 c.args.pass.now.sound h.2);
      logged = logged_at (let_go c.args.slot (g.T.Recorded.history t.0) m.0) _ _ _ (ap (λ (z : Me (Option g.row.T.Denot) (Known g.row.T.Denot)). z.0) (finished (let_go c.args.slot (g.T.Recorded.history t.0)) m m2 c.fetch_sub.new.seat.me c.args.slot c.args.state h.0 is last)) (logged_let_go m.0 c.args.slot (g.T.Recorded.history t.0) _ _ c.args.pass.now.logged);
      numbered = c.args.pass.now.numbered;
    }
