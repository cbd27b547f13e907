use Rattle.std.proofs.Common.{rules, ◌≡◌, ℕ, ◌<◌, ◌∷◌, ◌++◌, [], List, Bool, Option, Some, None, sym, ap, ◌∙◌, arith, subst, get_or-set_other}
use Rattle.atomic_table.specs.Table.{Me}
use Rattle.turns_table.specs.Kept.{IsLogged}
use Rattle.turns_table.specs.Views.{added, holds, role}
use Rattle.turns_table.specs.declared.rule.Known.{Known}
use Rattle.turns_table.specs.declared.rule.Role.TheVariants.{Has}
use Rattle.turns_table.proofs.Ends.{enters}
use Rattle.turns_table.proofs.Handed.{handed, in_range, front_is, front, finished, sound_at, wide_of, sound_added, added_role, none_there}
use Rattle.turns_table.proofs.Booked.{logged_at, logged_added, numbered_at}
use Rattle.turns_table.proofs.turns.Turns.end_with.Goals as goal

pub exchange-empty-requires : goal.exchange-empty-requires
exchange-empty-requires g c = let t = c.requires.turn in
    let h = handed c.args.pass.now.seat.table_id.slots c.args.pass.now.seat.me c.bring.new.seat.me c.bring.new.seat.me c.args.slot t.0 c.args.state c.args.pass.now.sound t.2 c.bring.ensures.2 in
    (search rules, (None, h.1))

pub unreachable-requires : goal.unreachable-requires
unreachable-requires g c = let t = c.requires.turn in
    let h = handed c.args.pass.now.seat.table_id.slots c.args.pass.now.seat.me c.bring.new.seat.me c.bring.new.seat.me c.args.slot t.0 c.args.state c.args.pass.now.sound t.2 c.bring.ensures.2 in
    c.in_default.not-None (front_is c.args.slot None c.exchange-empty.result _ _ (sym h.1 ∙ c.exchange-empty.ensures.2))

pub fetch_add-requires : goal.fetch_add-requires
fetch_add-requires g c = let t = c.requires.turn in
    let h = handed c.args.pass.now.seat.table_id.slots c.args.pass.now.seat.me c.bring.new.seat.me c.exchange-empty.new.seat.me c.args.slot t.0 c.args.state c.args.pass.now.sound t.2 c.bring.ensures.2 in
    let near : c.args.slot < c.args.pass.now.seat.table_id.slots = in_range c.args.pass.now.seat.table_id.slots c.args.pass.now.seat.me c.args.slot t.0 c.args.pass.now.sound t.2 in
    let of_table : c.args.pass.now.seat.table_id ≡ c.args.self.now.table.shared.table_id = c.requires.table.0 in
    let same = ap (λ z. z.slots) of_table in let sized = c.args.self.now.sized in let words = sized.0 in let slots = sized.1 in (
      search rules,
      omega arith,
      enters g.T.Chronicle.start g.T.Recorded.history g.T.Chronicle.balanced _ g.T.Chronicle.fits g.T.Chronicle.keeps _ _ c.args.slot c.exchange-empty.new.seat.me c.args.pass.now.seat.me.0 h.0 t.0 c.args.state t.1 c.args.entry (h.3 c.exchange-empty.ensures.3)
          (t.2, t.3, t.4, t.5, t.6, t.7, t.8),
    )

pub invariant_of-pass : goal.invariant_of-pass
invariant_of-pass g c = let t = c.requires.turn in let e = c.args.entry in let n : ℕ = c.args.pass.now.seat.table_id.slots in let m : Me (Option g.row.T.Denot) (Known g.row.T.Denot) = c.args.pass.now.seat.me in let m2 : Me (Option g.row.T.Denot) (Known g.row.T.Denot) = c.exchange-empty.new.seat.me in
    let h = handed n m c.bring.new.seat.me m2 c.args.slot t.0 c.args.state c.args.pass.now.sound t.2 c.bring.ensures.2 in let is = h.3 c.exchange-empty.ensures.3 in
    let same : m2.0 ≡ m.0 = ap (λ (z : Me (Option g.row.T.Denot) (Known g.row.T.Denot)). z.0) is in
    let last = c.fetch_add.ensures.2 t.0 c.args.state t.1 e (ap (λ (v : Known g.row.T.Denot). holds v c.args.slot) same ∙ t.2) (front m m2 c.args.slot c.args.state h.0 is) t.4 (ap (λ (v : Known g.row.T.Denot). role v e.agent.0) same ∙ t.6) in
    let slots : c.fetch_add.new.seat.table_id.slots ≡ n = ap (λ z. z.slots) (c.fetch_add.ensures.0 ∙ (c.exchange-empty.ensures.0 ∙ c.bring.ensures.0)) in
    let done_ = finished (added c.args.slot t.1 (g.T.Recorded.history t.0) e) m m2 c.fetch_add.new.seat.me c.args.slot c.args.state h.0 is last in
    record {
      sound = sound_at n _ _ _ slots done_ (sound_added n m c.args.slot t.1 (g.T.Recorded.history t.0) e h.0 c.args.pass.now.sound h.2 t.7);
      logged = logged_at (added c.args.slot t.1 (g.T.Recorded.history t.0) e m.0) _ _ _ (ap (λ (z : Me (Option g.row.T.Denot) (Known g.row.T.Denot)). z.0) done_)
          (subst (λ (bs : List Bool). IsLogged (added c.args.slot t.1 (g.T.Recorded.history t.0) e m.0) c.book.new.self.logs.items bs) (sym (ap (λ v. v.items) c.book.ensures.has))
          (logged_added m.0 c.args.slot t.1 (g.T.Recorded.history t.0) e t.5.0 c.args.pass.now.logs.logs.items c.book.new.self.logs.items c.args.pass.now.logs.has.items c.args.pass.now.logged t.6 (wide_of n m c.args.pass.now.sound) t.7 t.5.1 c.book.ensures.here c.book.ensures.others));
      numbered = numbered_at _ _ _ _ (ap (λ v. v.items) c.book.ensures.has) c.book.ensures.number c.args.pass.now.numbered;
    }

pub returns-clause-role : goal.returns-clause-role
returns-clause-role g c = let t = c.requires.turn in let e = c.args.entry in let n : ℕ = c.args.pass.now.seat.table_id.slots in let m : Me (Option g.row.T.Denot) (Known g.row.T.Denot) = c.args.pass.now.seat.me in let m2 : Me (Option g.row.T.Denot) (Known g.row.T.Denot) = c.exchange-empty.new.seat.me in
    let h = handed n m c.bring.new.seat.me m2 c.args.slot t.0 c.args.state c.args.pass.now.sound t.2 c.bring.ensures.2 in let is = h.3 c.exchange-empty.ensures.3 in
    let same : m2.0 ≡ m.0 = ap (λ (z : Me (Option g.row.T.Denot) (Known g.row.T.Denot)). z.0) is in
    let last = c.fetch_add.ensures.2 t.0 c.args.state t.1 e (ap (λ (v : Known g.row.T.Denot). holds v c.args.slot) same ∙ t.2) (front m m2 c.args.slot c.args.state h.0 is) t.4 (ap (λ (v : Known g.row.T.Denot). role v e.agent.0) same ∙ t.6) in
    let done_ = finished (added c.args.slot t.1 (g.T.Recorded.history t.0) e) m m2 c.fetch_add.new.seat.me c.args.slot c.args.state h.0 is last in
    λ x log held has. let x_is : t.0 ≡ x = let q : Some t.0 ≡ Some x = sym t.2 ∙ held in cc in let log_is : t.1 ≡ log = let q : Has t.1 ≡ Has log = sym t.6 ∙ has in cc in
    ap (λ (z : Me (Option g.row.T.Denot) (Known g.row.T.Denot)). role z.0 e.agent.0) done_ ∙ (added_role n m c.args.slot t.1 (g.T.Recorded.history t.0) e c.args.pass.now.sound t.7 ∙ (λ i. Has (log_is i ++ (g.T.Recorded.history (x_is i), e) ∷ [])))

pub returns-clause-free : goal.returns-clause-free
returns-clause-free g c = let t = c.requires.turn in let e = c.args.entry in let n : ℕ = c.args.pass.now.seat.table_id.slots in let m : Me (Option g.row.T.Denot) (Known g.row.T.Denot) = c.args.pass.now.seat.me in let m2 : Me (Option g.row.T.Denot) (Known g.row.T.Denot) = c.exchange-empty.new.seat.me in
    let h = handed n m c.bring.new.seat.me m2 c.args.slot t.0 c.args.state c.args.pass.now.sound t.2 c.bring.ensures.2 in let is = h.3 c.exchange-empty.ensures.3 in
    let same : m2.0 ≡ m.0 = ap (λ (z : Me (Option g.row.T.Denot) (Known g.row.T.Denot)). z.0) is in
    let last = c.fetch_add.ensures.2 t.0 c.args.state t.1 e (ap (λ (v : Known g.row.T.Denot). holds v c.args.slot) same ∙ t.2) (front m m2 c.args.slot c.args.state h.0 is) t.4 (ap (λ (v : Known g.row.T.Denot). role v e.agent.0) same ∙ t.6) in
    let done_ = finished (added c.args.slot t.1 (g.T.Recorded.history t.0) e) m m2 c.fetch_add.new.seat.me c.args.slot c.args.state h.0 is last in
    ap (λ (z : Me (Option g.row.T.Denot) (Known g.row.T.Denot)). holds z.0 c.args.slot) done_ ∙ none_there m.0.held c.args.slot

pub returns-clause-others : goal.returns-clause-others
returns-clause-others g c = let t = c.requires.turn in let e = c.args.entry in let n : ℕ = c.args.pass.now.seat.table_id.slots in let m : Me (Option g.row.T.Denot) (Known g.row.T.Denot) = c.args.pass.now.seat.me in let m2 : Me (Option g.row.T.Denot) (Known g.row.T.Denot) = c.exchange-empty.new.seat.me in
    let h = handed n m c.bring.new.seat.me m2 c.args.slot t.0 c.args.state c.args.pass.now.sound t.2 c.bring.ensures.2 in let is = h.3 c.exchange-empty.ensures.3 in
    let same : m2.0 ≡ m.0 = ap (λ (z : Me (Option g.row.T.Denot) (Known g.row.T.Denot)). z.0) is in
    let last = c.fetch_add.ensures.2 t.0 c.args.state t.1 e (ap (λ (v : Known g.row.T.Denot). holds v c.args.slot) same ∙ t.2) (front m m2 c.args.slot c.args.state h.0 is) t.4 (ap (λ (v : Known g.row.T.Denot). role v e.agent.0) same ∙ t.6) in
    let done_ = finished (added c.args.slot t.1 (g.T.Recorded.history t.0) e) m m2 c.fetch_add.new.seat.me c.args.slot c.args.state h.0 is last in
    λ k apart. ap (λ (z : Me (Option g.row.T.Denot) (Known g.row.T.Denot)). holds z.0 k) done_ ∙ get_or-set_other m.0.held c.args.slot k None None apart

pub returns-clause-table : goal.returns-clause-table
returns-clause-table g c = let t = c.requires.turn in let e = c.args.entry in let n : ℕ = c.args.pass.now.seat.table_id.slots in let m : Me (Option g.row.T.Denot) (Known g.row.T.Denot) = c.args.pass.now.seat.me in let m2 : Me (Option g.row.T.Denot) (Known g.row.T.Denot) = c.exchange-empty.new.seat.me in
    let h = handed n m c.bring.new.seat.me m2 c.args.slot t.0 c.args.state c.args.pass.now.sound t.2 c.bring.ensures.2 in let is = h.3 c.exchange-empty.ensures.3 in
    let same : m2.0 ≡ m.0 = ap (λ (z : Me (Option g.row.T.Denot) (Known g.row.T.Denot)). z.0) is in
    let last = c.fetch_add.ensures.2 t.0 c.args.state t.1 e (ap (λ (v : Known g.row.T.Denot). holds v c.args.slot) same ∙ t.2) (front m m2 c.args.slot c.args.state h.0 is) t.4 (ap (λ (v : Known g.row.T.Denot). role v e.agent.0) same ∙ t.6) in
    let done_ = finished (added c.args.slot t.1 (g.T.Recorded.history t.0) e) m m2 c.fetch_add.new.seat.me c.args.slot c.args.state h.0 is last in (
      c.fetch_add.ensures.0 ∙ (c.exchange-empty.ensures.0 ∙ (c.bring.ensures.0 ∙ c.requires.table.0)),
      ap (λ (z : Me (Option g.row.T.Denot) (Known g.row.T.Denot)). z.0.opening) done_ ∙ c.requires.table.1,
    )
