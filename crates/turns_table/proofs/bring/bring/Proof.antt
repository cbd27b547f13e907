-- A walk by hand: `bring` runs no code. It opens the reference to the seat, puts what the seat owns into the new order, and closes the reference.
use Rattle.atomic_table.proofs.Names.{◌≡◌, ℕ, List, [], ◌∷◌, refl, a_type, named, w64, Val, vunit, vptr, vint, inst_fn, SProp, emp, Fml, ftrue, fsep, flft, ‵, raw, ◌⊛◌, ◌$◌, ◌∵◌, !, qed, by, move, keep, split, join, fsplit, fsplit3, fjoin, fjoin3, use0, use1, feq_i, unit_lit, of_opd, returns, enter, alloc_all, pass_all, free_all, look_at, sets, tables, yes, usize, RattleType, owns, types_at, plain, nothing, param, layouts, Stays, stay_ref, stay_dropped, Goes-ref, Goes-dropped, walk_of, fact, fact_i, Coded, mut_vals, mut_Tells, uint_vals, uint_Tells, opens, closes}
use Rattle.atomic_table.proofs.Walks.{proved, leaves}
use Rattle.atomic_table.specs.Table.{Me}
use Rattle.atomic_table.specs.Seated.{TableId, mine}
use Rattle.atomic_table.specs.contracts.shared.Seat as seat
use Rattle.turns_table.specs.Slots.{pulled}
use Rattle.turns_table.proofs.Pulls.{pulls}
use Rattle.turns_table.specs.contracts.bring.bring.{ended, clauses}
use Rattle.turns_table.specs.contracts.bring.bring.Key.{name as #bring}
use Rattle.turns_table.proofs.bring.bring.Statement.{statement}
use Rattle.turns_table.proofs.bring.bring.Code as code

pub bring_spec : {M : Type 1} → statement M
bring_spec 𝓤 𝓛 𝓜 𝓡 wired S V _ _ =
    -- the function: its types, its code and its contract
    let layout = layouts (a_type ∷ a_type ∷ []) (S, (V, tt)) in
    let machine = tables 𝓤 𝓛.H 𝓜 𝓡 𝓡.env in
    let body = inst_fn layout code.function in
    let Row : RattleType = param 0 S in
    let Known : RattleType = param 1 V in
    let Seated : RattleType = seat.the_row Row Known in
    let of_seat = plain (λ _. Seated) in
    let of_slot = plain (λ _. usize) in
    let end_ = ended S V in
    let contract = clauses S V 𝓛 𝓜.mem 𝓡.returns in
    let stay : Stays end_.signature.params end_.kept = (stay_ref (0 ∷ []) tt of_seat, (stay_dropped of_slot yes, tt)) in
    proved 𝓛 end_ stay contract 𝓜 𝓡 (Goes-ref 𝓛 3 0 tt of_seat, (Goes-dropped 𝓛 3 of_slot yes (λ κs x w. refl), tt)) (#bring layout) body (code.unfolded 𝓤 𝓛.H 𝓜 𝓡 wired (S, (V, tt)))
    (λ κs. (mut_vals, (uint_vals w64, tt))) (λ κs. (mut_Tells (named 0) κs.0 Seated, (uint_Tells w64, tt)))
    (λ κs qs bounds args asked are.
    -- the seat before and after
    let block : ℕ = args.0.ref_ptr.0 in
    let offset : ℕ = args.0.ref_ptr.1 in
    let slot : ℕ = args.1.0 in
    let before : Seated.Denot = args.0.now in
    let table : TableId = before.table_id in
    let id : ℕ = before.id in
    let me : Me S.Denot V.Denot = before.me in
    let me' : Me S.Denot V.Denot = (me.0, pulled slot [] me.1) in
    let after : Seated.Denot = record { marker = before.marker; table_id = table; id = id; me = me' } in
    let coded : Coded V.Denot = Known.coded in
    let Says : Type 0 = (table ≡ table) × (id ≡ id) × (me' ≡ me') in
    let at : (walk_of 𝓛 end_ stay contract).Ghost = ((κs, qs, bounds, args, (vptr block offset ∷ [], (uint_vals w64 slot, tt))), asked) in
    let then : Val → SProp 𝓤 = (walk_of 𝓛 end_ stay contract).post at in
    let lent : Fml = flft κs.0 qs.0 in
    let longer : Fml = fsep (flft κs.1.0 qs.1.0) (fsep (flft κs.1.1.0 qs.1.1.0) ftrue) in
    qed 𝓛 (((‵ lent ⊛ ‵ longer) ⊛ ‵ (owns (types_at end_.signature.params κs) args at.0.4)) ∷ raw ((contract κs args).requires asked) ∷ []) ∵
    -- [the two parts of the reference; the token of its lifetime; the other tokens]
    split ! $ split ! $ move ! (2 ∷ []) $ fsplit ! $ fsplit3 ! $ keep ! (1 ∷ 2 ∷ 4 ∷ 5 ∷ []) $
    enter ! machine.C machine.Λ body (vptr block offset ∷ vint w64 slot ∷ []) then $
    alloc_all ! (λ locals. pass_all ! refl ((tt, tt), ((tt, record { fits = are.1.0.1 }), tt)) $
    opens ! tt Seated block offset (λ vals.
    -- the seat's slots in the new order
    move ! (1 ∷ []) $ fsplit ! $ move ! (1 ∷ []) $ use1 𝓛 (‵ (mine Row coded.code table id me')) (pulls 𝓛 Row coded table id me.0 slot me.1) $
    move ! (1 ∷ 0 ∷ []) $ fjoin ! $ move ! (1 ∷ 0 ∷ []) $ closes ! tt Seated after vals block offset $
    feq_i ! (List Val) (vptr block offset ∷ []) (vptr block offset ∷ []) refl $ fjoin3 ! $
    -- [the tokens; what is left of the parameters]
    nothing ! $ nothing ! $ fjoin ! $ move ! (1 ∷ 0 ∷ []) $ fjoin ! $ move ! (1 ∷ 2 ∷ []) $ join ! $
    sets ! (of_opd ! (unit_lit !)) refl (tt, tt) $
    use0 𝓛 (raw (fact 𝓤 Says)) (fact_i 𝓤 Says (emp 𝓤) (refl, refl, refl)) $
    feq_i ! (List Val) (vunit ∷ []) (vunit ∷ []) refl $
    returns ! (look_at ! 0 refl) $ free_all ! refl $
    keep ! (2 ∷ 3 ∷ 0 ∷ 1 ∷ []) $ by ! (leaves 𝓛 end_ stay contract at vunit tt (after, (tt, tt)) (tt, (tt, tt))))))
