-- `split` gives the places of a run an owner of their own. Assumes `Logic`.
use Rattle.phys_frames.proofs.Walking.{◌≡◌, ℕ, ◌+◌, ◌^◌, ◌≤◌, List, [], ◌∷◌, ◌++◌, length, take, replicate, Option, refl, sym, ap, ◌∙◌, arith, w64, proved, full_share, emp, never, id⊢, ftrue, fat, flft, named, Val, vint, vptr, fact, fact_i, tables, ‵, raw, ◌⊛◌, at_ret, ◌$◌, ◌∵◌, !, qed, by, move, keep, use0, use1, use2, split, join, fsplit, fsplit3, fjoin, fjoin3, feq_i, flt_i, flt_l, rewrite, suffices, frame, whole, sub, agg, enter, of_opd, bin, stop, fld, no_more, and_then, first, blocks, exec, returns, alloc_all, pass_all, free_all, look_at, get, get_in, sets, sets_last, env, owns, Ptr, block_ptr, in_a_block, mut_vals, mut_Tells, uint_vals, uint_Tells, types_at, nothing, opens, closes, heard, Stays, walk_of, says, stay_dropped, stay_ref, Goes-dropped, Goes-ref, ends_at, word, word-Good, Base, Cells, base_told, a_base, a_number}
use Rattle.std.proofs.Common.{drop as past}
use Rattle.std.proofs.lemmas.List.{length-replicate, length-take, length-drop, length-append}
use types.ByLocal.{take_at, give_at}
use denote.Exit.{yes}
use denote.Param.{layout}
use denote.Signature.{plain}
use denote.Struct.Tuple.{Tuple}
use Rattle.phys_frames.specs.Homes.{byte_at}
use Rattle.phys_frames.specs.Places.{away, IsRun, with_away}
use Rattle.phys_frames.specs.Ownership.{places, region_owns}
use Rattle.phys_frames.specs.Lends.{with_slots}
use Rattle.phys_frames.proofs.Made.{CellsFields, mark, pair_val, base_made, cells_mark, pair_made}
use Rattle.phys_frames.proofs.Region.{Outside, run_lifted, run_laid, aways}
use Rattle.phys_frames.specs.contracts.cells.Cells.split as f
use Rattle.phys_frames.proofs.cells.Cells.split.Statement.{statement}
use Rattle.phys_frames.proofs.cells.Cells.split.Code as code

abbrev stayed : Stays f.ended.signature.params f.ended.kept
stayed = (stay_ref (0 ∷ []) tt (plain (λ _. Cells)), (stay_dropped a_base yes, (stay_dropped a_number yes, (stay_dropped a_number yes, tt))))

pub split_spec : {M : Type 1} → statement M
split_spec 𝓤 𝓛 𝓜 𝓡 wired =
    let c = f.clauses 𝓛 𝓜.mem 𝓡.returns in let W = walk_of 𝓛 f.ended stayed c in let 𝓣 = tables 𝓤 𝓛.H 𝓜 𝓡 𝓡.env in
    proved 𝓛 f.ended stayed c 𝓜 𝓡
    (Goes-ref 𝓛 1 0 tt (plain (λ _. Cells)), (Goes-dropped 𝓛 1 a_base yes (λ κs x w. refl), (Goes-dropped 𝓛 1 a_number yes (λ κs x w. refl), (Goes-dropped 𝓛 1 a_number yes (λ κs x w. refl), tt))))
    f.Key.name code.function (code.unfolded 𝓤 𝓛.H 𝓜 𝓡 wired)
    (λ κs. (mut_vals, (λ x. base_told.val x ∷ [], (uint_vals w64, (uint_vals w64, tt))))) (λ κs. (mut_Tells (named 0) κs.0 Cells, (base_told.tells, (uint_Tells w64, (uint_Tells w64, tt))))) (λ κs qs bounds a _ are.
    let κ = κs.0 in let q = qs.0 in let d = a.0.now in let rb = a.0.ref_ptr.0 in let ro = a.0.ref_ptr.1 in let base = a.1.0 in let from = a.1.1.0 in let len = a.1.1.1.0 in
    let y : W.Ghost = ((κs, qs, bounds, a, (mut_vals a.0, (base_told.val base ∷ [], (vint w64 from ∷ [], (vint w64 len ∷ [], tt))))), tt) in
    let Asked : Type 0 = (base.ptr ≡ d.at) × IsRun d.slots from len in
    qed 𝓛 (((‵ (flft κ q) ⊛ ‵ ftrue) ⊛ ‵ (owns (types_at f.ended.signature.params κs) a y.0.4)) ∷ raw (fact 𝓤 Asked) ∷ []) ∵
    move ! (1 ∷ []) $ heard ! Asked (λ asked. split ! $ split ! $ move ! (2 ∷ []) $ fsplit ! $ fsplit3 ! $ keep ! (1 ∷ 2 ∷ 4 ∷ []) $
    let within : from + len ≤ length d.slots = asked.1.0 in
    enter ! _ _ _ _ _ $ alloc_all ! (λ l. pass_all ! refl ((tt, tt), (word-Good [] base.ptr, ((tt, record { fits = are.1.1.0.1 }), ((tt, record { fits = are.1.1.1.0.1 }), tt)))) $
    opens ! tt Cells rb ro (λ vs. move ! (1 ∷ []) $ fsplit ! $ move ! (1 ∷ []) $
    in_a_block ! d.at (λ p. region_owns p d.slots) (id⊢ 𝓤 (never 𝓤)) (λ b o e. fsplit ! $ flt_l ! (λ small.
    -- [the places; what the fields own; the owner's cell; the open borrow, in three entries]
    take_at ! 2 $ rewrite ! 0 (λ (p : Ptr). ‵ (fat full_share (layout Base) (l 2) 0 (word p))) (asked.0 ∙ e) refl $ give_at ! 2 $
    first ! $ blocks ! $ sets_last ! (bin ! (get_in ! (fld ! refl (stop !)) (sub ! 0 refl (whole !))) (get ! refl) tt) refl (tt, tt) $
    exec ! 𝓣.C 𝓣.Λ (env code.Mir.locals l) code.Mir.t-2 (at_ret _ (W.post y)) $
    let at : Ptr = block_ptr b (from + o) in let run : List (Option (Option ℕ)) = take len (past from d.slots) in
    let part : Cells.Denot = record { mark = d.mark; at = at; slots = run } in let rest : Cells.Denot = with_slots d (with_away d.slots from len) in
    sets ! (of_opd ! (get ! refl)) refl (tt, tt) $
    sets ! (agg ! (and_then ! (get ! refl) (no_more !))) refl (word-Good [] at) $
    sets ! (agg ! (no_more !)) refl (tt, tt) $ sets ! (agg ! (and_then ! (get ! refl) (no_more !))) refl (tt, (tt, tt)) $
    sets ! (agg ! (and_then ! (get ! refl) (and_then ! (get ! refl) (no_more !)))) refl (tt, ((tt, tt), ((tt, tt), tt))) $
    let gone : List (Option (Option ℕ)) = replicate len away in
    let left : length rest.slots ≡ length d.slots = omega (arith, within, length-append (take from d.slots) (gone ++ past (from + len) d.slots), length-append gone (past (from + len) d.slots), length-replicate len (away {X = ℕ}), length-take from d.slots, length-drop (from + len) d.slots) in
    let taken : length run ≤ length d.slots = omega (arith, within, length-take len (past from d.slots), length-drop from d.slots) in
    use1 𝓛 (‵ (places b (from + o) run) ⊛ ‵ (Outside 𝓛 b d.slots from len o)) (run_lifted 𝓛 b d.slots from len o within) $ split ! $ move ! (1 ∷ []) $
    use0 𝓛 (‵ (places b (from + o) gone)) (aways 𝓛 b len (from + o)) $
    use2 𝓛 (‵ (places b o rest.slots)) (run_laid 𝓛 b d.slots from len o within gone (length-replicate len (away {X = ℕ}))) $
    flt_i ! (length rest.slots) (2 ^ 63) (omega (arith, left, small)) $ fjoin ! $ rewrite ! 0 (λ (p : Ptr). ‵ (region_owns p rest.slots)) (sym e) refl $
    move ! (2 ∷ 0 ∷ []) $ fjoin ! $ move ! (2 ∷ 0 ∷ 3 ∷ 4 ∷ 5 ∷ []) $ closes ! tt Cells rest vs rb ro $
    -- [two parts of self; the token; the run]
    returns ! (look_at ! 0 refl) $ free_all ! refl $ move ! (3 ∷ []) $
    flt_i ! (length run) (2 ^ 63) (omega (arith, taken, small)) $ fjoin ! $ use0 𝓛 (‵ (CellsFields.own_val (tt, tt) (mark ∷ []))) (cells_mark 𝓛) $ fjoin ! $
    use0 𝓛 (‵ (Base.own_val (record { ptr = at }) (word at ∷ []))) (base_made 𝓛 at) $
    use2 𝓛 (‵ ((Tuple (Base ∷ Cells ∷ [])).own_val (record { ptr = at }, part) (pair_val (word at) mark ∷ []))) (pair_made 𝓛 Base Cells (record { ptr = at }) part (word at) mark) $
    -- [the result; two parts of self; the token]
    suffices ! _ (ends_at 𝓛 f.ended stayed c y (pair_val (word at) mark) (record { ptr = at }, part) (rest, (tt, (tt, (tt, tt)))) (tt, (tt, (tt, (tt, tt))))) $
    feq_i ! (List Val) (vptr rb ro ∷ []) (vptr rb ro ∷ []) refl $ move ! (0 ∷ 2 ∷ 3 ∷ []) $ fjoin3 ! $
    nothing ! $ nothing ! $ fjoin ! $ nothing ! $ fjoin ! $ nothing ! $ fjoin ! $ move ! (1 ∷ 0 ∷ []) $ fjoin ! $ join ! $
    nothing ! $ move ! (2 ∷ 0 ∷ []) $ join ! $ join ! $ frame ! $ says ! (refl, refl) $
    by ! (fact_i 𝓤 ((at ≡ byte_at from base.ptr) × (at ≡ at) × (run ≡ run)) (emp 𝓤) (ap (byte_at from) (sym (asked.0 ∙ e)), refl, refl))))))))
