-- `slice` shows the bytes of a run, which the owner of the places lends. Assumes `Logic`.
use Rattle.phys_frames.proofs.Walking.{◌≤◌, vptr, seen_cells, a_base, a_number, ◌≡◌, ℕ, ◌+◌, ◌*◌, ◌^◌, List, [], ◌∷◌, length, refl, sym, ap, ◌∙◌, arith, w64, proved, never, id⊢, ftrue, flft, named, Val, vint, WpFn, fact, tables, ‵, raw, ◌⊛◌, prop, at_ret, ◌$◌, ◌∵◌, !, qed, done, move, keep, drop, use1, split, join, fsplit, fjoin, feq_i, flt_i, flt_l, regoal, suffices, frame, whole, sub, agg, enter, of_opd, bin, stop, fld, no_more, and_then, first, blocks, exec, returns, alloc_all, pass_all, free_all, look_at, get, get_in, sets, sets_last, env, u8, owns, Ptr, block_ptr, in_a_block, shr_vals, shr_Tells, uint_vals, uint_Tells, types_at, Bor, hide, unhide, nothing, heard, Stays, walk_of, says, stay_dropped, Goes-dropped, ends_at, word, word-Good, Cells, base_told}
use Rattle.std.proofs.Common.{drop as past}
use Rattle.std.proofs.lemmas.List.{length-map, length-take, length-drop}
use denote.Exit.{yes}
use denote.Slice.{elements_shared, slice_val}
use Rattle.phys_frames.specs.Places.{here, IsRun}
use Rattle.phys_frames.specs.Ownership.{region_lends}
use Rattle.phys_frames.proofs.Region.{run_lent}
use Rattle.phys_frames.specs.contracts.cells.Cells.slice as f
use Rattle.phys_frames.proofs.cells.Cells.slice.Statement.{statement}
use Rattle.phys_frames.proofs.cells.Cells.slice.Code as code

abbrev stayed : Stays f.ended.signature.params f.ended.kept
stayed = (stay_dropped seen_cells yes, (stay_dropped a_base yes, (stay_dropped a_number yes, (stay_dropped a_number yes, tt))))

pub slice_spec : {M : Type 1} → statement M
slice_spec 𝓤 𝓛 𝓜 𝓡 wired =
    let c = f.clauses 𝓛 𝓜.mem 𝓡.returns in let W = walk_of 𝓛 f.ended stayed c in let 𝓣 = tables 𝓤 𝓛.H 𝓜 𝓡 𝓡.env in
    proved 𝓛 f.ended stayed c 𝓜 𝓡
    (Goes-dropped 𝓛 1 seen_cells yes (λ κs x w. refl), (Goes-dropped 𝓛 1 a_base yes (λ κs x w. refl), (Goes-dropped 𝓛 1 a_number yes (λ κs x w. refl), (Goes-dropped 𝓛 1 a_number yes (λ κs x w. refl), tt))))
    f.Key.name code.function (code.unfolded 𝓤 𝓛.H 𝓜 𝓡 wired)
    (λ κs. (shr_vals, (λ x. base_told.val x ∷ [], (uint_vals w64, (uint_vals w64, tt))))) (λ κs. (shr_Tells (named 0) κs.0 Cells, (base_told.tells, (uint_Tells w64, (uint_Tells w64, tt))))) (λ κs qs bounds a _ are.
    let κ = κs.0 in let d = a.0.now in let base = a.1.0 in let from = a.1.1.0 in let len = a.1.1.1.0 in
    let y : W.Ghost = ((κs, qs, bounds, a, (shr_vals a.0, (base_told.val base ∷ [], (vint w64 from ∷ [], (vint w64 len ∷ [], tt))))), tt) in
    let Asked : Type 0 = (base.ptr ≡ d.at) × IsRun d.slots from len in
    qed 𝓛 (((‵ (flft κ qs.0) ⊛ ‵ ftrue) ⊛ ‵ (owns (types_at f.ended.signature.params κs) a y.0.4)) ∷ raw (fact 𝓤 Asked) ∷ []) ∵
    move ! (1 ∷ []) $ heard ! Asked (λ asked. split ! $ split ! $ move ! (2 ∷ []) $ fsplit ! $ fsplit ! $ keep ! (1 ∷ 3 ∷ []) $
    let xs : List ℕ = asked.1.1.0 in let run = asked.1.1.1 in
    let within : from + len ≤ length d.slots = asked.1.0 in
    let count : length xs ≡ len = omega (arith, ap length run, length-map xs here, length-take len (past from d.slots), length-drop from d.slots) in
    unhide ! $ fsplit ! $ drop ! $ in_a_block ! d.at (λ p. region_lends p d.slots κ) (id⊢ 𝓤 (never 𝓤)) (λ b o e. fsplit ! $ flt_l ! (λ small.
    regoal ! (λ (p : Ptr). prop (WpFn 𝓤 𝓛.H 𝓣.C 𝓣.Λ code.function (vptr a.0.ref_ptr.0 a.0.ref_ptr.1 ∷ word p ∷ vint w64 from ∷ vint w64 len ∷ []) (W.post y))) (asked.0 ∙ e) refl $
    enter ! _ _ _ _ _ $ alloc_all ! (λ l. pass_all ! refl ((tt, tt), (word-Good [] (block_ptr b o), ((tt, record { fits = are.1.1.0.1 }), ((tt, record { fits = are.1.1.1.0.1 }), tt)))) $
    -- [what the places lend; the token]
    first ! $ blocks ! $ sets ! (bin ! (get_in ! (fld ! refl (stop !)) (sub ! 0 refl (whole !))) (get ! refl) tt) refl (tt, tt) $
    use1 𝓛 (‵ (elements_shared u8 xs b (from + o) κ)) (run_lent 𝓛 b κ d.slots from len o xs (omega arith) run) $ hide ! $
    sets_last ! (agg ! (and_then ! (get ! refl) (and_then ! (get ! refl) (no_more !)))) refl (tt, (tt, (record { fits = are.1.1.1.0.1 }, tt))) $
    exec ! 𝓣.C 𝓣.Λ (env code.Mir.locals l) code.Mir.t-2 (at_ret _ (W.post y)) $
    sets ! (of_opd ! (get ! refl)) refl (tt, (tt, (record { fits = are.1.1.1.0.1 }, tt))) $
    returns ! (look_at ! 0 refl) $ free_all ! refl $
    let at : ℕ × ℕ = (b, from + o) in let r : Bor (List ℕ) = record { ref_ptr = at; now = xs } in
    flt_i ! (length xs * 1) (2 ^ 63) (omega (arith, small, count, within)) $ flt_i ! (length xs) (2 ^ 64) (omega (arith, small, count, within)) $ fjoin ! $
    feq_i ! (List Val) (slice_val at len ∷ []) (slice_val at (length xs) ∷ []) (ap (λ (k : ℕ). slice_val at k ∷ []) (sym count)) $ fjoin ! $ fjoin ! $
    suffices ! _ (ends_at 𝓛 f.ended stayed c y (slice_val at len) r (tt, (tt, (tt, (tt, tt)))) (tt, (tt, (tt, (tt, tt))))) $ says ! run $
    nothing ! $ move ! (2 ∷ 0 ∷ []) $ join ! $ frame ! $ nothing ! $ nothing ! $ fjoin ! $ nothing ! $ fjoin ! $ nothing ! $ fjoin ! $ nothing ! $ fjoin ! $ done !)))))
