-- `deallocate` hands the places over as the room of their block, with the right to free it. Assumes `Logic`.
use Rattle.phys_frames.proofs.Walking.{◌≡◌, ℕ, ◌^◌, List, [], ◌∷◌, length, Option, ◌*◌, refl, sym, ap, ◌∙◌, subst, arith, w8, w64, lit<, proved, never, id⊢, emp, ftrue, flft, froom, named, ty_int, ty_array, Val, vint, vptr, vunit, WpFn, fact, fact_i, tables, ‵, raw, ◌⊛◌, some, later, prop, at_ret, ◌$◌, ◌∵◌, !, qed, done, move, keep, drop, use0, use1, split, join, fsplit, fjoin, feq_i, feq_l, flt_i, pick, await, rewrite, regoal, suffices, whole, sub, enter, of_opd, lit, unit_lit, stop, fld, no_more, and_then, first, blocks, exec, returns, alloc_all, pass_all, free_all, look_at, get, get_in, sets, env, unit, owns, Ptr, block_ptr, in_a_block, shr_vals, shr_Tells, uint_vals, uint_Tells, types_at, nothing, heard, Stays, walk_of, stay_dropped, Goes-dropped, Goes-blank, ends_at, word, word-Good, Heap, base_told, cells_told, deed_told, seen_heap, a_base, a_number, some_cells, a_deed}
use Rattle.std.proofs.lemmas.List.{length-map}
use Rattle.std.specs.declared.alloc.Global.{Global}
use lib.Dec.{T}
use mir.Syntax.{ty_unit}
use mir.Val.{has_ty, WT}
use prog.Capped.{capped_is}
use prog.Memory.{capped, size, align}
use types.ByLocal.{lands_last}
use denote.Exit.{yes}
use denote.Steps.{only}
use denote.Triple.Call.{calls_at_last}
use denote.Triple.Clauses.{lasts}
use denote.Triple.Spec.{triple_of}
use denote.Triple.Table.{framed}
use Rattle.phys_frames.specs.Places.{here, AllHere}
use Rattle.phys_frames.specs.Ownership.{places, region_owns, deed_owns}
use Rattle.phys_frames.proofs.Made.{mark}
use Rattle.phys_frames.proofs.Region.{room_of_bytes}
use Rattle.phys_frames.specs.contracts.cells.deallocate as f
use Rattle.phys_frames.proofs.cells.deallocate.Statement.{statement}
use Rattle.phys_frames.proofs.cells.deallocate.Code as code
use Rattle.std.specs.contracts.impls.GlobalAllocator.deallocate as g
use Rattle.std.proofs.impls.GlobalAllocator.deallocate.Met.{met}

abbrev stayed : Stays f.ended.signature.params f.ended.kept
stayed = (stay_dropped seen_heap yes, (stay_dropped a_base yes, (stay_dropped a_number yes, (stay_dropped some_cells yes, (stay_dropped a_deed yes, tt)))))

pub deallocate_spec : {M : Type 1} → statement M
deallocate_spec 𝓤 𝓛 𝓜 𝓡 wired =
    let c = f.clauses 𝓛 𝓜.mem 𝓡.returns in let W = walk_of 𝓛 f.ended stayed c in let 𝓣 = tables 𝓤 𝓛.H 𝓜 𝓡 𝓡.env in
    proved 𝓛 f.ended stayed c 𝓜 𝓡
    (Goes-dropped 𝓛 1 seen_heap yes (λ κs x w. refl), (Goes-dropped 𝓛 1 a_base yes (λ κs x w. refl), (Goes-dropped 𝓛 1 a_number yes (λ κs x w. refl), (Goes-blank 𝓛 1 some_cells yes (λ κs x w. tt), (Goes-blank 𝓛 1 a_deed yes (λ κs x w. tt), tt)))))
    f.Key.name code.function (code.unfolded 𝓤 𝓛.H 𝓜 𝓡 wired)
    (λ κs. (shr_vals, (λ x. base_told.val x ∷ [], (uint_vals w64, (λ x. cells_told.val x ∷ [], (λ x. deed_told.val x ∷ [], tt)))))) (λ κs. (shr_Tells (named 0) κs.0 Heap, (base_told.tells, (uint_Tells w64, (cells_told.tells, (deed_told.tells, tt)))))) (λ κs qs bounds a _ are.
    let κ = κs.0 in let q = qs.0 in let rb = a.0.ref_ptr.0 in let ro = a.0.ref_ptr.1 in let heap = a.0.now in let base = a.1.0 in let len = a.1.1.0 in let cells = a.1.1.1.0 in let deed = a.1.1.1.1.0 in
    let y : W.Ghost = ((κs, qs, bounds, a, (shr_vals a.0, (base_told.val base ∷ [], (vint w64 len ∷ [], (cells_told.val cells ∷ [], (deed_told.val deed ∷ [], tt)))))), tt) in
    let Asked : Type 0 = (cells.at ≡ base.ptr) × (length cells.slots ≡ len) × AllHere cells.slots × (deed.at ≡ base.ptr) × (deed.len ≡ len) × (deed.alloc ≡ heap) in
    qed 𝓛 (((‵ (flft κ q) ⊛ ‵ ftrue) ⊛ ‵ (owns (types_at f.ended.signature.params κs) a y.0.4)) ∷ raw (fact 𝓤 Asked) ∷ []) ∵
    move ! (1 ∷ []) $ heard ! Asked (λ asked. split ! $ split ! $ move ! (2 ∷ []) $ fsplit ! $ fsplit ! $ move ! (2 ∷ []) $ fsplit ! $ move ! (1 ∷ []) $ fsplit ! $ move ! (1 ∷ []) $ fsplit ! $ fsplit ! $ move ! (2 ∷ []) $ fsplit ! $ fsplit ! $
    keep ! (1 ∷ 4 ∷ 8 ∷ 9 ∷ []) $ fsplit ! $ keep ! (2 ∷ 0 ∷ 3 ∷ 4 ∷ []) $
    -- [the places; the right to free; what the reference to the heap holds; the token]
    let xs : List ℕ = asked.2.0 in let count : length xs ≡ len = sym (length-map xs here) ∙ ap length (sym asked.2.1) ∙ asked.1 in
    in_a_block ! cells.at (λ p. region_owns p cells.slots) (id⊢ 𝓤 (never 𝓤)) (λ b o e. fsplit ! $ drop ! $
    rewrite ! 0 (λ (cs : List (Option (Option ℕ))). ‵ (places b o cs)) asked.2.1 refl $ use1 𝓛 (‵ (froom (ty_array (ty_int w8) (length xs)) b o)) (room_of_bytes 𝓛 b xs o) $
    rewrite ! 0 (λ (n : ℕ). ‵ (froom (ty_array (ty_int w8) n) b o)) count refl $
    rewrite ! 1 (λ (t : Global × Ptr × ℕ). ‵ (deed_owns t.0 t.1 t.2)) (λ i. (asked.5 i, (asked.3 ∙ sym asked.0 ∙ e) i, asked.4 i)) refl $
    regoal ! (λ (p : Ptr). prop (WpFn 𝓤 𝓛.H 𝓣.C 𝓣.Λ code.function (vptr rb ro ∷ word p ∷ vint w64 len ∷ mark ∷ mark ∷ []) (W.post y))) (sym asked.0 ∙ e) refl $
    enter ! _ _ _ _ _ $ alloc_all ! (λ l. pass_all ! refl ((tt, tt), (word-Good [] (block_ptr b o), ((tt, record { fits = are.1.1.0.1 }), ((tt, (tt, tt)), ((tt, (tt, tt)), tt))))) $
    let τ = ty_array (ty_int w8) len in let Laid : Type 0 = (capped (size τ) ≡ len) × (capped (align τ) ≡ 1) in
    let G = triple_of 𝓛 g.signature (g.spec 𝓛 𝓜.mem 𝓡.returns) in
    let z : G.Ghost = (((κ, tt), (q, tt), tt, (a.0, (block_ptr b o, (len, (1, tt)))), (shr_vals a.0, (vptr b o ∷ [], (vint w64 len ∷ [], (vint w64 1 ∷ [], tt))))), τ) in
    let flat : len * 1 ≡ len = omega arith in
    fjoin ! $ use0 𝓛 (raw (fact 𝓤 Laid)) (fact_i 𝓤 Laid (emp 𝓤) (ap capped flat ∙ capped_is len are.1.1.0.1, refl)) $ join ! $
    nothing ! $ flt_i ! 1 (2 ^ 64) (lit< tt) $ feq_i ! (List Val) (vint w64 1 ∷ []) (vint w64 1 ∷ []) refl $ fjoin ! $ fjoin ! $
    flt_i ! len (2 ^ 64) are.1.1.0.1 $ feq_i ! (List Val) (vint w64 len ∷ []) (vint w64 len ∷ []) refl $ fjoin ! $ fjoin ! $
    feq_i ! (List Val) (vptr b o ∷ []) (vptr b o ∷ []) refl $ fjoin ! $ move ! (2 ∷ []) $ feq_i ! (List Val) (vptr rb ro ∷ []) (vptr rb ro ∷ []) refl $ fjoin ! $ fjoin ! $
    nothing ! $ move ! (3 ∷ 0 ∷ []) $ join ! $ join ! $ join ! $ use1 𝓛 (raw (G.pre z)) (id⊢ 𝓤 _) $
    first ! $ blocks ! $ calls_at_last ! (framed 𝓤 𝓛.H 𝓜 (tables 𝓤 𝓛.H 𝓜 𝓡 𝓡.env)) G (met 𝓤 𝓛 𝓜 𝓡 (code.calls-std_heap::GlobalAllocator::deallocate 𝓡.env wired)) z
    (and_then ! (get ! refl) (and_then ! (get_in ! (fld ! refl (stop !)) (sub ! 0 refl (whole !))) (and_then ! (get ! refl) (and_then ! (lit ! tt) (no_more !))))) (λ v.
    use1 𝓛 (later (some (λ (r : Unit {0}). ((‵ (flft κ q) ⊛ ‵ ftrue) ⊛ ‵ (unit.own_val r (v ∷ []))) ⊛
    some (λ (ws : Unit {0} × (Unit {0} × (Unit {0} × (Unit {0} × Unit {0})))). ‵ (lasts g.ended (κ, tt) z.0.3 ws) ⊛ ‵ ftrue)))) (id⊢ 𝓤 _) $
    await ! tt $ pick ! (λ r. split ! $ split ! $ split ! $ move ! (2 ∷ []) $ feq_l ! (λ is_unit.
    lands_last ! refl (subst (λ (u : Val). T (has_ty ty_unit u) × WT u) (sym (ap only is_unit)) (tt, tt)) $
    exec ! 𝓣.C 𝓣.Λ (env code.Mir.locals l) code.Mir.t-2 (at_ret _ (W.post y)) $ sets ! (of_opd ! (unit_lit !)) refl (tt, tt) $
    returns ! (look_at ! 0 refl) $ free_all ! refl $ keep ! (0 ∷ []) $
    suffices ! _ (ends_at 𝓛 f.ended stayed c y vunit tt (tt, (tt, (tt, (tt, (tt, tt))))) (tt, (tt, (tt, (tt, (tt, tt)))))) $
    feq_i ! (List Val) (vunit ∷ []) (vunit ∷ []) refl $ nothing ! $ nothing ! $ fjoin ! $ nothing ! $ fjoin ! $ nothing ! $ fjoin ! $ nothing ! $ fjoin ! $ nothing ! $ fjoin ! $ join ! $
    nothing ! $ move ! (2 ∷ 0 ∷ []) $ join ! $ join ! $ nothing ! $ move ! (1 ∷ 0 ∷ []) $ done !)))))))
