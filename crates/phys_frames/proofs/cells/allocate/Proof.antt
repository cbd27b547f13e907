-- `allocate` makes blank places of a block, and keeps the right to free it. Assumes `Logic`.
use Rattle.phys_frames.proofs.Walking.{◌≡◌, ℕ, ◌*◌, ◌^◌, ◌<◌, List, [], ◌∷◌, length, replicate, refl, sym, ap, subst, ◌∙◌, arith, w8, w64, lit<, proved, id⊢, emp, ftrue, flft, named, ty_int, ty_array, Val, vint, vptr, vstruct, vcons, vnil, fact, fact_i, tables, ‵, raw, ◌⊛◌, some, later, at_ret, ◌$◌, ◌∵◌, !, qed, done, move, keep, drop, use0, use1, use3, split, join, fsplit, fjoin, feq_i, flt_i, pick, await, suffices, frame, whole, agg, enter, of_opd, lit, stop, fld, no_more, and_then, first, exec, returns, alloc_all, pass_all, free_all, look_at, get, get_in, sets, sets_last, env, RattleType, owns, Ptr, block_ptr, shr_vals, shr_Tells, uint_vals, uint_Tells, types_at, nothing, heard, Stays, walk_of, says, stay_dropped, Goes-dropped, ends_at, word, word-Good, Heap, Base, Cells, Deed, seen_heap, a_number}
use Rattle.std.proofs.Common.{true, false}
use Rattle.std.proofs.lemmas.List.{length-replicate}
use Rattle.std.specs.Prelude.{Ok, Err}
use prog.Capped.{capped_is}
use prog.Memory.{capped, size, align}
use prog.Wp.{Wp, after_seq, at_return}
use types.ByLocal.{get_tag, lands_as}
use types.Kit.{Post, any_q}
use types.Tokens.{name_new}
use base.Stored.{coded_ℕ}
use types.Match.{live, vrt, in_variant}
use types.Run.{switches_on}
use denote.Exit.{yes}
use denote.Laws.{Is}
use denote.Param.{layout}
use denote.Steps.{owned}
use denote.Struct.Declared as declared
use denote.Struct.Struct.{Struct, Struct-Makes}
use denote.Struct.Tuple.{Tuple}
use denote.Triple.Call.{calls_at}
use denote.Triple.Clauses.{lasts}
use denote.Triple.Spec.{triple_of}
use denote.Triple.Table.{framed}
use Rattle.std.proofs.alloc.Calls.{Answer, Answer-typed}
use Rattle.std.proofs.RcSteps.{Good, first_Good}
use Rattle.std.proofs.ResultValues.{ok_of, err_of}
use Rattle.std.proofs.VecSteps.Shapes.{arm_body}
use Rattle.std.specs.Allocator.{block_if_ok}
use Rattle.std.specs.contracts.alloc.AllocError as refusal
use Rattle.std.specs.contracts.result.Result as result
use Rattle.std.specs.contracts.impls.GlobalAllocator.TheImpl.{ghosts}
use Rattle.phys_frames.specs.Places.{blank}
use Rattle.phys_frames.specs.Ownership.{places}
use Rattle.phys_frames.proofs.Granted.{granted}
use Rattle.phys_frames.proofs.Made.{CellsFields, DeedFields, mark, triple_val, base_made, cells_mark, deed_mark, triple_made}
use Rattle.phys_frames.proofs.Region.{blanks_of_room}
use Rattle.phys_frames.specs.contracts.cells.allocate as f
use Rattle.phys_frames.proofs.cells.allocate.Statement.{statement}
use Rattle.phys_frames.proofs.cells.allocate.Code as code
use Rattle.std.specs.contracts.impls.GlobalAllocator.allocate as g
use Rattle.std.proofs.impls.GlobalAllocator.allocate.Met.{met}

abbrev stayed : Stays f.ended.signature.params f.ended.kept
stayed = (stay_dropped seen_heap yes, (stay_dropped a_number yes, tt))

abbrev Three : RattleType
Three = Tuple (Base ∷ Cells ∷ Deed ∷ [])

abbrev Refusal : RattleType
Refusal = Struct (declared.shape refusal.the_type)

abbrev Outcome : RattleType
Outcome = result.the_row Three refusal.the_row

pub allocate_spec : {M : Type 1} → statement M
allocate_spec 𝓤 𝓛 𝓜 𝓡 wired =
    let c = f.clauses 𝓛 𝓜.mem 𝓡.returns in let W = walk_of 𝓛 f.ended stayed c in let 𝓣 = tables 𝓤 𝓛.H 𝓜 𝓡 𝓡.env in
    proved 𝓛 f.ended stayed c 𝓜 𝓡 (Goes-dropped 𝓛 1 seen_heap yes (λ κs x w. refl), (Goes-dropped 𝓛 1 a_number yes (λ κs x w. refl), tt))
    f.Key.name code.function (code.unfolded 𝓤 𝓛.H 𝓜 𝓡 wired)
    (λ κs. (shr_vals, (uint_vals w64, tt))) (λ κs. (shr_Tells (named 0) κs.0 Heap, (uint_Tells w64, tt))) (λ κs qs bounds a _ are.
    let κ = κs.0 in let q = qs.0 in let rb = a.0.ref_ptr.0 in let ro = a.0.ref_ptr.1 in let heap = a.0.now in let len = a.1.0 in
    let y : W.Ghost = ((κs, qs, bounds, a, (shr_vals a.0, (vint w64 len ∷ [], tt))), tt) in let Asked : Type 0 = len < 2 ^ 63 in
    let then : (ℕ → ℕ) → Post 𝓤 𝓛.H = λ l. any_q (after_seq 𝓤 𝓛.H (Wp 𝓤 𝓛.H 𝓣.C 𝓣.Λ (env code.Mir.locals l) code.Mir.t-3 (at_return 𝓤 𝓛.H (env code.Mir.locals l) (W.post y))) (at_return 𝓤 𝓛.H (env code.Mir.locals l) (W.post y))) in
    qed 𝓛 (((‵ (flft κ q) ⊛ ‵ ftrue) ⊛ ‵ (owns (types_at f.ended.signature.params κs) a y.0.4)) ∷ raw (fact 𝓤 Asked) ∷ []) ∵
    move ! (1 ∷ []) $ heard ! Asked (λ asked. split ! $ split ! $ move ! (2 ∷ []) $ fsplit ! $ fsplit ! $ keep ! (1 ∷ 3 ∷ []) $
    -- [what the reference to the heap holds; the token]
    enter ! _ _ _ _ _ $ alloc_all ! (λ l. pass_all ! refl ((tt, tt), ((tt, record { fits = are.1.0.1 }), tt)) $
    let τ = ty_array (ty_int w8) len in let Laid : Type 0 = (capped (size τ) ≡ len) × (capped (align τ) ≡ 1) in let flat : len * 1 ≡ len = omega arith in
    let G = triple_of 𝓛 g.signature (g.spec 𝓛 𝓜.mem 𝓡.returns) in
    let z : G.Ghost = (((κ, tt), (q, tt), tt, (a.0, (len, (1, tt))), (shr_vals a.0, (vint w64 len ∷ [], (vint w64 1 ∷ [], tt)))), τ) in
    use0 𝓛 (raw (fact 𝓤 Laid)) (fact_i 𝓤 Laid (emp 𝓤) (ap capped flat ∙ capped_is len are.1.0.1, refl)) $
    nothing ! $ flt_i ! 1 (2 ^ 64) (lit< tt) $ feq_i ! (List Val) (vint w64 1 ∷ []) (vint w64 1 ∷ []) refl $ fjoin ! $ fjoin ! $
    flt_i ! len (2 ^ 64) are.1.0.1 $ feq_i ! (List Val) (vint w64 len ∷ []) (vint w64 len ∷ []) refl $ fjoin ! $ fjoin ! $
    move ! (2 ∷ []) $ feq_i ! (List Val) (vptr rb ro ∷ []) (vptr rb ro ∷ []) refl $ fjoin ! $ fjoin ! $
    nothing ! $ move ! (3 ∷ 0 ∷ []) $ join ! $ join ! $ join ! $ use1 𝓛 (raw (G.pre z)) (id⊢ 𝓤 _) $
    calls_at ! (framed 𝓤 𝓛.H 𝓜 (tables 𝓤 𝓛.H 𝓜 𝓡 𝓡.env)) G (met 𝓤 𝓛 𝓜 𝓡 (code.calls-std_heap::GlobalAllocator::allocate 𝓡.env wired)) z (and_then ! (get ! refl) (and_then ! (get ! refl) (and_then ! (lit ! tt) (no_more !)))) (λ v.
    use1 𝓛 (later (some (λ (r : Answer.Denot). ((‵ (flft κ q) ⊛ ‵ ftrue) ⊛ ‵ (Answer.own_val r (v ∷ []))) ⊛
    some (λ (ws : Unit {0} × (Unit {0} × (Unit {0} × Unit {0}))). ‵ (lasts g.ended (κ, tt) z.0.3 ws) ⊛ ‵ (block_if_ok (ghosts.dealloc_token heap) τ r))))) (id⊢ 𝓤 _) $
    await ! tt $ pick ! (λ r. split ! $ split ! $ split ! $ move ! (3 ∷ []) $ pick ! (λ ws. split ! $ drop ! $ move ! (3 ∷ 0 ∷ []) $
    granted ! (ghosts.dealloc_token heap) τ v r
    (λ b o is.
    let p : Ptr = block_ptr b o in let base : Base.Denot = record { ptr = p } in
    let cells : Cells.Denot = record { mark = record {}; at = p; slots = replicate len blank } in let deed : ℕ → Deed.Denot = λ key. record { mark = record {}; at = p; len = len; alloc = heap; key = key } in
    let made : Val = triple_val (word p) mark mark in let typed : Good (layout Three) made = (tt, ((tt, tt), ((tt, tt), ((tt, tt), tt)))) in let fits = first_Good (layout Three) made typed in
    name_new ! tt (coded_ℕ.code 0) (λ key. fjoin ! $ move ! (1 ∷ 2 ∷ 3 ∷ 4 ∷ 0 ∷ []) $
    -- [the room; the right to free; the token; nothing; the key]
    lands_as ! is refl (Answer-typed true b o) $ first ! $ switches_on ! (get_tag ! (vrt ! refl (fld ! refl (stop !))) (whole !)) $
    exec ! 𝓣.C 𝓣.Λ (env code.Mir.locals l) (arm_body 0 code.Mir.s-2) (then l) $
    sets ! (of_opd ! (get_in ! (vrt ! refl (fld ! refl (stop !))) (in_variant ! 0 0 refl refl (whole !)))) refl (tt, tt) $
    sets ! (agg ! (and_then ! (get ! refl) (no_more !))) refl (word-Good [] p) $
    sets ! (agg ! (no_more !)) refl (tt, tt) $ sets ! (agg ! (and_then ! (get ! refl) (no_more !))) refl (tt, (tt, tt)) $
    sets ! (agg ! (no_more !)) refl (tt, tt) $ sets ! (agg ! (and_then ! (get ! refl) (no_more !))) refl (tt, (tt, tt)) $
    sets ! (agg ! (and_then ! (get ! refl) (and_then ! (get ! refl) (and_then ! (get ! refl) (no_more !))))) refl typed $
    sets_last ! (agg ! (and_then ! (lit ! tt) (and_then ! (get ! refl) (no_more !)))) refl fits $
    exec ! 𝓣.C 𝓣.Λ (env code.Mir.locals l) code.Mir.t-3 (at_ret _ (W.post y)) $ sets ! (of_opd ! (get ! refl)) refl fits $
    returns ! (look_at ! 0 refl) $ free_all ! refl $
    use1 𝓛 (‵ (places b o (replicate len blank))) (blanks_of_room 𝓛 b len o) $ flt_i ! (length cells.slots) (2 ^ 63) (subst (λ (k : ℕ). k < 2 ^ 63) (sym (length-replicate len (blank {X = ℕ}))) asked) $ fjoin ! $
    use0 𝓛 (‵ (CellsFields.own_val (tt, tt) (mark ∷ []))) (cells_mark 𝓛) $ fjoin ! $ move ! (1 ∷ 4 ∷ []) $ fjoin ! $
    use0 𝓛 (‵ (DeedFields.own_val (tt, tt) (mark ∷ []))) (deed_mark 𝓛) $ fjoin ! $ move ! (1 ∷ 0 ∷ []) $ use0 𝓛 (‵ (Base.own_val base (word p ∷ []))) (base_made 𝓛 p) $
    use3 𝓛 (‵ (Three.own_val (base, cells, deed key) (made ∷ []))) (triple_made 𝓛 Base Cells Deed base cells (deed key) (word p) mark mark) $
    use1 𝓛 (‵ (Outcome.own_val (Ok (base, cells, deed key)) (live 0 (vcons made vnil) ∷ []))) (ok_of 𝓛 Three refusal.the_row (base, cells, deed key) made) $
    suffices ! _ (ends_at 𝓛 f.ended stayed c y (live 0 (vcons made vnil)) (Ok (base, cells, deed key)) (tt, (tt, tt)) (tt, (tt, tt))) $ says ! (refl, refl, refl, refl, refl) $
    move ! (1 ∷ 2 ∷ []) $ join ! $ frame ! $ nothing ! $ nothing ! $ fjoin ! $ nothing ! $ fjoin ! $ done !))
    (λ is.
    -- [the token; nothing]
    let none : Val = live 1 (vcons (vstruct vnil) vnil) in
    lands_as ! is refl (Answer-typed false 0 0) $ first ! $ switches_on ! (get_tag ! (vrt ! refl (fld ! refl (stop !))) (whole !)) $
    exec ! 𝓣.C 𝓣.Λ (env code.Mir.locals l) (arm_body 1 code.Mir.s-2) (then l) $
    sets ! (of_opd ! (get_in ! (vrt ! refl (fld ! refl (stop !))) (in_variant ! 1 0 refl refl (whole !)))) refl (tt, tt) $
    sets_last ! (agg ! (and_then ! (lit ! tt) (and_then ! (get ! refl) (no_more !)))) refl (tt, (record { fits = lit< tt }, (tt, tt))) $
    exec ! 𝓣.C 𝓣.Λ (env code.Mir.locals l) code.Mir.t-3 (at_ret _ (W.post y)) $ sets ! (of_opd ! (get ! refl)) refl (tt, (record { fits = lit< tt }, (tt, tt))) $
    returns ! (look_at ! 0 refl) $ free_all ! refl $
    owned ! Refusal (Is Refusal) (Struct-Makes 𝓛 (declared.shape refusal.the_type) tt) tt (vstruct vnil ∷ []) (tt, (refl, tt)) $
    use1 𝓛 (‵ (Outcome.own_val (Err (record {})) (none ∷ []))) (err_of 𝓛 Three refusal.the_row (record {}) (vstruct vnil)) $
    suffices ! _ (ends_at 𝓛 f.ended stayed c y none (Err (record {})) (tt, (tt, tt)) (tt, (tt, tt))) $ says ! tt $
    move ! (1 ∷ 2 ∷ []) $ join ! $ frame ! $ nothing ! $ nothing ! $ fjoin ! $ nothing ! $ fjoin ! $ done !)))))))
