-- `join` puts the places of a part back. Nothing is owned twice, so they were away. Assumes `Logic`.
use Rattle.phys_frames.proofs.Walking.{◌≡◌, ℕ, ◌+◌, ◌^◌, ◌≤◌, List, [], ◌∷◌, ◌++◌, length, map, take, replicate, Option, refl, sym, ap, ◌∙◌, arith, w64, proved, emp, never, id⊢, ftrue, flft, named, Val, vint, vptr, vunit, fact, fact_i, fact_use, tables, ‵, raw, ◌⊛◌, given, ◌$◌, ◌∵◌, !, qed, by, move, keep, drop, use1, use2, split, join, fsplit, fsplit3, fjoin, fjoin3, feq_i, flt_i, flt_l, learn, rewrite, suffices, frame, enter, of_opd, unit_lit, returns, alloc_all, pass_all, free_all, look_at, sets, owns, Ptr, in_a_block, mut_vals, mut_Tells, uint_vals, uint_Tells, types_at, nothing, opens, closes, heard, Stays, walk_of, says, stay_dropped, stay_ref, Goes-dropped, Goes-ref, Goes-blank, ends_at, Cells, cells_told, some_cells, a_number}
use Rattle.std.proofs.Common.{drop as past}
use Rattle.std.proofs.lemmas.List.{length-map, length-take, length-drop, length-append}
use base.Logic.{guard_i}
use denote.Exit.{yes}
use denote.Signature.{plain}
use Rattle.phys_frames.specs.Homes.{byte_at}
use Rattle.phys_frames.specs.Places.{here, away, AllHere, with_part}
use Rattle.phys_frames.specs.Ownership.{places, region_owns}
use Rattle.phys_frames.specs.Lends.{with_slots}
use Rattle.phys_frames.proofs.Region.{Outside, run_lifted, run_laid, none_here}
use Rattle.phys_frames.specs.contracts.cells.Cells.join as f
use Rattle.phys_frames.proofs.cells.Cells.join.Statement.{statement}
use Rattle.phys_frames.proofs.cells.Cells.join.Code as code

abbrev stayed : Stays f.ended.signature.params f.ended.kept
stayed = (stay_ref (0 ∷ []) tt (plain (λ _. Cells)), (stay_dropped some_cells yes, (stay_dropped a_number yes, (stay_dropped a_number yes, tt))))

pub join_spec : {M : Type 1} → statement M
join_spec 𝓤 𝓛 𝓜 𝓡 wired =
    let c = f.clauses 𝓛 𝓜.mem 𝓡.returns in let W = walk_of 𝓛 f.ended stayed c in let 𝓣 = tables 𝓤 𝓛.H 𝓜 𝓡 𝓡.env in
    proved 𝓛 f.ended stayed c 𝓜 𝓡
    (Goes-ref 𝓛 1 0 tt (plain (λ _. Cells)), (Goes-blank 𝓛 1 some_cells yes (λ κs x w. tt), (Goes-dropped 𝓛 1 a_number yes (λ κs x w. refl), (Goes-dropped 𝓛 1 a_number yes (λ κs x w. refl), tt))))
    f.Key.name code.function (code.unfolded 𝓤 𝓛.H 𝓜 𝓡 wired)
    (λ κs. (mut_vals, (λ x. cells_told.val x ∷ [], (uint_vals w64, (uint_vals w64, tt))))) (λ κs. (mut_Tells (named 0) κs.0 Cells, (cells_told.tells, (uint_Tells w64, (uint_Tells w64, tt))))) (λ κs qs bounds a _ are.
    let κ = κs.0 in let q = qs.0 in let d = a.0.now in let rb = a.0.ref_ptr.0 in let ro = a.0.ref_ptr.1 in let part = a.1.0 in let from = a.1.1.0 in let len = a.1.1.1.0 in
    let y : W.Ghost = ((κs, qs, bounds, a, (mut_vals a.0, (cells_told.val part ∷ [], (vint w64 from ∷ [], (vint w64 len ∷ [], tt))))), tt) in
    let Asked : Type 0 = (part.at ≡ byte_at from d.at) × (length part.slots ≡ len) × AllHere part.slots × (from + len ≤ length d.slots) in
    qed 𝓛 (((‵ (flft κ q) ⊛ ‵ ftrue) ⊛ ‵ (owns (types_at f.ended.signature.params κs) a y.0.4)) ∷ raw (fact 𝓤 Asked) ∷ []) ∵
    move ! (1 ∷ []) $ heard ! Asked (λ asked. split ! $ split ! $ move ! (2 ∷ []) $ fsplit ! $ fsplit3 ! $ move ! (3 ∷ []) $ fsplit ! $ fsplit ! $ keep ! (4 ∷ 5 ∷ 6 ∷ 1 ∷ []) $
    let xs : List ℕ = asked.2.0 in let bytes = asked.2.1 in let within : from + len ≤ length d.slots = asked.3 in
    let count : length xs ≡ len = sym (length-map xs here) ∙ ap length (sym bytes) ∙ asked.1 in
    let run : List (Option (Option ℕ)) = take len (past from d.slots) in let joined : Cells.Denot = with_slots d (with_part d.slots from len part.slots) in
    enter ! _ _ _ _ _ $ alloc_all ! (λ l. pass_all ! refl ((tt, tt), ((tt, (tt, tt)), ((tt, record { fits = are.1.1.0.1 }), ((tt, record { fits = are.1.1.1.0.1 }), tt)))) $
    opens ! tt Cells rb ro (λ vs. move ! (1 ∷ []) $ fsplit ! $ move ! (1 ∷ []) $
    in_a_block ! d.at (λ p. region_owns p d.slots) (id⊢ 𝓤 (never 𝓤)) (λ b o e. fsplit ! $ flt_l ! (λ small.
    -- [the places; what the fields own; the owner's cell; the open borrow, in three entries; what the part owns]
    use1 𝓛 (‵ (places b (from + o) run) ⊛ ‵ (Outside 𝓛 b d.slots from len o)) (run_lifted 𝓛 b d.slots from len o within) $ split ! $ move ! (7 ∷ []) $
    rewrite ! 0 (λ (p : Ptr). ‵ (region_owns p part.slots)) (asked.0 ∙ ap (byte_at from) e) refl $ fsplit ! $ drop ! $
    rewrite ! 0 (λ (cs : List (Option (Option ℕ))). ‵ (places b (from + o) cs)) bytes refl $
    let Mine = λ (cs : List (Option (Option ℕ))). places b (from + o) cs in let here' : List (Option (Option ℕ)) = map here xs in
    let size : length run ≡ length xs = omega (arith, count, within, length-take len (past from d.slots), length-drop from d.slots) in
    let Was : Type 0 = run ≡ replicate (length xs) away in
    use2 𝓛 (given Was (‵ (Mine here') ⊛ ‵ (Mine run))) (fact_use 𝓤 Was (none_here 𝓛 b 𝓜 xs run (from + o) size) (λ was. guard_i 𝓤 Was _ was)) $ learn ! (λ was. split ! $ move ! (1 ∷ []) $ drop ! $
    rewrite ! 0 (λ (cs : List (Option (Option ℕ))). ‵ (Mine cs)) (sym bytes) refl $
    use2 𝓛 (‵ (places b o joined.slots)) (run_laid 𝓛 b d.slots from len o within part.slots asked.1) $
    let long : length joined.slots ≡ length d.slots = omega (arith, within, asked.1, length-append (take from d.slots) (part.slots ++ past (from + len) d.slots), length-append part.slots (past (from + len) d.slots), length-take from d.slots, length-drop (from + len) d.slots) in
    flt_i ! (length joined.slots) (2 ^ 63) (omega (arith, long, small)) $ fjoin ! $ rewrite ! 0 (λ (p : Ptr). ‵ (region_owns p joined.slots)) (sym e) refl $
    move ! (1 ∷ 0 ∷ []) $ fjoin ! $ move ! (1 ∷ 0 ∷ []) $ closes ! tt Cells joined vs rb ro $
    sets ! (of_opd ! (unit_lit !)) refl (tt, tt) $ returns ! (look_at ! 0 refl) $ free_all ! refl $
    -- [two parts of self; the token]
    suffices ! _ (ends_at 𝓛 f.ended stayed c y vunit tt (joined, (tt, (tt, (tt, tt)))) (tt, (tt, (tt, (tt, tt))))) $
    feq_i ! (List Val) (vptr rb ro ∷ []) (vptr rb ro ∷ []) refl $ fjoin3 ! $
    nothing ! $ nothing ! $ fjoin ! $ nothing ! $ fjoin ! $ nothing ! $ fjoin ! $ move ! (1 ∷ 0 ∷ []) $ fjoin ! $
    feq_i ! (List Val) (vunit ∷ []) (vunit ∷ []) refl $ move ! (1 ∷ 0 ∷ []) $ join ! $
    nothing ! $ move ! (2 ∷ 0 ∷ []) $ join ! $ join ! $ frame ! $ says ! (was ∙ ap (λ (k : ℕ). replicate k away) count) $
    by ! (fact_i 𝓤 ((d.at ≡ d.at) × (joined.slots ≡ with_part d.slots from len part.slots)) (emp 𝓤) (refl, refl)))))))))
