-- `write` puts a byte into a blank place. Assumes `Logic`.
use Rattle.phys_frames.proofs.Walking.{◌≡◌, ℕ, suc, ◌+◌, ◌^◌, ◌<◌, ◌≤◌, List, [], ◌∷◌, ◌++◌, length, take, set, get_or, Option, refl, sym, ap, ◌∙◌, arith, w8, w64, proved, full_share, never, id⊢, ftrue, fat, flft, named, Val, vint, vptr, vunit, fact, tables, ‵, raw, ◌⊛◌, at_ret, ◌$◌, ◌∵◌, !, qed, done, move, keep, use1, use2, split, join, fsplit, fsplit3, fjoin, fjoin3, feq_i, flt_i, flt_l, rewrite, suffices, frame, whole, sub, enter, of_opd, unit_lit, bin, init, stop, fld, assigns_last, first, blocks, exec, returns, alloc_all, pass_all, free_all, look_at, get, get_in, through, sets, env, owns, Ptr, in_a_block, mut_vals, mut_Tells, uint_vals, uint_Tells, uint_in, types_at, nothing, opens, closes, heard, Stays, walk_of, says, stay_dropped, stay_ref, Goes-dropped, Goes-ref, ends_at, word, word-Good, Base, Cells, base_told, a_base, a_number, a_byte}
use Rattle.std.proofs.Common.{drop as past}
use Rattle.std.proofs.lemmas.List.{length-take, length-drop, length-append, set_split}
use Rattle.std.proofs.Math.Seq.{drop-cons}
use types.ByLocal.{take_at, give_at}
use denote.Exit.{yes}
use denote.Param.{layout}
use denote.Signature.{plain}
use Rattle.phys_frames.specs.Places.{here, blank, away, with_part}
use Rattle.phys_frames.specs.Ownership.{place, places, region_owns}
use Rattle.phys_frames.specs.Lends.{with_slots}
use Rattle.phys_frames.proofs.Region.{Outside, run_lifted, run_laid}
use Rattle.phys_frames.specs.contracts.cells.Cells.write as f
use Rattle.phys_frames.proofs.cells.Cells.write.Statement.{statement}
use Rattle.phys_frames.proofs.cells.Cells.write.Code as code

abbrev stayed : Stays f.ended.signature.params f.ended.kept
stayed = (stay_ref (0 ∷ []) tt (plain (λ _. Cells)), (stay_dropped a_base yes, (stay_dropped a_number yes, (stay_dropped a_byte yes, tt))))

abbrev Spots : Type 0
Spots = List (Option (Option ℕ))

one_out : (cs : Spots) (i : ℕ) → i < length cs → get_or cs i away ≡ blank → take 1 (past i cs) ≡ blank ∷ []
one_out cs i lt is = ap (λ (l : Spots). take 1 l) (drop-cons cs i away lt) ∙ ap (λ (c : Option (Option ℕ)). c ∷ []) is

one_in : (cs : Spots) (i x : ℕ) → i < length cs → with_part cs i 1 (here x ∷ []) ≡ set cs i (here x)
one_in cs i x lt = let next : i + 1 ≡ suc i = omega arith in ap (λ (k : ℕ). take i cs ++ (here x ∷ past k cs)) next ∙ sym (set_split cs i (here x) lt)

pub write_spec : {M : Type 1} → statement M
write_spec 𝓤 𝓛 𝓜 𝓡 wired =
    let c = f.clauses 𝓛 𝓜.mem 𝓡.returns in let W = walk_of 𝓛 f.ended stayed c in let 𝓣 = tables 𝓤 𝓛.H 𝓜 𝓡 𝓡.env in
    proved 𝓛 f.ended stayed c 𝓜 𝓡
    (Goes-ref 𝓛 1 0 tt (plain (λ _. Cells)), (Goes-dropped 𝓛 1 a_base yes (λ κs x w. refl), (Goes-dropped 𝓛 1 a_number yes (λ κs x w. refl), (Goes-dropped 𝓛 1 a_byte yes (λ κs x w. refl), tt))))
    f.Key.name code.function (code.unfolded 𝓤 𝓛.H 𝓜 𝓡 wired)
    (λ κs. (mut_vals, (λ x. base_told.val x ∷ [], (uint_vals w64, (uint_vals w8, tt))))) (λ κs. (mut_Tells (named 0) κs.0 Cells, (base_told.tells, (uint_Tells w64, (uint_Tells w8, tt))))) (λ κs qs bounds a _ are.
    let κ = κs.0 in let q = qs.0 in let d = a.0.now in let rb = a.0.ref_ptr.0 in let ro = a.0.ref_ptr.1 in let base = a.1.0 in let index = a.1.1.0 in let byte = a.1.1.1.0 in
    let y : W.Ghost = ((κs, qs, bounds, a, (mut_vals a.0, (base_told.val base ∷ [], (vint w64 index ∷ [], (vint w8 byte ∷ [], tt))))), tt) in
    let Asked : Type 0 = (base.ptr ≡ d.at) × (index < length d.slots) × (get_or d.slots index away ≡ blank) in
    qed 𝓛 (((‵ (flft κ q) ⊛ ‵ ftrue) ⊛ ‵ (owns (types_at f.ended.signature.params κs) a y.0.4)) ∷ raw (fact 𝓤 Asked) ∷ []) ∵
    move ! (1 ∷ []) $ heard ! Asked (λ asked. split ! $ split ! $ move ! (2 ∷ []) $ fsplit ! $ fsplit3 ! $ keep ! (1 ∷ 2 ∷ 4 ∷ []) $
    let within : index + 1 ≤ length d.slots = omega (arith, asked.1) in
    let written : Cells.Denot = with_slots d (set d.slots index (here byte)) in let now : Spots = here byte ∷ [] in
    enter ! _ _ _ _ _ $ alloc_all ! (λ l. pass_all ! refl ((tt, tt), (word-Good [] base.ptr, ((tt, record { fits = are.1.1.0.1 }), ((tt, record { fits = are.1.1.1.0.1 }), tt)))) $
    opens ! tt Cells rb ro (λ vs. move ! (1 ∷ []) $ fsplit ! $ move ! (1 ∷ []) $
    in_a_block ! d.at (λ p. region_owns p d.slots) (id⊢ 𝓤 (never 𝓤)) (λ b o e. fsplit ! $ flt_l ! (λ small.
    -- [the places; what the fields own; the owner's cell; the open borrow, in three entries]
    take_at ! 2 $ rewrite ! 0 (λ (p : Ptr). ‵ (fat full_share (layout Base) (l 2) 0 (word p))) (asked.0 ∙ e) refl $ give_at ! 2 $
    first ! $ blocks ! $ sets ! (bin ! (get_in ! (fld ! refl (stop !)) (sub ! 0 refl (whole !))) (get ! refl) tt) refl (tt, tt) $
    use1 𝓛 (‵ (places b (index + o) (take 1 (past index d.slots))) ⊛ ‵ (Outside 𝓛 b d.slots index 1 o)) (run_lifted 𝓛 b d.slots index 1 o within) $ split ! $
    rewrite ! 0 (λ (cs : Spots). ‵ (places b (index + o) cs)) (one_out d.slots index asked.1 asked.2) refl $ fsplit ! $
    assigns_last ! (of_opd ! (get ! refl)) (through ! refl (stop !)) (init ! 0 refl (tt, record { fits = are.1.1.1.0.1 })) $
    exec ! 𝓣.C 𝓣.Λ (env code.Mir.locals l) code.Mir.t-2 (at_ret _ (W.post y)) $ sets ! (of_opd ! (unit_lit !)) refl (tt, tt) $
    use1 𝓛 (‵ (place b (index + o) (here byte))) (uint_in 𝓛 full_share w8 byte b (index + o)) $ fjoin ! $
    use2 𝓛 (‵ (places b o (with_part d.slots index 1 now))) (run_laid 𝓛 b d.slots index 1 o within now refl) $
    rewrite ! 0 (λ (cs : Spots). ‵ (places b o cs)) (one_in d.slots index byte asked.1) refl $
    let long : length written.slots ≡ length d.slots = ap length (sym (one_in d.slots index byte asked.1)) ∙ omega (arith, within, length-append (take index d.slots) (here byte ∷ past (index + 1) d.slots), length-take index d.slots, length-drop (index + 1) d.slots) in
    flt_i ! (length written.slots) (2 ^ 63) (omega (arith, long, small)) $ fjoin ! $ rewrite ! 0 (λ (p : Ptr). ‵ (region_owns p written.slots)) (sym e) refl $
    move ! (1 ∷ 0 ∷ []) $ fjoin ! $ move ! (1 ∷ 0 ∷ []) $ closes ! tt Cells written vs rb ro $
    returns ! (look_at ! 0 refl) $ free_all ! refl $
    -- [two parts of self; the token]
    suffices ! _ (ends_at 𝓛 f.ended stayed c y vunit tt (written, (tt, (tt, (tt, tt)))) (tt, (tt, (tt, (tt, tt))))) $ says ! (refl, refl) $
    feq_i ! (List Val) (vptr rb ro ∷ []) (vptr rb ro ∷ []) refl $ fjoin3 ! $
    nothing ! $ nothing ! $ fjoin ! $ nothing ! $ fjoin ! $ nothing ! $ fjoin ! $ move ! (1 ∷ 0 ∷ []) $ fjoin ! $
    feq_i ! (List Val) (vunit ∷ []) (vunit ∷ []) refl $ move ! (1 ∷ 0 ∷ []) $ join ! $
    nothing ! $ move ! (2 ∷ 0 ∷ []) $ join ! $ frame ! $ done !))))))
