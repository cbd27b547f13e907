-- `differ` does nothing: that the keys are different follows from what the deeds own. Assumes `Logic`.
use Rattle.phys_frames.proofs.Walking.{◌≡◌, List, [], ◌∷◌, refl, proved, emp, ftrue, flft, named, Val, vptr, vunit, fact_i, tables, ‵, ◌⊛◌, given, later, ◌$◌, ◌∵◌, !, qed, by, move, keep, use2, split, join, fsplit, fsplit3, fjoin, fjoin3, feq_i, learn, await, suffices, frame, enter, of_opd, unit_lit, returns, alloc_all, pass_all, free_all, look_at, sets, owns, mut_vals, mut_Tells, types_at, nothing, opens, closes, Stays, walk_of, says, stay_ref, Goes-ref, ends_at, Deed}
use denote.Signature.{plain}
use Rattle.phys_frames.specs.Ownership.{key_owns}
use Rattle.phys_frames.proofs.Keys.{keys_differ}
use Rattle.phys_frames.specs.contracts.cells.Deed.differ as f
use Rattle.phys_frames.proofs.cells.Deed.differ.Statement.{statement}
use Rattle.phys_frames.proofs.cells.Deed.differ.Code as code

abbrev stayed : Stays f.ended.signature.params f.ended.kept
stayed = (stay_ref (0 ∷ []) tt (plain (λ _. Deed)), (stay_ref (1 ∷ []) tt (plain (λ _. Deed)), tt))

pub differ_spec : {M : Type 1} → statement M
differ_spec 𝓤 𝓛 𝓜 𝓡 wired =
    let c = f.clauses 𝓛 𝓜.mem 𝓡.returns in let W = walk_of 𝓛 f.ended stayed c in let 𝓣 = tables 𝓤 𝓛.H 𝓜 𝓡 𝓡.env in
    proved 𝓛 f.ended stayed c 𝓜 𝓡 (Goes-ref 𝓛 2 0 tt (plain (λ _. Deed)), (Goes-ref 𝓛 2 1 tt (plain (λ _. Deed)), tt))
    f.Key.name code.function (code.unfolded 𝓤 𝓛.H 𝓜 𝓡 wired)
    (λ κs. (mut_vals, (mut_vals, tt))) (λ κs. (mut_Tells (named 0) κs.0 Deed, (mut_Tells (named 1) κs.1.0 Deed, tt))) (λ κs qs bounds a _ are.
    let d = a.0.now in let rb = a.0.ref_ptr.0 in let ro = a.0.ref_ptr.1 in let e = a.1.0.now in let sb = a.1.0.ref_ptr.0 in let so = a.1.0.ref_ptr.1 in
    let y : W.Ghost = ((κs, qs, bounds, a, (mut_vals a.0, (mut_vals a.1.0, tt))), tt) in
    qed 𝓛 (((‵ (flft κs.0 qs.0) ⊛ ‵ (flft κs.1.0 qs.1.0) ⊛ ‵ ftrue) ⊛ ‵ (owns (types_at f.ended.signature.params κs) a y.0.4)) ∷ ‵ ftrue ∷ []) ∵
    split ! $ split ! $ move ! (2 ∷ []) $ fsplit ! $ fsplit3 ! $ move ! (3 ∷ []) $ fsplit ! $ fsplit3 ! $
    move ! (8 ∷ []) $ split ! $ keep ! (7 ∷ 8 ∷ 9 ∷ 3 ∷ 4 ∷ 0 ∷ []) $
    enter ! _ _ _ _ _ $ alloc_all ! (λ l. pass_all ! refl ((tt, tt), ((tt, tt), tt)) $ sets ! (of_opd ! (unit_lit !)) refl (tt, tt) $
    opens ! tt Deed rb ro (λ vs. move ! (5 ∷ 6 ∷ 7 ∷ []) $ opens ! tt Deed sb so (λ us. move ! (6 ∷ []) $ fsplit ! $ move ! (1 ∷ []) $ fsplit ! $ move ! (4 ∷ []) $ fsplit ! $ move ! (1 ∷ []) $ fsplit ! $
    -- [the other's right to free, its key and what its fields own; the same of self; the other's cell and its open borrow; those of self]
    move ! (4 ∷ 1 ∷ []) $ use2 𝓛 (later (given (d.key ≡ e.key → ⊥) (‵ (key_owns d.key) ⊛ ‵ (key_owns e.key)))) (keys_differ 𝓛 d.key e.key) $ await ! tt $ learn ! (λ apart. split ! $
    move ! (2 ∷ 1 ∷ []) $ fjoin ! $ move ! (2 ∷ 0 ∷ []) $ fjoin ! $ move ! (4 ∷ 0 ∷ 5 ∷ 6 ∷ 7 ∷ []) $ closes ! tt Deed e us sb so $
    move ! (4 ∷ 3 ∷ []) $ fjoin ! $ move ! (4 ∷ 0 ∷ []) $ fjoin ! $ move ! (4 ∷ 0 ∷ 5 ∷ 6 ∷ 7 ∷ []) $ closes ! tt Deed d vs rb ro $
    -- [two parts of self; its token; two parts of the other; its token]
    returns ! (look_at ! 0 refl) $ free_all ! refl $
    suffices ! _ (ends_at 𝓛 f.ended stayed c y vunit tt (d, (e, tt)) (tt, (tt, tt))) $
    feq_i ! (List Val) (vptr rb ro ∷ []) (vptr rb ro ∷ []) refl $ fjoin3 ! $ move ! (2 ∷ 3 ∷ []) $ feq_i ! (List Val) (vptr sb so ∷ []) (vptr sb so ∷ []) refl $ fjoin3 ! $
    nothing ! $ move ! (1 ∷ 0 ∷ []) $ fjoin ! $ move ! (1 ∷ 0 ∷ []) $ fjoin ! $ feq_i ! (List Val) (vunit ∷ []) (vunit ∷ []) refl $ move ! (1 ∷ 0 ∷ []) $ join ! $
    nothing ! $ move ! (3 ∷ 0 ∷ []) $ join ! $ move ! (2 ∷ 0 ∷ []) $ join ! $ join ! $ frame ! $ says ! (refl, refl) $
    by ! (fact_i 𝓤 (d.key ≡ e.key → ⊥) (emp 𝓤) apart))))))
