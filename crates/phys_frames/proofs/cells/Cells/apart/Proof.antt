-- `apart` does nothing: that the owners have no place in common follows from what they own. Assumes `Logic`.
use Rattle.phys_frames.proofs.Walking.{◌≡◌, ℕ, ◌<◌, List, [], ◌∷◌, length, map, Option, refl, sym, ap, subst, ◌∙◌, proved, emp, ftrue, flft, named, Val, vptr, vunit, fact, fact_i, fact_use, tables, ‵, raw, ◌⊛◌, given, ◌$◌, ◌∵◌, !, qed, by, move, keep, use2, split, join, fsplit, fsplit3, fjoin, fjoin3, feq_i, learn, rewrite, suffices, frame, enter, of_opd, unit_lit, returns, alloc_all, pass_all, free_all, look_at, sets, owns, mut_vals, mut_Tells, types_at, nothing, opens, closes, heard, Stays, walk_of, says, stay_ref, Goes-ref, ends_at, Cells}
use base.Logic.{guard_i}
use Rattle.std.proofs.lemmas.List.{length-map}
use denote.Signature.{plain}
use Rattle.phys_frames.specs.Homes.{Apart}
use Rattle.phys_frames.specs.Places.{here, AllHere}
use Rattle.phys_frames.specs.Ownership.{region_owns}
use Rattle.phys_frames.proofs.Region.{apart_owners}
use Rattle.phys_frames.specs.contracts.cells.Cells.apart as f
use Rattle.phys_frames.proofs.cells.Cells.apart.Statement.{statement}
use Rattle.phys_frames.proofs.cells.Cells.apart.Code as code

abbrev stayed : Stays f.ended.signature.params f.ended.kept
stayed = (stay_ref (0 ∷ []) tt (plain (λ _. Cells)), (stay_ref (1 ∷ []) tt (plain (λ _. Cells)), tt))

pub apart_spec : {M : Type 1} → statement M
apart_spec 𝓤 𝓛 𝓜 𝓡 wired =
    let c = f.clauses 𝓛 𝓜.mem 𝓡.returns in let W = walk_of 𝓛 f.ended stayed c in let 𝓣 = tables 𝓤 𝓛.H 𝓜 𝓡 𝓡.env in
    proved 𝓛 f.ended stayed c 𝓜 𝓡 (Goes-ref 𝓛 2 0 tt (plain (λ _. Cells)), (Goes-ref 𝓛 2 1 tt (plain (λ _. Cells)), tt))
    f.Key.name code.function (code.unfolded 𝓤 𝓛.H 𝓜 𝓡 wired)
    (λ κs. (mut_vals, (mut_vals, tt))) (λ κs. (mut_Tells (named 0) κs.0 Cells, (mut_Tells (named 1) κs.1.0 Cells, tt))) (λ κs qs bounds a _ are.
    let d = a.0.now in let rb = a.0.ref_ptr.0 in let ro = a.0.ref_ptr.1 in let e = a.1.0.now in let sb = a.1.0.ref_ptr.0 in let so = a.1.0.ref_ptr.1 in
    let y : W.Ghost = ((κs, qs, bounds, a, (mut_vals a.0, (mut_vals a.1.0, tt))), tt) in
    let Own : Type 0 = AllHere d.slots × (0 < length d.slots) in let Others : Type 0 = AllHere e.slots × (0 < length e.slots) in
    qed 𝓛 (((‵ (flft κs.0 qs.0) ⊛ ‵ (flft κs.1.0 qs.1.0) ⊛ ‵ ftrue) ⊛ ‵ (owns (types_at f.ended.signature.params κs) a y.0.4)) ∷ (raw (fact 𝓤 Own) ⊛ raw (fact 𝓤 Others)) ∷ []) ∵
    move ! (1 ∷ []) $ split ! $ heard ! Own (λ own. heard ! Others (λ others. split ! $ split ! $ move ! (2 ∷ []) $ fsplit ! $ fsplit3 ! $ move ! (3 ∷ []) $ fsplit ! $ fsplit3 ! $
    move ! (8 ∷ []) $ split ! $ keep ! (7 ∷ 8 ∷ 9 ∷ 3 ∷ 4 ∷ 0 ∷ []) $
    enter ! _ _ _ _ _ $ alloc_all ! (λ l. pass_all ! refl ((tt, tt), ((tt, tt), tt)) $ sets ! (of_opd ! (unit_lit !)) refl (tt, tt) $
    opens ! tt Cells rb ro (λ vs. move ! (5 ∷ 6 ∷ 7 ∷ []) $ opens ! tt Cells sb so (λ us. move ! (6 ∷ []) $ fsplit ! $ move ! (3 ∷ []) $ fsplit ! $
    let xs : List ℕ = own.0.0 in let ys : List ℕ = others.0.0 in
    let count : length xs ≡ length d.slots = sym (ap length own.0.1 ∙ length-map xs here) in let counts : length ys ≡ length e.slots = sym (ap length others.0.1 ∙ length-map ys here) in
    let Far : Type 0 = Apart d.at (length xs) e.at (length ys) in let Mine = λ (cs : List (Option (Option ℕ))). region_owns d.at cs in let Theirs = λ (cs : List (Option (Option ℕ))). region_owns e.at cs in
    move ! (3 ∷ 1 ∷ []) $ rewrite ! 0 (λ (cs : List (Option (Option ℕ))). ‵ (Mine cs)) own.0.1 refl $ rewrite ! 1 (λ (cs : List (Option (Option ℕ))). ‵ (Theirs cs)) others.0.1 refl $
    use2 𝓛 (given Far (‵ (Mine (map here xs)) ⊛ ‵ (Theirs (map here ys)))) (fact_use 𝓤 Far (apart_owners 𝓛 𝓜 xs ys (subst (λ (k : ℕ). 0 < k) (sym count) own.1) (subst (λ (k : ℕ). 0 < k) (sym counts) others.1) d.at e.at) (λ far. guard_i 𝓤 Far _ far)) $ learn ! (λ far. split ! $
    rewrite ! 0 (λ (cs : List (Option (Option ℕ))). ‵ (Mine cs)) (sym own.0.1) refl $ rewrite ! 1 (λ (cs : List (Option (Option ℕ))). ‵ (Theirs cs)) (sym others.0.1) refl $
    move ! (2 ∷ 1 ∷ []) $ fjoin ! $ move ! (3 ∷ 0 ∷ 4 ∷ 5 ∷ 6 ∷ []) $ closes ! tt Cells e us sb so $
    move ! (4 ∷ 3 ∷ []) $ fjoin ! $ move ! (4 ∷ 0 ∷ 5 ∷ 6 ∷ 7 ∷ []) $ closes ! tt Cells d vs rb ro $
    -- [two parts of self; its token; two parts of the other; its token]
    returns ! (look_at ! 0 refl) $ free_all ! refl $
    suffices ! _ (ends_at 𝓛 f.ended stayed c y vunit tt (d, (e, tt)) (tt, (tt, tt))) $
    feq_i ! (List Val) (vptr rb ro ∷ []) (vptr rb ro ∷ []) refl $ fjoin3 ! $ move ! (2 ∷ 3 ∷ []) $ feq_i ! (List Val) (vptr sb so ∷ []) (vptr sb so ∷ []) refl $ fjoin3 ! $
    nothing ! $ move ! (1 ∷ 0 ∷ []) $ fjoin ! $ move ! (1 ∷ 0 ∷ []) $ fjoin ! $ feq_i ! (List Val) (vunit ∷ []) (vunit ∷ []) refl $ move ! (1 ∷ 0 ∷ []) $ join ! $
    nothing ! $ move ! (3 ∷ 0 ∷ []) $ join ! $ move ! (2 ∷ 0 ∷ []) $ join ! $ join ! $ frame ! $ says ! (refl, refl) $
    by ! (fact_i 𝓤 (Apart d.at (length d.slots) e.at (length e.slots)) (emp 𝓤) (subst (λ (k : ℕ × ℕ). Apart d.at k.0 e.at k.1) (λ i. (count i, counts i)) far)))))))))
