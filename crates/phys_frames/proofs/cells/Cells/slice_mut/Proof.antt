-- `slice_mut` lends the bytes of a run, and the owner of the places ends with what is left behind. Assumes `Logic`.
use Rattle.phys_frames.proofs.Walking.{◌≡◌, ℕ, ◌+◌, ◌*◌, ◌^◌, ◌<◌, ◌≤◌, List, [], ◌∷◌, ◌++◌, length, map, take, refl, sym, ap, subst, ◌∙◌, arith, w64, MutBor, proved, full_share, ent, sep, never, id⊢, Fml, GName, ftrue, fsep, fat, flft, Ura, named, Val, vint, fact, tables, Logic, sem, Item, ‵, raw, ◌⊛◌, some, later, at_ret, ◌$◌, ◌∵◌, !, qed, done, move, keep, use1, use2, split, join, group, fsplit, fsplit3, fjoin, fjoin3, fpack, flt_i, flt_l, pick, await, rewrite, suffices, frame, whole, sub, agg, enter, of_opd, bin, stop, fld, no_more, and_then, first, blocks, exec, returns, alloc_all, pass_all, free_all, look_at, get, get_in, sets, sets_last, env, u8, owns, cell_at, mem, Ptr, block_ptr, in_a_block, mut_vals, mut_Tells, uint_vals, uint_Tells, types_at, nothing, opens, heard, Stays, walk_of, says, stay_dropped, Goes-dropped, ends_at, word, word-Good, Base, Cells, base_told, lent_cells, a_base, a_number}
use Rattle.std.proofs.Common.{drop as past}
use Rattle.std.proofs.lemmas.List.{length-map, length-take, length-drop, length-append}
use Rattle.std.proofs.Math.Seq.{take-append_seam}
use Rattle.std.specs.List.{refill}
use types.ByLocal.{take_at, give_at}
use types.SemTy.{cells}
use denote.Array.{Array}
use denote.Exit.{yes, no}
use denote.Follow.{follows}
use denote.FollowSlice.{Elements, lends_Elements}
use denote.Memory.{part_of}
use denote.Param.{layout}
use denote.Slice.{MutSlice, slice_val}
use denote.Struct.Owning.{shape, to}
use denote.Struct.Struct.{Struct}
use Rattle.phys_frames.specs.Places.{here, heres, IsRun}
use Rattle.phys_frames.specs.Ownership.{places, region_owns}
use Rattle.phys_frames.specs.Lends.{with_slots, spliced}
use Rattle.phys_frames.specs.contracts.cells.Cells as owner
use Rattle.phys_frames.proofs.Region.{Outside, run_lifted, run_laid, as_elements, as_places}
use Rattle.phys_frames.specs.contracts.cells.Cells.slice_mut as f
use Rattle.phys_frames.proofs.cells.Cells.slice_mut.Statement.{statement}
use Rattle.phys_frames.proofs.cells.Cells.slice_mut.Code as code

abbrev stayed : Stays f.ended.signature.params f.ended.kept
stayed = (stay_dropped lent_cells no, (stay_dropped a_base yes, (stay_dropped a_number yes, (stay_dropped a_number yes, tt))))

-- the owner once ws was left in the run
abbrev ends : Cells.Denot → ℕ → ℕ → List ℕ → Cells.Denot
ends d from len ws = with_slots d (spliced d.slots from len (refill len (heres (take len (past from d.slots))) ws))

module _ {M : Type 1} {𝓤 : Ura M} (𝓛 : Logic 𝓤) (d : Cells.Denot) (from len : ℕ) (vs : List Val) (rb ro b o : ℕ) where
  -- all of the owner but the run
  abbrev Others : Fml
  Others = fsep (Outside 𝓛 b d.slots from len o) (fsep ((Struct (shape owner.the_type)).own_val (to owner.the_type d) vs) (cell_at full_share Cells.mir vs rb ro))

  brought : d.at ≡ block_ptr b o → from + len ≤ length d.slots → length d.slots < 2 ^ 63 → (ws : List ℕ) → length ws ≡ len
      → ent 𝓤 (sep 𝓤 (sem 𝓛 (cells (mem u8) ws b (from + o))) (sem 𝓛 Others)) (sem 𝓛 ((mem Cells).own_at (ends d from len ws) rb ro))
  unfolding part_of
  brought e within small ws count =
      let old = heres (take len (past from d.slots)) in let rest = past (from + len) d.slots in
      let all : refill len old ws ≡ ws = ap (λ (k : ℕ). take k (ws ++ past (length ws) old)) (sym count) ∙ take-append_seam ws (past (length ws) old) in
      let size : length (ends d from len ws).slots ≡ length d.slots = ap (λ (l : List ℕ). length (spliced d.slots from len l)) all
      ∙ omega (arith, length-append (take from d.slots) (map here ws ++ rest), length-append (map here ws) rest, length-map ws here, length-take from d.slots, length-drop (from + len) d.slots) in
      qed 𝓛 (‵ (cells (mem u8) ws b (from + o)) ∷ ‵ Others ∷ []) ∵ use1 𝓛 (‵ (places b (from + o) (map here ws))) (as_places 𝓛 b ws (from + o)) $
      move ! (1 ∷ []) $ fsplit3 ! $ move ! (3 ∷ 0 ∷ []) $
      use2 𝓛 (‵ (places b o (spliced d.slots from len ws))) (run_laid 𝓛 b d.slots from len o within (map here ws) (length-map ws here ∙ count)) $
      rewrite ! 0 (λ (l : List ℕ). ‵ (places b o (spliced d.slots from len l))) (sym all) refl $
      flt_i ! (length (ends d from len ws).slots) (2 ^ 63) (subst (λ (k : ℕ). k < 2 ^ 63) (sym size) small) $ fjoin ! $
      rewrite ! 0 (λ (p : Ptr). ‵ (region_owns p (ends d from len ws).slots)) (sym e) refl $ move ! (1 ∷ 0 ∷ []) $ fjoin ! $ move ! (1 ∷ 0 ∷ []) $ fjoin ! $
      fpack ! (List Val) (λ us. fsep (cell_at full_share Cells.mir us rb ro) (Cells.own_val (ends d from len ws) us)) vs $ done !

pub slice_mut_spec : {M : Type 1} → statement M
slice_mut_spec 𝓤 𝓛 𝓜 𝓡 wired =
    let c = f.clauses 𝓛 𝓜.mem 𝓡.returns in let W = walk_of 𝓛 f.ended stayed c in let 𝓣 = tables 𝓤 𝓛.H 𝓜 𝓡 𝓡.env in
    proved 𝓛 f.ended stayed c 𝓜 𝓡
    (Goes-dropped 𝓛 1 lent_cells no (λ κs x w. refl), (Goes-dropped 𝓛 1 a_base yes (λ κs x w. refl), (Goes-dropped 𝓛 1 a_number yes (λ κs x w. refl), (Goes-dropped 𝓛 1 a_number yes (λ κs x w. refl), tt))))
    f.Key.name code.function (code.unfolded 𝓤 𝓛.H 𝓜 𝓡 wired)
    (λ κs. (mut_vals, (λ x. base_told.val x ∷ [], (uint_vals w64, (uint_vals w64, tt))))) (λ κs. (mut_Tells (named 0) κs.0 Cells, (base_told.tells, (uint_Tells w64, (uint_Tells w64, tt))))) (λ κs qs bounds a _ are.
    let κ = κs.0 in let q = qs.0 in let d = a.0.now in let rb = a.0.ref_ptr.0 in let ro = a.0.ref_ptr.1 in let base = a.1.0 in let from = a.1.1.0 in let len = a.1.1.1.0 in
    let y : W.Ghost = ((κs, qs, bounds, a, (mut_vals a.0, (base_told.val base ∷ [], (vint w64 from ∷ [], (vint w64 len ∷ [], tt))))), tt) in
    let Asked : Type 0 = (base.ptr ≡ d.at) × IsRun d.slots from len in
    qed 𝓛 (((‵ (flft κ q) ⊛ ‵ ftrue) ⊛ ‵ (owns (types_at f.ended.signature.params κs) a y.0.4)) ∷ raw (fact 𝓤 Asked) ∷ []) ∵
    move ! (1 ∷ []) $ heard ! Asked (λ asked. split ! $ split ! $ move ! (2 ∷ []) $ fsplit ! $ fsplit3 ! $ keep ! (1 ∷ 2 ∷ 4 ∷ []) $
    let xs : List ℕ = asked.1.1.0 in let run = asked.1.1.1 in
    let within : from + len ≤ length d.slots = asked.1.0 in
    let count : length xs ≡ len = omega (arith, ap length run, length-map xs here, length-take len (past from d.slots), length-drop from d.slots) in
    enter ! _ _ _ _ _ $ alloc_all ! (λ l. pass_all ! refl ((tt, tt), (word-Good [] base.ptr, ((tt, record { fits = are.1.1.0.1 }), ((tt, record { fits = are.1.1.1.0.1 }), tt)))) $
    opens ! tt Cells rb ro (λ vs. move ! (1 ∷ []) $ fsplit ! $ move ! (1 ∷ []) $
    in_a_block ! d.at (λ p. region_owns p d.slots) (id⊢ 𝓤 (never 𝓤)) (λ b o e. fsplit ! $ flt_l ! (λ small.
    -- [the places; what the fields own; the owner's cell; the open borrow, in three entries]
    take_at ! 2 $ rewrite ! 0 (λ (p : Ptr). ‵ (fat full_share (layout Base) (l 2) 0 (word p))) (asked.0 ∙ e) refl $ give_at ! 2 $
    first ! $ blocks ! $ sets ! (bin ! (get_in ! (fld ! refl (stop !)) (sub ! 0 refl (whole !))) (get ! refl) tt) refl (tt, tt) $
    use1 𝓛 (‵ (places b (from + o) (take len (past from d.slots))) ⊛ ‵ (Outside 𝓛 b d.slots from len o)) (run_lifted 𝓛 b d.slots from len o within) $ split ! $
    rewrite ! 0 (λ cs. ‵ (places b (from + o) cs)) run refl $ use1 𝓛 (‵ (cells (mem u8) xs b (from + o))) (as_elements 𝓛 b xs (from + o)) $
    sets_last ! (agg ! (and_then ! (get ! refl) (and_then ! (get ! refl) (no_more !)))) refl (tt, (tt, (record { fits = are.1.1.1.0.1 }, tt))) $
    exec ! 𝓣.C 𝓣.Λ (env code.Mir.locals l) code.Mir.t-2 (at_ret _ (W.post y)) $
    sets ! (of_opd ! (get ! refl)) refl (tt, (tt, (record { fits = are.1.1.1.0.1 }, tt))) $
    -- [the run; those around it; what the fields own; the owner's cell; the open borrow]
    let at : ℕ = from + o in let γ = a.0.ghost_name in let code' = Cells.coded.code d in
    let few : length xs < 2 ^ 64 = omega (arith, small, count, within) in let fitting : length xs * 1 < 2 ^ 63 = omega (arith, small, count, within) in
    let way = λ (ws : List ℕ) (same : length ws ≡ length xs). brought 𝓛 d from len vs rb ro b o e within small ws (same ∙ count) in
    move ! (1 ∷ 2 ∷ 3 ∷ []) $ fjoin3 ! $ move ! (2 ∷ 3 ∷ 4 ∷ 1 ∷ 0 ∷ []) $ group ! 5 $
    use1 𝓛 (later (some (λ (δ : GName). raw (Elements 𝓛 Cells u8 (ends d from len) (named 0) κ q rb ro b at γ xs (few, fitting) (sem 𝓛 (Others 𝓛 d from len vs rb ro b o)) way δ))))
    (lends_Elements 𝓛 Cells u8 (ends d from len) (named 0) κ q rb ro b at γ xs (few, fitting) (sem 𝓛 (Others 𝓛 d from len vs rb ro b o)) way code' code') $ await ! tt $ pick ! (λ δ.
    let r : MutBor (List ℕ) = record { ref_ptr = (b, at); ghost_name = δ; now = xs } in let Lent : ℕ → Item 𝓤 = λ k. ‵ ((MutSlice (named 0) κ u8).own_val r (slice_val (b, at) k ∷ [])) in
    use1 𝓛 (Lent (length xs) ⊛ ‵ (flft κ q) ⊛ ‵ (follows Cells (Array u8 0) γ δ (ends d from len))) (id⊢ 𝓤 _) $ split ! $ move ! (1 ∷ []) $ split ! $ move ! (2 ∷ []) $
    rewrite ! 0 Lent count refl $ returns ! (look_at ! 0 refl) $ free_all ! refl $
    -- [the slice; the token; what follows it]
    suffices ! _ (ends_at 𝓛 f.ended stayed c y (slice_val (b, at) len) r (tt, (tt, (tt, (tt, tt)))) (tt, (tt, (tt, (tt, tt))))) $
    nothing ! $ nothing ! $ fjoin ! $ nothing ! $ fjoin ! $ nothing ! $ fjoin ! $ nothing ! $ fjoin ! $ join ! $
    nothing ! $ move ! (2 ∷ 0 ∷ []) $ join ! $ join ! $ frame ! $ says ! run $ done !)))))))
