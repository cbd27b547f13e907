-- What is owned of places, taken apart and put together. Assumes `Logic`.
--     run_lifted, run_laid      a run of places, and those around it
--     aways, none_here, apart_owners      places that are away own nothing;  what is owned twice is away;  two owners have no byte in common
--     as_elements, as_places, run_lent        bytes as the elements of a slice
--     blanks_of_room, room_of_bytes      the room of a block
use Rattle.std.proofs.Common.{◌≡◌, ℕ, zero, suc, ◌+◌, ◌-◌, ◌<◌, ◌≤◌, ◌⊎◌, inl, inr, List, [], ◌∷◌, ◌++◌, length, map, take, drop, replicate, Option, Some, None, refl, sym, ap, subst, ◌∙◌, arith, w8}
use Rattle.std.proofs.lemmas.List.{length-take, length-drop, take-append-drop}
use Rattle.std.proofs.Math.Seq.{drop-drop}
use seplogic.Ra.Ura.{Ura}
use base.Fraction.{full_share}
use base.Logic.{ent, sep, emp, never, never_e, via, id⊢, mono_r, fst∗, snd∗}
use base.Fml.{Lft, Fml, ftrue, fsep, froom}
use contract.Monad.{fact, fact_i, fact_mono}
use mir.Syntax.{ty_array, ty_int}
use mir.Val.{vint}
use prog.Model.{Model}
use types.Kit.{‵, ◌⊛◌, ◌$◌, ◌∵◌, !, qed, by, move, keep, drop as skip, use0, use1, use2, split, fsplit, fjoin, frame, rewrite, done}
use types.Logic.{Logic, sem}
use types.SemTy.{cells}
use denote.Builtin.{u8}
use denote.Memory.{mem}
use denote.Plain.{uint_out}
use denote.RawPtr.{Ptr, block_ptr, null_ptr}
use denote.Slice.{elements_shared}
use denote.Steps.{nothing}
use Rattle.phys_frames.specs.Places.{here, blank, away, with_part}
use Rattle.phys_frames.specs.Homes.{Apart}
use Rattle.phys_frames.specs.Ownership.{place, places, place_lent, places_lent, region_owns}

abbrev Spots : Type 0
Spots = List (Option (Option ℕ))

pub order : (a b : ℕ) → (a ≤ b) ⊎ (b < a)
order zero b = inl (omega arith)
order (suc a) zero = inr (omega arith)
order (suc a) (suc b) = elim (order a b) [ inl le ↦ inl (omega (arith, le)) | inr lt ↦ inr (omega (arith, lt)) ]

module _ {M : Type 1} {𝓤 : Ura M} (𝓛 : Logic 𝓤) (b : ℕ) where
  open 𝓛 use {H}

  opened : (i : ℕ) (cs : Spots) (o at : ℕ) → i ≤ length cs → at ≡ i + o → ent 𝓤 (sem 𝓛 (places b o cs)) (sep 𝓤 (sem 𝓛 (places b o (take i cs))) (sem 𝓛 (places b at (drop i cs))))
  opened zero cs o at le e = qed 𝓛 (‵ (places b o cs) ∷ []) ∵ rewrite ! 0 (λ (k : ℕ). ‵ (places b k cs)) {x = at} (omega (arith, e)) refl $ nothing ! $ done !
  opened (suc i) [] o at le e = absurd (omega arith)
  opened (suc i) (c ∷ cs) o at le e =
      qed 𝓛 (‵ (place b o c) ∷ ‵ (places b (o + 1) cs) ∷ []) ∵ move ! (1 ∷ []) $ use1 𝓛 (‵ (places b (o + 1) (take i cs)) ⊛ ‵ (places b at (drop i cs))) (opened i cs (o + 1) at (omega arith) (omega (arith, e))) $
      split ! $ move ! (2 ∷ 0 ∷ []) $ fjoin ! $ done !

  laid : (xs ys : Spots) (o at : ℕ) → at ≡ length xs + o → ent 𝓤 (sep 𝓤 (sem 𝓛 (places b o xs)) (sem 𝓛 (places b at ys))) (sem 𝓛 (places b o (xs ++ ys)))
  laid [] ys o at e = qed 𝓛 (‵ ftrue ∷ ‵ (places b at ys) ∷ []) ∵ skip ! $ rewrite ! 0 (λ (k : ℕ). ‵ (places b k ys)) {x = o} (omega arith) refl $ done !
  laid (x ∷ xs) ys o at e = let more : at ≡ suc (length xs) + o = e in
      qed 𝓛 (‵ (places b o (x ∷ xs)) ∷ ‵ (places b at ys) ∷ []) ∵ fsplit ! $ move ! (1 ∷ 2 ∷ []) $
      use2 𝓛 (‵ (places b (o + 1) (xs ++ ys))) (laid xs ys (o + 1) at (omega arith)) $ move ! (1 ∷ 0 ∷ []) $ fjoin ! $ done !

  module _ (cs : Spots) (i n o : ℕ) where
    -- the places but for the n from the i-th on
    abbrev pub Outside : Fml
    Outside = fsep (places b o (take i cs)) (places b (n + (i + o)) (drop (i + n) cs))

    pub run_lifted : i + n ≤ length cs → ent 𝓤 (sem 𝓛 (places b o cs)) (sep 𝓤 (sem 𝓛 (places b (i + o) (take n (drop i cs)))) (sem 𝓛 Outside))
    run_lifted le =
        let rest : Spots = drop n (drop i cs) in
        qed 𝓛 (‵ (places b o cs) ∷ []) ∵ use1 𝓛 (‵ (places b o (take i cs)) ⊛ ‵ (places b (i + o) (drop i cs))) (opened i cs o (i + o) (omega (arith, le)) refl) $ split ! $ move ! (1 ∷ []) $
        use1 𝓛 (‵ (places b (i + o) (take n (drop i cs))) ⊛ ‵ (places b (n + (i + o)) rest)) (opened n (drop i cs) (i + o) (n + (i + o)) (omega (arith, le, length-drop i cs)) refl) $ split ! $ move ! (1 ∷ []) $
        rewrite ! 0 (λ (l : Spots). ‵ (places b (n + (i + o)) l)) (drop-drop n i cs) refl $ move ! (2 ∷ 0 ∷ []) $ fjoin ! $ move ! (1 ∷ []) $ done !

    pub run_laid : i + n ≤ length cs → (ds : Spots) → length ds ≡ n → ent 𝓤 (sep 𝓤 (sem 𝓛 (places b (i + o) ds)) (sem 𝓛 Outside)) (sem 𝓛 (places b o (with_part cs i n ds)))
    run_laid le ds count =
        let rest = drop (i + n) cs in
        qed 𝓛 (‵ (places b (i + o) ds) ∷ ‵ Outside ∷ []) ∵ move ! (1 ∷ []) $ fsplit ! $ move ! (2 ∷ 1 ∷ []) $
        use2 𝓛 (‵ (places b (i + o) (ds ++ rest))) (laid ds rest (i + o) (n + (i + o)) (omega (arith, count))) $ move ! (1 ∷ 0 ∷ []) $
        by ! (laid (take i cs) (ds ++ rest) o (i + o) (omega (arith, length-take i cs)))

  pub aways : (n o : ℕ) → ent 𝓤 (emp 𝓤) (sem 𝓛 (places b o (replicate n away)))
  aways zero o = id⊢ 𝓤 (emp 𝓤)
  aways (suc n) o = qed 𝓛 [] ∵ use0 𝓛 (‵ (places b (o + 1) (replicate n away))) (aways n (o + 1)) $ nothing ! $ fjoin ! $ done !

  pub as_elements : (xs : List ℕ) (o : ℕ) → ent 𝓤 (sem 𝓛 (places b o (map here xs))) (sem 𝓛 (cells (mem u8) xs b o))
  as_elements [] o = id⊢ 𝓤 (emp 𝓤)
  as_elements (x ∷ xs) o = mono_r 𝓤 (sem 𝓛 (place b o (here x))) (as_elements xs (o + 1))

  pub as_places : (xs : List ℕ) (o : ℕ) → ent 𝓤 (sem 𝓛 (cells (mem u8) xs b o)) (sem 𝓛 (places b o (map here xs)))
  as_places [] o = id⊢ 𝓤 (emp 𝓤)
  as_places (x ∷ xs) o = mono_r 𝓤 (sem 𝓛 (place b o (here x))) (as_places xs (o + 1))

  pub blanks_of_room : (n o : ℕ) → ent 𝓤 (H.room (ty_array (ty_int w8) n) b o) (sem 𝓛 (places b o (replicate n blank)))
  blanks_of_room zero o = qed 𝓛 (‵ (froom (ty_array (ty_int w8) 0) b o) ∷ []) ∵ keep ! [] $ done !
  blanks_of_room (suc n) o = qed 𝓛 (‵ (froom (ty_array (ty_int w8) (suc n)) b o) ∷ []) ∵
      use1 𝓛 (‵ (froom (ty_int w8) b o) ⊛ ‵ (froom (ty_array (ty_int w8) n) b (o + 1))) (𝓛.laws.room_uncons (ty_int w8) n b o) $ split ! $ frame ! $ by ! (blanks_of_room n (o + 1))

  byte_room : (x o : ℕ) → ent 𝓤 (sem 𝓛 (place b o (here x))) (H.room (ty_int w8) b o)
  byte_room x o = via 𝓤 (H.at full_share (ty_int w8) b o (vint w8 x)) (uint_out 𝓛 full_share w8 x b o) (𝓛.laws.at_room (ty_int w8) b o (vint w8 x))

  pub room_of_bytes : (xs : List ℕ) (o : ℕ) → ent 𝓤 (sem 𝓛 (places b o (map here xs))) (H.room (ty_array (ty_int w8) (length xs)) b o)
  room_of_bytes [] o = 𝓛.laws.room_nil (ty_int w8) b o
  room_of_bytes (x ∷ xs) o = qed 𝓛 (‵ (place b o (here x)) ∷ ‵ (places b (o + 1) (map here xs)) ∷ []) ∵
      use1 𝓛 (‵ (froom (ty_int w8) b o)) (byte_room x o) $ move ! (1 ∷ []) $
      use1 𝓛 (‵ (froom (ty_array (ty_int w8) (length xs)) b (o + 1))) (room_of_bytes xs (o + 1)) $ move ! (1 ∷ []) $ by ! (𝓛.laws.room_cons (ty_int w8) (length xs) b o)

  -- the room of one byte of the run
  room_of : (xs : List ℕ) (k o at : ℕ) → k < length xs → at ≡ k + o → ent 𝓤 (sem 𝓛 (places b o (map here xs))) (H.room (ty_int w8) b at)
  room_of [] k o at lt e = absurd (omega arith)
  room_of (x ∷ xs) zero o at lt e = let same : o ≡ at = omega arith in
      qed 𝓛 (‵ (place b o (here x)) ∷ ‵ (places b (o + 1) (map here xs)) ∷ []) ∵ use1 𝓛 (‵ (froom (ty_int w8) b o)) (byte_room x o) $
      rewrite ! 0 (λ (k : ℕ). ‵ (froom (ty_int w8) b k)) same refl $ keep ! (0 ∷ []) $ done !
  room_of (x ∷ xs) (suc k) o at lt e = via 𝓤 (sem 𝓛 (places b (o + 1) (map here xs))) (snd∗ 𝓤 (sem 𝓛 (place b o (here x))) (sem 𝓛 (places b (o + 1) (map here xs)))) (room_of xs k (o + 1) at (omega arith) (omega arith))

  module _ (𝓜 : Model 𝓤 H) where
    -- one byte has one owner
    clash : (o : ℕ) → ent 𝓤 (sep 𝓤 (H.room (ty_int w8) b o) (H.room (ty_int w8) b o)) (never 𝓤)
    clash o = 𝓜.room-room (ty_int w8) (ty_int w8) b o o o (omega arith, omega arith) (omega arith, omega arith)

    pub shared_byte : (xs ys : List ℕ) (k l o u : ℕ) → k < length xs → l < length ys → l + u ≡ k + o → ent 𝓤 (sep 𝓤 (sem 𝓛 (places b o (map here xs))) (sem 𝓛 (places b u (map here ys)))) (never 𝓤)
    shared_byte xs ys k l o u lk ll e = qed 𝓛 (‵ (places b o (map here xs)) ∷ ‵ (places b u (map here ys)) ∷ []) ∵
        use1 𝓛 (‵ (froom (ty_int w8) b (k + o))) (room_of xs k o (k + o) lk refl) $ move ! (1 ∷ []) $
        use1 𝓛 (‵ (froom (ty_int w8) b (k + o))) (room_of ys l u (k + o) ll (sym e)) $ by ! (clash (k + o))

    pub none_here : (xs : List ℕ) (cs : Spots) (o : ℕ) → length cs ≡ length xs → ent 𝓤 (sep 𝓤 (sem 𝓛 (places b o (map here xs))) (sem 𝓛 (places b o cs))) (fact 𝓤 (cs ≡ replicate (length xs) away))
    none_here [] [] o e = fact_i 𝓤 ([] ≡ []) _ refl
    none_here [] (c ∷ cs) o e = absurd (omega arith)
    none_here (x ∷ xs) [] o e = absurd (omega arith)
    none_here (x ∷ xs) (None ∷ cs) o e =
        let count : length cs ≡ length xs = omega arith in
        qed 𝓛 (‵ (places b o (map here (x ∷ xs))) ∷ ‵ (places b o (None ∷ cs)) ∷ []) ∵ fsplit ! $ move ! (2 ∷ []) $ fsplit ! $ keep ! (3 ∷ 1 ∷ []) $
        by ! (via 𝓤 _ (none_here xs cs (o + 1) count) (fact_mono 𝓤 (cs ≡ replicate (length xs) away) (None ∷ cs ≡ replicate (suc (length xs)) away) (λ same. ap (λ (l : Spots). None ∷ l) same)))
    none_here (x ∷ xs) (Some None ∷ cs) o e =
        qed 𝓛 (‵ (places b o (map here (x ∷ xs))) ∷ ‵ (places b o (blank ∷ cs)) ∷ []) ∵ fsplit ! $ move ! (2 ∷ []) $ fsplit ! $ keep ! (2 ∷ 0 ∷ []) $
        use1 𝓛 (‵ (froom (ty_int w8) b o)) (byte_room x o) $ by ! (via 𝓤 (never 𝓤) (clash o) (never_e 𝓤 _))
    none_here (x ∷ xs) (Some (Some y) ∷ cs) o e =
        qed 𝓛 (‵ (places b o (map here (x ∷ xs))) ∷ ‵ (places b o (here y ∷ cs)) ∷ []) ∵ fsplit ! $ move ! (2 ∷ []) $ fsplit ! $ keep ! (2 ∷ 0 ∷ []) $
        use1 𝓛 (‵ (froom (ty_int w8) b o)) (byte_room x o) $ move ! (1 ∷ []) $ use1 𝓛 (‵ (froom (ty_int w8) b o)) (byte_room y o) $ by ! (via 𝓤 (never 𝓤) (clash o) (never_e 𝓤 _))

  module _ (κ : Lft) where
    beyond : (cs : Spots) (i o at : ℕ) → i ≤ length cs → at ≡ i + o → ent 𝓤 (sem 𝓛 (places_lent b o cs κ)) (sem 𝓛 (places_lent b at (drop i cs) κ))
    beyond cs zero o at le e = let same : o ≡ at = omega arith in subst (λ (k : ℕ). ent 𝓤 (sem 𝓛 (places_lent b o cs κ)) (sem 𝓛 (places_lent b k cs κ))) same (id⊢ 𝓤 _)
    beyond [] (suc i) o at le e = absurd (omega arith)
    beyond (c ∷ cs) (suc i) o at le e =
        via 𝓤 (sem 𝓛 (places_lent b (o + 1) cs κ)) (snd∗ 𝓤 (sem 𝓛 (place_lent b o c κ)) (sem 𝓛 (places_lent b (o + 1) cs κ))) (beyond cs i (o + 1) at (omega arith) (omega arith))

    first_bytes : (xs : List ℕ) (rest : Spots) (o : ℕ) → ent 𝓤 (sem 𝓛 (places_lent b o (map here xs ++ rest) κ)) (sem 𝓛 (elements_shared u8 xs b o κ))
    first_bytes [] rest o = qed 𝓛 (‵ (places_lent b o rest κ) ∷ []) ∵ keep ! [] $ done !
    first_bytes (x ∷ xs) rest o = mono_r 𝓤 (sem 𝓛 (place_lent b o (here x) κ)) (first_bytes xs rest (o + 1))

    pub run_lent : (cs : Spots) (i n o : ℕ) (xs : List ℕ) → i ≤ length cs → take n (drop i cs) ≡ map here xs → ent 𝓤 (sem 𝓛 (places_lent b o cs κ)) (sem 𝓛 (elements_shared u8 xs b (i + o) κ))
    run_lent cs i n o xs le e =
        let rest = drop n (drop i cs) in let bytes : drop i cs ≡ map here xs ++ rest = sym (take-append-drop n (drop i cs)) ∙ ap (λ (l : Spots). l ++ rest) e in
        qed 𝓛 (‵ (places_lent b o cs κ) ∷ []) ∵ use1 𝓛 (‵ (places_lent b (i + o) (drop i cs) κ)) (beyond cs i o (i + o) le refl) $
        rewrite ! 0 (λ (l : Spots). ‵ (places_lent b (i + o) l κ)) bytes refl $ by ! (first_bytes xs rest (i + o))

module _ {M : Type 1} {𝓤 : Ura M} (𝓛 : Logic 𝓤) (𝓜 : Model 𝓤 𝓛.H) (xs ys : List ℕ) (some : 0 < length xs) (others : 0 < length ys) where
  module _ (b o u : ℕ) where
    abbrev Clear : Type 0
    Clear = (o + length xs ≤ u) ⊎ (u + length ys ≤ o)

    overlap : u < o + length xs → o < u + length ys → (o ≤ u) ⊎ (u < o) → ent 𝓤 (sep 𝓤 (sem 𝓛 (places b o (map here xs))) (sem 𝓛 (places b u (map here ys)))) (fact 𝓤 Clear)
    overlap lt gt (inl le) = via 𝓤 (never 𝓤) (shared_byte 𝓛 b 𝓜 xs ys (u - o) 0 o u (omega (arith, lt, le)) others (omega (arith, le))) (never_e 𝓤 _)
    overlap lt gt (inr ge) = via 𝓤 (never 𝓤) (shared_byte 𝓛 b 𝓜 xs ys 0 (o - u) o u some (omega (arith, gt, ge)) (omega (arith, ge))) (never_e 𝓤 _)

    in_a_row : (o + length xs ≤ u) ⊎ (u < o + length xs) → (u + length ys ≤ o) ⊎ (o < u + length ys) → ent 𝓤 (sep 𝓤 (sem 𝓛 (places b o (map here xs))) (sem 𝓛 (places b u (map here ys)))) (fact 𝓤 Clear)
    in_a_row (inl le) q = fact_i 𝓤 Clear _ (inl le)
    in_a_row (inr lt) (inl le) = fact_i 𝓤 Clear _ (inr le)
    in_a_row (inr lt) (inr gt) = overlap lt gt (order o u)

  in_blocks : (b c o u : ℕ) → (b ≤ c) ⊎ (c < b) → (c ≤ b) ⊎ (b < c) → ent 𝓤 (sep 𝓤 (sem 𝓛 (places b o (map here xs))) (sem 𝓛 (places c u (map here ys)))) (fact 𝓤 (Apart (block_ptr b o) (length xs) (block_ptr c u) (length ys)))
  in_blocks b c o u (inr lt) q = fact_i 𝓤 (Apart (block_ptr b o) (length xs) (block_ptr c u) (length ys)) _ (λ e. absurd (omega (arith, lt, e)))
  in_blocks b c o u (inl le) (inr lt) = fact_i 𝓤 (Apart (block_ptr b o) (length xs) (block_ptr c u) (length ys)) _ (λ e. absurd (omega (arith, lt, e)))
  in_blocks b c o u (inl le) (inl ge) =
      let same : b ≡ c = omega (arith, le, ge) in
      subst (λ (k : ℕ). ent 𝓤 (sep 𝓤 (sem 𝓛 (places b o (map here xs))) (sem 𝓛 (places k u (map here ys)))) (fact 𝓤 (Apart (block_ptr b o) (length xs) (block_ptr k u) (length ys)))) same
      (via 𝓤 _ (in_a_row b o u (order (o + length xs) u) (order (u + length ys) o)) (fact_mono 𝓤 (Clear b o u) (Apart (block_ptr b o) (length xs) (block_ptr b u) (length ys)) (λ clear _. clear)))

  pub apart_owners : (p q : Ptr) → ent 𝓤 (sep 𝓤 (sem 𝓛 (region_owns p (map here xs))) (sem 𝓛 (region_owns q (map here ys)))) (fact 𝓤 (Apart p (length xs) q (length ys)))
  apart_owners null_ptr q = via 𝓤 (never 𝓤) (fst∗ 𝓤 (never 𝓤) (sem 𝓛 (region_owns q (map here ys)))) (never_e 𝓤 _)
  apart_owners (block_ptr b o) null_ptr = via 𝓤 (never 𝓤) (snd∗ 𝓤 (sem 𝓛 (region_owns (block_ptr b o) (map here xs))) (never 𝓤)) (never_e 𝓤 _)
  apart_owners (block_ptr b o) (block_ptr c u) =
      qed 𝓛 (‵ (region_owns (block_ptr b o) (map here xs)) ∷ ‵ (region_owns (block_ptr c u) (map here ys)) ∷ []) ∵ fsplit ! $ skip ! $ move ! (1 ∷ []) $ fsplit ! $ skip ! $ move ! (1 ∷ 0 ∷ []) $
      by ! (in_blocks b c o u (order b c) (order c b))
