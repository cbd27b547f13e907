-- Members of lists, of the values of maps, and of sets into which runs are put.
use Rattle.std.proofs.Common.{◌≡◌, ◌⊎◌, inl, inr, ℕ, zero, suc, ◌+◌, ◌^◌, ◌<◌, Bool, true, false, cond, T, List, [], ◌∷◌, ◌++◌, map, refl, sym, ap, subst, ◌∙◌, arith, Less, Equal, Greater, Ordering}
use Rattle.std.specs.Prelude.{Some, ◌==◌}
use Rattle.std.specs.Ordering.{nat_cmp, eq_by_cmp, is_lt, ordering_reverse}
use Rattle.std.proofs.lemmas.Cmp.{nat_cmp_total}
use Rattle.std.specs.FinMap as finmap
use Rattle.std.specs.FinMap.{find, is_sorted}
use Rattle.std.specs.FinMap.Entries.{below_all}
use Rattle.std.specs.FinSet as finset
use Rattle.std.proofs.lemmas.Bool.{and_parts, cases_eq, eqb-true}
use Rattle.ho_events.specs.Lists.{upto, same_bytes}
use Rattle.ho_events.specs.Pool.{frames_of, with_frames, without_frames, pin_runs, unpin_runs}
use Rattle.balance_laws.proofs.Base.{same_value, not_some, clash}
use Rattle.balance_laws.proofs.Maps.{same_key, keys_same, keys_apart, set_put, set_kept, set_cut, set_left}

-- a number stands in a list
abbrev pub In : ℕ → List ℕ → Type 0
In q [] = ⊥
In q (x ∷ xs) = (q ≡ x) ⊎ In q xs

in_end : (q : ℕ) (xs : List ℕ) (y : ℕ) → In q (xs ++ y ∷ []) → In q xs ⊎ (q ≡ y)
in_end q [] y (inl h) = inr h
in_end q [] y (inr h) = absurd h
in_end q (x ∷ xs) y (inl h) = inl (inl h)
in_end q (x ∷ xs) y (inr h) = at_rest (in_end q xs y h)
  where
    at_rest : In q xs ⊎ (q ≡ y) → In q (x ∷ xs) ⊎ (q ≡ y)
    at_rest (inl h) = inl (inr h)
    at_rest (inr h) = inr h

in_front : (q : ℕ) (xs : List ℕ) (y : ℕ) → In q xs → In q (xs ++ y ∷ [])
in_front q [] y h = absurd h
in_front q (x ∷ xs) y (inl h) = inl h
in_front q (x ∷ xs) y (inr h) = inr (in_front q xs y h)

in_last : (q : ℕ) (xs : List ℕ) (y : ℕ) → q ≡ y → In q (xs ++ y ∷ [])
in_last q [] y h = inl h
in_last q (x ∷ xs) y h = inr (in_last q xs y h)

pub in_upto : (q n : ℕ) → q < n → In q (upto n)
unfolding upto
in_upto q zero h = absurd (omega (arith, h))
in_upto q (suc n) h = by_case (cases_eq q n) (λ less. in_upto q n less)
  where
    by_case : (q ≡ n) ⊎ (q ≡ n → ⊥) → (q < n → In q (upto n)) → In q (upto n ++ n ∷ [])
    by_case (inl e) more = in_last q (upto n) n e
    by_case (inr ne) more = in_front q (upto n) n (more (below_one q n h ne))
      where
        below_one : (a b : ℕ) → a < suc b → (a ≡ b → ⊥) → a < b
        below_one a b h ne = grind (arith, ne)

pub below_upto : (q n : ℕ) → In q (upto n) → q < n
unfolding upto
below_upto q zero h = absurd h
below_upto q (suc n) h = by_case (in_end q (upto n) n h) (λ g. below_upto q n g)
  where
    by_case : In q (upto n) ⊎ (q ≡ n) → (In q (upto n) → q < n) → q < suc n
    by_case (inl g) more = let less : q < n = more g in omega (arith, less)
    by_case (inr e) more = omega (arith, e)

-- a run of order o that begins at r holds frame q
pub record RunHolds (o r q : ℕ) : Type 0 where
  pub offset : ℕ
  pub below : offset < 2 ^ o
  pub frame : q ≡ r + offset

shifted_in : (r : ℕ) (xs : List ℕ) (q i : ℕ) → q ≡ r + i → In i xs → In q (map (λ i. r + i) xs)
shifted_in r [] q i e h = absurd h
shifted_in r (x ∷ xs) q i e (inl h) = inl (e ∙ ap (λ n. r + n) h)
shifted_in r (x ∷ xs) q i e (inr h) = inr (shifted_in r xs q i e h)

in_shifted : (r : ℕ) (xs : List ℕ) (q : ℕ) → In q (map (λ i. r + i) xs) → (i : ℕ) × In i xs × (q ≡ r + i)
in_shifted r [] q h = absurd h
in_shifted r (x ∷ xs) q (inl h) = (x, inl refl, h)
in_shifted r (x ∷ xs) q (inr h) = let m = in_shifted r xs q h in (m.0, inr m.1, m.2)

pub frame_in : (o r q : ℕ) → RunHolds o r q → In q (frames_of o r)
frame_in o r q h = shifted_in r (upto (2 ^ o)) q h.offset h.frame (in_upto h.offset (2 ^ o) h.below)

pub in_frames : (o r q : ℕ) → In q (frames_of o r) → RunHolds o r q
in_frames o r q h = let m = in_shifted r (upto (2 ^ o)) q h in record { offset = m.0; below = below_upto m.0 (2 ^ o) m.1; frame = m.2 }

-- ---- sets with more frames, and with fewer

abbrev Frames : Type 0
Frames = finset.FinSet nat_cmp

frames_keep : (ps : List ℕ) (set : Frames) (q : ℕ) → finset.contains set q ≡ true → finset.contains (with_frames ps set) q ≡ true
frames_keep [] set q h = h
frames_keep (p ∷ ps) set q h = frames_keep ps (finset.insert set p) q (by_case (cases_eq q p))
  where
    by_case : (q ≡ p) ⊎ (q ≡ p → ⊥) → finset.contains (finset.insert set p) q ≡ true
    by_case (inl e) = set_put set p q e
    by_case (inr e) = set_kept set p q e ∙ h

frames_put : (ps : List ℕ) (set : Frames) (q : ℕ) → In q ps → finset.contains (with_frames ps set) q ≡ true
frames_put [] set q h = absurd h
frames_put (p ∷ ps) set q (inl h) = frames_keep ps (finset.insert set p) q (set_put set p q h)
frames_put (p ∷ ps) set q (inr h) = frames_put ps (finset.insert set p) q h

frames_there : (ps : List ℕ) (set : Frames) (q : ℕ) → finset.contains (with_frames ps set) q ≡ true → (finset.contains set q ≡ true) ⊎ In q ps
frames_there [] set q h = inl h
frames_there (p ∷ ps) set q h = at_rest (frames_there ps (finset.insert set p) q h) (cases_eq q p)
  where
    at_rest : (finset.contains (finset.insert set p) q ≡ true) ⊎ In q ps → (q ≡ p) ⊎ (q ≡ p → ⊥) → (finset.contains set q ≡ true) ⊎ In q (p ∷ ps)
    at_rest (inr g) e = inr (inr g)
    at_rest (inl g) (inl e) = inr (inl e)
    at_rest (inl g) (inr e) = inl (sym (set_kept set p q e) ∙ g)

left_keep : (ps : List ℕ) (set : Frames) (q : ℕ) → finset.contains set q ≡ true → (In q ps → ⊥) → finset.contains (without_frames ps set) q ≡ true
left_keep [] set q h out = h
left_keep (p ∷ ps) set q h out = left_keep ps (finset.remove set p) q (set_left set p q (λ e. out (inl e)) ∙ h) (λ i. out (inr i))

left_there : (ps : List ℕ) (set : Frames) (q : ℕ) → finset.contains (without_frames ps set) q ≡ true → (finset.contains set q ≡ true) × (In q ps → ⊥)
left_there [] set q h = (h, λ i. i)
left_there (p ∷ ps) set q h = by_case (cases_eq q p) (left_there ps (finset.remove set p) q h)
  where
    by_case : (q ≡ p) ⊎ (q ≡ p → ⊥) → (finset.contains (finset.remove set p) q ≡ true) × (In q ps → ⊥) → (finset.contains set q ≡ true) × (In q (p ∷ ps) → ⊥)
    by_case (inl e) m = absurd (clash (sym m.0 ∙ set_cut set p q e))
    by_case (inr e) m = (sym (set_left set p q e) ∙ m.0, neither)
      where
        neither : In q (p ∷ ps) → ⊥
        neither (inl i) = e i
        neither (inr i) = m.1 i

-- one of the runs holds a frame
pub record OneHolds (o : ℕ) (rs : List ℕ) (q : ℕ) : Type 0 where
  pub run : ℕ
  pub is : In run rs
  pub holds : RunHolds o run q

pub runs_keep : (o : ℕ) (rs : List ℕ) (set : Frames) (q : ℕ) → finset.contains set q ≡ true → finset.contains (pin_runs o rs set) q ≡ true
runs_keep o [] set q h = h
runs_keep o (r ∷ rs) set q h = runs_keep o rs (with_frames (frames_of o r) set) q (frames_keep (frames_of o r) set q h)

pub runs_put : (o : ℕ) (rs : List ℕ) (set : Frames) (q r : ℕ) → In r rs → RunHolds o r q → finset.contains (pin_runs o rs set) q ≡ true
runs_put o [] set q r i h = absurd i
runs_put o (s ∷ rs) set q r (inl i) h = runs_keep o rs (with_frames (frames_of o s) set) q (frames_put (frames_of o s) set q (subst (λ n. In q (frames_of o n)) i (frame_in o r q h)))
runs_put o (s ∷ rs) set q r (inr i) h = runs_put o rs (with_frames (frames_of o s) set) q r i h

pub runs_there : (o : ℕ) (rs : List ℕ) (set : Frames) (q : ℕ) → finset.contains (pin_runs o rs set) q ≡ true → (finset.contains set q ≡ true) ⊎ OneHolds o rs q
runs_there o [] set q h = inl h
runs_there o (r ∷ rs) set q h = at_rest (runs_there o rs (with_frames (frames_of o r) set) q h)
  where
    at_first : (finset.contains set q ≡ true) ⊎ In q (frames_of o r) → (finset.contains set q ≡ true) ⊎ OneHolds o (r ∷ rs) q
    at_first (inl g) = inl g
    at_first (inr g) = inr (record { run = r; is = inl refl; holds = in_frames o r q g })

    at_rest : (finset.contains (with_frames (frames_of o r) set) q ≡ true) ⊎ OneHolds o rs q → (finset.contains set q ≡ true) ⊎ OneHolds o (r ∷ rs) q
    at_rest (inl g) = at_first (frames_there (frames_of o r) set q g)
    at_rest (inr g) = inr (record { run = g.run; is = inr g.is; holds = g.holds })

pub runs_left : (o : ℕ) (rs : List ℕ) (set : Frames) (q : ℕ) → finset.contains set q ≡ true → (OneHolds o rs q → ⊥) → finset.contains (unpin_runs o rs set) q ≡ true
runs_left o [] set q h out = h
runs_left o (r ∷ rs) set q h out =
    runs_left o rs (without_frames (frames_of o r) set) q (left_keep (frames_of o r) set q h (λ i. out (record { run = r; is = inl refl; holds = in_frames o r q i })))
    (λ g. out (record { run = g.run; is = inr g.is; holds = g.holds }))

pub runs_stay : (o : ℕ) (rs : List ℕ) (set : Frames) (q : ℕ) → finset.contains (unpin_runs o rs set) q ≡ true → (finset.contains set q ≡ true) × (OneHolds o rs q → ⊥)
runs_stay o [] set q h = (h, λ g. g.is)
runs_stay o (r ∷ rs) set q h =
    let m = runs_stay o rs (without_frames (frames_of o r) set) q h in
    let n = left_there (frames_of o r) set q m.0 in
    (n.0, λ g. neither m.1 n.1 g.run g.is g.holds)
  where
    neither : (OneHolds o rs q → ⊥) → (In q (frames_of o r) → ⊥) → (s : ℕ) → In s (r ∷ rs) → RunHolds o s q → ⊥
    neither rest first s (inl i) h = first (subst (λ n. In q (frames_of o n)) i (frame_in o s q h))
    neither rest first s (inr i) h = rest (record { run = s; is = i; holds = h })

-- ---- the values of a map

less_is : (c : Ordering) → is_lt c ≡ true → c ≡ Less
less_is Less h = refl
less_is Equal h = absurd cc
less_is Greater h = absurd cc

-- an entry stands in a list
abbrev pub EntryIn : {X : Type 0} → ℕ × X → List (ℕ × X) → Type 0
EntryIn e [] = ⊥
EntryIn e (d ∷ es) = (e ≡ d) ⊎ EntryIn e es

below_entry : {X : Type 0} (k : ℕ) (es : List (ℕ × X)) (e : ℕ × X) → below_all nat_cmp k es ≡ true → EntryIn e es → nat_cmp k e.0 ≡ Less
below_entry k [] e h i = absurd i
below_entry k (d ∷ es) e h (inl i) = ap (λ (y : ℕ × _). nat_cmp k y.0) i ∙ less_is (nat_cmp k d.0) (and_parts (is_lt (nat_cmp k d.0)) (below_all nat_cmp k es) h).0
below_entry k (d ∷ es) e h (inr i) = below_entry k es e (and_parts (is_lt (nat_cmp k d.0)) (below_all nat_cmp k es) h).1 i

pub entry_found : {X : Type 0} (es : List (ℕ × X)) (e : ℕ × X) → is_sorted nat_cmp es ≡ true → EntryIn e es → find nat_cmp e.0 es ≡ Some e.1
entry_found [] e h i = absurd i
entry_found (d ∷ es) e h (inl i) =
    ap (λ b. cond b (Some d.1) (find nat_cmp e.0 es)) (keys_same nat_cmp nat_cmp_total finmap.nat_cmp-IsAntisymmetric e.0 d.0 (ap (λ (y : ℕ × _). y.0) i)) ∙ ap (λ (y : ℕ × _). Some y.1) (sym i)
entry_found (d ∷ es) e h (inr i) =
    let hs = and_parts (below_all nat_cmp d.0 es) (is_sorted nat_cmp es) h in
    ap (λ b. cond b (Some d.1) (find nat_cmp e.0 es)) (keys_apart nat_cmp nat_cmp_total finmap.nat_cmp-IsAntisymmetric e.0 d.0 (λ same. apart same (below_entry d.0 es e hs.0 i)))
    ∙ entry_found es e hs.1 i
  where
    own_less : (c : Ordering) → c ≡ ordering_reverse c → c ≡ Less → ⊥
    own_less Less h e = absurd cc
    own_less Equal h e = absurd cc
    own_less Greater h e = absurd cc

    apart : e.0 ≡ d.0 → nat_cmp d.0 e.0 ≡ Less → ⊥
    apart same less = own_less (nat_cmp d.0 d.0) (nat_cmp_total.antisymm d.0 d.0) (ap (nat_cmp d.0) (sym same) ∙ less)

pub value_entry : (es : List (ℕ × ℕ)) (v : ℕ) → In v (map (λ e. e.1) es) → (e : ℕ × ℕ) × EntryIn e es × (e.1 ≡ v)
value_entry [] v i = absurd i
value_entry (d ∷ es) v (inl i) = (d, inl refl, sym i)
value_entry (d ∷ es) v (inr i) = let m = value_entry es v i in (m.0, inr m.1, m.2)

found_value : (es : List (ℕ × ℕ)) (k v : ℕ) → find nat_cmp k es ≡ Some v → In v (map (λ e. e.1) es)
found_value [] k v h = absurd (not_some v h)
found_value (d ∷ es) k v h = by_test (eq_by_cmp nat_cmp k d.0) refl (λ g. found_value es k v g)
  where
    by_test : (b : Bool) → eq_by_cmp nat_cmp k d.0 ≡ b → (find nat_cmp k es ≡ Some v → In v (map (λ e. e.1) es)) → In v (map (λ e. e.1) (d ∷ es))
    by_test true e more = inl (same_value v d.1 (sym h ∙ ap (λ b. cond b (Some d.1) (find nat_cmp k es)) e))
    by_test false e more = inr (more (ap (λ b. cond b (Some d.1) (find nat_cmp k es)) (sym e) ∙ h))

pub sorted_true : {X : Type 0} (m : finmap.FinMap nat_cmp X) → is_sorted nat_cmp (finmap.entries m) ≡ true
sorted_true m = truth _ (finmap.entries_sorted m)
  where
    truth : (b : Bool) → T b → b ≡ true
    truth true t = refl
    truth false t = absurd t

module _ (m : finmap.FinMap nat_cmp ℕ) where
  pub value_at : (v : ℕ) → In v (finmap.values m) → (k : ℕ) × (finmap.get m k ≡ Some v)
  value_at v i =
      let e = value_entry (finmap.entries m) v i in
      (e.0.0, finmap.get-entries m e.0.0 ∙ entry_found (finmap.entries m) e.0 (sorted_true m) e.1 ∙ ap Some e.2)

  pub value_in : (k v : ℕ) → finmap.get m k ≡ Some v → In v (finmap.values m)
  value_in k v h = found_value (finmap.entries m) k v (sym (finmap.get-entries m k) ∙ h)

-- the same numbers
pub same_list : (xs ys : List ℕ) → same_bytes xs ys ≡ true → xs ≡ ys
same_list [] [] h = refl
same_list [] (y ∷ ys) h = absurd cc
same_list (x ∷ xs) [] h = absurd cc
same_list (x ∷ xs) (y ∷ ys) h =
    let hs = and_parts (x == y) (same_bytes xs ys) h in
    λ j. eqb-true x y hs.0 j ∷ same_list xs ys hs.1 j

found_entry : {X : Type 0} (es : List (ℕ × X)) (k : ℕ) (v : X) → find nat_cmp k es ≡ Some v → EntryIn (k, v) es
found_entry [] k v h = absurd (not_some v h)
found_entry (d ∷ es) k v h = by_test (eq_by_cmp nat_cmp k d.0) refl (λ g. found_entry es k v g)
  where
    by_test : (b : Bool) → eq_by_cmp nat_cmp k d.0 ≡ b → (find nat_cmp k es ≡ Some v → EntryIn (k, v) es) → EntryIn (k, v) (d ∷ es)
    by_test true e more =
        let key : k ≡ d.0 = same_key k d.0 e in
        let value : v ≡ d.1 = same_value v d.1 (sym h ∙ ap (λ b. cond b (Some d.1) (find nat_cmp k es)) e) in
        inl (λ j. (key j, value j))
    by_test false e more = inr (more (ap (λ b. cond b (Some d.1) (find nat_cmp k es)) (sym e) ∙ h))

-- the entry of a key that has a value
pub entry_of : {X : Type 0} (m : finmap.FinMap nat_cmp X) (k : ℕ) (v : X) → finmap.get m k ≡ Some v → EntryIn (k, v) (finmap.entries m)
entry_of m k v h = found_entry (finmap.entries m) k v (sym (finmap.get-entries m k) ∙ h)
