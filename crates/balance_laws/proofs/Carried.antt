-- What a kexec of a sound world carries.
use Rattle.std.proofs.Common.{◌≡◌, ◌⊎◌, inl, inr, ℕ, suc, ◌-◌, ◌<◌, ◌≤◌, true, ◌||◌, cond, List, [], ◌∷◌, map, length, refl, sym, ap, subst, ◌∙◌, arith, Ordering, Less, Equal, Greater}
use Rattle.std.specs.Prelude.{Option, None, Some, is_some, option_map, if◌then◌else◌}
use Rattle.std.specs.Ordering.{nat_cmp, ordering_reverse}
use Rattle.std.specs.Cmp.{IsTotalOrder}
use Rattle.std.specs.FinMap as finmap
use Rattle.std.specs.FinMap.{find, is_sorted}
use Rattle.std.specs.FinMap.Entries.{below_all}
use Rattle.std.specs.List.{AllByRecursion}
use Rattle.std.proofs.lemmas.Bool.{and_parts}
use Rattle.ho_events.specs.File.{FileState, is_device, runs_of}
use Rattle.ho_events.specs.Session.{Listed}
use Rattle.ho_world.specs.Balance.{is_pinned}
use Rattle.ho_world.specs.Frozen.{file_carried}
use Rattle.ho_world.specs.Sequences.{Labels}
use Rattle.ho_world.specs.World.{World, pool_at, session_at, file_at}
use Rattle.balance_laws.specs.Carrying.{Rise, CarriedFits, In}
use Rattle.balance_laws.specs.Sound.{Sound, FileFits, run_in, listed_out, number_of, index_count}
use Rattle.balance_laws.proofs.Base.{same_value, clash}
use Rattle.balance_laws.proofs.Counting.{all_below, as_many_keys}
use Rattle.balance_laws.proofs.Giving.{owned_at}
use Rattle.balance_laws.proofs.Maps.{keys_same, keys_apart}
use Rattle.balance_laws.proofs.Members.{In as InList, EntryIn, entry_found, sorted_true, value_at}

-- what is known of each item, from what is known of each member
abbrev pub Member : {T : Type 0} → T → List T → Type 0
Member e [] = ⊥
Member e (d ∷ es) = (e ≡ d) ⊎ Member e es

-- an entry of a map in order is found
own_less : (c : Ordering) → c ≡ ordering_reverse c → c ≡ Less → ⊥
own_less Less h e = absurd cc
own_less Equal h e = absurd cc
own_less Greater h e = absurd cc

pub not_less : {K : Type 0} (R : K → K → Ordering) → IsTotalOrder R → (x y : K) → R x y ≡ Less → x ≡ y → ⊥
not_less R o x y h e = own_less (R x x) (o.antisymm x x) (ap (R x) e ∙ h)

module _ {K X : Type 0} (R : K → K → Ordering) (o : IsTotalOrder R) (anti : finmap.IsAntisymmetric R) where
  pub less_member : (k : K) (es : List (K × X)) (e : K × X) → AllByRecursion (λ (d : K × X). R k d.0 ≡ Less) es → Member e es → R k e.0 ≡ Less
  less_member k [] e all i = absurd i
  less_member k (d ∷ es) e all (inl s) = ap (λ (y : K × X). R k y.0) s ∙ all.0
  less_member k (d ∷ es) e all (inr i) = less_member k es e all.1 i

  pub found_of : (es : List (K × X)) (e : K × X) → is_sorted R es ≡ true → Member e es → find R e.0 es ≡ Some e.1
  found_of [] e h i = absurd i
  found_of (d ∷ es) e h (inl s) = ap (λ b. cond b (Some d.1) (find R e.0 es)) (keys_same R o anti e.0 d.0 (ap (λ (y : K × X). y.0) s)) ∙ ap (λ (y : K × X). Some y.1) (sym s)
  found_of (d ∷ es) e h (inr i) =
      let hs = and_parts (below_all R d.0 es) (is_sorted R es) h in
      ap (λ b. cond b (Some d.1) (find R e.0 es)) (keys_apart R o anti e.0 d.0 (λ same. not_less R o d.0 e.0 (less_member d.0 es e (all_below R d.0 es hs.0) i) (sym same)))
      ∙ found_of es e hs.1 i

  pub rise_keys : (es : List (K × X)) → is_sorted R es ≡ true → Rise R (map (λ (e : K × X). e.0) es)
  rise_keys [] h = tt
  rise_keys (e ∷ es) h = let hs = and_parts (below_all R e.0 es) (is_sorted R es) h in (above es (all_below R e.0 es hs.0), rise_keys es hs.1)
    where
      above : (ds : List (K × X)) → AllByRecursion (λ (d : K × X). R e.0 d.0 ≡ Less) ds → AllByRecursion (λ k. R e.0 k ≡ Less) (map (λ (d : K × X). d.0) ds)
      above [] a = tt
      above (d ∷ ds) a = (a.0, above ds a.1)

module _ (labels : ℕ → Labels) (w : World) (sound : Sound w labels) where
  -- ---- one file

  pub has_file : (slot token : ℕ) (l : Listed) → listed_out (session_at w slot) token ≡ Some l → (g : FileState) × (file_at w l.file ≡ Some g) × (g.pin ≡ true)
  has_file slot token l e = at_file (file_at w l.file) refl (sound.parts.listed.there slot token l.file (ap number_of e))
    where
      at_file : (o : Option FileState) → file_at w l.file ≡ o → is_pinned (file_at w l.file) ≡ true → (g : FileState) × (file_at w l.file ≡ Some g) × (g.pin ≡ true)
      at_file None is h = absurd (clash (sym h ∙ ap is_pinned is))
      at_file (Some g) is h = (g, is, sym (ap is_pinned is) ∙ h)

  -- a whole file has as many runs as indexes
  as_many_runs : (g : FileState) → FileFits g → g.pin ≡ true → length (runs_of g) ≡ index_count g
  as_many_runs g fits pin =
      let count : length (finmap.entries g.runs) ≡ index_count g - 0 = as_many_keys (index_count g) 0 (finmap.entries g.runs) (sorted_true g.runs) (none_below (finmap.entries g.runs)) (within (finmap.entries g.runs) (λ e i. i)) there in
      let same : length (runs_of g) ≡ length (finmap.entries g.runs) = mapped (finmap.entries g.runs) in
      omega (arith, count, same)
    where
      mapped : (es : List (ℕ × ℕ)) → length (map (λ (e : ℕ × ℕ). e.1) es) ≡ length es
      mapped [] = refl
      mapped (e ∷ es) = ap suc (mapped es)

      none_below : (es : List (ℕ × ℕ)) → AllByRecursion (λ (e : ℕ × ℕ). 0 ≤ e.0) es
      none_below [] = tt
      none_below (e ∷ es) = (omega arith, none_below es)

      within : (es : List (ℕ × ℕ)) → ((e : ℕ × ℕ) → EntryIn e es → EntryIn e (finmap.entries g.runs)) → AllByRecursion (λ (e : ℕ × ℕ). e.0 < index_count g) es
      within [] is = tt
      within (e ∷ es) is =
          (fits.below e.0 e.1 (finmap.get-entries g.runs e.0 ∙ entry_found (finmap.entries g.runs) e (sorted_true g.runs) (is e (inl refl))), within es (λ d i. is d (inr i)))

      there : (i : ℕ) → 0 ≤ i → i < index_count g → is_some (find nat_cmp i (finmap.entries g.runs)) ≡ true
      there i low less = ap is_some (sym (finmap.get-entries g.runs i)) ∙ fits.whole (ap (λ b. b || g.hold) pin) i less

  pub carried_fits : (token handle n : ℕ) (g : FileState) → file_at w n ≡ Some g → g.pin ≡ true → CarriedFits (file_carried token handle (file_at w n))
  carried_fits token handle n g is pin =
      let fits : FileFits g = sound.parts.fit n g is in
      subst (λ o. CarriedFits (file_carried token handle o)) (sym is)
      (record { kind = fits.kind; order = fits.order; size = fits.size; position = fits.position; handle = ap (λ k. if is_device k then handle else 0) fits.kind; runs = as_many_runs g fits pin })

  -- the runs of a carried file are those of its file
  run_of_carried : (token handle n p : ℕ) → In p (file_carried token handle (file_at w n)).runs → (i : ℕ) × (run_in (file_at w n) i ≡ Some (p, (file_carried token handle (file_at w n)).order))
  run_of_carried token handle n p i = at_file (file_at w n) i
    where
      at_file : (o : Option FileState) → In p (file_carried token handle o).runs → (i : ℕ) × (run_in o i ≡ Some (p, (file_carried token handle o).order))
      at_file None i = absurd i
      at_file (Some g) i = let k = in_value g.runs p i in (k.0, ap (option_map (λ q. (q, g.order))) k.1)
        where
          in_value : (m : finmap.FinMap nat_cmp ℕ) (p : ℕ) → In p (finmap.values m) → (k : ℕ) × (finmap.get m k ≡ Some p)
          in_value m p i = value_at m p (as_member (finmap.values m) i)
            where
              as_member : (xs : List ℕ) → In p xs → InList p xs
              as_member [] i = i
              as_member (x ∷ xs) (inl e) = inl e
              as_member (x ∷ xs) (inr j) = inr (as_member xs j)

  pub runs_owned : (token handle n : ℕ) → AllByRecursion (λ p. finmap.get (pool_at w).owned p ≡ Some (file_carried token handle (file_at w n)).order) (file_carried token handle (file_at w n)).runs
  runs_owned token handle n = each (file_carried token handle (file_at w n)).runs (λ p i. i)
    where
      each : (ps : List ℕ) → ((p : ℕ) → In p ps → In p (file_carried token handle (file_at w n)).runs) → AllByRecursion (λ p. finmap.get (pool_at w).owned p ≡ Some (file_carried token handle (file_at w n)).order) ps
      each [] is = tt
      each (p ∷ ps) is =
          let k = run_of_carried token handle n p (is p (inl refl)) in
          (owned_at (pool_at w) (p, (file_carried token handle (file_at w n)).order) (sound.parts.owned.there n k.0 (p, (file_carried token handle (file_at w n)).order) k.1), each ps (λ q i. is q (inr i)))

  -- two carried files with a run in common are the same file
  pub one_file : (t h n t' h' n' p : ℕ) → In p (file_carried t h (file_at w n)).runs → In p (file_carried t' h' (file_at w n')).runs → n ≡ n'
  one_file t h n t' h' n' p i j =
      let k = run_of_carried t h n p i in
      let l = run_of_carried t' h' n' p j in
      let a : finmap.get (pool_at w).owned p ≡ Some (file_carried t h (file_at w n)).order = owned_at (pool_at w) (p, (file_carried t h (file_at w n)).order) (sound.parts.owned.there n k.0 (p, (file_carried t h (file_at w n)).order) k.1) in
      let b : finmap.get (pool_at w).owned p ≡ Some (file_carried t' h' (file_at w n')).order = owned_at (pool_at w) (p, (file_carried t' h' (file_at w n')).order) (sound.parts.owned.there n' l.0 (p, (file_carried t' h' (file_at w n')).order) l.1) in
      let order : (file_carried t' h' (file_at w n')).order ≡ (file_carried t h (file_at w n)).order = same_value _ _ (sym b ∙ a) in
      (sound.parts.owned.once n n' k.0 l.0 (p, (file_carried t h (file_at w n)).order) k.1 (l.1 ∙ ap (λ o. Some (p, o)) order)).0
