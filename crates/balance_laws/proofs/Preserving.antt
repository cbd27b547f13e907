-- A file that goes into an outgoing session keeps the parts sound.
use Rattle.std.proofs.Common.{◌≡◌, ◌⊎◌, inl, inr, ℕ, ◌+◌, ◌^◌, ◌<◌, ◌≤◌, Bool, true, false, not, ◌||◌, cond, List, [], ◌∷◌, filter, length, refl, sym, ap, subst, ◌∙◌, arith}
use Rattle.std.specs.Prelude.{Option, None, Some, is_some, option_map, if◌then◌else◌}
use Rattle.std.specs.Ordering.{nat_cmp}
use Rattle.std.specs.FinMap as finmap
use Rattle.std.specs.FinSet as finset
use Rattle.std.specs.List.{AllByRecursion}
use Rattle.std.proofs.lemmas.Cmp.{nat_cmp_total}
use Rattle.std.proofs.lemmas.Bool.{cases_eq}
use Rattle.ho_base.specs.declared.limits.TheConstants.{FILES, SESSION_FILES, OUT_SLOTS}
use Rattle.ho_events.specs.File.{FileState, filled, holes, indexes, runs_of}
use Rattle.ho_events.specs.Pool.{PoolState, pin_runs}
use Rattle.ho_events.specs.Session.{SessionState, Listed, Out, In}
use Rattle.ho_world.specs.Balance.{is_pinned, is_held, is_open}
use Rattle.ho_world.specs.Sequences.{Labels}
use Rattle.balance_laws.specs.OneEach.{OneEach}
use Rattle.balance_laws.specs.Parts.{Parts}
use Rattle.balance_laws.specs.Sound.{AreSound, FileFits, PinsMatch, IsCovered, SlotsFit, run_in, pinned_run, listed_out, listed_in, number_of, name_out, name_waiting, name_opened, index_count}
use Rattle.balance_laws.proofs.Acts.{set_at, set_same, set_other, seen_same}
use Rattle.balance_laws.proofs.Base.{same_value, not_some, clash}
use Rattle.balance_laws.proofs.Each.{each_same, each_more}
use Rattle.balance_laws.proofs.Filling.{filled_all, filled_keeps, filled_has, holes_are, holes_distinct}
use Rattle.balance_laws.proofs.Flags.{seen_alike, fits_set}
use Rattle.balance_laws.proofs.Maps.{put_at, put_off}
use Rattle.balance_laws.proofs.Members.{In as InList, OneHolds, runs_keep, runs_put, runs_there, value_at, value_in, in_upto}
use Rattle.balance_laws.proofs.Names.{names_same}
use Rattle.balance_laws.proofs.Numbers.{Distinct, upto_distinct, upto_below, all_filtered}
use Rattle.balance_laws.proofs.Runs.{AllFree, Filled, fill_all, own_all}
use Rattle.balance_laws.proofs.Slots.{slots_set}

-- what is known of each item of a list is known of a member
all_member : (P : ℕ → Type 0) (xs : List ℕ) (q : ℕ) → AllByRecursion P xs → InList q xs → P q
all_member P [] q all i = absurd i
all_member P (x ∷ xs) q all (inl e) = subst P (sym e) all.0
all_member P (x ∷ xs) q all (inr i) = all_member P xs q all.1 i

-- a member that passes a test is among those that do
filtered_in : (t : ℕ → Bool) (xs : List ℕ) (q : ℕ) → t q ≡ true → InList q xs → InList q (filter t xs)
filtered_in t [] q h i = absurd i
filtered_in t (x ∷ xs) q h i = by_test (t x) refl i (λ j. filtered_in t xs q h j)
  where
    by_test : (b : Bool) → t x ≡ b → InList q (x ∷ xs) → (InList q xs → InList q (filter t xs)) → InList q (cond (t x) (x ∷ filter t xs) (filter t xs))
    by_test true e (inl s) more = subst (λ c. InList q (cond c (x ∷ filter t xs) (filter t xs))) (sym e) (inl s)
    by_test true e (inr j) more = subst (λ c. InList q (cond c (x ∷ filter t xs) (filter t xs))) (sym e) (inr (more j))
    by_test false e (inl s) more = absurd (clash (sym h ∙ ap t s ∙ e))
    by_test false e (inr j) more = subst (λ c. InList q (cond c (x ∷ filter t xs) (filter t xs))) (sym e) (more j)

module _ (x : Parts) (labels : ℕ → Labels) (sound : AreSound x labels) (f : ℕ) (within : f < FILES) (g : FileState) (is : x.files f ≡ Some g)
    (free_pin : g.pin ≡ false) (free_hold : g.hold ≡ false) (ps : List ℕ) (as_many : length ps ≡ length (holes g (indexes g))) (frees : AllFree x.pool g.order ps) (distinct : Distinct ps)
    (slot : ℕ) (name : List ℕ) (files : finmap.FinMap nat_cmp Listed) (token handle : ℕ) (out : x.sessions slot ≡ Out name files) (few : finmap.len files < SESSION_FILES)
    (fresh : finmap.get files token ≡ None) where
  abbrev fits : FileFits g
  fits = sound.fit f g is

  abbrev pinned : FileState
  pinned = record g { runs = filled (holes g (indexes g)) ps g.runs; pin = true }

  abbrev pool : PoolState
  pool = record (own_all x.pool g.order ps) { pinned = pin_runs g.order (runs_of pinned) x.pool.pinned }

  abbrev more : SessionState
  more = Out name (finmap.insert files token (record { file = f; handle = handle; taken = false }))

  abbrev files_now : ℕ → Option FileState
  files_now = set_at f (Some pinned) x.files

  abbrev sessions_now : ℕ → SessionState
  sessions_now = set_at slot more x.sessions

  done : Filled x.pool x.files f g (holes g (indexes g)) ps
  done = fill_all (holes g (indexes g)) ps x.pool x.files f g is as_many (holes_distinct g (indexes g) (upto_distinct (index_count g))) (holes_are g (indexes g)) distinct frees sound.runs sound.owned

  whole : (i : ℕ) → i < index_count g → finmap.contains_key pinned.runs i ≡ true
  whole i less = by_test (finmap.contains_key g.runs i) refl
    where
      by_test : (b : Bool) → finmap.contains_key g.runs i ≡ b → finmap.contains_key pinned.runs i ≡ true
      by_test true e = filled_keeps (holes g (indexes g)) ps g.runs i e
      by_test false e =
          all_member (λ i. finmap.contains_key pinned.runs i ≡ true) (holes g (indexes g)) i (filled_has (holes g (indexes g)) ps g.runs as_many)
          (filtered_in (λ i. not (finmap.contains_key g.runs i)) (indexes g) i (ap not e) (in_upto i (index_count g) less))

  pinned_fits : FileFits pinned
  pinned_fits = record {
    kind = fits.kind;
    order = fits.order;
    size = fits.size;
    position = fits.position;
    below = filled_all (λ i. i < index_count g) (holes g (indexes g)) ps g.runs fits.below (all_filtered (λ i. i < index_count g) (λ i. not (finmap.contains_key g.runs i)) (indexes g) (upto_below (index_count g)));
    whole = λ h. whole;
    kept = kept g.opened;
  }
    where
      kept : (b : Bool) → (b || true || g.hold) ≡ true
      kept true = refl
      kept false = refl

  -- the pinned frames are those of before and those of this file
  pins : PinsMatch pool (λ k i. pinned_run (files_now k) i)
  pins = record {
    pinned = λ q h. pinned_from q (runs_there g.order (runs_of pinned) x.pool.pinned q h);
    covered = λ q c. covered q c.file c.index c.run c.is c.offset c.below c.frame (cases_eq c.file f);
  }
    where
      pinned_from : (q : ℕ) → (finset.contains x.pool.pinned q ≡ true) ⊎ OneHolds g.order (runs_of pinned) q → IsCovered (λ k i. pinned_run (files_now k) i) q
      pinned_from q (inl h) =
          let c : IsCovered (λ k i. pinned_run (x.files k) i) q = sound.pins.pinned q h in
          record { file = c.file; index = c.index; run = c.run; is = old c.file c.index c.run c.is (cases_eq c.file f); offset = c.offset; below = c.below; frame = c.frame }
        where
          old : (k i : ℕ) (r : ℕ × ℕ) → pinned_run (x.files k) i ≡ Some r → (k ≡ f) ⊎ (k ≡ f → ⊥) → pinned_run (files_now k) i ≡ Some r
          old k i r e (inl p) = absurd (not_some r (sym (ap (λ n. pinned_run (x.files n) i) p ∙ ap (λ v. pinned_run v i) is ∙ ap (λ c. if c then run_in (Some g) i else None) free_pin) ∙ e))
          old k i r e (inr p) = ap (λ v. pinned_run v i) (set_other f (Some pinned) x.files k p) ∙ e
      pinned_from q (inr h) =
          let at : (k : ℕ) × (finmap.get pinned.runs k ≡ Some h.run) = value_at pinned.runs h.run h.is in
          record {
            file = f;
            index = at.0;
            run = (h.run, g.order);
            is = ap (λ v. pinned_run v at.0) (set_same f (Some pinned) x.files f refl) ∙ ap (option_map (λ p. (p, g.order))) at.1;
            offset = h.holds.offset;
            below = h.holds.below;
            frame = h.holds.frame;
          }

      covered : (q k i : ℕ) (r : ℕ × ℕ) → pinned_run (files_now k) i ≡ Some r → (j : ℕ) → j < 2 ^ r.1 → q ≡ r.0 + j → (k ≡ f) ⊎ (k ≡ f → ⊥) → finset.contains pool.pinned q ≡ true
      covered q k i r e j less frame (inr p) =
          runs_keep g.order (runs_of pinned) x.pool.pinned q
          (sound.pins.covered q (record { file = k; index = i; run = r; is = ap (λ v. pinned_run v i) (sym (set_other f (Some pinned) x.files k p)) ∙ e; offset = j; below = less; frame = frame }))
      covered q k i r e j less frame (inl p) = at_run (finmap.get pinned.runs i) refl (ap (λ v. pinned_run v i) (sym (set_same f (Some pinned) x.files k p)) ∙ e)
        where
          at_run : (o : Option ℕ) → finmap.get pinned.runs i ≡ o → option_map (λ p. (p, g.order)) (finmap.get pinned.runs i) ≡ Some r → finset.contains pool.pinned q ≡ true
          at_run None is h = absurd (not_some r (sym (ap (option_map (λ p. (p, g.order))) is) ∙ h))
          at_run (Some first) is h =
              let same : (first, g.order) ≡ r = same_value (first, g.order) r (sym (ap (option_map (λ p. (p, g.order))) is) ∙ h) in
              runs_put g.order (runs_of pinned) x.pool.pinned q first (value_in pinned.runs i first is)
              (record { offset = j; below = subst (λ (y : ℕ × ℕ). j < 2 ^ y.1) (sym same) less; frame = frame ∙ ap (λ (y : ℕ × ℕ). y.0 + j) (sym same) })

  -- what is seen of the session before and now
  seen_slot : {X : Type 0} (see : SessionState → X) → see more ≡ see (Out name files) → (s : ℕ) → see (sessions_now s) ≡ see (x.sessions s)
  seen_slot see same = seen_same see slot more x.sessions (same ∙ ap see (sym out))

  seen_file : {X : Type 0} (see : Option FileState → X) → see (Some pinned) ≡ see (Some g) → (n : ℕ) → see (files_now n) ≡ see (x.files n)
  seen_file see same = seen_same see f (Some pinned) x.files (same ∙ ap see (sym is))

  slots : SlotsFit sessions_now
  slots = slots_set x.sessions slot more sound.slots (λ n e. sound.slots.outgoing slot name (ap name_out out)) (λ n opened fs e. absurd (not_in n opened fs e)) len_now
    where
      not_in : (n : List ℕ) (opened : Bool) (fs : finmap.FinMap nat_cmp Listed) → more ≡ In n opened fs → ⊥
      not_in n opened fs e = cc

      len_now : finmap.len (finmap.insert files token (record { file = f; handle = handle; taken = false })) ≤ SESSION_FILES
      len_now =
          let one : finmap.len (finmap.insert files token (record { file = f; handle = handle; taken = false })) ≡ finmap.len files + 1 =
          finmap.len-insert nat_cmp_total files token (record { file = f; handle = handle; taken = false }) ∙ ap (λ o. cond (is_some o) (finmap.len files) (finmap.len files + 1)) fresh in
          omega (arith, one, few)

  listed : OneEach (λ s t. number_of (listed_out (sessions_now s) t)) (λ k. is_pinned (files_now k))
  listed =
      each_more _ (λ s t. number_of (listed_out (sessions_now s) t)) _ (λ k. is_pinned (files_now k)) sound.listed slot token f
      (ap (λ v. number_of (listed_out v token)) out ∙ ap number_of fresh)
      (ap (λ v. number_of (listed_out v token)) (set_same slot more x.sessions slot refl) ∙ ap number_of (put_at files token (record { file = f; handle = handle; taken = false }) token refl))
      (λ s t. place s t (cases_eq s slot) (cases_eq t token))
      (ap is_pinned (set_same f (Some pinned) x.files f refl))
      (ap is_pinned is ∙ free_pin)
      (λ k. values k (cases_eq k f))
    where
      place : (s t : ℕ) → (s ≡ slot) ⊎ (s ≡ slot → ⊥) → (t ≡ token) ⊎ (t ≡ token → ⊥) → ((s ≡ slot) × (t ≡ token)) ⊎ (number_of (listed_out (sessions_now s) t) ≡ number_of (listed_out (x.sessions s) t))
      place s t (inl p) (inl e) = inl (p, e)
      place s t (inl p) (inr e) =
          inr (ap (λ v. number_of (listed_out v t)) (set_same slot more x.sessions s p) ∙ ap number_of (put_off files token (record { file = f; handle = handle; taken = false }) t e)
          ∙ ap (λ v. number_of (listed_out v t)) (sym out) ∙ ap (λ n. number_of (listed_out (x.sessions n) t)) (sym p))
      place s t (inr p) e = inr (ap (λ v. number_of (listed_out v t)) (set_other slot more x.sessions s p))

      values : (k : ℕ) → (k ≡ f) ⊎ (k ≡ f → ⊥) → (k ≡ f) ⊎ (is_pinned (files_now k) ≡ is_pinned (x.files k))
      values k (inl p) = inl p
      values k (inr p) = inr (ap is_pinned (set_other f (Some pinned) x.files k p))

  pub pinned_sound : AreSound (record x { pool = pool; sessions = sessions_now; files = files_now }) labels
  pinned_sound = record {
    runs = record { each = done.runs.each; apart = done.runs.apart };
    owned = each_same _ _ _ _ done.owned (λ k l. seen_alike (λ v. run_in v l) f (Some pinned) (Some (record g { runs = pinned.runs })) x.files refl k) (λ v. refl);
    pins = pins;
    fit = fits_set x.files f pinned sound.fit pinned_fits;
    listed = listed;
    held = each_same _ _ _ _ sound.held (λ s t. seen_slot (λ v. number_of (listed_in v t)) refl s) (seen_file is_held refl);
    untaken = λ s t l e h. seen_file is_open refl l.file ∙ sound.untaken s t l (sym (seen_slot (λ v. listed_in v t) refl s) ∙ e) h;
    slots = slots;
    outgoing = names_same x.registry.outgoing _ _ sound.outgoing (seen_slot name_out refl);
    waiting = names_same x.registry.waiting _ _ sound.waiting (seen_slot name_waiting refl);
    opened = names_same x.registry.opened _ _ sound.opened (seen_slot name_opened refl);
    used = λ n. sound.used n ∙ sym (seen_file is_some refl n);
    labeled = each_same _ _ _ _ sound.labeled (λ a l. refl) (seen_file is_open refl);
    last_slot = λ s beyond. set_other slot more x.sessions s (λ same. (let low : slot < OUT_SLOTS = sound.slots.outgoing slot name (ap name_out out) in omega (arith, same, beyond, low))) ∙ sound.last_slot s beyond;
    last_file = λ n beyond. set_other f (Some pinned) x.files n (λ same. omega (arith, same, beyond, within)) ∙ sound.last_file n beyond;
  }
