-- `truncate` keeps a world sound.
use Rattle.std.proofs.Common.{◌≡◌, ◌⊎◌, inl, inr, ℕ, ◌+◌, ◌-◌, ◌<◌, ◌≤◌, min, Bool, true, false, not, ◌&&◌, ◌||◌, cond, List, [], ◌∷◌, ◌++◌, map, filter, length, take, replicate, refl, sym, ap, subst, ◌∙◌, arith}
use Rattle.std.specs.Prelude.{Option, None, Some, is_some, option_map, if◌then◌else◌, nat_lt, nat_le, ◌==◌}
use Rattle.std.specs.FinMap as finmap
use Rattle.std.proofs.lemmas.Bool.{and_parts, and_cases, eqb-true, not-true, not-false, ltb-true, ltb-false, lt-ltb, le-ltb, leb-true, le-leb}
use Rattle.std.proofs.lemmas.List.{length-take, length-append, length-replicate}
use Rattle.ho_base.specs.declared.limits.TheConstants.{FILES, FILE_BYTES}
use Rattle.ho_base.specs.declared.numbers.FileNo.{FileNo}
use Rattle.ho_base.specs.declared.numbers.Order.{Order}
use Rattle.ho_base.specs.declared.numbers.Pfn.{Pfn}
use Rattle.ho_events.specs.File.{FileState, file_step, truncate_step, extended, index_bytes, cut_runs, left_runs, is_too_big, is_frozen, is_device}
use Rattle.ho_events.specs.Lists.{firsts, pieces, same_bytes}
use Rattle.ho_events.specs.declared.event.Event.TheVariants.{FileTruncate, PoolGive}
use Rattle.ho_events.specs.declared.reply.Reply.{Reply}
use Rattle.ho_events.specs.declared.reply.Reply.TheVariants.{Ok, OkRuns, TooBig, SizeFrozen}
use Rattle.ho_world.specs.Acts.{Act, IsFile, Sequence, pool, unless_empty}
use Rattle.ho_world.specs.Entries.{is_ok}
use Rattle.ho_world.specs.Sequences.{Labels, Outcome, TruncateCame, truncated}
use Rattle.ho_world.specs.Sequences.Files.{TruncateOutcome, TruncateRefused, Truncated, truncate_acts, is_write_refusal}
use Rattle.ho_world.specs.World.{State, World}
use Rattle.balance_laws.specs.Keeps.{TruncateKeeps}
use Rattle.balance_laws.specs.Parts.{Parts, parts_of}
use Rattle.balance_laws.specs.Sound.{AreSound, Sound, FileFits, PinsMatch, run_in, pinned_run, index_count}
use Rattle.balance_laws.proofs.Acts.{set_at, seen_same}
use Rattle.balance_laws.proofs.Base.{same_value, not_some, clash}
use Rattle.balance_laws.proofs.Each.{pins_same}
use Rattle.balance_laws.proofs.Flags.{file_stays, flags_same}
use Rattle.balance_laws.proofs.Giving.{GivesUp, give_all, given_fit, given_each}
use Rattle.balance_laws.proofs.Members.{In, EntryIn, value_entry, entry_found, entry_of, sorted_true, same_list}
use Rattle.balance_laws.proofs.Stands.{Stands, PoolCame, FileCame, pool_came, file_came, stands_end}
use Rattle.balance_laws.proofs.Steps.{only_is, chosen, relabel_kept}
use Rattle.balance_laws.proofs.Writing.{on_label_sound}

-- entries that pass a test
entry_passed : (t : ℕ × ℕ → Bool) (es : List (ℕ × ℕ)) (e : ℕ × ℕ) → EntryIn e (filter t es) → EntryIn e es × (t e ≡ true)
entry_passed t [] e i = absurd i
entry_passed t (d ∷ es) e i = by_test (t d) refl i (λ j. entry_passed t es e j)
  where
    by_test : (b : Bool) → t d ≡ b → EntryIn e (cond (t d) (d ∷ filter t es) (filter t es)) → (EntryIn e (filter t es) → EntryIn e es × (t e ≡ true)) → EntryIn e (d ∷ es) × (t e ≡ true)
    by_test true h i more = at_first (subst (λ c. EntryIn e (cond c (d ∷ filter t es) (filter t es))) h i)
      where
        at_first : EntryIn e (d ∷ filter t es) → EntryIn e (d ∷ es) × (t e ≡ true)
        at_first (inl s) = (inl s, ap t s ∙ h)
        at_first (inr j) = (inr (more j).0, (more j).1)
    by_test false h i more = let m = more (subst (λ c. EntryIn e (cond c (d ∷ filter t es) (filter t es))) h i) in (inr m.0, m.1)

entry_passes : (t : ℕ × ℕ → Bool) (es : List (ℕ × ℕ)) (e : ℕ × ℕ) → EntryIn e es → t e ≡ true → EntryIn e (filter t es)
entry_passes t [] e i h = absurd i
entry_passes t (d ∷ es) e i h = by_test (t d) refl i (λ j. entry_passes t es e j h)
  where
    by_test : (b : Bool) → t d ≡ b → EntryIn e (d ∷ es) → (EntryIn e es → EntryIn e (filter t es)) → EntryIn e (cond (t d) (d ∷ filter t es) (filter t es))
    by_test true k (inl s) more = subst (λ c. EntryIn e (cond c (d ∷ filter t es) (filter t es))) (sym k) (inl s)
    by_test true k (inr j) more = subst (λ c. EntryIn e (cond c (d ∷ filter t es) (filter t es))) (sym k) (inr (more j))
    by_test false k (inl s) more = absurd (clash (sym h ∙ ap t s ∙ k))
    by_test false k (inr j) more = subst (λ c. EntryIn e (cond c (d ∷ filter t es) (filter t es))) (sym k) (more j)

entry_value : (es : List (ℕ × ℕ)) (e : ℕ × ℕ) → EntryIn e es → In e.1 (map (λ d. d.1) es)
entry_value [] e i = absurd i
entry_value (d ∷ es) e (inl s) = inl (ap (λ (y : ℕ × ℕ). y.1) s)
entry_value (d ∷ es) e (inr j) = inr (entry_value es e j)

module _ (g : FileState) (size : ℕ) where
  abbrev cut : ℕ
  cut = pieces size (index_bytes g)

  abbrev shorter : FileState
  shorter = record g { bytes = take size (extended size g.bytes); position = min g.position size; runs = left_runs g size }

  left_at : (i : ℕ) → finmap.get (left_runs g size) i ≡ cond (nat_lt i cut) (finmap.get g.runs i) None
  left_at i = finmap.get-retain_keys g.runs (λ k. nat_lt k cut) i (λ k e. ap (λ n. nat_lt n cut) (sym (finmap.nat_cmp-IsAntisymmetric i k e)))

  left_below : (i p : ℕ) → finmap.get (left_runs g size) i ≡ Some p → (i < cut) × (finmap.get g.runs i ≡ Some p)
  left_below i p e = by_test (nat_lt i cut) refl
    where
      by_test : (b : Bool) → nat_lt i cut ≡ b → (i < cut) × (finmap.get g.runs i ≡ Some p)
      by_test true h = (ltb-true i cut h, ap (λ b. cond b (finmap.get g.runs i) None) (sym h) ∙ sym (left_at i) ∙ e)
      by_test false h = absurd (not_some p (ap (λ b. cond b (finmap.get g.runs i) None) (sym h) ∙ sym (left_at i) ∙ e))

  left_stays : (i : ℕ) → i < cut → finmap.get (left_runs g size) i ≡ finmap.get g.runs i
  left_stays i less = left_at i ∙ ap (λ b. cond b (finmap.get g.runs i) None) (lt-ltb i cut less)

  left_none : (i : ℕ) → cut ≤ i → finmap.get (left_runs g size) i ≡ None
  left_none i more = left_at i ∙ ap (λ b. cond b (finmap.get g.runs i) None) (le-ltb i cut more)

  -- the runs that are cut are those from the end on
  cut_gives : GivesUp g (Some shorter) (cut_runs g size)
  cut_gives = record {
    gone = λ p m. gone p m;
    old = λ i v e. old i v (finmap.get (left_runs g size) i) refl e;
    stay = λ i v e out. stay i v (finmap.get g.runs i) refl e out;
  }
    where
      gone : (p : ℕ) → In p (cut_runs g size) → (i : ℕ) × (finmap.get g.runs i ≡ Some p) × (run_in (Some shorter) i ≡ None)
      gone p m =
          let e = value_entry (filter (λ d. nat_le cut d.0) (finmap.entries g.runs)) p m in
          let q = entry_passed (λ d. nat_le cut d.0) (finmap.entries g.runs) e.0 e.1 in (
            e.0.0,
            finmap.get-entries g.runs e.0.0 ∙ entry_found (finmap.entries g.runs) e.0 (sorted_true g.runs) q.0 ∙ ap Some e.2,
            ap (option_map (λ r. (r, g.order))) (left_none e.0.0 (leb-true cut e.0.0 q.1)),
          )

      old : (i : ℕ) (v : ℕ × ℕ) (o : Option ℕ) → finmap.get (left_runs g size) i ≡ o → run_in (Some shorter) i ≡ Some v → run_in (Some g) i ≡ Some v
      old i v None is e = absurd (not_some v (sym (ap (option_map (λ r. (r, g.order))) is) ∙ e))
      old i v (Some p) is e = ap (option_map (λ r. (r, g.order))) ((left_below i p is).1 ∙ sym is) ∙ e

      stay : (i : ℕ) (v : ℕ × ℕ) (o : Option ℕ) → finmap.get g.runs i ≡ o → run_in (Some g) i ≡ Some v → (In v.0 (cut_runs g size) → ⊥) → run_in (Some shorter) i ≡ Some v
      stay i v None is e out = absurd (not_some v (sym (ap (option_map (λ r. (r, g.order))) is) ∙ e))
      stay i v (Some p) is e out = by_test (nat_lt i cut) refl
        where
          by_test : (b : Bool) → nat_lt i cut ≡ b → run_in (Some shorter) i ≡ Some v
          by_test true h = ap (option_map (λ r. (r, g.order))) (left_stays i (ltb-true i cut h)) ∙ e
          by_test false h =
              let same : (p, g.order) ≡ v = same_value (p, g.order) v (sym (ap (option_map (λ r. (r, g.order))) is) ∙ e) in
              let there : In p (cut_runs g size) =
              entry_value (filter (λ d. nat_le cut d.0) (finmap.entries g.runs)) (i, p)
              (entry_passes (λ d. nat_le cut d.0) (finmap.entries g.runs) (i, p) (entry_of g.runs i p is) (le-leb cut i (ltb-false i cut h))) in
              absurd (out (subst (λ (y : ℕ × ℕ). In y.0 (cut_runs g size)) same there))

  module _ (fits : FileFits g) (small : is_too_big size ≡ false) (free : (is_frozen g && not (size == length g.bytes)) ≡ false) where
    size_is : length shorter.bytes ≡ size
    size_is =
        let whole : length (extended size g.bytes) ≡ length g.bytes + (size - length g.bytes) = length-append g.bytes (replicate (size - length g.bytes) 0) ∙ ap (λ n. length g.bytes + n) (length-replicate (size - length g.bytes) 0) in
        let front : length shorter.bytes ≡ min size (length (extended size g.bytes)) = length-take size (extended size g.bytes) in
        omega (arith, whole, front)

    -- the size of a file that a session has stays
    same_size : (g.pin || g.hold) ≡ true → size ≡ length g.bytes
    same_size h = by_test (and_cases (is_frozen g) (not (size == length g.bytes)) free)
      where
        frozen : (p q d : Bool) → (p || q) ≡ true → (p || q || d) ≡ true
        frozen true q d h = refl
        frozen false true d h = refl
        frozen false false d h = absurd (clash (sym h))

        by_test : (is_frozen g ≡ false) ⊎ (not (size == length g.bytes) ≡ false) → size ≡ length g.bytes
        by_test (inl e) = absurd (clash (sym (frozen g.pin g.hold (is_device g.kind) h) ∙ e))
        by_test (inr e) = eqb-true size (length g.bytes) (not-false (size == length g.bytes) e)

    count_is : index_count shorter ≡ cut
    count_is = ap (λ n. pieces n (index_bytes g)) size_is

    shorter_fits : FileFits shorter
    shorter_fits = record {
      kind = fits.kind;
      order = fits.order;
      size = (let low : size ≤ FILE_BYTES = ltb-false FILE_BYTES size small in omega (arith, size_is, low));
      position = omega (arith, size_is);
      below = λ i p e. subst (λ n. i < n) (sym count_is) (left_below i p e).0;
      whole = λ h i less. (let low : i < cut = subst (λ n. i < n) count_is less in ap is_some (left_stays i low) ∙ fits.whole h i (subst (λ n. i < pieces n (index_bytes g)) (same_size h) low));
      kept = fits.kept;
    }

    -- the runs of a pinned file stay
    pinned_same : (i : ℕ) → pinned_run (Some shorter) i ≡ pinned_run (Some g) i
    pinned_same i = by_pin g.pin refl
      where
        by_pin : (b : Bool) → g.pin ≡ b → pinned_run (Some shorter) i ≡ pinned_run (Some g) i
        by_pin false e = ap (λ c. if c then run_in (Some shorter) i else None) e ∙ ap (λ c. if c then run_in (Some g) i else None) (sym e)
        by_pin true e = ap (λ o. if g.pin then option_map (λ r. (r, g.order)) o else None) (same (finmap.get g.runs i) refl)
          where
            same : (o : Option ℕ) → finmap.get g.runs i ≡ o → finmap.get (left_runs g size) i ≡ finmap.get g.runs i
            same (Some p) is = left_stays i (subst (λ n. i < pieces n (index_bytes g)) (sym (same_size (ap (λ c. c || g.hold) e))) (fits.below i p is))
            same None is = none (finmap.get (left_runs g size) i) refl
              where
                none : (o : Option ℕ) → finmap.get (left_runs g size) i ≡ o → finmap.get (left_runs g size) i ≡ finmap.get g.runs i
                none None k = k ∙ sym is
                none (Some p) k = absurd (not_some p (sym is ∙ (left_below i p k).1))

module _ (x : Parts) (labels : ℕ → Labels) (sound : AreSound x labels) (f : ℕ) (within : f < FILES) (g : FileState) (is : x.files f ≡ Some g) (size : ℕ) (small : is_too_big size ≡ false)
    (free : (is_frozen g && not (size == length g.bytes)) ≡ false) where
  pub cut_sound : AreSound (record x { pool = give_all x.pool (cut_runs g size); files = set_at f (Some (shorter g size)) x.files }) labels
  cut_sound =
      flags_same x labels sound f within g (shorter g size) is refl refl refl (shorter_fits g size (sound.fit f g is) small free) (give_all x.pool (cut_runs g size)) (given_fit x.pool (cut_runs g size) sound.runs)
      (given_each x.pool x.files f g is (Some (shorter g size)) (cut_runs g size) (cut_gives g size) sound.owned)
      (owned_pins (pins_same x.pool _ _ (λ k i. seen_same (λ v. pinned_run v i) f (Some (shorter g size)) x.files (pinned_same g size (sound.fit f g is) small free i ∙ ap (λ v. pinned_run v i) (sym is)) k) sound.pins))
    where
      owned_pins : PinsMatch x.pool (λ k i. pinned_run (set_at f (Some (shorter g size)) x.files k) i) → PinsMatch (give_all x.pool (cut_runs g size)) (λ k i. pinned_run (set_at f (Some (shorter g size)) x.files k) i)
      owned_pins pins = record { pinned = pins.pinned; covered = pins.covered }

cut_there : (s now : Option FileState) (size : ℕ) (r : Reply) → file_step s (FileTruncate size) r ≡ Some now → (g : FileState) × (s ≡ Some g) × (truncate_step g size r ≡ Some now)
cut_there None now size r e = absurd (not_some now e)
cut_there (Some g) now size r e = (g, refl, e)

cut_refused : (g : FileState) (size : ℕ) (r : Reply) (now : Option FileState) → is_write_refusal r ≡ true → truncate_step g size r ≡ Some now → now ≡ Some g
cut_refused g size TooBig now t e = (only_is _ (Some g) now e).1
cut_refused g size SizeFrozen now t e = (only_is _ (Some g) now e).1
cut_refused g size r now t e = absurd (clash (sym t))

-- runs that are given, where there are any
pub gives_back : (begun : ℕ → State) (y : Parts) (v : World) (o : Order) (runs : List Pfn) (acts : List Act) → Stands begun y (unless_empty runs (pool [] (PoolGive o runs) Ok) ++ acts) v
    → Stands begun (record y { pool = give_all y.pool (firsts runs) }) acts v
gives_back begun y v o [] acts s = s
gives_back begun y v o (r ∷ runs) acts s =
    let c : PoolCame begun y [] (PoolGive o (r ∷ runs)) Ok acts v = pool_came begun y v [] (PoolGive o (r ∷ runs)) Ok acts s in
    subst (λ q. Stands begun (record y { pool = q }) acts v) (only_is _ _ c.now c.stepped).1 c.then

gives_last : (begun : ℕ → State) (y : Parts) (v : World) (o : Order) (runs : List Pfn) → Stands begun y (unless_empty runs (pool [] (PoolGive o runs) Ok)) v
    → Stands begun (record y { pool = give_all y.pool (firsts runs) }) [] v
gives_last begun y v o [] s = s
gives_last begun y v o (r ∷ runs) s =
    let c : PoolCame begun y [] (PoolGive o (r ∷ runs)) Ok [] v = pool_came begun y v [] (PoolGive o (r ∷ runs)) Ok [] s in
    subst (λ q. Stands begun (record y { pool = q }) [] v) (only_is _ _ c.now c.stepped).1 c.then

module _ (begun : ℕ → State) (x : Parts) (v : World) (labels : ℕ → Labels) (sound : AreSound x labels) (size : ℕ) (f : FileNo) where
  truncates_sound : (out : TruncateOutcome) (s : Sequence) → truncate_acts f size out ≡ Some s → Stands begun x s.acts v → Sound v labels
  truncates_sound (TruncateRefused r) s e stands =
      let k = chosen (is_write_refusal r) _ s e in
      let c : FileCame begun x f.0 [] (FileTruncate size) r [] v = file_came begun x v f [] (FileTruncate size) r [] (subst (λ (q : Sequence). Stands begun x q.acts v) (sym (same_value _ s k.1)) stands) in
      let w = cut_there (x.files f.0) c.now size r c.stepped in
      stands_end begun (record x { files = set_at f.0 c.now x.files }) v labels c.then (file_stays x labels sound f.0 c.below c.now (cut_refused w.0 size r c.now k.0 w.2 ∙ sym w.1))
  truncates_sound (Truncated k o given) s e stands =
      let c : FileCame begun x f.0 (IsFile f k o ∷ []) (FileTruncate size) (OkRuns given) (unless_empty given (pool [] (PoolGive o given) Ok)) v =
      file_came begun x v f (IsFile f k o ∷ []) (FileTruncate size) (OkRuns given) _ (subst (λ (q : Sequence). Stands begun x q.acts v) (sym (same_value _ s e)) stands) in
      let w = cut_there (x.files f.0) c.now size (OkRuns given) c.stepped in
      let put = only_is (not (is_too_big size) && not (is_frozen w.0 && not (size == length w.0.bytes)) && same_bytes (firsts given) (cut_runs w.0 size)) (Some (shorter w.0 size)) c.now w.2 in
      let a = and_parts (not (is_too_big size) && not (is_frozen w.0 && not (size == length w.0.bytes))) (same_bytes (firsts given) (cut_runs w.0 size)) put.0 in
      let b = and_parts (not (is_too_big size)) (not (is_frozen w.0 && not (size == length w.0.bytes))) a.0 in
      stands_end begun (record x { pool = give_all x.pool (firsts given); files = set_at f.0 c.now x.files }) v labels (gives_last begun (record x { files = set_at f.0 c.now x.files }) v o given c.then)
      (subst (λ h. AreSound (record x { pool = give_all x.pool (firsts given); files = set_at f.0 h x.files }) labels) (sym put.1)
      (subst (λ h. AreSound (record x { pool = give_all x.pool h; files = set_at f.0 (Some (shorter w.0 size)) x.files }) labels) (sym (same_list (firsts given) (cut_runs w.0 size) a.1))
      (cut_sound x labels sound f.0 c.below w.0 w.1 size (not-true (is_too_big size) b.0) (not-true (is_frozen w.0 && not (size == length w.0.bytes)) b.1))))

  pub truncated_sound : (outcome : Outcome) (s : Sequence) → truncated size f outcome ≡ Some s → Stands begun x s.acts v → Sound v labels
  truncated_sound (TruncateCame out) s e stands = truncates_sound out s e stands
  truncated_sound outcome s e stands = absurd (not_some s e)

pub truncate_keeps : TruncateKeeps
truncate_keeps labels a label size begun w v outcome s sound is acted =
    relabel_kept v labels a (is_ok s.reply)
    (on_label_sound begun (parts_of w) v labels (finmap.get (labels a) label) outcome _ s sound.parts
    (λ f e h stands. truncated_sound begun (parts_of w) v labels sound.parts size f outcome s h stands)
    is (record { world = w; is = sound.sorts; rest = acted }))
