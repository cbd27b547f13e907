-- A session that ends, with all files that it lists.
use Rattle.std.proofs.Common.{◌≡◌, ◌⊎◌, inl, inr, ℕ, ◌<◌, ◌≤◌, Bool, true, List, [], ◌∷◌, map, refl, sym, ap, subst, ◌∙◌, arith}
use Rattle.std.specs.Prelude.{Option, None, Some}
use Rattle.std.specs.Ordering.{nat_cmp}
use Rattle.std.specs.FinMap as finmap
use Rattle.std.proofs.lemmas.Bool.{cases_eq}
use Rattle.ho_events.specs.Session.{SessionState, Listed, Free, Out, In as InSession, files_of}
use Rattle.ho_world.specs.Acts.{Reference, reference_of, references}
use Rattle.ho_world.specs.Balance.{SLOTS, is_pinned, is_held}
use Rattle.ho_world.specs.Sequences.{Labels}
use Rattle.ho_world.specs.Sequences.Parts.{Part, part_reference}
use Rattle.balance_laws.specs.OneEach.{OneEach}
use Rattle.balance_laws.specs.Parts.{Parts}
use Rattle.balance_laws.specs.Sound.{SoundBut, AreSound, SlotsFit, listed_out, listed_in, number_of, name_out, name_waiting, name_opened}
use Rattle.balance_laws.proofs.Acts.{set_at, set_same, set_other, seen_same}
use Rattle.balance_laws.proofs.Base.{same_value, not_some}
use Rattle.balance_laws.proofs.Each.{each_same, each_less}
use Rattle.balance_laws.proofs.Members.{In, EntryIn, entry_of, entry_found, sorted_true}
use Rattle.balance_laws.proofs.Names.{names_same, names_less}
use Rattle.balance_laws.proofs.PartsLeft.{numbers_of}
use Rattle.balance_laws.proofs.Slots.{slots_set}

-- the numbers of listed files
abbrev pub files_in : finmap.FinMap nat_cmp Listed → List ℕ
files_in files = map (λ (l : Listed). l.file) (finmap.values files)

entry_number : (es : List (ℕ × Listed)) (e : ℕ × Listed) → EntryIn e es → In e.1.file (map (λ (l : Listed). l.file) (map (λ d. d.1) es))
entry_number [] e i = absurd i
entry_number (d ∷ es) e (inl s) = inl (ap (λ (y : ℕ × Listed). y.1.file) s)
entry_number (d ∷ es) e (inr j) = inr (entry_number es e j)

number_entry : (es : List (ℕ × Listed)) (v : ℕ) → In v (map (λ (l : Listed). l.file) (map (λ d. d.1) es)) → (e : ℕ × Listed) × EntryIn e es × (e.1.file ≡ v)
number_entry [] v i = absurd i
number_entry (d ∷ es) v (inl s) = (d, inl refl, sym s)
number_entry (d ∷ es) v (inr j) = let m = number_entry es v j in (m.0, inr m.1, m.2)

pub listed_number : (files : finmap.FinMap nat_cmp Listed) (t : ℕ) (l : Listed) → finmap.get files t ≡ Some l → In l.file (files_in files)
listed_number files t l e = entry_number (finmap.entries files) (t, l) (entry_of files t l e)

pub number_listed : (files : finmap.FinMap nat_cmp Listed) (v : ℕ) → In v (files_in files) → (t : ℕ) × (number_of (finmap.get files t) ≡ Some v)
number_listed files v i =
    let m = number_entry (finmap.entries files) v i in
    (m.0.0, ap number_of (finmap.get-entries files m.0.0 ∙ entry_found (finmap.entries files) m.0 (sorted_true files) m.1) ∙ ap Some m.2)

-- the parts name what the session lists
files_referred : (ls : List Listed) → map (λ (r : Reference). r.file) (map reference_of ls) ≡ map (λ (l : Listed). l.file) ls
files_referred [] = refl
files_referred (l ∷ ls) = ap (λ ns. l.file ∷ ns) (files_referred ls)

parts_referred : (cs : List Part) → map (λ (r : Reference). r.file) (map part_reference cs) ≡ numbers_of cs
parts_referred [] = refl
parts_referred (c ∷ cs) = ap (λ ns. c.number.0 ∷ ns) (parts_referred cs)

pub parts_list : (s : SessionState) (cs : List Part) → references s ≡ map part_reference cs → files_in (files_of s) ≡ numbers_of cs
parts_list s cs e = sym (files_referred (finmap.values (files_of s))) ∙ ap (map (λ (r : Reference). r.file)) e ∙ parts_referred cs

-- A session is gone, and what it listed isn't there any more.
module _ (view : SessionState → ℕ → Option Listed) (sessions : ℕ → SessionState) (slot : ℕ) (files : finmap.FinMap nat_cmp Listed) (had : (t : ℕ) → view (sessions slot) t ≡ finmap.get files t) (none : (t : ℕ) → view Free t ≡ None)
    (was now : ℕ → Bool) (still : (v : ℕ) → now v ≡ true → (was v ≡ true) × (In v (files_in files) → ⊥)) (stay : (v : ℕ) → was v ≡ true → (In v (files_in files) → ⊥) → now v ≡ true)
    (each : OneEach (λ s t. number_of (view (sessions s) t)) was) where
  its_files : (t v : ℕ) → number_of (view (sessions slot) t) ≡ Some v → In v (files_in files)
  its_files t v e = at_entry (finmap.get files t) refl (ap number_of (sym (had t)) ∙ e)
    where
      at_entry : (o : Option Listed) → finmap.get files t ≡ o → number_of (finmap.get files t) ≡ Some v → In v (files_in files)
      at_entry None is h = absurd (not_some v (sym (ap number_of is) ∙ h))
      at_entry (Some l) is h = subst (λ n. In n (files_in files)) (same_value l.file v (sym (ap number_of is) ∙ h)) (listed_number files t l is)

  stayed : (k t v : ℕ) → (k ≡ slot) ⊎ (k ≡ slot → ⊥) → number_of (view (set_at slot Free sessions k) t) ≡ Some v → (number_of (view (sessions k) t) ≡ Some v) × (now v ≡ true)
  stayed k t v (inl p) e = absurd (not_some v (sym (ap (λ u. number_of (view u t)) (set_same slot Free sessions k p) ∙ ap number_of (none t)) ∙ e))
  stayed k t v (inr p) e =
      let old : number_of (view (sessions k) t) ≡ Some v = ap (λ u. number_of (view u t)) (sym (set_other slot Free sessions k p)) ∙ e in
      (old, stay v (each.there k t v old) (λ i. (let m = number_listed files v i in p (each.once k slot t m.0 v old (ap number_of (had m.0) ∙ m.1)).0)))

  stays : (k t v : ℕ) → (k ≡ slot) ⊎ (k ≡ slot → ⊥) → number_of (view (sessions k) t) ≡ Some v → now v ≡ true → number_of (view (set_at slot Free sessions k) t) ≡ Some v
  stays k t v (inl p) e h = absurd ((still v h).1 (its_files t v (ap (λ n. number_of (view (sessions n) t)) (sym p) ∙ e)))
  stays k t v (inr p) e h = ap (λ u. number_of (view u t)) (set_other slot Free sessions k p) ∙ e

  pub list_less : OneEach (λ s t. number_of (view (set_at slot Free sessions s) t)) now
  list_less =
      each_less (λ s t. number_of (view (sessions s) t)) (λ s t. number_of (view (set_at slot Free sessions s) t)) was now each
      (λ k t v e. stayed k t v (cases_eq k slot) e) (λ k t v e h. stays k t v (cases_eq k slot) e h) (λ v h. (still v h).0)

slots_free : (sessions : ℕ → SessionState) (slot : ℕ) → SlotsFit sessions → SlotsFit (set_at slot Free sessions)
slots_free sessions slot fit =
    slots_set sessions slot Free fit (λ n e. absurd (not_some n e)) (λ n opened files e. absurd (free_not n opened files e)) (let none = finmap.len-empty nat_cmp Listed in omega (arith, none))
  where
    free_not : (n : List ℕ) (opened : Bool) (files : finmap.FinMap nat_cmp Listed) → Free ≡ InSession n opened files → ⊥
    free_not n opened files e = cc

module _ (y : Parts) (labels : ℕ → Labels) (pinned holding : ℕ → Bool) (sound : SoundBut y labels pinned holding) (slot : ℕ) (below : slot < SLOTS) (name : List ℕ) (files : finmap.FinMap nat_cmp Listed) where
  abbrev ended : ℕ → SessionState
  ended = set_at slot Free y.sessions

  last_slot : (s : ℕ) → SLOTS ≤ s → ended s ≡ Free
  last_slot s beyond = set_other slot Free y.sessions s (λ same. omega (arith, same, beyond, below)) ∙ sound.last_slot s beyond

  -- an outgoing session is closed
  module _ (was : y.sessions slot ≡ Out name files) (still : (v : ℕ) → is_pinned (y.files v) ≡ true → (pinned v ≡ true) × (In v (files_in files) → ⊥)) (stay : (v : ℕ) → pinned v ≡ true → (In v (files_in files) → ⊥) → is_pinned (y.files v) ≡ true)
      (same : (v : ℕ) → is_held (y.files v) ≡ holding v) where
    seen_out : {X : Type 0} (see : SessionState → X) → see Free ≡ see (Out name files) → (s : ℕ) → see (ended s) ≡ see (y.sessions s)
    seen_out see e = seen_same see slot Free y.sessions (e ∙ ap see (sym was))

    pub closed_sound : AreSound (record y { registry = record y.registry { outgoing = finmap.remove y.registry.outgoing name }; sessions = ended }) labels
    closed_sound = record {
      runs = sound.runs;
      owned = sound.owned;
      pins = sound.pins;
      fit = sound.fit;
      listed = list_less listed_out y.sessions slot files (λ t. ap (λ u. listed_out u t) was) (λ t. refl) pinned (λ v. is_pinned (y.files v)) still stay sound.listed;
      held = each_same _ _ _ _ sound.held (λ s t. seen_out (λ u. number_of (listed_in u t)) refl s) same;
      untaken = λ s t l e. sound.untaken s t l (sym (seen_out (λ u. listed_in u t) refl s) ∙ e);
      slots = slots_free y.sessions slot sound.slots;
      outgoing = names_less y.registry.outgoing _ (λ s. name_out (ended s)) sound.outgoing name slot (λ s ne. ap name_out (set_other slot Free y.sessions s ne)) (ap name_out was) (ap name_out (set_same slot Free y.sessions slot refl));
      waiting = names_same y.registry.waiting _ _ sound.waiting (seen_out name_waiting refl);
      opened = names_same y.registry.opened _ _ sound.opened (seen_out name_opened refl);
      used = sound.used;
      labeled = sound.labeled;
      last_slot = last_slot;
      last_file = sound.last_file;
    }

  -- an incoming session is finished
  module _ (was : y.sessions slot ≡ InSession name true files) (still : (v : ℕ) → is_held (y.files v) ≡ true → (holding v ≡ true) × (In v (files_in files) → ⊥)) (stay : (v : ℕ) → holding v ≡ true → (In v (files_in files) → ⊥) → is_held (y.files v) ≡ true)
      (same : (v : ℕ) → is_pinned (y.files v) ≡ pinned v) where
    seen_in : {X : Type 0} (see : SessionState → X) → see Free ≡ see (InSession name true files) → (s : ℕ) → see (ended s) ≡ see (y.sessions s)
    seen_in see e = seen_same see slot Free y.sessions (e ∙ ap see (sym was))

    untaken : (s t : ℕ) (l : Listed) → (s ≡ slot) ⊎ (s ≡ slot → ⊥) → listed_in (ended s) t ≡ Some l → listed_in (y.sessions s) t ≡ Some l
    untaken s t l (inl p) e = absurd (not_some l (sym (ap (λ u. listed_in u t) (set_same slot Free y.sessions s p)) ∙ e))
    untaken s t l (inr p) e = ap (λ u. listed_in u t) (sym (set_other slot Free y.sessions s p)) ∙ e

    pub finished_sound : AreSound (record y { registry = record y.registry { opened = finmap.remove y.registry.opened name }; sessions = ended }) labels
    finished_sound = record {
      runs = sound.runs;
      owned = sound.owned;
      pins = sound.pins;
      fit = sound.fit;
      listed = each_same _ _ _ _ sound.listed (λ s t. seen_in (λ u. number_of (listed_out u t)) refl s) same;
      held = list_less listed_in y.sessions slot files (λ t. ap (λ u. listed_in u t) was) (λ t. refl) holding (λ v. is_held (y.files v)) still stay sound.held;
      untaken = λ s t l e. sound.untaken s t l (untaken s t l (cases_eq s slot) e);
      slots = slots_free y.sessions slot sound.slots;
      outgoing = names_same y.registry.outgoing _ _ sound.outgoing (seen_in name_out refl);
      waiting = names_same y.registry.waiting _ _ sound.waiting (seen_in name_waiting refl);
      opened = names_less y.registry.opened _ (λ s. name_opened (ended s)) sound.opened name slot (λ s ne. ap name_opened (set_other slot Free y.sessions s ne)) (ap name_opened was) (ap name_opened (set_same slot Free y.sessions slot refl));
      used = sound.used;
      labeled = sound.labeled;
      last_slot = last_slot;
      last_file = sound.last_file;
    }
