-- The sessions, names and numbers of the next kernel, and all of its world.
use Rattle.std.proofs.Common.{◌≡◌, ◌⊎◌, inl, inr, ℕ, zero, suc, ◌+◌, ◌-◌, ◌<◌, ◌≤◌, Bool, true, false, cond, List, [], ◌∷◌, map, length, refl, sym, ap, subst, ◌∙◌, arith}
use Rattle.std.specs.Prelude.{Option, None, Some, is_some, option_map, slice_get, if◌then◌else◌}
use Rattle.std.specs.Ordering.{nat_cmp}
use Rattle.std.specs.Cmp.Lexicographic.{slice_cmp}
use Rattle.std.specs.FinMap as finmap
use Rattle.std.specs.FinSet as finset
use Rattle.std.proofs.lemmas.Bool.{cases_eq, cases_lt, lt-ltb, le-ltb}
use Rattle.std.proofs.lemmas.Cmp.{nat_cmp_total}
use Rattle.ho_base.specs.declared.limits.TheConstants.{OUT_SLOTS, FILES, SESSION_FILES}
use Rattle.ho_base.specs.declared.numbers.FileNo.{FileNo}
use Rattle.ho_events.specs.File.{FileState}
use Rattle.ho_events.specs.Handler.{cold_handler}
use Rattle.ho_events.specs.Lists.{upto}
use Rattle.ho_events.specs.Session.{SessionState, Listed, Free, In as InSession, files_of}
use Rattle.ho_world.specs.Balance.{SLOTS, is_pinned, is_held, is_open}
use Rattle.ho_world.specs.Frozen.{CarriedFile, CarriedSession, Frozen, carried_files, frozen, held, next, next_file, next_handler, next_pool, next_registry, next_session, next_listed, next_waiting, waiting_session, first_number, numbers_below}
use Rattle.ho_world.specs.World.{by_number}
use Rattle.balance_laws.specs.Carrying.{Rise, CarriedFits, CanFollow, FollowingIsSound, NextIsSound}
use Rattle.balance_laws.specs.Keeps.{no_labels}
use Rattle.balance_laws.specs.OneEach.{OneEach, Place}
use Rattle.balance_laws.specs.Parts.{Parts}
use Rattle.balance_laws.specs.Sound.{AreSound, FileFits, NamesMatch, SlotsFit, pinned_run, listed_out, listed_in, number_of, name_out, name_waiting, name_opened}
use Rattle.balance_laws.proofs.Base.{same_value, not_some, clash, sound_as}
use Rattle.balance_laws.proofs.CarriedFollows.{can_follow}
use Rattle.balance_laws.proofs.Cold.{nothing_each, none_named}
use Rattle.balance_laws.proofs.Maps.{set_put, set_kept}
use Rattle.balance_laws.proofs.Members.{In, in_upto, below_upto}
use Rattle.balance_laws.proofs.NextRuns.{all_at}
use Rattle.balance_laws.proofs.NextSound.{cold_next, owned_next, held_fits}
use Rattle.balance_laws.proofs.Numbering.{IsPlaced, placed_file, number_placed, placed_once, get_below, below_got, waiting_named, waiting_at, listed_numbered_from, listed_number_at}

get_past : {A : Type 0} (xs : List A) (i : ℕ) → length xs ≤ i → slice_get xs i ≡ None
get_past [] i more = refl
get_past (x ∷ xs) zero more = absurd (omega (arith, more))
get_past (x ∷ xs) (suc i) more = get_past xs i (omega (arith, more))

-- how many files a session lists
listed_most : (n : ℕ) (cs : List CarriedFile) (m : finmap.FinMap nat_cmp Listed) → finmap.len (next_listed n cs m) ≤ finmap.len m + length cs
listed_most n [] m = omega arith
listed_most n (c ∷ cs) m =
    let l : Listed = record { file = n; handle = c.handle; taken = false } in
    let rest : finmap.len (next_listed (n + 1) cs (finmap.insert m c.token l)) ≤ finmap.len (finmap.insert m c.token l) + length cs = listed_most (n + 1) cs (finmap.insert m c.token l) in
    let one : finmap.len (finmap.insert m c.token l) ≤ finmap.len m + 1 = grown _ _ (finmap.contains_key m c.token) (finmap.len-insert nat_cmp_total m c.token l) in
    omega (arith, rest, one)
  where
    grown : (a b : ℕ) (t : Bool) → a ≡ cond t b (b + 1) → a ≤ b + 1
    grown a b true e = omega (arith, e)
    grown a b false e = omega (arith, e)

-- numbers that are put into a set one after another
put_each : List ℕ → finset.FinSet nat_cmp → finset.FinSet nat_cmp
put_each [] set = set
put_each (x ∷ xs) set = put_each xs (finset.insert set x)

stays_put : (xs : List ℕ) (set : finset.FinSet nat_cmp) (q : ℕ) → finset.contains set q ≡ true → finset.contains (put_each xs set) q ≡ true
unfolding put_each
stays_put [] set q h = h
stays_put (x ∷ xs) set q h = stays_put xs (finset.insert set x) q (by_case (cases_eq q x))
  where
    by_case : (q ≡ x) ⊎ (q ≡ x → ⊥) → finset.contains (finset.insert set x) q ≡ true
    by_case (inl e) = set_put set x q e
    by_case (inr e) = set_kept set x q e ∙ h

is_put : (xs : List ℕ) (set : finset.FinSet nat_cmp) (q : ℕ) → In q xs → finset.contains (put_each xs set) q ≡ true
unfolding put_each
is_put [] set q i = absurd i
is_put (x ∷ xs) set q (inl e) = stays_put xs (finset.insert set x) q (set_put set x q e)
is_put (x ∷ xs) set q (inr i) = is_put xs (finset.insert set x) q i

not_put : (xs : List ℕ) (set : finset.FinSet nat_cmp) (q : ℕ) → (In q xs → ⊥) → finset.contains (put_each xs set) q ≡ finset.contains set q
unfolding put_each
not_put [] set q out = refl
not_put (x ∷ xs) set q out = not_put xs (finset.insert set x) q (λ i. out (inr i)) ∙ set_kept set x q (λ e. out (inl e))

below_is : (n : ℕ) (set : finset.FinSet nat_cmp) → numbers_below n set ≡ put_each (upto n) set
unfolding put_each
below_is n set = refl

module _ (f : Frozen) (can : CanFollow f) where
  abbrev ss : List CarriedSession
  ss = f.sessions

  abbrev cs : List CarriedFile
  cs = carried_files f

  abbrev waits : ℕ → CarriedSession → SessionState
  waits i s = InSession s.name false (next_listed (first_number ss i) s.files finmap.empty)

  session_is : (i : ℕ) (s : CarriedSession) → slice_get ss i ≡ Some s → next_session f (OUT_SLOTS + i) ≡ waits i s
  session_is i s e =
      let place : OUT_SLOTS + i - OUT_SLOTS ≡ i = omega arith in
      ap (λ b. if b then Free else waiting_session f (OUT_SLOTS + i - OUT_SLOTS) (slice_get ss (OUT_SLOTS + i - OUT_SLOTS))) (le-ltb (OUT_SLOTS + i) OUT_SLOTS (omega arith))
      ∙ ap (λ k. waiting_session f k (slice_get ss k)) place ∙ ap (waiting_session f i) e

  -- a slot is free, or has the session of its place
  slot_is : (k : ℕ) → (next_session f k ≡ Free) ⊎ ((i : ℕ) × (s : CarriedSession) × (k ≡ OUT_SLOTS + i) × (slice_get ss i ≡ Some s) × (next_session f k ≡ waits i s))
  slot_is k = by_order (cases_lt k OUT_SLOTS)
    where
      by_order : (k < OUT_SLOTS) ⊎ (OUT_SLOTS ≤ k) → (next_session f k ≡ Free) ⊎ ((i : ℕ) × (s : CarriedSession) × (k ≡ OUT_SLOTS + i) × (slice_get ss i ≡ Some s) × (next_session f k ≡ waits i s))
      by_order (inl l) = inl (ap (λ b. if b then Free else waiting_session f (k - OUT_SLOTS) (slice_get ss (k - OUT_SLOTS))) (lt-ltb k OUT_SLOTS l))
      by_order (inr l) = at_session (slice_get ss (k - OUT_SLOTS)) refl
        where
          late : next_session f k ≡ waiting_session f (k - OUT_SLOTS) (slice_get ss (k - OUT_SLOTS))
          late = ap (λ b. if b then Free else waiting_session f (k - OUT_SLOTS) (slice_get ss (k - OUT_SLOTS))) (le-ltb k OUT_SLOTS l)

          at_session : (o : Option CarriedSession) → slice_get ss (k - OUT_SLOTS) ≡ o
              → (next_session f k ≡ Free) ⊎ ((i : ℕ) × (s : CarriedSession) × (k ≡ OUT_SLOTS + i) × (slice_get ss i ≡ Some s) × (next_session f k ≡ waits i s))
          at_session None e = inl (late ∙ ap (waiting_session f (k - OUT_SLOTS)) e)
          at_session (Some s) e = inr (k - OUT_SLOTS, s, omega (arith, l), e, late ∙ ap (waiting_session f (k - OUT_SLOTS)) e)

  -- what is listed under a token
  record IsAt (k t v : ℕ) : Type 0 where
    session : ℕ
    is : CarriedSession
    slot : k ≡ OUT_SLOTS + session
    there : slice_get ss session ≡ Some is
    place : ℕ
    file : CarriedFile
    has : slice_get is.files place ≡ Some file
    token : file.token ≡ t
    number : v ≡ first_number ss session + place

  listed_is : (k t v : ℕ) → number_of (listed_in (next_session f k) t) ≡ Some v → IsAt k t v
  listed_is k t v e = at_slot (slot_is k)
    where
      at_slot : (next_session f k ≡ Free) ⊎ ((i : ℕ) × (s : CarriedSession) × (k ≡ OUT_SLOTS + i) × (slice_get ss i ≡ Some s) × (next_session f k ≡ waits i s)) → IsAt k t v
      at_slot (inl free) = absurd (not_some v (sym (ap (λ u. number_of (listed_in u t)) free) ∙ e))
      at_slot (inr m) =
          let n = listed_numbered_from (first_number ss m.0) m.1.files t v (ap (λ u. number_of (listed_in u t)) (sym m.4) ∙ e) in
          record { session = m.0; is = m.1; slot = m.2; there = m.3; place = n.0; file = n.1; has = n.2; token = n.3; number = n.4 }

  file_at_place : (k t v : ℕ) → (p : IsAt k t v) → slice_get cs v ≡ Some p.file
  file_at_place k t v p = placed_file ss v (record { session = p.session; is = p.is; there = p.there; place = p.place; file = p.file; has = p.has; number = p.number })

  held_next : OneEach (λ k t. number_of (listed_in (next_session f k) t)) (λ v. is_held (next_file f v))
  held_next = record {
    there = λ k t v e. ap (λ o. is_held (option_map held o)) (file_at_place k t v (listed_is k t v e));
    found = λ v h. found v (slice_get cs v) refl h;
    once = λ k m t u v e g. once k m t u v (listed_is k t v e) (listed_is m u v g);
  }
    where
      placed : (v : ℕ) → IsPlaced ss v → Place (λ k t. number_of (listed_in (next_session f k) t)) v
      placed v p = record {
        row = OUT_SLOTS + p.session;
        column = p.file.token;
        is =
            ap (λ u. number_of (listed_in u p.file.token)) (session_is p.session p.is p.there)
            ∙ listed_number_at (first_number ss p.session) p.is.files p.place p.file (all_at (λ (s : CarriedSession). Rise nat_cmp (map (λ (c : CarriedFile). c.token) s.files)) ss p.session p.is can.tokens p.there) p.has ∙ ap Some (sym p.number);
      }

      found : (v : ℕ) (o : Option CarriedFile) → slice_get cs v ≡ o → is_held (option_map held (slice_get cs v)) ≡ true → Place (λ k t. number_of (listed_in (next_session f k) t)) v
      found v None e h = absurd (clash (sym h ∙ ap (λ o. is_held (option_map held o)) e))
      found v (Some c) e h = placed v (number_placed ss v (below_got cs v c e))

      once : (k m t u v : ℕ) → IsAt k t v → IsAt m u v → (k ≡ m) × (t ≡ u)
      once k m t u v p q =
          let a = p.number in
          let b = q.number in
          let same = placed_once ss p.session q.session p.place q.place p.is q.is p.there q.there (below_got p.is.files p.place p.file p.has) (below_got q.is.files q.place q.file q.has) (sym a ∙ b) in
          let file : p.file ≡ q.file = same_value p.file q.file (sym (file_at_place k t v p) ∙ file_at_place m u v q) in
          (p.slot ∙ ap (λ i. OUT_SLOTS + i) same.0 ∙ sym q.slot, sym p.token ∙ ap (λ (c : CarriedFile). c.token) file ∙ q.token)

  seen_all : {X : Type 0} (see : SessionState → X) (x : X) → see Free ≡ x → ((i : ℕ) (s : CarriedSession) → see (waits i s) ≡ x) → (k : ℕ) → see (next_session f k) ≡ x
  seen_all see x free each k = at_slot (slot_is k)
    where
      at_slot : (next_session f k ≡ Free) ⊎ ((i : ℕ) × (s : CarriedSession) × (k ≡ OUT_SLOTS + i) × (slice_get ss i ≡ Some s) × (next_session f k ≡ waits i s)) → see (next_session f k) ≡ x
      at_slot (inl h) = ap see h ∙ free
      at_slot (inr m) = ap see m.4 ∙ each m.0 m.1

  no_names : (see : SessionState → Option (List ℕ)) → ((k : ℕ) → see (next_session f k) ≡ None) → NamesMatch finmap.empty (λ k. see (next_session f k))
  no_names see none = record { there = λ name s e. absurd (none_named name s e); found = λ name s e. absurd (not_some name (sym (none s) ∙ e)) }

  waiting_next : NamesMatch (next_waiting OUT_SLOTS ss finmap.empty) (λ k. name_waiting (next_session f k))
  waiting_next = record {
    there = λ name s e. there name s (waiting_named OUT_SLOTS ss finmap.empty name s e);
    found = λ name s e. found name s (slot_is s) e;
  }
    where
      there : (name : List ℕ) (s : ℕ) → (finmap.get (finmap.empty {X = ℕ} {R = slice_cmp nat_cmp}) name ≡ Some s) ⊎ ((i : ℕ) × (c : CarriedSession) × (slice_get ss i ≡ Some c) × (c.name ≡ name) × (s ≡ OUT_SLOTS + i)) → name_waiting (next_session f s) ≡ Some name
      there name s (inl h) = absurd (none_named name s h)
      there name s (inr m) = ap (λ k. name_waiting (next_session f k)) m.4 ∙ ap name_waiting (session_is m.0 m.1 m.2) ∙ ap Some m.3

      found : (name : List ℕ) (k : ℕ) → (next_session f k ≡ Free) ⊎ ((i : ℕ) × (s : CarriedSession) × (k ≡ OUT_SLOTS + i) × (slice_get ss i ≡ Some s) × (next_session f k ≡ waits i s)) → name_waiting (next_session f k) ≡ Some name
          → finmap.get (next_waiting OUT_SLOTS ss finmap.empty) name ≡ Some k
      found name k (inl h) e = absurd (not_some name (sym (ap name_waiting h) ∙ e))
      found name k (inr m) e =
          let same : m.1.name ≡ name = same_value m.1.name name (sym (ap name_waiting m.4) ∙ e) in
          ap (finmap.get (next_waiting OUT_SLOTS ss finmap.empty)) (sym same) ∙ waiting_at OUT_SLOTS ss finmap.empty m.0 m.1 can.names m.3 ∙ ap Some (sym m.2)

  slots_next : SlotsFit (next_session f)
  slots_next = record {
    outgoing = λ k name e. absurd (not_some name (sym (seen_all name_out None refl (λ i s. refl) k) ∙ e));
    incoming = λ k name opened files e. incoming k name opened files (slot_is k) e;
    few = λ k. few k (slot_is k);
  }
    where
      free_not : (n : List ℕ) (opened : Bool) (files : finmap.FinMap nat_cmp Listed) → Free ≡ InSession n opened files → ⊥
      free_not n opened files e = cc

      incoming : (k : ℕ) (name : List ℕ) (opened : Bool) (files : finmap.FinMap nat_cmp Listed) → (next_session f k ≡ Free) ⊎ ((i : ℕ) × (s : CarriedSession) × (k ≡ OUT_SLOTS + i) × (slice_get ss i ≡ Some s) × (next_session f k ≡ waits i s))
          → next_session f k ≡ InSession name opened files → OUT_SLOTS ≤ k
      incoming k name opened files (inl h) e = absurd (free_not name opened files (sym h ∙ e))
      incoming k name opened files (inr m) e = let at = m.2 in omega (arith, at)

      few : (k : ℕ) → (next_session f k ≡ Free) ⊎ ((i : ℕ) × (s : CarriedSession) × (k ≡ OUT_SLOTS + i) × (slice_get ss i ≡ Some s) × (next_session f k ≡ waits i s)) → finmap.len (files_of (next_session f k)) ≤ SESSION_FILES
      few k (inl h) =
          let none : finmap.len (files_of (next_session f k)) ≡ 0 = ap (λ s. finmap.len (files_of s)) h ∙ finmap.len-empty nat_cmp Listed in
          omega (arith, none)
      few k (inr m) =
          let same : finmap.len (files_of (next_session f k)) ≡ finmap.len (next_listed (first_number ss m.0) m.1.files finmap.empty) = ap (λ s. finmap.len (files_of s)) m.4 in
          let most : finmap.len (next_listed (first_number ss m.0) m.1.files finmap.empty) ≤ finmap.len (finmap.empty {X = Listed} {R = nat_cmp}) + length m.1.files = listed_most (first_number ss m.0) m.1.files finmap.empty in
          let none : finmap.len (finmap.empty {X = Listed} {R = nat_cmp}) ≡ 0 = finmap.len-empty nat_cmp Listed in
          let low : length m.1.files ≤ SESSION_FILES = all_at (λ (s : CarriedSession). length s.files ≤ SESSION_FILES) ss m.0 m.1 can.few m.3 in
          omega (arith, same, most, none, low)

  seen_file : {X : Type 0} (see : Option FileState → X) (x : X) → see None ≡ x → ((c : CarriedFile) → see (Some (held c)) ≡ x) → (n : ℕ) → see (next_file f n) ≡ x
  seen_file see x none each n = at_file (slice_get cs n)
    where
      at_file : (o : Option CarriedFile) → see (option_map held o) ≡ x
      at_file None = none
      at_file (Some c) = each c

  fit_next : (n : ℕ) (g : FileState) → next_file f n ≡ Some g → FileFits g
  fit_next n g e = at_file (slice_get cs n) refl e
    where
      at_file : (o : Option CarriedFile) → slice_get cs n ≡ o → option_map held o ≡ Some g → FileFits g
      at_file None is h = absurd (not_some g h)
      at_file (Some c) is h = subst FileFits (same_value (held c) g h) (held_fits c (all_at CarriedFits cs n c can.fit is))

  used_next : (n : ℕ) → finset.contains (numbers_below (length cs) finset.empty) n ≡ is_some (next_file f n)
  used_next n = ap (λ s. finset.contains s n) (below_is (length cs) finset.empty) ∙ by_order (cases_lt n (length cs))
    where
      by_order : (n < length cs) ⊎ (length cs ≤ n) → finset.contains (put_each (upto (length cs)) finset.empty) n ≡ is_some (option_map held (slice_get cs n))
      by_order (inl l) = is_put (upto (length cs)) finset.empty n (in_upto n (length cs) l) ∙ sym (ap (λ o. is_some (option_map held o)) (get_below cs n l).1)
      by_order (inr l) =
          not_put (upto (length cs)) finset.empty n (λ i. (let low = below_upto n (length cs) i in omega (arith, low, l))) ∙ finset.contains-empty nat_cmp n ∙ sym (ap (λ o. is_some (option_map held o)) (get_past cs n l))

  last_next : (k : ℕ) → SLOTS ≤ k → next_session f k ≡ Free
  last_next k beyond = at_slot (slot_is k)
    where
      at_slot : (next_session f k ≡ Free) ⊎ ((i : ℕ) × (s : CarriedSession) × (k ≡ OUT_SLOTS + i) × (slice_get ss i ≡ Some s) × (next_session f k ≡ waits i s)) → next_session f k ≡ Free
      at_slot (inl h) = h
      at_slot (inr m) =
          let at = m.2 in
          let low : m.0 < length ss = below_got ss m.0 m.1 m.3 in
          let few : length ss ≤ OUT_SLOTS = can.sessions in
          absurd (omega (arith, at, low, few, beyond))

  abbrev begins : Parts
  begins = record { pool = next_pool f; registry = next_registry f; sessions = next_session f; files = next_file f }

  next_sound : AreSound begins no_labels
  next_sound = record {
    runs = can.runs;
    owned = owned_next f can;
    pins = record {
      pinned = λ p h. absurd (clash (sym h ∙ finset.contains-empty nat_cmp p));
      covered = λ p c. absurd (not_some c.run (sym (seen_file (λ o. pinned_run o c.index) None refl (λ d. refl) c.file) ∙ c.is));
    };
    fit = fit_next;
    listed = nothing_each _ _ (λ k t. seen_all (λ s. number_of (listed_out s t)) None refl (λ i s. refl) k) (λ n. seen_file is_pinned false refl (λ c. refl) n);
    held = held_next;
    untaken = λ k t l e h. seen_file is_open false refl (λ c. refl) l.file;
    slots = slots_next;
    outgoing = no_names name_out (seen_all name_out None refl (λ i s. refl));
    waiting = waiting_next;
    opened = no_names name_opened (seen_all name_opened None refl (λ i s. refl));
    used = used_next;
    labeled = nothing_each _ _ (λ a label. ap (option_map (λ (f : FileNo). f.0)) (finmap.get-empty (slice_cmp nat_cmp) label)) (λ n. seen_file is_open false refl (λ c. refl) n);
    last_slot = last_next;
    last_file = λ n beyond. ap (option_map held) (get_past cs n (let few : length cs ≤ FILES = can.files in omega (arith, few, beyond)));
  }

pub following_is_sound : FollowingIsSound
following_is_sound f can =
    sound_as (next f) (begins f can) no_labels
    (λ o. (let cold : (λ k. next_handler f k) ≡ (λ k. cold_handler) = λ j k. cold_next f can k j in ap (λ h. by_number (next_pool f) (next_registry f) h (next_session f) (next_file f) o) cold))
    (next_sound f can)

pub next_is_sound : NextIsSound
next_is_sound labels w sound = following_is_sound (frozen w) (can_follow labels w sound)
