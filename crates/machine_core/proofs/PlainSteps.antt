-- What the steps of a reach without threads keep.
use Rattle.std.proofs.Common.{◌≡◌, ◌≢◌, ℕ, ◌<◌, Bool, true, ◌&&◌, List, [], ◌∷◌, ◌++◌, length, map, refl, sym, ap, subst, ◌∙◌, arith, slice_set, get_or-set_same, get_or-set_other, IsTrue, is_some, inl, inr, append_assoc}
use Rattle.std.specs.Prelude.{Option, None, Some, nat_lt, nat_le}
use Rattle.std.specs.List.{list_all}
use Rattle.std.proofs.Math.ListN.{length-set}
use Rattle.std.proofs.lemmas.Bool.Decides.{nat_tests, eqb_tells}
use Rattle.std.proofs.lemmas.List.{append-nil}
use Rattle.ho_base.specs.ShapeRule.{Layout}
use Rattle.ho_events.specs.History.{on, is_on, last_stamp}
use Rattle.ho_events.specs.declared.entry.Entry.{Entry}
use Rattle.ho_events.specs.declared.entry.Place.TheVariants as place
use Rattle.ho_events.proofs.Runs.{on_push, on_skip, last_stamp_push}
use Rattle.ho_world.specs.World.{State, run}
use Rattle.ho_world.specs.Logs.{Paired, grown, before_at, known_all, paired_on}
use Rattle.ho_world.proofs.Fronts.{and_both, all_append, all_rest, all_follow}
use Rattle.phys_frames.specs.Homes.{HomeId}
use Rattle.machine_core.specs.declared.object.Object.{Object}
use Rattle.machine_core.specs.Agents.{with_at, AreBelow}
use Rattle.machine_core.specs.Kernels.{object_at, starts_in, histories_in, IsRunAt, AreUpTo}
use Rattle.machine_core.specs.Objects.{Start, NoSpot, spot_at, start_of, history_of, IsRunOf}
use Rattle.machine_core.specs.Plain.{IsGrown, GrownAt, KeepsWork}
use Rattle.machine_core.proofs.Hands.{test, same_test, at_same, at_other}

-- ---- histories grow

module _ (f : ℕ → List Entry) (log : List Entry) (e : Entry) where
  pub others : (n q : ℕ) → e.object ≡ place.Object (record { 0 = n }) → q ≢ n → grown f (log ++ e ∷ []) q ≡ grown f log q
  others n q is other = ap (λ xs. f q ++ xs) (on_skip q log e (ap (is_on q) is ∙ test n q other))

  pub its_own : (n : ℕ) → e.object ≡ place.Object (record { 0 = n }) → grown f (log ++ e ∷ []) n ≡ grown f log n ++ e ∷ []
  its_own n is = ap (λ xs. f n ++ xs) (on_push n log e (ap (is_on n) is ∙ same_test n)) ∙ sym (append_assoc (f n) (on n log) (e ∷ []))

  pub all_stay : (q : ℕ) → e.object ≡ place.Own → grown f (log ++ e ∷ []) q ≡ grown f log q
  all_stay q is = ap (λ xs. f q ++ xs) (on_skip q log e (ap (is_on q) is))

  pub told_put : (n : ℕ) → e.object ≡ place.Object (record { 0 = n }) → grown f (log ++ e ∷ []) ≡ with_at n (grown f log n ++ e ∷ []) (grown f log)
  told_put n is = λ i q. point q i
    where
      point : (q : ℕ) → grown f (log ++ e ∷ []) q ≡ with_at n (grown f log n ++ e ∷ []) (grown f log) q
      point q = elim (eqb_tells q n) [
        | inl t ↦ subst (λ p. grown f (log ++ e ∷ []) p ≡ with_at n (grown f log n ++ e ∷ []) (grown f log) p) (sym t.1)
            (its_own n is ∙ sym (at_same n (grown f log n ++ e ∷ []) (grown f log)))
        | inr t ↦ let other : q ≢ n = t.1 in
            others n q is other ∙ sym (at_other n q (grown f log n ++ e ∷ []) (grown f log) other)
      ]

-- ---- logs grow

module _ (begun : ℕ → Option State) (f : ℕ → List Entry) where
  abbrev pub pair_at : List Entry → Entry → Paired
  pair_at seen e = record { before = before_at f seen e.object; known = known_all begun f seen; entry = e }

  pub pairs_push : (seen es : List Entry) (e : Entry) → paired_on begun f seen (es ++ e ∷ []) ≡ paired_on begun f seen es ++ pair_at (seen ++ es) e ∷ []
  unfolding paired_on
  pairs_push seen [] e = ap (λ before. pair_at before e ∷ []) (sym (append-nil seen))
  pairs_push seen (d ∷ es) e =
      ap (λ more. pair_at seen d ∷ more) (pairs_push (seen ++ d ∷ []) es e
      ∙ ap (λ before. paired_on begun f (seen ++ d ∷ []) es ++ pair_at before e ∷ []) (append_assoc seen (d ∷ []) es))

  pub pairs_none : paired_on begun f [] [] ≡ []
  unfolding paired_on
  pairs_none = refl

  pub pairs_entries : (seen es : List Entry) → map (λ (x : Paired). x.entry) (paired_on begun f seen es) ≡ es
  unfolding paired_on
  pairs_entries seen [] = refl
  pairs_entries seen (e ∷ es) = ap (λ rest. e ∷ rest) (pairs_entries (seen ++ e ∷ []) es)

  pairs_all : (p : Entry → Bool) (seen es : List Entry) → list_all (λ (x : Paired). p x.entry) (paired_on begun f seen es) ≡ list_all p es
  unfolding paired_on
  pairs_all p seen [] = refl
  pairs_all p seen (e ∷ es) = ap (λ b. p e && b) (pairs_all p (seen ++ e ∷ []) es)

  -- the entries of a log of which a stamp comes next
  pub below_log : (t : ℕ) (earlier : List Paired) (es : List Entry) → AreBelow t (earlier ++ paired_on begun f [] es) → IsTrue (list_all (λ e. nat_lt e.stamp t) es)
  below_log t earlier es h =
      subst IsTrue (pairs_all (λ e. nat_lt e.stamp t) [] es) (all_rest (λ (p : Paired). nat_lt p.entry.stamp t) earlier (paired_on begun f [] es) h)

le_same : (t : ℕ) → nat_le t t ≡ true
le_same t = grind (arith, nat_tests)

lt_le : (s t : ℕ) → IsTrue (nat_lt s t) → IsTrue (nat_le s t)
lt_le s t h = grind (arith, nat_tests)

pub stamps_push : (log : List Entry) (e : Entry) → IsTrue (list_all (λ d. nat_lt d.stamp e.stamp) log) → AreUpTo (last_stamp (log ++ e ∷ [])) (log ++ e ∷ [])
stamps_push log e h =
    subst (λ t. AreUpTo t (log ++ e ∷ [])) (sym (last_stamp_push 0 log e))
    (all_append (λ d. nat_le d.stamp e.stamp) log (e ∷ [])
    (all_follow (λ d. nat_lt d.stamp e.stamp) (λ d. nat_le d.stamp e.stamp) log (λ d. lt_le d.stamp e.stamp) h)
    (and_both (nat_le e.stamp e.stamp) true (le_same e.stamp) refl))

-- ---- the places

stays_grown : (shape : Layout) (home : HomeId) (opening : List (Option Object)) (log log' : List Entry) (n : ℕ) (slot : Option Object) → grown (histories_in opening) log' n ≡ grown (histories_in opening) log n → GrownAt shape home opening log n slot → GrownAt shape home opening log' n slot
stays_grown shape home opening log log' n None e h = tt
stays_grown shape home opening log log' n (Some o) e h = record { here = h.here; start = h.start; history = h.history ∙ sym e }

-- an object with a run has one at its number
pub run_at : (opening : List (Option Object)) (n : ℕ) (h : List Entry) (state : Object) → starts_in opening n ≡ Some (start_of state) → history_of state ≡ h → IsRunOf state → IsRunAt (starts_in opening n) h
run_at opening n h state start history is =
    subst (λ (x : Option Start). IsRunAt x h) (sym start) (subst (λ es. IsTrue (is_some (run (start_of state).state es))) history is)

pub run_of : (opening : List (Option Object)) (n : ℕ) (h : List Entry) (state : Object) → starts_in opening n ≡ Some (start_of state) → history_of state ≡ h → IsRunAt (starts_in opening n) h → IsRunOf state
run_of opening n h state start history is =
    subst (λ es. IsTrue (is_some (run (start_of state).state es))) (sym history) (subst (λ (x : Option Start). IsRunAt x h) start is)

module _ (shape : Layout) (home : HomeId) (opening objects : List (Option Object)) (log : List Entry) (k : KeepsWork shape home opening objects log) where
  pub take_keeps : (n : ℕ) → n < length objects → KeepsWork shape home opening (slice_set objects n None) log
  take_keeps n below = record {
    count = length-set objects n None ∙ k.count;
    slots = λ q q_below. elim (eqb_tells q n) [
      | inl e ↦ subst (λ p. GrownAt shape home opening log p (object_at (slice_set objects n None) p)) (sym e.1) (rw get_or-set_same tt)
      | inr e ↦ let other : q ≢ n = e.1 in rw get_or-set_other (k.slots q q_below)
    ];
    runs = k.runs;
    unbuilt = k.unbuilt;
    stamps = k.stamps;
  }

  -- an object comes back with some more entries, which are on no other object
  pub put_keeps : (log' : List Entry) (n : ℕ) (state : Object) → n < length objects → IsGrown shape home opening log' n state → IsRunAt (starts_in opening n) (grown (histories_in opening) log' n) → ((q : ℕ) → q ≢ n → grown (histories_in opening) log' q ≡ grown (histories_in opening) log q) → ((q : ℕ) → spot_at q ≡ NoSpot → on q log' ≡ []) → AreUpTo (last_stamp log') log' → KeepsWork shape home opening (slice_set objects n (Some state)) log'
  put_keeps log' n state below g is_run stay unbuilt stamps = record {
    count = length-set objects n (Some state) ∙ k.count;
    slots = λ q q_below. elim (eqb_tells q n) [
      | inl e ↦ subst (λ p. GrownAt shape home opening log' p (object_at (slice_set objects n (Some state)) p)) (sym e.1) (rw get_or-set_same g)
      | inr e ↦ let other : q ≢ n = e.1 in rw get_or-set_other (stays_grown shape home opening log log' q (object_at objects q) (stay q other) (k.slots q q_below))
    ];
    runs = λ q. elim (eqb_tells q n) [
      | inl e ↦ subst (λ p. IsRunAt (starts_in opening p) (grown (histories_in opening) log' p)) (sym e.1) is_run
      | inr e ↦ let other : q ≢ n = e.1 in subst (IsRunAt (starts_in opening q)) (sym (stay q other)) (k.runs q)
    ];
    unbuilt = unbuilt;
    stamps = stamps;
  }

  pub own_keeps : (e : Entry) → e.object ≡ place.Own → IsTrue (list_all (λ d. nat_lt d.stamp e.stamp) log) → KeepsWork shape home opening objects (log ++ e ∷ [])
  own_keeps e is below = record {
    count = k.count;
    slots = λ q q_below. stays_grown shape home opening log (log ++ e ∷ []) q (object_at objects q) (all_stay (histories_in opening) log e q is) (k.slots q q_below);
    runs = λ q. subst (IsRunAt (starts_in opening q)) (sym (all_stay (histories_in opening) log e q is)) (k.runs q);
    unbuilt = λ q none. on_skip q log e (ap (is_on q) is) ∙ k.unbuilt q none;
    stamps = stamps_push log e below;
  }
