-- The stamps, kernels, agents and commands of what an agent that works alone did.
use Rattle.std.proofs.Common.{◌≡◌, ℕ, ◌+◌, ◌≤◌, Bool, ◌&&◌, ◌==◌, nat_lt, nat_le, max, List, [], ◌∷◌, ◌++◌, refl, sym, ap, subst, ◌∙◌, arith, IsTrue, append_assoc, zero, suc}
use Rattle.std.specs.Prelude.{Option}
use Rattle.std.specs.List.{list_all}
use Rattle.std.proofs.lemmas.Bool.Decides.{nat_tests}
use Rattle.std.proofs.lemmas.List.{append-nil}
use Rattle.ho_events.specs.declared.command.Command.{Command}
use Rattle.ho_events.specs.declared.entry.Entry.{Entry}
use Rattle.ho_events.specs.declared.slip.At.{At}
use Rattle.ho_events.specs.History.{greatest_stamp, last_stamp}
use Rattle.ho_world.specs.World.{State}
use Rattle.ho_world.specs.Entries.{all_pairs}
use Rattle.ho_world.specs.Sequences.{Labels}
use Rattle.ho_world.specs.Logs.{Deed, AreDone, deeds_of, before_at, paired_on}
use Rattle.ho_world.proofs.Fronts.{and_both, and_left, and_right, all_append, all_follow, eq_test}
use Rattle.ho_world.proofs.Rises.{less_test}
use Rattle.ho_world.proofs.Step.{pairs_parts}
use Rattle.ho_world.proofs.Went.{Went}

-- each stamp is one more than the last stamps of the agent and of the object
unfoldable pub Stamps : (ℕ → List Entry) → ℕ → List Entry → List Entry → ℕ → Type 0
Stamps f last seen [] last' = last' ≡ last
Stamps f last seen (e ∷ es) last' =
    (e.stamp ≡ 1 + max last (last_stamp (before_at f seen e.object))) × Stamps f e.stamp (seen ++ e ∷ []) es last'

-- the entry is of this kernel, agent and command
abbrev pub is_of_at : At → Entry → Bool
is_of_at at e = e.kernel == at.kernel && e.agent.0 == at.agent.0 && e.command == at.command

-- it is of this kernel and agent, and of one of the first m commands
abbrev pub is_mine : At → ℕ → Entry → Bool
is_mine first m e =
    e.kernel == first.kernel && e.agent.0 == first.agent.0 && (nat_le first.command e.command && nat_lt e.command (first.command + m))

-- the one is stamped before the other, and is of no later command
abbrev pub goes_before : Entry → Entry → Bool
goes_before d e = nat_lt d.stamp e.stamp && nat_le d.command e.command

-- where the next command comes
pub record IsNextAt (first : At) (m : ℕ) (at : At) : Type 0 where
  pub kernel : at.kernel ≡ first.kernel
  pub agent : at.agent.0 ≡ first.agent.0
  pub command : at.command ≡ first.command + m

module _ (begun : ℕ → Option State) (f : ℕ → List Entry) where
  -- the entries of one command
  chunk_stamps : (at : At) (last : ℕ) (ds : List Deed) (seen es : List Entry) (last' : ℕ) → AreDone begun at last ds (paired_on begun f seen es) last' → Stamps f last seen es last'
  unfolding AreDone paired_on Stamps
  chunk_stamps at last [] seen [] last' h = h
  chunk_stamps at last [] seen (e ∷ es) last' h = absurd h
  chunk_stamps at last (d ∷ ds) seen [] last' h = absurd h
  chunk_stamps at last (d ∷ ds) seen (e ∷ es) last' h =
      (ap (λ (x : Entry). x.stamp) h.0, chunk_stamps at e.stamp ds (seen ++ e ∷ []) es last' h.4)

  pub chunk_of : (at : At) (last : ℕ) (ds : List Deed) (seen es : List Entry) (last' : ℕ) → AreDone begun at last ds (paired_on begun f seen es) last' → IsTrue (list_all (is_of_at at) es)
  unfolding AreDone paired_on
  chunk_of at last [] seen [] last' h = refl
  chunk_of at last [] seen (e ∷ es) last' h = absurd h
  chunk_of at last (d ∷ ds) seen [] last' h = absurd h
  chunk_of at last (d ∷ ds) seen (e ∷ es) last' h =
      and_both (is_of_at at e) _
      (and_both (e.kernel == at.kernel && e.agent.0 == at.agent.0) _
      (and_both (e.kernel == at.kernel) _ (eq_test e.kernel at.kernel (ap (λ (x : Entry). x.kernel) h.0)) (eq_test e.agent.0 at.agent.0 (ap (λ (x : Entry). x.agent.0) h.0)))
      (eq_test e.command at.command (ap (λ (x : Entry). x.command) h.0)))
      (chunk_of at e.stamp ds (seen ++ e ∷ []) es last' h.4)

stamps_parts : (f : ℕ → List Entry) (last mid last' : ℕ) (seen xs ys : List Entry) → Stamps f last seen xs mid → Stamps f mid (seen ++ xs) ys last' → Stamps f last seen (xs ++ ys) last'
unfolding Stamps
stamps_parts f last mid last' seen [] ys h k = subst (λ s. Stamps f last s ys last') (append-nil seen) (subst (λ t. Stamps f t (seen ++ []) ys last') h k)
stamps_parts f last mid last' seen (x ∷ xs) ys h k =
    (h.0, stamps_parts f x.stamp mid last' (seen ++ x ∷ []) xs ys h.1 (subst (λ s. Stamps f mid s ys last') (sym (append_assoc seen (x ∷ []) xs)) k))

-- stamps lie above the agent's last one before, and none above its last one after
pub stamps_above : (f : ℕ → List Entry) (last last' : ℕ) (seen es : List Entry) → Stamps f last seen es last' → (t : ℕ) → t ≤ last → IsTrue (list_all (λ e. nat_lt t e.stamp) es)
unfolding Stamps
stamps_above f last last' seen [] h t le = refl
stamps_above f last last' seen (e ∷ es) h t le =
    let stamp : e.stamp ≡ 1 + max last (last_stamp (before_at f seen e.object)) = h.0 in
    and_both (nat_lt t e.stamp) _ (less_test t e.stamp (omega (arith, stamp, le))) (stamps_above f e.stamp last' (seen ++ e ∷ []) es h.1 t (omega (arith, stamp, le)))

pub stamps_last : (f : ℕ → List Entry) (last last' : ℕ) (seen es : List Entry) → Stamps f last seen es last' → last' ≡ max last (greatest_stamp es)
unfolding Stamps greatest_stamp
stamps_last f last last' seen [] h = omega (arith, h)
stamps_last f last last' seen (e ∷ es) h =
    let stamp : e.stamp ≡ 1 + max last (last_stamp (before_at f seen e.object)) = h.0 in
    let rest : last' ≡ max e.stamp (greatest_stamp es) = stamps_last f e.stamp last' (seen ++ e ∷ []) es h.1 in
    omega (arith, stamp, rest)

all_upto_last : (t : ℕ) (es : List Entry) → greatest_stamp es ≤ t → IsTrue (list_all (λ e. nat_le e.stamp t) es)
unfolding greatest_stamp
all_upto_last t [] h = refl
all_upto_last t (e ∷ es) h =
    let low : e.stamp ≤ t = omega (arith, h) in
    let rest : greatest_stamp es ≤ t = omega (arith, h) in
    and_both (nat_le e.stamp t) _ (test e.stamp t low) (all_upto_last t es rest)
  where
    test : (x y : ℕ) → x ≤ y → IsTrue (nat_le x y)
    test x y h = grind (arith, nat_tests)

-- entries of one command, in order
chunk_goes : (f : ℕ → List Entry) (at : At) (last last' : ℕ) (seen es : List Entry) → Stamps f last seen es last' → IsTrue (list_all (is_of_at at) es) → IsTrue (all_pairs goes_before es)
unfolding Stamps all_pairs
chunk_goes f at last last' seen [] h own = refl
chunk_goes f at last last' seen (e ∷ es) h own =
    and_both (list_all (goes_before e) es) _
    (both es (stamps_above f e.stamp last' (seen ++ e ∷ []) es h.1 e.stamp (omega arith)) (and_right (is_of_at at e) _ own))
    (chunk_goes f at e.stamp last' (seen ++ e ∷ []) es h.1 (and_right (is_of_at at e) _ own))
  where
    same : (x y c : ℕ) → IsTrue (x == c) → IsTrue (y == c) → IsTrue (nat_le x y)
    same x y c h k = grind (arith, nat_tests)

    both : (xs : List Entry) → IsTrue (list_all (λ x. nat_lt e.stamp x.stamp) xs) → IsTrue (list_all (is_of_at at) xs) → IsTrue (list_all (goes_before e) xs)
    both [] up of_it = refl
    both (x ∷ xs) up of_it =
        and_both (goes_before e x) _
        (and_both (nat_lt e.stamp x.stamp) _ (and_left (nat_lt e.stamp x.stamp) _ up)
        (same e.command x.command at.command (and_right (e.kernel == at.kernel && e.agent.0 == at.agent.0) _ (and_left (is_of_at at e) _ own))
        (and_right (x.kernel == at.kernel && x.agent.0 == at.agent.0) _ (and_left (is_of_at at x) _ of_it))))
        (both xs (and_right (nat_lt e.stamp x.stamp) _ up) (and_right (is_of_at at x) _ of_it))

none_stamps : (f : ℕ → List Entry) (last last' : ℕ) → last' ≡ last → Stamps f last [] [] last'
unfolding Stamps
none_stamps f last last' is = is

none_go : IsTrue (all_pairs goes_before [])
unfolding all_pairs
none_go = refl

module _ (begun : ℕ → Option State) (f : ℕ → List Entry) (commands : List Command) (labels_first : Labels) (first : At) where
  pub went_at : (m : ℕ) (labels : Labels) (es : List Entry) (at : At) → Went begun f commands labels_first first m labels es at → IsNextAt first m at
  unfolding Went
  went_at zero labels es at h = record {
    kernel = ap (λ (t : At). t.kernel) h.2;
    agent = ap (λ (t : At). t.agent.0) h.2;
    command = (let same : first.command ≡ first.command + 0 = omega arith in ap (λ (t : At). t.command) h.2 ∙ same);
  }
  went_at (suc m) labels es at h =
      let before : IsNextAt first m h.at_before = went_at m h.labels_before h.front h.at_before h.before in
      record {
        kernel = ap (λ (t : At). t.kernel) h.at_is ∙ before.kernel;
        agent = ap (λ (t : At). t.agent.0) h.at_is ∙ before.agent;
        command = (let same : (first.command + m) + 1 ≡ first.command + suc m = omega arith in ap (λ (t : At). t.command) h.at_is ∙ ap (λ n. n + 1) before.command ∙ same);
      }

  pub went_stamps : (m : ℕ) (labels : Labels) (es : List Entry) (at : At) → Went begun f commands labels_first first m labels es at → Stamps f first.last [] es at.last
  unfolding Went
  went_stamps zero labels es at h = subst (λ xs. Stamps f first.last [] xs at.last) (sym h.1) (none_stamps f first.last at.last (ap (λ (t : At). t.last) h.2))
  went_stamps (suc m) labels es at h =
      subst (λ xs. Stamps f first.last [] xs at.last) (sym h.parts)
      (stamps_parts f first.last h.at_before.last at.last [] h.front h.chunk (went_stamps m h.labels_before h.front h.at_before h.before)
      (chunk_stamps begun f h.at_before h.at_before.last (deeds_of h.acts) h.front h.chunk at.last h.done))

  pub went_mine : (m : ℕ) (labels : Labels) (es : List Entry) (at : At) → Went begun f commands labels_first first m labels es at → IsTrue (list_all (is_mine first m) es)
  unfolding Went
  went_mine zero labels es at h = subst (λ xs. IsTrue (list_all (is_mine first 0) xs)) (sym h.1) refl
  went_mine (suc m) labels es at h =
      let before : IsNextAt first m h.at_before = went_at m h.labels_before h.front h.at_before h.before in
      subst (λ xs. IsTrue (list_all (is_mine first (suc m)) xs)) (sym h.parts)
      (all_append (is_mine first (suc m)) h.front h.chunk
      (all_follow (is_mine first m) (is_mine first (suc m)) h.front (λ e t. more (e.kernel == first.kernel && e.agent.0 == first.agent.0) first.command e.command m t) (went_mine m h.labels_before h.front h.at_before h.before))
      (all_follow (is_of_at h.at_before) (is_mine first (suc m)) h.chunk (λ e t. last e.kernel h.at_before.kernel first.kernel e.agent.0 h.at_before.agent.0 first.agent.0 e.command h.at_before.command first.command m before.kernel before.agent before.command t)
      (chunk_of begun f h.at_before h.at_before.last (deeds_of h.acts) h.front h.chunk at.last h.done)))
    where
      more : (own : Bool) (f e m : ℕ) → IsTrue (own && (nat_le f e && nat_lt e (f + m))) → IsTrue (own && (nat_le f e && nat_lt e (f + suc m)))
      more own f e m h = and_both own _ (and_left own _ h) (up f e m (and_right own _ h))
        where
          up : (f e m : ℕ) → IsTrue (nat_le f e && nat_lt e (f + m)) → IsTrue (nat_le f e && nat_lt e (f + suc m))
          up f e m h = grind (arith, nat_tests)

      last : (k l j a b c n q f m : ℕ) → l ≡ j → b ≡ c → q ≡ f + m → IsTrue (k == l && a == b && n == q) → IsTrue (k == j && a == c && (nat_le f n && nat_lt n (f + suc m)))
      last k l j a b c n q f m p r s h = grind (arith, nat_tests)

  pub went_goes : (m : ℕ) (labels : Labels) (es : List Entry) (at : At) → Went begun f commands labels_first first m labels es at → IsTrue (all_pairs goes_before es)
  unfolding Went
  went_goes zero labels es at h = subst (λ xs. IsTrue (all_pairs goes_before xs)) (sym h.1) none_go
  went_goes (suc m) labels es at h =
      let before : IsNextAt first m h.at_before = went_at m h.labels_before h.front h.at_before h.before in
      let made : Stamps f h.at_before.last h.front h.chunk at.last = chunk_stamps begun f h.at_before h.at_before.last (deeds_of h.acts) h.front h.chunk at.last h.done in
      let own : IsTrue (list_all (is_of_at h.at_before) h.chunk) = chunk_of begun f h.at_before h.at_before.last (deeds_of h.acts) h.front h.chunk at.last h.done in
      let last : h.at_before.last ≡ max first.last (greatest_stamp h.front) = stamps_last f first.last h.at_before.last [] h.front (went_stamps m h.labels_before h.front h.at_before h.before) in
      let low : IsTrue (list_all (λ e. nat_le e.stamp h.at_before.last) h.front) = all_upto_last h.at_before.last h.front (omega (arith, last)) in
      subst (λ xs. IsTrue (all_pairs goes_before xs)) (sym h.parts)
      (pairs_parts goes_before h.front h.chunk (went_goes m h.labels_before h.front h.at_before h.before)
      (chunk_goes f h.at_before h.at_before.last at.last h.front h.chunk made own)
      (across h.at_before before.command h.front h.chunk low (went_mine m h.labels_before h.front h.at_before h.before)
      (stamps_above f h.at_before.last at.last h.front h.chunk made h.at_before.last (omega arith)) own))
    where
      less : (x t y : ℕ) → IsTrue (nat_le x t) → IsTrue (nat_lt t y) → IsTrue (nat_lt x y)
      less x t y h k = grind (arith, nat_tests)

      sooner : (d e q f m : ℕ) → q ≡ f + m → IsTrue (nat_le f d && nat_lt d (f + m)) → IsTrue (e == q) → IsTrue (nat_le d e)
      sooner d e q f m is h k = grind (arith, nat_tests)

      each : (at : At) → at.command ≡ first.command + m → (d : Entry) → IsTrue (nat_le d.stamp at.last) → IsTrue (is_mine first m d) → (ys : List Entry) → IsTrue (list_all (λ e. nat_lt at.last e.stamp) ys) → IsTrue (list_all (is_of_at at) ys) → IsTrue (list_all (goes_before d) ys)
      each at is d low own [] up of_it = refl
      each at is d low own (y ∷ ys) up of_it =
          and_both (goes_before d y) _
          (and_both (nat_lt d.stamp y.stamp) _ (less d.stamp at.last y.stamp low (and_left (nat_lt at.last y.stamp) _ up))
          (sooner d.command y.command at.command first.command m is (and_right (d.kernel == first.kernel && d.agent.0 == first.agent.0) _ own) (and_right (y.kernel == at.kernel && y.agent.0 == at.agent.0) _ (and_left (is_of_at at y) _ of_it))))
          (each at is d low own ys (and_right (nat_lt at.last y.stamp) _ up) (and_right (is_of_at at y) _ of_it))

      across : (at : At) → at.command ≡ first.command + m → (xs ys : List Entry) → IsTrue (list_all (λ e. nat_le e.stamp at.last) xs) → IsTrue (list_all (is_mine first m) xs) → IsTrue (list_all (λ e. nat_lt at.last e.stamp) ys) → IsTrue (list_all (is_of_at at) ys) → IsTrue (list_all (λ d. list_all (goes_before d) ys) xs)
      across at is [] ys low own up of_it = refl
      across at is (x ∷ xs) ys low own up of_it =
          and_both (list_all (goes_before x) ys) _
          (each at is x (and_left (nat_le x.stamp at.last) _ low) (and_left (is_mine first m x) _ own) ys up of_it)
          (across at is xs ys (and_right (nat_le x.stamp at.last) _ low) (and_right (is_mine first m x) _ own) up of_it)
