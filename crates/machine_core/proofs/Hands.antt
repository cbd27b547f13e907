-- What is in hand and what is known of it, and how that changes.
use Rattle.std.proofs.Common.{◌≡◌, ◌≢◌, ℕ, ◌<◌, true, false, ◌==◌, List, length, refl, sym, ap, subst, ◌∙◌, arith, slice_set, get_or-set_same, get_or-set_other, cond, inl, inr}
use Rattle.std.specs.Prelude.{Option, None, Some, option_map}
use Rattle.std.proofs.lemmas.Bool.Decides.{nat_tests, eqb_tells}
use Rattle.ho_events.specs.declared.entry.Entry.{Entry}
use Rattle.ho_world.specs.World.{State}
use Rattle.ho_world.specs.Logs.{Known, grown}
use Rattle.machine_core.specs.declared.object.Object.{Object}
use Rattle.machine_core.specs.Agents.{state_in, with_at}
use Rattle.machine_core.specs.Kernels.{object_at, starts_in, begun_in, histories_in}
use Rattle.machine_core.specs.Objects.{Start, Spot, PoolSpot, RegistrySpot, SessionSpot, FileSpot, NoSpot, spot_at, start_of, history_of, known_of}
use Rattle.machine_core.specs.Plain.{known_at, hand_of, hands_of}

-- ---- functions with another value at one number

pub test : (n q : ℕ) → q ≢ n → (n == q) ≡ false
test n q other = grind (arith, nat_tests)

pub same_test : (n : ℕ) → (n == n) ≡ true
same_test n = grind (arith, nat_tests)

pub at_same : {A : Type 0} → (n : ℕ) (x : A) (f : ℕ → A) → with_at n x f n ≡ x
at_same n x f = ap (λ b. cond b x (f n)) (same_test n)

pub at_other : {A : Type 0} → (n q : ℕ) (x : A) (f : ℕ → A) → q ≢ n → with_at n x f q ≡ f q
at_other n q x f other = ap (λ b. cond b x (f q)) (test q n (λ e. other (sym e)))

some_same : {A : Type 0} (a b : A) → Some a ≡ Some b → a ≡ b
some_same a b e = cc

-- ---- what is known

abbrev pub known_with : List Entry → State → Known
known_with h s = record { start = s; history = h }

pub known_is : (opening : List (Option Object)) (log : List Entry) (n : ℕ) (o : Object) → starts_in opening n ≡ Some (start_of o) → history_of o ≡ grown (histories_in opening) log n → known_at opening log n ≡ Some (known_of o)
known_is opening log n o start history =
    ap (λ (x : Option Start). option_map (known_with (grown (histories_in opening) log n)) (state_in x)) start
    ∙ ap (λ h. Some (known_with h (start_of o).state)) (sym history)

known_tells : (o : Option State) (h : List Entry) (k : Known) → option_map (known_with h) o ≡ Some k → (o ≡ Some k.start) × (k.history ≡ h)
known_tells None h k e = absurd cc
known_tells (Some s) h k e =
    let inside : known_with h s ≡ k = some_same (known_with h s) k e in
    (ap (λ (x : Known). Some x.start) inside, sym (ap (λ (x : Known). x.history) inside))

pub stays_known : (opening : List (Option Object)) (log log' : List Entry) (q : ℕ) → grown (histories_in opening) log' q ≡ grown (histories_in opening) log q → known_at opening log' q ≡ known_at opening log q
stays_known opening log log' q e = ap (λ h. option_map (known_with h) (begun_in opening q)) e

-- ---- what is in hand

pub record InHand (opening objects : List (Option Object)) (log : List Entry) (n : ℕ) (k : Known) : Type 0 where
  pub spot : spot_at n ≢ NoSpot
  pub gone : object_at objects n ≡ None
  pub known : known_at opening log n ≡ Some k
  pub start : begun_in opening n ≡ Some k.start
  pub history : k.history ≡ grown (histories_in opening) log n

hand_tells : (spot : Spot) (slot : Option Object) (g : Option Known) (k : Known) → hand_of spot slot g ≡ Some k → (spot ≢ NoSpot) × (slot ≡ None) × (g ≡ Some k)
hand_tells NoSpot slot g k e = absurd cc
hand_tells PoolSpot None g k e = ((λ i. cc), refl, e)
hand_tells RegistrySpot None g k e = ((λ i. cc), refl, e)
hand_tells SessionSpot None g k e = ((λ i. cc), refl, e)
hand_tells FileSpot None g k e = ((λ i. cc), refl, e)
hand_tells PoolSpot (Some o) g k e = absurd cc
hand_tells RegistrySpot (Some o) g k e = absurd cc
hand_tells SessionSpot (Some o) g k e = absurd cc
hand_tells FileSpot (Some o) g k e = absurd cc

pub in_hand : (opening objects : List (Option Object)) (log : List Entry) (n : ℕ) (k : Known) → hands_of opening objects log n ≡ Some k → InHand opening objects log n k
in_hand opening objects log n k e =
    let t = hand_tells (spot_at n) (object_at objects n) (known_at opening log n) k e in
    let u = known_tells (begun_in opening n) (grown (histories_in opening) log n) k t.2 in
    record { spot = t.0; gone = t.1; known = t.2; start = u.0; history = u.1 }

pub empty_hand : (spot : Spot) (g : Option Known) (o : Object) → hand_of spot (Some o) g ≡ None
empty_hand NoSpot g o = refl
empty_hand PoolSpot g o = refl
empty_hand RegistrySpot g o = refl
empty_hand SessionSpot g o = refl
empty_hand FileSpot g o = refl

pub full_hand : (spot : Spot) (g : Option Known) → spot ≢ NoSpot → hand_of spot None g ≡ g
full_hand NoSpot g h = absurd (h refl)
full_hand PoolSpot g h = refl
full_hand RegistrySpot g h = refl
full_hand SessionSpot g h = refl
full_hand FileSpot g h = refl

-- ---- hands, as they change

module _ (opening objects : List (Option Object)) (log : List Entry) where
  pub hands_put : (log' : List Entry) (n : ℕ) (state : Object) → n < length objects → ((q : ℕ) → q ≢ n → grown (histories_in opening) log' q ≡ grown (histories_in opening) log q) → hands_of opening (slice_set objects n (Some state)) log' ≡ with_at n None (hands_of opening objects log)
  hands_put log' n state below stay = λ i q. point q i
    where
      set_same : object_at (slice_set objects n (Some state)) n ≡ Some state
      set_same = rw get_or-set_same refl

      set_other : (q : ℕ) → q ≢ n → object_at (slice_set objects n (Some state)) q ≡ object_at objects q
      set_other q other = rw get_or-set_other refl

      point : (q : ℕ) → hands_of opening (slice_set objects n (Some state)) log' q ≡ with_at n None (hands_of opening objects log) q
      point q = elim (eqb_tells q n) [
        | inl e ↦ subst (λ p. hands_of opening (slice_set objects n (Some state)) log' p ≡ with_at n None (hands_of opening objects log) p) (sym e.1)
            (ap (λ x. hand_of (spot_at n) x (known_at opening log' n)) set_same ∙ empty_hand (spot_at n) _ state ∙ sym (at_same n None (hands_of opening objects log)))
        | inr e ↦ let other : q ≢ n = e.1 in
            ap (λ x. hand_of (spot_at q) x (known_at opening log' q)) (set_other q other)
            ∙ ap (hand_of (spot_at q) (object_at objects q)) (stays_known opening log log' q (stay q other))
            ∙ sym (at_other n q None (hands_of opening objects log) other)
      ]

  pub hands_take : (n : ℕ) (k : Known) → n < length objects → spot_at n ≢ NoSpot → known_at opening log n ≡ Some k → hands_of opening (slice_set objects n None) log ≡ with_at n (Some k) (hands_of opening objects log)
  hands_take n k below real is = λ i q. point q i
    where
      set_same : object_at (slice_set objects n None) n ≡ None
      set_same = rw get_or-set_same refl

      set_other : (q : ℕ) → q ≢ n → object_at (slice_set objects n None) q ≡ object_at objects q
      set_other q other = rw get_or-set_other refl

      point : (q : ℕ) → hands_of opening (slice_set objects n None) log q ≡ with_at n (Some k) (hands_of opening objects log) q
      point q = elim (eqb_tells q n) [
        | inl e ↦ subst (λ p. hands_of opening (slice_set objects n None) log p ≡ with_at n (Some k) (hands_of opening objects log) p) (sym e.1)
            (ap (λ x. hand_of (spot_at n) x (known_at opening log n)) set_same ∙ full_hand (spot_at n) _ real ∙ is ∙ sym (at_same n (Some k) (hands_of opening objects log)))
        | inr e ↦ let other : q ≢ n = e.1 in
            ap (λ x. hand_of (spot_at q) x (known_at opening log q)) (set_other q other)
            ∙ sym (at_other n q (Some k) (hands_of opening objects log) other)
      ]

  -- where the histories stay, so do the hands
  pub hands_stay : (log' : List Entry) → ((q : ℕ) → grown (histories_in opening) log' q ≡ grown (histories_in opening) log q) → hands_of opening objects log' ≡ hands_of opening objects log
  hands_stay log' stay = λ i q. hand_of (spot_at q) (object_at objects q) (stays_known opening log log' q (stay q) i)
