-- What an agent does, step by step.
use Rattle.std.proofs.Common.{◌≡◌, ◌≢◌, ℕ, ◌+◌, ◌<◌, ◌≤◌, ◌^◌, Bool, true, false, ◌==◌, nat_lt, nat_le, max, List, [], ◌∷◌, ◌++◌, refl, sym, ap, subst, ◌∙◌, arith, IsTrue, inl, inr, map, cond, append_assoc, if◌then◌else◌}
use Rattle.std.specs.Prelude.{Option, None, Some}
use Rattle.std.specs.List.{list_all}
use Rattle.std.proofs.lemmas.Bool.Decides.{nat_tests}
use Rattle.std.proofs.lemmas.List.{append-nil}
use Rattle.ho_base.specs.declared.numbers.ObjectNo.{ObjectNo}
use Rattle.ho_events.specs.declared.entry.Entry.{Entry}
use Rattle.ho_events.specs.declared.entry.Place.TheVariants as place
use Rattle.ho_events.specs.declared.slip.At.{At}
use Rattle.ho_events.specs.History.{on, is_on, last_stamp}
use Rattle.ho_world.specs.Acts.{Claim, IsFile, BeganAs, HasFiles, HasToken}
use Rattle.ho_world.specs.Logs.{Known, Paired, Deed, entry_of, AreDone, AreClaimed, IsClaimed, HoldsOf}
use Rattle.ho_world.specs.World.{State}
use Rattle.ho_world.proofs.Fronts.{eq_same, and_both, and_left, and_right, le_true}
use Rattle.machine_core.specs.declared.halt.Halt.{Halt}
use Rattle.machine_core.specs.declared.halt.Halt.TheVariants.{Memory, Broken, Late}
use Rattle.machine_core.specs.declared.object.Object.{Object}
use Rattle.machine_core.specs.Objects.{Start, start_of, history_of, room_of, known_of, IsRunOf, IsOfMachine}
use Rattle.machine_core.specs.Agents.{Agent, Back, with_at, took, gave_back, entered, told_with, Found, HasEnded, Entered, GaveBack, KnowsHands, EndsTurn, CanEnd, AreBelow, IsButForRoom, begun}
use Rattle.machine_core.specs.Turns.{IsReady, TellsMore, Goes, Stops, IsCause, IsBack, CannotCome}
use Rattle.luo_calls.specs.Opened.{Opens}

-- ---- functions with another value at one number

pub at_same : {A : Type 0} → (n : ℕ) (x : A) (f : ℕ → A) → with_at n x f n ≡ x
at_same n x f = ap (λ b. cond b x (f n)) (eq_same n)

-- taken and given back is as before
pub put_back : (n : ℕ) (h : Known) (f : ℕ → Option Known) → f n ≡ None → with_at n None (with_at n (Some h) f) ≡ f
put_back n h f e = λ i k. point k (k == n) refl i
  where
    same : (k : ℕ) → (k == n) ≡ true → k ≡ n
    same k is = grind (arith, nat_tests)

    point : (k : ℕ) (b : Bool) → (k == n) ≡ b → with_at n None (with_at n (Some h) f) k ≡ f k
    point k true is = ap (λ b. cond b None (cond b (Some h) (f k))) is ∙ sym (ap f (same k is) ∙ e)
    point k false is = ap (λ b. cond b None (cond b (Some h) (f k))) is

-- ---- nothing is done

tells_none : (told : Option (ℕ → List Entry)) → TellsMore [] told told
unfolding on
tells_none None = tt
tells_none (Some f) = λ n. sym (append-nil (f n))

done_none : (f : ℕ → Option State) (at : At) (last : ℕ) → AreDone f at last [] [] last
unfolding AreDone
done_none f at last = refl

pub goes_none : (at : At) (a a' : Agent) → a'.log ≡ a.log → a'.number ≡ a.number → a'.anchor ≡ a.anchor → a'.starts ≡ a.starts → a'.earlier ≡ a.earlier → a'.hands ≡ a.hands → a'.told ≡ a.told → Goes [] at at a a'
goes_none at a a' log number anchor starts earlier hands told = record {
  made = [];
  log = log ∙ sym (append-nil a.log);
  done = done_none (begun a) at at.last;
  at_is = refl;
  number = number;
  anchor = anchor;
  starts = starts;
  earlier = earlier;
  hands = hands;
  told = subst (λ t. TellsMore [] a.told t) (sym told) (tells_none a.told);
}

-- ending says what was in hand
pub ended_none : (a : Agent) (n : ℕ) (k : Known) (x : Option Known) (b : Agent) → x ≡ Some k → HasEnded a n None x b → GaveBack a n k b
ended_none a n k x b is h = subst (λ y. HasEnded a n None y b) is h

ended_some : (a : Agent) (n : ℕ) (k : Known) (e : Entry) (x : Option Known) (b : Agent) → x ≡ Some k → HasEnded a n (Some e) x b → Entered a n k e b
ended_some a n k e x b is h = subst (λ y. HasEnded a n (Some e) y b) is h

-- ---- one turn

pub lower : (s t : ℕ) → s < t → (log : List Paired) → IsTrue (list_all (λ p. nat_le p.entry.stamp s) log) → AreBelow t log
lower s t up [] h = h
lower s t up (p ∷ ps) h =
    and_both (nat_lt p.entry.stamp t) _ (test p.entry.stamp (and_left (nat_le p.entry.stamp s) _ h)) (lower s t up ps (and_right (nat_le p.entry.stamp s) _ h))
  where
    test : (x : ℕ) → IsTrue (nat_le x s) → IsTrue (nat_lt x t)
    test x le = let low : x ≤ s = le_true x s le in grind (arith, nat_tests)

pub has : (at : At) (n : ℕ) (a a1 : Agent) (o : Object) → Opens at n a a1 o → a1.hands n ≡ Some (known_of o)
has at n a a1 o opens = ap (λ (x : Agent). x.hands n) opens.same ∙ at_same n (Some (known_of o)) a.hands

-- what is known of more objects is claimed as well
holds_more : (f g : Option Known) (c : Claim) → ((k : Known) → f ≡ Some k → g ≡ Some k) → HoldsOf f c → HoldsOf g c
holds_more None g c more h = absurd h
holds_more (Some k) g c more h = subst (λ x. HoldsOf x c) (sym (more k refl)) h

claimed_more : (s : ℕ → Option State) (f g : ℕ → Option Known) (c : Claim) → ((o : ℕ) (k : Known) → f o ≡ Some k → g o ≡ Some k) → IsClaimed s f c → IsClaimed s g c
claimed_more s f g (IsFile file kind order) more h = holds_more (f _) (g _) (IsFile file kind order) (more _) h
claimed_more s f g (BeganAs file kind order) more h = h
claimed_more s f g (HasFiles slot files) more h = holds_more (f _) (g _) (HasFiles slot files) (more _) h
claimed_more s f g (HasToken slot token r) more h = holds_more (f _) (g _) (HasToken slot token r) (more _) h

pub all_claimed_more : (s : ℕ → Option State) (f g : ℕ → Option Known) (cs : List Claim) → ((o : ℕ) (k : Known) → f o ≡ Some k → g o ≡ Some k) → AreClaimed s f cs → AreClaimed s g cs
all_claimed_more s f g [] more h = tt
all_claimed_more s f g (c ∷ cs) more h = (claimed_more s f g c more h.0, all_claimed_more s f g cs more h.1)

module _ (at : At) (n : ℕ) (a a1 : Agent) (o : Object) (d : Deed) (e : Entry) (opens : Opens at n a a1 o) (free : a.hands n ≡ None) (slip : At) (slip_is : slip ≡ at) (entered_it : e ≡ entry_of slip d (1 + max slip.last (last_stamp (history_of o)))) (place_is : d.place ≡ place.Object (record { 0 = n })) where
  entry : e ≡ entry_of at d (1 + max at.last (last_stamp (history_of o)))
  entry = entered_it ∙ ap (λ (x : At). entry_of x d (1 + max x.last (last_stamp (history_of o)))) slip_is

  in_it : a1.hands n ≡ Some (known_of o)
  in_it = has at n a a1 o opens

  object_is : e.object ≡ place.Object (record { 0 = n })
  object_is = ap (λ (x : Entry). x.object) entry ∙ place_is

  -- the entry, with the object's new state, may end the turn
  pub can_end : (state : Object) → IsReady at a → start_of state ≡ start_of o → history_of state ≡ history_of o ++ e ∷ [] → IsOfMachine a.anchor.shape a.anchor.home state → IsRunOf state → CanEnd a1 n state (Some e) (a1.hands n)
  can_end state ready start history machine run =
      subst (λ x. CanEnd a1 n state (Some e) x) (sym in_it)
      (record {
        start = ap (λ (x : Agent). x.starts n) opens.same ∙ opens.found.start ∙ ap Some (sym start);
        history = history;
        machine = subst (λ (x : Agent). IsOfMachine x.anchor.shape x.anchor.home state) (sym opens.same) machine;
        run = run;
        place = object_is;
        agent = ap (λ (x : Entry). x.agent.0) entry ∙ ready.agent ∙ sym (ap (λ (x : Agent). x.number) opens.same);
        kernel = ap (λ (x : Entry). x.kernel) entry ∙ ready.kernel ∙ sym (ap (λ (x : Agent). x.anchor.kernel) opens.same);
        stamp = subst (λ l. AreBelow e.stamp l) (sym (ap (λ (x : Agent). x.earlier ++ x.log) opens.same)) (lower at.last e.stamp up (a.earlier ++ a.log) ready.last);
        room = some_room;
      })
    where
      up : at.last < e.stamp
      up = let stamp : e.stamp ≡ 1 + max at.last (last_stamp (history_of o)) = ap (λ (x : Entry). x.stamp) entry in omega (arith, stamp)

      some_room : 0 < a1.room
      some_room = let r : 1 ≤ a1.room = opens.log_room in omega (arith, r)

  -- told histories
  tells_one : (p : Paired) → p.entry ≡ e → (told : Option (ℕ → List Entry)) → TellsMore (p ∷ []) told (told_with n p.entry told)
  unfolding on
  tells_one p is None = tt
  tells_one p is (Some f) = λ k. point k (k == n) refl
    where
      same : (k : ℕ) → (k == n) ≡ true → k ≡ n
      same k is = grind (arith, nat_tests)

      swap : (k : ℕ) (b : Bool) → (k == n) ≡ b → (n == k) ≡ b
      swap k true is = grind (arith, nat_tests)
      swap k false is = grind (arith, nat_tests)

      tests : (k : ℕ) (b : Bool) → (k == n) ≡ b → is_on k p.entry.object ≡ b
      tests k b t = ap (λ (x : Entry). is_on k x.object) is ∙ ap (is_on k) object_is ∙ swap k b t

      on_it : (k : ℕ) (b : Bool) → (k == n) ≡ b → on k (p.entry ∷ []) ≡ cond b (p.entry ∷ []) []
      on_it k b t = ap (λ x. cond x (p.entry ∷ []) []) (tests k b t)

      point : (k : ℕ) (b : Bool) → (k == n) ≡ b → with_at n (f n ++ p.entry ∷ []) f k ≡ f k ++ on k (p.entry ∷ [])
      point k true t =
          ap (λ b. cond b (f n ++ p.entry ∷ []) (f k)) t ∙ ap (λ m. f m ++ p.entry ∷ []) (sym (same k t)) ∙ ap (λ xs. f k ++ xs) (sym (on_it k true t))
      point k false t =
          ap (λ b. cond b (f n ++ p.entry ∷ []) (f k)) t ∙ sym (append-nil (f k)) ∙ ap (λ xs. f k ++ xs) (sym (on_it k false t))

  one_done : (p : Paired) → p.entry ≡ e → p.before ≡ history_of o → AreClaimed (begun a) p.known d.claims → AreDone (begun a) at at.last (d ∷ []) (p ∷ []) e.stamp
  unfolding AreDone
  one_done p is before claimed = (
    is ∙ entry ∙ ap (λ h. entry_of at d (1 + max at.last (last_stamp h))) (sym before),
    opens.early,
    subst (λ h. last_stamp h < 2 ^ 63) (sym before) opens.last,
    claimed,
    sym (ap (λ (x : Entry). x.stamp) is),
  )

  -- the turn was that deed
  pub turned : (a2 : Agent) → AreClaimed (begun a) a1.hands d.claims → HasEnded a1 n (Some e) (a1.hands n) a2 → Goes (d ∷ []) at (record at { last = e.stamp }) a a2
  turned a2 claimed gave_it = record {
    made = g.pair ∷ [];
    log = ap (λ (x : Agent). x.log) g.shows.same ∙ ap (λ (x : Agent). x.log ++ g.pair ∷ []) opens.same;
    done = one_done g.pair g.entry g.before (all_claimed_more (begun a) a1.hands g.pair.known d.claims g.known claimed);
    at_is = refl;
    number = ap (λ (x : Agent). x.number) g.shows.same ∙ ap (λ (x : Agent). x.number) opens.same;
    anchor = ap (λ (x : Agent). x.anchor) g.shows.same ∙ ap (λ (x : Agent). x.anchor) opens.same;
    starts = ap (λ (x : Agent). x.starts) g.shows.same ∙ ap (λ (x : Agent). x.starts) opens.same;
    earlier = ap (λ (x : Agent). x.earlier) g.shows.same ∙ ap (λ (x : Agent). x.earlier) opens.same;
    hands =
        ap (λ (x : Agent). x.hands) g.shows.same ∙ ap (λ (x : Agent). with_at n None x.hands) opens.same ∙ put_back n (known_of o) a.hands free;
    told =
        subst (λ t. TellsMore (g.pair ∷ []) a.told t)
        (sym (ap (λ (x : Agent). x.told) g.shows.same ∙ ap (λ (x : Agent). told_with n g.pair.entry x.told) opens.same)) (tells_one g.pair g.entry a.told);
  }
    where
      g : Entered a1 n (known_of o) e a2
      g = ended_some a1 n (known_of o) e (a1.hands n) a2 in_it gave_it
