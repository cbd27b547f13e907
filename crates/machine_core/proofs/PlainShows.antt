-- What the steps of a reach without threads show.
use Rattle.std.proofs.Common.{◌≡◌, ◌≢◌, ℕ, ◌+◌, ◌<◌, ◌≤◌, List, [], ◌∷◌, ◌++◌, length, refl, sym, ap, subst, ◌∙◌, arith, slice_set}
use Rattle.std.specs.Prelude.{Option, None, Some, IsSome, option_map}
use Rattle.ho_events.specs.History.{is_on}
use Rattle.ho_events.specs.declared.entry.Entry.{Entry}
use Rattle.ho_events.proofs.Runs.{on_skip}
use Rattle.ho_world.specs.Logs.{Known, Paired, grown, before_at, paired_on}
use Rattle.machine_core.specs.declared.object.Object.{Object}
use Rattle.machine_core.specs.Agents.{Agent, Back, state_in, with_at, took, told_with, Found, GivesBack, EndsTurn, EndsCommand, CanEnd, HasEnded, Logged}
use Rattle.machine_core.specs.Kernels.{object_at, start_in, starts_in, begun_in, histories_in, KeepsKernel}
use Rattle.machine_core.specs.Objects.{NoSpot, spot_at, start_of, history_of, known_of}
use Rattle.machine_core.specs.Plain.{PlainValue, KeepsWork, IsGrown, GrownAt, known_at, hand_of, hands_of, back_shown, earlier_in, anchor_of, agent_of}
use Rattle.machine_core.proofs.Standing.{no_spot_below, start_place, some_slot}
use Rattle.machine_core.proofs.Hands.{test, known_with, known_is, InHand, in_hand, full_hand, hands_put, hands_take, hands_stay}
use Rattle.machine_core.proofs.PlainSteps.{others, its_own, all_stay, told_put, pair_at, pairs_push, below_log, stamps_push, run_at, run_of, take_keeps, put_keeps, own_keeps}

-- what the invariant of a reach says of what it shows
abbrev pub Opened : PlainValue → Type 0
Opened r = KeepsKernel r.kernel.shape r.kernel.home r.kernel.base r.kernel.objects

abbrev pub Works : PlainValue → List (Option Object) → List Entry → Type 0
Works r objects log = KeepsWork r.kernel.shape r.kernel.home r.kernel.objects objects log

-- what may end a turn says what was in hand
can_none : (a : Agent) (n : ℕ) (state : Object) (x : Option Known) → CanEnd a n state None x → (k : Known) × (x ≡ Some k) × GivesBack a n k state
can_none a n state None c = absurd c
can_none a n state (Some k) c = (k, refl, c)

can_some : (a : Agent) (n : ℕ) (state : Object) (e : Entry) (x : Option Known) → CanEnd a n state (Some e) x → (k : Known) × (x ≡ Some k) × EndsTurn a n k state e
can_some a n state e None c = absurd c
can_some a n state e (Some k) c = (k, refl, c)

-- ---- an object is taken

pub some_none : {A : Type 0} (x : A) → ◌≡◌ {A = Option A} (Some x) None → ⊥
some_none x e = cc

some_is : {A : Type 0} (x : Option A) (y : A) → x ≡ Some y → IsSome x
some_is None y e = absurd (some_none y (sym e))
some_is (Some x) y e = refl

pub known_some_of : (opening : List (Option Object)) (log : List Entry) (n : ℕ) (o : Object) → object_at opening n ≡ Some o → known_at opening log n ≡ Some (known_with (grown (histories_in opening) log n) (start_of o).state)
known_some_of opening log n o is = ap (λ x. option_map (known_with (grown (histories_in opening) log n)) (state_in (start_in x))) is

module _ (r : PlainValue) (n : ℕ) (opened : Opened r) (w : Works r r.objects r.log) (real : spot_at n ≢ NoSpot) where
  pub begin_below : n < length r.objects
  begin_below = omega (arith, no_spot_below n real, w.count)

  at_place : (agent_of r).hands n ≡ None → (slot : Option Object) → object_at r.objects n ≡ slot → IsSome slot
  at_place free None is =
      let s = some_slot r.kernel.shape r.kernel.home n (object_at r.kernel.objects n) (opened.slots n (no_spot_below n real)) real in
      absurd (some_none _ (sym (known_some_of r.kernel.objects r.log n s.0 s.1) ∙ sym (full_hand (spot_at n) (known_at r.kernel.objects r.log n) real) ∙ ap (λ x. hand_of (spot_at n) x (known_at r.kernel.objects r.log n)) (sym is) ∙ free))
  at_place free (Some o) is = refl

  pub begin_there : (agent_of r).hands n ≡ None → IsSome (object_at r.objects n)
  begin_there free = at_place free (object_at r.objects n) refl

  pub begin_keeps : Works r (slice_set r.objects n None) r.log
  begin_keeps = take_keeps r.kernel.shape r.kernel.home r.kernel.objects r.objects r.log w n begin_below

  begin_grown : (o : Object) → object_at r.objects n ≡ Some o → IsGrown r.kernel.shape r.kernel.home r.kernel.objects r.log n o
  begin_grown o is = subst (GrownAt r.kernel.shape r.kernel.home r.kernel.objects r.log n) is (w.slots n (no_spot_below n real))

  pub begin_found : (o : Object) → object_at r.objects n ≡ Some o → Found (agent_of r) n o
  begin_found o is =
      let g = begin_grown o is in
      record {
        number = g.here.number;
        kind = g.here.kind;
        machine = g.here.machine;
        start = g.start;
        run = run_of r.kernel.objects n (grown (histories_in r.kernel.objects) r.log n) o g.start g.history (w.runs n);
        told = g.history;
      }

  pub begin_shows : (o : Object) → object_at r.objects n ≡ Some o → (r' : PlainValue) → r'.agent ≡ r.agent → r'.kernel ≡ r.kernel → r'.objects ≡ slice_set r.objects n None → r'.log ≡ r.log → r'.back ≡ r.back → r'.room ≡ r.room → agent_of r' ≡ took n (known_of o) (agent_of r)
  begin_shows o is r' agent kernel objects log back room = λ i. record {
    number = agent i;
    anchor = anchor_of (kernel i);
    starts = starts_in (kernel i).objects;
    earlier = earlier_in (agent i) (histories_in (kernel i).objects);
    log = paired_on (begun_in (kernel i).objects) (histories_in (kernel i).objects) [] (log i);
    hands = hands i;
    back = back_shown (back i);
    told = Some (grown (histories_in (kernel i).objects) (log i));
    room = room i;
  }
    where
      g : IsGrown r.kernel.shape r.kernel.home r.kernel.objects r.log n o
      g = begin_grown o is

      hands : (agent_of r').hands ≡ with_at n (Some (known_of o)) (agent_of r).hands
      hands =
          (λ i. hands_of (kernel i).objects (objects i) (log i))
          ∙ hands_take r.kernel.objects r.objects r.log n (known_of o) begin_below real (known_is r.kernel.objects r.log n o g.start g.history)

-- ---- an object comes back with an entry

module _ (r : PlainValue) (n : ℕ) (state : Object) (e : Entry) (opened : Opened r) (w : Works r r.objects r.log) (can : CanEnd (agent_of r) n state (Some e) ((agent_of r).hands n)) where
  told_hand : (k : Known) × ((agent_of r).hands n ≡ Some k) × EndsTurn (agent_of r) n k state e
  told_hand = can_some (agent_of r) n state e ((agent_of r).hands n) can

  held : InHand r.kernel.objects r.objects r.log n told_hand.0
  held = in_hand r.kernel.objects r.objects r.log n told_hand.0 told_hand.1

  pub enter_below : n < length r.objects
  enter_below = omega (arith, no_spot_below n held.spot, w.count)

  pub enter_empty : object_at r.objects n ≡ None
  enter_empty = held.gone

  stay : (q : ℕ) → q ≢ n → grown (histories_in r.kernel.objects) (r.log ++ e ∷ []) q ≡ grown (histories_in r.kernel.objects) r.log q
  stay q other = others (histories_in r.kernel.objects) r.log e n q told_hand.2.place other

  new_history : history_of state ≡ grown (histories_in r.kernel.objects) (r.log ++ e ∷ []) n
  new_history =
      told_hand.2.history ∙ ap (λ h. h ++ e ∷ []) held.history
      ∙ sym (its_own (histories_in r.kernel.objects) r.log e n told_hand.2.place)

  pub enter_keeps : Works r (slice_set r.objects n (Some state)) (r.log ++ e ∷ [])
  enter_keeps = put_keeps r.kernel.shape r.kernel.home r.kernel.objects r.objects r.log w (r.log ++ e ∷ []) n state enter_below
      (record {
        here = start_place r.kernel.shape r.kernel.home n (object_at r.kernel.objects n) state (opened.slots n (no_spot_below n held.spot)) told_hand.2.start told_hand.2.machine;
        start = told_hand.2.start;
        history = new_history;
      })
      (run_at r.kernel.objects n (grown (histories_in r.kernel.objects) (r.log ++ e ∷ []) n) state told_hand.2.start new_history told_hand.2.run)
      stay (λ q none. on_skip q r.log e (ap (is_on q) told_hand.2.place ∙ test n q (λ same. held.spot (ap spot_at (sym same) ∙ none))) ∙ w.unbuilt q none)
      (stamps_push r.log e (below_log (begun_in r.kernel.objects) (histories_in r.kernel.objects) e.stamp (agent_of r).earlier r.log told_hand.2.stamp))

  abbrev pair : Paired
  pair = pair_at (begun_in r.kernel.objects) (histories_in r.kernel.objects) r.log e

  pub enter_shows : (r' : PlainValue) → r'.agent ≡ r.agent → r'.kernel ≡ r.kernel → r'.objects ≡ slice_set r.objects n (Some state) → r'.log ≡ r.log ++ e ∷ [] → r'.back ≡ r.back → r.room ≤ r'.room + 1 → HasEnded (agent_of r) n (Some e) ((agent_of r).hands n) (agent_of r')
  enter_shows r' agent kernel objects log back room = subst (λ x. HasEnded (agent_of r) n (Some e) x (agent_of r')) (sym told_hand.1) (record {
    pair = pair;
    entry = refl;
    before = ap (before_at (histories_in r.kernel.objects) r.log) told_hand.2.place ∙ sym held.history;
    known = λ o k h. (in_hand r.kernel.objects r.objects r.log o k h).known;
    shows = record {
      same = λ i. record {
        number = agent i;
        anchor = anchor_of (kernel i);
        starts = starts_in (kernel i).objects;
        earlier = earlier_in (agent i) (histories_in (kernel i).objects);
        log = logs i;
        hands = hands i;
        back = back_shown (back i);
        told = tolds i;
        room = r'.room;
      };
      room = room;
    };
  })
    where
      logs : (agent_of r').log ≡ (agent_of r).log ++ pair ∷ []
      logs =
          (λ i. paired_on (begun_in (kernel i).objects) (histories_in (kernel i).objects) [] (log i))
          ∙ pairs_push (begun_in r.kernel.objects) (histories_in r.kernel.objects) [] r.log e

      hands : (agent_of r').hands ≡ with_at n None (agent_of r).hands
      hands =
          (λ i. hands_of (kernel i).objects (objects i) (log i))
          ∙ hands_put r.kernel.objects r.objects r.log (r.log ++ e ∷ []) n state enter_below stay

      tolds : (agent_of r').told ≡ told_with n e (agent_of r).told
      tolds =
          (λ i. Some (grown (histories_in (kernel i).objects) (log i)))
          ∙ ap Some (told_put (histories_in r.kernel.objects) r.log e n told_hand.2.place)

-- ---- an object comes back without an entry

module _ (r : PlainValue) (n : ℕ) (state : Object) (opened : Opened r) (w : Works r r.objects r.log) (can : CanEnd (agent_of r) n state None ((agent_of r).hands n)) where
  back_hand : (k : Known) × ((agent_of r).hands n ≡ Some k) × GivesBack (agent_of r) n k state
  back_hand = can_none (agent_of r) n state ((agent_of r).hands n) can

  back_held : InHand r.kernel.objects r.objects r.log n back_hand.0
  back_held = in_hand r.kernel.objects r.objects r.log n back_hand.0 back_hand.1

  pub give_below : n < length r.objects
  give_below = omega (arith, no_spot_below n back_held.spot, w.count)

  pub give_empty : object_at r.objects n ≡ None
  give_empty = back_held.gone

  pub give_keeps : Works r (slice_set r.objects n (Some state)) r.log
  give_keeps = put_keeps r.kernel.shape r.kernel.home r.kernel.objects r.objects r.log w r.log n state give_below
      (record {
        here = start_place r.kernel.shape r.kernel.home n (object_at r.kernel.objects n) state (opened.slots n (no_spot_below n back_held.spot)) back_hand.2.start back_hand.2.machine;
        start = back_hand.2.start;
        history = back_hand.2.history ∙ back_held.history;
      }) (w.runs n) (λ q other. refl) w.unbuilt w.stamps

  pub give_shows : (r' : PlainValue) → r'.agent ≡ r.agent → r'.kernel ≡ r.kernel → r'.objects ≡ slice_set r.objects n (Some state) → r'.log ≡ r.log → r'.back ≡ Some (n, state) → r.room ≤ r'.room + 1 → HasEnded (agent_of r) n None ((agent_of r).hands n) (agent_of r')
  give_shows r' agent kernel objects log back room = subst (λ x. HasEnded (agent_of r) n None x (agent_of r')) (sym back_hand.1) (record {
    shows = record {
      same = λ i. record {
        number = agent i;
        anchor = anchor_of (kernel i);
        starts = starts_in (kernel i).objects;
        earlier = earlier_in (agent i) (histories_in (kernel i).objects);
        log = paired_on (begun_in (kernel i).objects) (histories_in (kernel i).objects) [] (log i);
        hands = hands i;
        back = backs i;
        told = Some (grown (histories_in (kernel i).objects) (log i));
        room = r'.room;
      };
      room = room;
    };
  })
    where
      hands : (agent_of r').hands ≡ with_at n None (agent_of r).hands
      hands =
          (λ i. hands_of (kernel i).objects (objects i) (log i))
          ∙ hands_put r.kernel.objects r.objects r.log r.log n state give_below (λ q other. refl)

      back_as : List Entry → Option Back
      back_as h = Some (record { number = n; history = h })

      backs : (agent_of r').back ≡ back_as back_hand.0.history
      backs = ap back_shown back ∙ ap back_as back_hand.2.history

-- ---- an entry of the agent's own

module _ (r : PlainValue) (e : Entry) (w : Works r r.objects r.log) (can : EndsCommand (agent_of r) e) where
  pub own_works : Works r r.objects (r.log ++ e ∷ [])
  own_works = own_keeps r.kernel.shape r.kernel.home r.kernel.objects r.objects r.log w e can.place
      (below_log (begun_in r.kernel.objects) (histories_in r.kernel.objects) e.stamp (agent_of r).earlier r.log can.stamp)

  abbrev own_pair : Paired
  own_pair = pair_at (begun_in r.kernel.objects) (histories_in r.kernel.objects) r.log e

  pub own_shows : (r' : PlainValue) → r'.agent ≡ r.agent → r'.kernel ≡ r.kernel → r'.objects ≡ r.objects → r'.log ≡ r.log ++ e ∷ [] → r'.back ≡ r.back → r.room ≤ r'.room + 1 → Logged (agent_of r) e (agent_of r')
  own_shows r' agent kernel objects log back room = record {
    pair = own_pair;
    entry = refl;
    before = ap (before_at (histories_in r.kernel.objects) r.log) can.place;
    shows = record {
      same = λ i. record {
        number = agent i;
        anchor = anchor_of (kernel i);
        starts = starts_in (kernel i).objects;
        earlier = earlier_in (agent i) (histories_in (kernel i).objects);
        log = logs i;
        hands = hands i;
        back = back_shown (back i);
        told = tolds i;
        room = r'.room;
      };
      room = room;
    };
  }
    where
      own_stay : (q : ℕ) → grown (histories_in r.kernel.objects) (r.log ++ e ∷ []) q ≡ grown (histories_in r.kernel.objects) r.log q
      own_stay q = all_stay (histories_in r.kernel.objects) r.log e q can.place

      logs : (agent_of r').log ≡ (agent_of r).log ++ own_pair ∷ []
      logs =
          (λ i. paired_on (begun_in (kernel i).objects) (histories_in (kernel i).objects) [] (log i))
          ∙ pairs_push (begun_in r.kernel.objects) (histories_in r.kernel.objects) [] r.log e

      hands : (agent_of r').hands ≡ (agent_of r).hands
      hands = (λ i. hands_of (kernel i).objects (objects i) (log i)) ∙ hands_stay r.kernel.objects r.objects r.log (r.log ++ e ∷ []) own_stay

      tolds : (agent_of r').told ≡ (agent_of r).told
      tolds = (λ i. Some (grown (histories_in (kernel i).objects) (log i))) ∙ (λ i. Some (λ q. own_stay q i))

-- the object that was given back last, as it is kept
abbrev pub numbered : ℕ → Object → Option (ℕ × Object)
numbered n o = Some (n, o)

pub same_back : (n : ℕ) (o state : Object) → o ≡ state → numbered n o ≡ numbered n state
same_back n o state e = ap (numbered n) e
