-- How an agent's work on a kernel begins and ends.
use Rattle.std.proofs.Common.{◌≡◌, ◌≢◌, ℕ, ◌<◌, ◌≤◌, List, [], ◌++◌, max, refl, sym, ap, subst, ◌∙◌, arith, IsTrue, inl, inr, ◌⊎◌}
use Rattle.std.specs.Prelude.{Option, None, Some, nat_le}
use Rattle.std.proofs.lemmas.Bool.Decides.{nat_tests}
use Rattle.std.proofs.lemmas.List.{append-nil, append_cancel_right}
use Rattle.ho_base.specs.ShapeRule.{Layout}
use Rattle.ho_events.specs.History.{on, is_on, last_stamp}
use Rattle.ho_events.specs.declared.entry.Entry.{Entry}
use Rattle.ho_world.specs.Logs.{Known, grown}
use Rattle.ho_world.proofs.Fronts.{all_append, all_follow}
use Rattle.phys_frames.specs.Homes.{HomeId}
use Rattle.machine_core.specs.declared.object.Object.{Object}
use Rattle.machine_core.specs.Agents.{Anchor, no_hands}
use Rattle.machine_core.specs.Kernels.{object_at, start_in, history_in, starts_in, histories_in, IsSlot, IsRunAt, AreUpTo, KeepsKernel}
use Rattle.machine_core.specs.Objects.{NoSpot, spot_at, object_count}
use Rattle.machine_core.specs.Plain.{GrownAt, KeepsWork, known_at, hand_of, hands_of}
use Rattle.machine_core.proofs.Standing.{past_none, below_or_past, past, is_real, no_slot, some_slot}
use Rattle.machine_core.proofs.Earlier.{kept}
use Rattle.machine_core.proofs.Hands.{empty_hand, full_hand}
use Rattle.machine_core.proofs.PlainShows.{some_none, known_some_of}

-- ---- the work begins

grown_none : (f : ℕ → List Entry) (n : ℕ) → grown f [] n ≡ f n
unfolding on
grown_none f n = append-nil (f n)

pub begins_told : (f : ℕ → List Entry) → grown f [] ≡ f
begins_told f = λ i n. grown_none f n i

slot_begins : (shape : Layout) (home : HomeId) (objects : List (Option Object)) (n : ℕ) (slot : Option Object) → object_at objects n ≡ slot → IsSlot shape home n slot → GrownAt shape home objects [] n slot
slot_begins shape home objects n None is h = tt
slot_begins shape home objects n (Some o) is h = record {
  here = h;
  start = ap start_in is;
  history = sym (ap history_in is) ∙ sym (grown_none (histories_in objects) n);
}

none_on : (n : ℕ) → on n [] ≡ []
unfolding on
none_on n = refl

pub begins : (shape : Layout) (home : HomeId) (base : ℕ) (objects : List (Option Object)) → KeepsKernel shape home base objects → KeepsWork shape home objects objects []
begins shape home base objects k = record {
  count = k.count;
  slots = λ n below. slot_begins shape home objects n (object_at objects n) refl (k.slots n below);
  runs = λ n. subst (IsRunAt (starts_in objects n)) (sym (grown_none (histories_in objects) n)) (k.runs n);
  unbuilt = λ n none. none_on n;
  stamps = refl;
}

slot_free : (shape : Layout) (home : HomeId) (n : ℕ) (slot : Option Object) (g : Option Known) → IsSlot shape home n slot → hand_of (spot_at n) slot g ≡ None
slot_free shape home n None g h = ap (λ spot. hand_of spot None g) h
slot_free shape home n (Some o) g h = empty_hand (spot_at n) g o

pub begins_free : (shape : Layout) (home : HomeId) (base : ℕ) (objects : List (Option Object)) → KeepsKernel shape home base objects → hands_of objects objects [] ≡ no_hands
begins_free shape home base objects k = λ i n. point n (below_or_past n) i
  where
    point : (n : ℕ) → (n < object_count) ⊎ (object_count ≤ n) → hands_of objects objects [] n ≡ None
    point n (inl below) = slot_free shape home n (object_at objects n) (known_at objects [] n) (k.slots n below)
    point n (inr above) = ap (λ spot. hand_of spot (object_at objects n) (known_at objects [] n)) (past_none n above)

-- ---- stamps

le_left : (s a b : ℕ) → IsTrue (nat_le s a) → IsTrue (nat_le s (max a b))
le_left s a b h = grind (arith, nat_tests)

le_right : (s a b : ℕ) → IsTrue (nat_le s b) → IsTrue (nat_le s (max a b))
le_right s a b h = grind (arith, nat_tests)

part_up_to : (t n : ℕ) (es : List Entry) → AreUpTo t es → AreUpTo t (on n es)
unfolding on
part_up_to t n es h = kept (λ e. is_on n e.object) (λ e. nat_le e.stamp t) es h

grown_up_to : (base last n : ℕ) (h log : List Entry) → AreUpTo base h → AreUpTo last log → AreUpTo (max base last) (h ++ on n log)
grown_up_to base last n h log old new =
    all_append (λ e. nat_le e.stamp (max base last)) h (on n log)
    (all_follow (λ e. nat_le e.stamp base) (λ e. nat_le e.stamp (max base last)) h (λ e. le_left e.stamp base last) old)
    (all_follow (λ e. nat_le e.stamp last) (λ e. nat_le e.stamp (max base last)) (on n log) (λ e. le_right e.stamp base last) (part_up_to last n log new))

-- ---- the work ends

-- the histories before it are told by those after it and the entries
pub same_histories : (f g : ℕ → List Entry) (log : List Entry) → grown f log ≡ grown g log → f ≡ g
same_histories f g log e = λ i n. append_cancel_right (f n) (g n) (on n log) (ap (λ (h : ℕ → List Entry). h n) e) i

abbrev pub with_base : ℕ → Anchor → Anchor
with_base b a = record a { base = b }

module _ (shape : Layout) (home : HomeId) (base : ℕ) (opening objects : List (Option Object)) (log : List Entry) (o : KeepsKernel shape home base opening) (k : KeepsWork shape home opening objects log) (free : hands_of opening objects log ≡ no_hands) where
  free_at : (n : ℕ) → hands_of opening objects log n ≡ None
  free_at n = ap (λ (f : ℕ → Option Known). f n) free

  home_at : (n : ℕ) → n < object_count → (slot : Option Object) → GrownAt shape home opening log n slot → hand_of (spot_at n) slot (known_at opening log n) ≡ None → (spot_at n ≡ NoSpot) ⊎ (spot_at n ≢ NoSpot) → IsSlot shape home n slot
  home_at n below None g h (inl none) = none
  home_at n below None g h (inr real) =
      let s = some_slot shape home n (object_at opening n) (o.slots n below) real in
      absurd (some_none _ (sym (known_some_of opening log n s.0 s.1) ∙ sym (full_hand (spot_at n) (known_at opening log n) real) ∙ h))
  home_at n below (Some x) g h spot = g.here

  is_home : (n : ℕ) → n < object_count → IsSlot shape home n (object_at objects n)
  is_home n below = home_at n below (object_at objects n) (k.slots n below) (free_at n) (is_real (spot_at n))

  start_stays : (n : ℕ) (slot : Option Object) → GrownAt shape home opening log n slot → IsSlot shape home n slot → IsSlot shape home n (object_at opening n) → start_in slot ≡ starts_in opening n
  start_stays n None g h was = sym (ap start_in (no_slot shape home n (object_at opening n) was h))
  start_stays n (Some x) g h was = sym g.start

  history_stays : (n : ℕ) (slot : Option Object) → GrownAt shape home opening log n slot → IsSlot shape home n slot → IsSlot shape home n (object_at opening n) → history_in slot ≡ grown (histories_in opening) log n
  history_stays n None g h was = (λ i. history_in (sym (no_slot shape home n (object_at opening n) was h) i) ++ sym (k.unbuilt n h) i)
  history_stays n (Some x) g h was = g.history

  start_point : (n : ℕ) → starts_in objects n ≡ starts_in opening n
  start_point n = at (below_or_past n)
    where
      at : (n < object_count) ⊎ (object_count ≤ n) → starts_in objects n ≡ starts_in opening n
      at (inl below) = start_stays n (object_at objects n) (k.slots n below) (is_home n below) (o.slots n below)
      at (inr above) = ap start_in (past objects n k.count above) ∙ sym (ap start_in (past opening n o.count above))

  history_point : (n : ℕ) → histories_in objects n ≡ grown (histories_in opening) log n
  history_point n = at (below_or_past n)
    where
      at : (n < object_count) ⊎ (object_count ≤ n) → histories_in objects n ≡ grown (histories_in opening) log n
      at (inl below) = history_stays n (object_at objects n) (k.slots n below) (is_home n below) (o.slots n below)
      at (inr above) =
          ap history_in (past objects n k.count above)
          ∙ (λ i. history_in (sym (past opening n o.count above) i) ++ sym (k.unbuilt n (past_none n above)) i)

  pub starts_end : starts_in objects ≡ starts_in opening
  starts_end = λ i n. start_point n i

  pub histories_end : histories_in objects ≡ grown (histories_in opening) log
  histories_end = λ i n. history_point n i

  pub runs_end : (n : ℕ) → IsRunAt (starts_in objects n) (histories_in objects n)
  runs_end n =
      subst (λ s. IsRunAt s (histories_in objects n)) (sym (start_point n)) (subst (IsRunAt (starts_in opening n)) (sym (history_point n)) (k.runs n))

  pub ends : KeepsKernel shape home (max base (last_stamp log)) objects
  ends = record {
    count = k.count;
    slots = is_home;
    runs = runs_end;
    stamps = λ n. subst (AreUpTo (max base (last_stamp log))) (sym (history_point n)) (grown_up_to base (last_stamp log) n (histories_in opening n) log (o.stamps n) k.stamps);
  }
