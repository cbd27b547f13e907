-- Slots that hold bytes, as they grow and are written.
use Rattle.std.proofs.Common.{◌≡◌, ℕ, zero, suc, ◌+◌, ◌-◌, ◌*◌, ◌<◌, ◌≤◌, nat_lt, max, Bool, true, false, not, is_some, List, ◌++◌, filter, length, take, replicate, refl, ap, sym, subst, ◌∙◌, arith, length-append}
use Rattle.std.specs.Prelude.{Option, None}
use Rattle.std.proofs.lemmas.Bool.Decides.{nat_tests}
use Rattle.std.proofs.lemmas.List.{length-take, length-replicate, get_or_append_left, get_or-append_right, get_or_past, get_or-take, take_all, take-take, append-nil}
use Rattle.ho_base.specs.declared.numbers.Order.{Order}
use Rattle.phys_frames.specs.Homes.{HomeId}
use Rattle.phys_frames.specs.Memory.{FolioValue, written}
use Rattle.ho_events.specs.Lists.{pieces}
use Rattle.ho_events.specs.File.{extended, overwritten}
use Rattle.file_folios.specs.Slots.{slot_at, holes_in, all_bytes, runs_in, IsSlot, AreSlots}
use Rattle.file_folios.specs.Sized.{bytes_of, HoldsBytes}
use Rattle.file_folios.proofs.Extended.{pieces_enough, pieces_rise, extended_more, extended_written, extended_front, extended_take, extended_length, overwritten_length}
use Rattle.file_folios.proofs.SlotBytes.{all_append, all_holes, all_length, take_bytes}
use Rattle.file_folios.proofs.SlotRuns.{run_of, same_runs}

-- indexes without a folio at the end change nothing that is looked up
empty_at : (k i : ℕ) → slot_at (replicate k None) i ≡ None
empty_at zero i = refl
empty_at (suc k) zero = refl
empty_at (suc k) (suc i) = empty_at k i

same_lookup : (slots : List (Option FolioValue)) (k i : ℕ) (b : Bool) → nat_lt i (length slots) ≡ b → slot_at (slots ++ replicate k None) i ≡ slot_at slots i
same_lookup slots k i true e = get_or_append_left slots (replicate k None) None i (grind (arith, nat_tests))
same_lookup slots k i false e =
    let past : length slots ≤ i = grind (arith, nat_tests) in
    get_or-append_right slots (replicate k None) (length slots) i None refl past ∙ empty_at k (i - length slots) ∙ sym (get_or_past slots i None past)

pub longer_lookup : (slots : List (Option FolioValue)) (k i : ℕ) → slot_at (slots ++ replicate k None) i ≡ slot_at slots i
longer_lookup slots k i = same_lookup slots k i (nat_lt i (length slots)) refl

pub longer_runs : (slots : List (Option FolioValue)) (k : ℕ) → runs_in (slots ++ replicate k None) ≡ runs_in slots
longer_runs slots k = same_runs (slots ++ replicate k None) slots (λ i. ap run_of (longer_lookup slots k i))

pub longer_holes : (slots : List (Option FolioValue)) (k : ℕ) (indexes : List ℕ) → holes_in (slots ++ replicate k None) indexes ≡ holes_in slots indexes
longer_holes slots k indexes = λ j. filter (λ i. not (is_some (longer_lookup slots k i j))) indexes

module _ (home : HomeId) (order : Order) (p : ℕ) (some : 0 < p) where
  pub longer_slots : (slots : List (Option FolioValue)) (k : ℕ) → AreSlots home order p slots → AreSlots home order p (slots ++ replicate k None)
  longer_slots slots k h = record { at = λ i. subst (IsSlot home order p) (sym (longer_lookup slots k i)) (h.at i) }

  module _ (size : ℕ) (slots : List (Option FolioValue)) (h : HoldsBytes home order p size slots) where
    pub enough : size ≤ length slots * p
    enough = omega (arith, pieces_enough size p some, ap (λ n. n * p) h.count)

    pub bytes_long : length (bytes_of p size slots) ≡ size
    bytes_long = length-take size (all_bytes p slots) ∙ omega (arith, enough, all_length home order p slots h.are)

    -- with more indexes
    pub longer_bytes : (k : ℕ) → all_bytes p (slots ++ replicate k None) ≡ extended ((length slots + k) * p) (bytes_of p size slots)
    longer_bytes k =
        all_append p slots (replicate k None) ∙ ap (λ r. all_bytes p slots ++ r) (all_holes p k)
        ∙ ap (λ a. a ++ replicate (k * p) 0) h.zeros
        ∙ extended_more (length slots * p) (k * p) (bytes_of p size slots) (omega (arith, bytes_long, enough))
        ∙ ap (λ n. extended n (bytes_of p size slots)) (omega arith)

    -- with bytes written
    module _ (n off : ℕ) (new : List ℕ) (now : List (Option FolioValue)) (long : length now ≡ n) (count : n ≡ pieces (max size (off + length new)) p)
        (are : AreSlots home order p now) (all : all_bytes p now ≡ written (extended (n * p) (bytes_of p size slots)) off new) where
      fits : max size (off + length new) ≤ n * p
      fits = omega (arith, pieces_enough (max size (off + length new)) p some, ap (λ c. c * p) count)

      all_new : all_bytes p now ≡ extended (n * p) (overwritten off new (bytes_of p size slots))
      all_new = all ∙ extended_written (n * p) off new (bytes_of p size slots) (omega (arith, bytes_long, fits)) (omega (arith, fits))

      pub written_bytes : bytes_of p (max size (off + length new)) now ≡ overwritten off new (bytes_of p size slots)
      written_bytes = ap (take (max size (off + length new))) all_new
          ∙ extended_front (n * p) (max size (off + length new)) (overwritten off new (bytes_of p size slots))
          (overwritten_length off new (bytes_of p size slots) ∙ ap (λ m. max m (off + length new)) bytes_long)

      pub written_holds : HoldsBytes home order p (max size (off + length new)) now
      written_holds = record {
        are = are;
        count = long ∙ count;
        zeros = all_new ∙ ap (λ b. extended (n * p) b) (sym written_bytes) ∙ ap (λ m. extended (m * p) (bytes_of p (max size (off + length new)) now)) (sym long);
      }

    -- grown, filled and written
    module _ (off m : ℕ) (new : List ℕ) (grown filling now : List (Option FolioValue)) (k : ℕ) (k_is : k ≡ m - length slots) (m_is : m ≡ pieces (max size (off + length new)) p)
        (grown_is : grown ≡ slots ++ replicate k None) (same : all_bytes p filling ≡ all_bytes p grown) (long : length now ≡ length grown)
        (are : AreSlots home order p now) (all : all_bytes p now ≡ written (all_bytes p filling) off new) where
      m_enough : length slots ≤ m
      m_enough = omega (arith, m_is, h.count, pieces_rise size (max size (off + length new)) p some (omega arith))

      grown_long : length grown ≡ m
      grown_long = ap length grown_is ∙ length-append slots (replicate k None) ∙ omega (arith, length-replicate {A = Option FolioValue} k None, m_enough, k_is)

      all_is : all_bytes p now ≡ written (extended (m * p) (bytes_of p size slots)) off new
      all_is = all ∙ ap (λ b. written b off new) (same ∙ ap (all_bytes p) grown_is ∙ longer_bytes k ∙ ap (λ c. extended (c * p) (bytes_of p size slots)) (omega (arith, m_enough, k_is)))

      pub overwrite_bytes : bytes_of p (max size (off + length new)) now ≡ overwritten off new (bytes_of p size slots)
      overwrite_bytes = written_bytes m off new now (long ∙ grown_long) m_is are all_is

      pub overwrite_holds : HoldsBytes home order p (max size (off + length new)) now
      overwrite_holds = written_holds m off new now (long ∙ grown_long) m_is are all_is

    -- with a greater size
    module _ (to m k : ℕ) (ge : size ≤ to) (m_is : m ≡ pieces to p) (k_is : k ≡ m - length slots) (now : List (Option FolioValue)) (now_is : now ≡ slots ++ replicate k None) where
      abbrev b : List ℕ
      b = bytes_of p size slots

      m_least : length slots ≤ m
      m_least = omega (arith, m_is, h.count, pieces_rise size to p some ge)

      room : to ≤ m * p
      room = omega (arith, pieces_enough to p some, ap (λ c. c * p) m_is)

      now_long : length now ≡ m
      now_long = ap length now_is ∙ length-append slots (replicate k None) ∙ omega (arith, length-replicate {A = Option FolioValue} k None, m_least, k_is)

      now_all : all_bytes p now ≡ extended (m * p) b
      now_all = ap (all_bytes p) now_is ∙ longer_bytes k ∙ ap (λ c. extended (c * p) b) (omega (arith, m_least, k_is))

      pub more_bytes : bytes_of p to now ≡ take to (extended to b)
      more_bytes = ap (take to) now_all ∙ extended_take to (m * p) b room

      same_front : take to (extended to b) ≡ extended to b
      same_front = take_all to (extended to b) (omega (arith, extended_length to b (omega (arith, bytes_long, ge))))

      again : extended (m * p) (extended to b) ≡ extended (m * p) b
      again =
          ap (λ l. extended to b ++ replicate (m * p - l) 0) (extended_length to b (omega (arith, bytes_long, ge)))
          ∙ extended_more to (m * p - to) b (omega (arith, bytes_long, ge))
          ∙ ap (λ l. extended l b) (omega (arith, room))

      pub more_holds : HoldsBytes home order p to now
      more_holds = record {
        are = subst (AreSlots home order p) (sym now_is) (longer_slots slots k h.are);
        count = now_long ∙ m_is;
        zeros = now_all ∙ sym again ∙ ap (extended (m * p)) (sym (more_bytes ∙ same_front)) ∙ ap (λ c. extended (c * p) (bytes_of p to now)) (sym now_long);
      }

    -- with a smaller size
    module _ (to m : ℕ) (le : to ≤ size) (m_is : m ≡ pieces to p) (mid now : List (Option FolioValue)) (mid_is : mid ≡ take m slots) (long : length now ≡ length mid)
        (are : AreSlots home order p now) (all : all_bytes p now ≡ extended (length mid * p) (take to (all_bytes p mid))) where
      m_most : m ≤ length slots
      m_most = omega (arith, m_is, h.count, pieces_rise to size p some le)

      enough_left : to ≤ m * p
      enough_left = omega (arith, pieces_enough to p some, ap (λ c. c * p) m_is)

      mid_long : length mid ≡ m
      mid_long = ap length mid_is ∙ length-take m slots ∙ omega (arith, m_most)

      front : take to (all_bytes p mid) ≡ take to (all_bytes p slots)
      front = ap (λ s. take to (all_bytes p s)) mid_is ∙ ap (take to) (take_bytes home order p slots m h.are m_most) ∙ take-take to (m * p) (all_bytes p slots) enough_left

      front_long : length (take to (all_bytes p slots)) ≡ to
      front_long = length-take to (all_bytes p slots) ∙ omega (arith, enough, le, all_length home order p slots h.are)

      less_all : all_bytes p now ≡ extended (m * p) (take to (all_bytes p slots))
      less_all = all ∙ ap (extended (length mid * p)) front ∙ ap (λ c. extended (c * p) (take to (all_bytes p slots))) mid_long

      less_front : bytes_of p to now ≡ take to (all_bytes p slots)
      less_front = ap (take to) less_all ∙ extended_front (m * p) to (take to (all_bytes p slots)) front_long

      no_more : (k : ℕ) → k ≡ 0 → take to (bytes_of p size slots ++ replicate k 0) ≡ take to (all_bytes p slots)
      no_more k e = rw e (ap (take to) (append-nil (bytes_of p size slots)) ∙ take-take to size (all_bytes p slots) le)

      pub less_bytes : bytes_of p to now ≡ take to (extended to (bytes_of p size slots))
      less_bytes = less_front ∙ sym (no_more (to - length (bytes_of p size slots)) (omega (arith, bytes_long, le)))

      pub less_holds : HoldsBytes home order p to now
      less_holds = record {
        are = are;
        count = long ∙ mid_long ∙ m_is;
        zeros = less_all ∙ ap (extended (m * p)) (sym less_front) ∙ ap (λ c. extended (c * p) (bytes_of p to now)) (sym (long ∙ mid_long));
      }

-- the slots below an index
pub front_slots : (home : HomeId) (order : Order) (p n : ℕ) (slots : List (Option FolioValue)) → AreSlots home order p slots → AreSlots home order p (take n slots)
front_slots home order p n slots h = record { at = λ i. at_front i (nat_lt i n) refl }
  where
    at_front : (i : ℕ) (b : Bool) → nat_lt i n ≡ b → IsSlot home order p (slot_at (take n slots) i)
    at_front i true e = subst (IsSlot home order p) (sym (get_or-take n slots i None (grind (arith, nat_tests)))) (h.at i)
    at_front i false e =
        let past : n ≤ i = grind (arith, nat_tests) in
        subst (IsSlot home order p) (sym (get_or_past (take n slots) i None (omega (arith, length-take n slots)))) tt
