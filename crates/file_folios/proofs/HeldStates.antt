-- Folios as the slots of a file that was handed over.
use Rattle.std.proofs.Common.{◌≡◌, ℕ, zero, suc, ◌+◌, ◌*◌, ◌^◌, ◌<◌, ◌≤◌, Bool, true, false, nat_lt, List, [], ◌∷◌, ◌++◌, map, length, take, refl, ap, sym, subst, ◌∙◌, arith, append_assoc, length-append}
use Rattle.std.specs.Prelude.{Option, None, Some, flat_map, slice_set}
use Rattle.std.specs.List.{All}
use Rattle.std.specs.FinMap as finmap
use Rattle.std.proofs.lemmas.Bool.Decides.{nat_tests}
use Rattle.std.proofs.lemmas.List.{append-nil, set_at, get_or_at, get_or_append_left, get_or_past, length-take, length-map, nil_from_length}
use Rattle.ho_base.specs.declared.limits.TheConstants.{PAGE_BYTES, MAX_ORDER, FILE_BYTES}
use Rattle.ho_base.specs.declared.numbers.Kind.{Kind}
use Rattle.ho_base.specs.declared.numbers.Order.{Order}
use Rattle.phys_frames.specs.Homes.{HomeId}
use Rattle.phys_frames.specs.Memory.{FolioValue, first_frames, AreOf}
use Rattle.ho_events.specs.Lists.{pieces, upto, firsts}
use Rattle.ho_events.specs.File.{extended, filled}
use Rattle.file_folios.specs.Slots.{places, slot_at, slot_bytes, all_bytes, runs_in, IsPiece, IsSlot, AreSlots}
use Rattle.file_folios.specs.Sized.{bytes_of}
use Rattle.file_folios.specs.FileParts.{piece_bytes, state_of, KeepsFile}
use Rattle.file_folios.specs.HeldFiles.{held_file}
use Rattle.file_folios.proofs.Places.{indexes_are}
use Rattle.file_folios.proofs.Extended.{extended_front, pieces_enough}
use Rattle.file_folios.proofs.SlotBytes.{all_length}
use Rattle.file_folios.proofs.SlotRuns.{runs_set}
use Rattle.file_folios.proofs.Sizes.{longer_runs}
use Rattle.file_folios.proofs.FileStates.{piece_some, no_runs_in}

abbrev pub as_slots : List FolioValue → List (Option FolioValue)
as_slots folios = map (λ f. Some f) folios

-- the bytes
slots_bytes : (p : ℕ) (folios : List FolioValue) → all_bytes p (as_slots folios) ≡ flat_map (λ f. f.bytes) folios
unfolding all_bytes
slots_bytes p [] = refl
slots_bytes p (f ∷ folios) = ap (λ r. f.bytes ++ r) (slots_bytes p folios)

-- the runs
runs_push : (xs : List (Option FolioValue)) (f : FolioValue) (n : ℕ) → length xs ≡ n → runs_in (xs ++ Some f ∷ []) ≡ finmap.insert (runs_in xs) n f.first.0
runs_push xs f n long =
    let lt : n < length (xs ++ None ∷ []) = omega (arith, long, length-append xs (None ∷ [])) in
    ap runs_in (sym (set_at xs None [] (Some f) n long))
    ∙ runs_set (xs ++ None ∷ []) n f lt
    ∙ ap (λ r. finmap.insert r n f.first.0) (longer_runs xs 1)

runs_on : (xs : List (Option FolioValue)) (n : ℕ) (folios : List FolioValue) → length xs ≡ n → runs_in (xs ++ as_slots folios) ≡ filled (places n (length folios)) (firsts (first_frames folios)) (runs_in xs)
unfolding places
runs_on xs n [] long = ap runs_in (append-nil xs)
runs_on xs n (f ∷ folios) long =
    ap runs_in (sym (append_assoc xs (Some f ∷ []) (as_slots folios)))
    ∙ runs_on (xs ++ Some f ∷ []) (suc n) folios (length-append xs (Some f ∷ []) ∙ omega (arith, long))
    ∙ ap (filled (places (suc n) (length folios)) (firsts (first_frames folios))) (runs_push xs f n long)

slots_runs : (folios : List FolioValue) → runs_in (as_slots folios) ≡ filled (upto (length folios)) (firsts (first_frames folios)) finmap.empty
slots_runs folios =
    runs_on [] 0 folios refl
    ∙ ap (filled (places 0 (length folios)) (firsts (first_frames folios))) no_runs_in
    ∙ ap (λ is. filled is (firsts (first_frames folios)) finmap.empty) (sym (indexes_are (length folios)))

pub held_state : (kind : Kind) (order : Order) (size position : ℕ) (slots : List (Option FolioValue)) (folios : List FolioValue) → slots ≡ as_slots folios →
    state_of kind order size position false false true slots ≡ held_file kind order.0 size position folios
held_state kind order size position slots folios is =
    ap (λ s. state_of kind order size position false false true s) is
    ∙ ap (λ b. record (held_file kind order.0 size position folios) { bytes = take size b; runs = runs_in (as_slots folios) }) (slots_bytes (piece_bytes order) folios)
    ∙ ap (λ r. record (held_file kind order.0 size position folios) { runs = r }) (slots_runs folios)

-- the slots with the bytes past the size made zero
module _ (home : HomeId) (order : Order) (size : ℕ) (slots now : List (Option FolioValue)) (are : AreSlots home order (piece_bytes order) slots) (count : length slots ≡ pieces size (piece_bytes order)) where
  abbrev p : ℕ
  p = piece_bytes order

  front_long : length (take size (all_bytes p slots)) ≡ size
  front_long = length-take size (all_bytes p slots) ∙ omega (arith, all_length home order p slots are, pieces_enough size p (piece_some order), ap (λ n. n * p) count)

  pub held_bytes : all_bytes p now ≡ extended (length slots * p) (take size (all_bytes p slots)) → bytes_of p size now ≡ bytes_of p size slots
  held_bytes all = ap (take size) all ∙ extended_front (length slots * p) size (take size (all_bytes p slots)) front_long

  pub held_keeps : order.0 ≤ MAX_ORDER → size ≤ FILE_BYTES → AreSlots home order p now → length now ≡ length slots →
      all_bytes p now ≡ extended (length slots * p) (take size (all_bytes p slots)) → KeepsFile home order size now
  held_keeps small within next long all = record {
    small = small;
    within = within;
    holds = record {
      are = next;
      count = long ∙ count;
      zeros = all ∙ ap (extended (length slots * p)) (sym (held_bytes all)) ∙ ap (λ n. extended (n * p) (bytes_of p size now)) (sym long);
    };
  }

pub held_same : (kind : Kind) (order : Order) (size position : ℕ) (slots now : List (Option FolioValue)) → bytes_of (piece_bytes order) size now ≡ bytes_of (piece_bytes order) size slots → runs_in now ≡ runs_in slots →
    state_of kind order size position false false true now ≡ state_of kind order size position false false true slots
held_same kind order size position slots now bytes runs =
    let was = state_of kind order size position false false true slots in
    ap (λ b. record (state_of kind order size position false false true now) { bytes = b }) bytes ∙ ap (λ r. record was { runs = r }) runs

-- the folios that are slots so far, and those that are left, are all
pub record Holding (home : HomeId) (order : Order) (p : ℕ) (all : List FolioValue) (slots : List (Option FolioValue)) (rest : List FolioValue) : Type 0 where
  pub same : slots ++ as_slots rest ≡ as_slots all
  pub are : AreSlots home order p slots
  pub of_home : AreOf home rest
  pub of_order : All (λ f. f.order ≡ order) rest

module _ (home : HomeId) (order : Order) (p : ℕ) (all : List FolioValue) where
  pub holding_begins : (slots : List (Option FolioValue)) (rest : List FolioValue) → slots ≡ [] → rest ≡ all → AreOf home all → All (λ f. f.order ≡ order) all → Holding home order p all slots rest
  holding_begins slots rest none same of_home of_order = rw (none, same) (record { same = refl; are = record { at = λ i. tt }; of_home = of_home; of_order = of_order })

  push_at : (slots : List (Option FolioValue)) (f : FolioValue) → AreSlots home order p slots → IsPiece home order p f → (i : ℕ) (b c : Bool) → nat_lt i (length slots) ≡ b → nat_lt (length slots) i ≡ c → IsSlot home order p (slot_at (slots ++ Some f ∷ []) i)
  push_at slots f are piece i true c e g = subst (IsSlot home order p) (sym (get_or_append_left slots (Some f ∷ []) None i (grind (arith, nat_tests)))) (are.at i)
  push_at slots f are piece i false true e g =
      let past : length slots < i = grind (arith, nat_tests) in
      subst (IsSlot home order p) (sym (get_or_past (slots ++ Some f ∷ []) i None (omega (arith, length-append slots (Some f ∷ []))))) tt
  push_at slots f are piece i false false e g =
      let here : length slots ≡ i = grind (arith, nat_tests) in
      subst (IsSlot home order p) (sym (get_or_at slots (Some f) [] None i here)) piece

  module _ (slots : List (Option FolioValue)) (rest : List FolioValue) (h : Holding home order p all slots rest) where
    with_first : (f : FolioValue) (left : List FolioValue) → rest ≡ f ∷ left → length f.bytes ≡ p → Holding home order p all (slots ++ Some f ∷ []) left
    with_first f left is long =
        let homes : AreOf home (f ∷ left) = subst (AreOf home) is h.of_home in
        let orders : All (λ g. g.order ≡ order) (f ∷ left) = subst (All (λ g. g.order ≡ order)) is h.of_order in
        let piece : IsPiece home order p f = record { of_home = homes.0; of_order = orders 0 f (omega arith); long = long } in
        record {
          same = append_assoc slots (Some f ∷ []) (as_slots left) ∙ ap (λ r. slots ++ as_slots r) (sym is) ∙ h.same;
          are = record { at = λ i. push_at slots f h.are piece i (nat_lt i (length slots)) (nat_lt (length slots) i) refl refl };
          of_home = homes.1;
          of_order = λ k d lt. orders (suc k) d (omega arith);
        }

    pub holding_more : (f : FolioValue) (left : List FolioValue) (next : List (Option FolioValue)) → rest ≡ f ∷ left → p ≡ PAGE_BYTES * 2 ^ order.0 → length f.bytes ≡ PAGE_BYTES * 2 ^ f.order.0 → next ≡ slots ++ Some f ∷ [] → Holding home order p all next left
    holding_more f left next is piece long e =
        let orders : All (λ g. g.order ≡ order) (f ∷ left) = subst (All (λ g. g.order ≡ order)) is h.of_order in
        subst (λ s. Holding home order p all s left) (sym e) (with_first f left is (long ∙ ap (λ o. PAGE_BYTES * 2 ^ o.0) (orders 0 f (omega arith)) ∙ sym piece))

    pub holding_ends : length rest ≡ 0 → slots ≡ as_slots all
    holding_ends none =
        let bare : rest ≡ [] = nil_from_length rest none in
        sym (append-nil slots) ∙ ap (λ r. slots ++ as_slots r) (sym bare) ∙ h.same
