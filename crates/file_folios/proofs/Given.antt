-- The folios of a file by its state.
use Rattle.std.proofs.Common.{◌≡◌, ℕ, suc, ◌+◌, ◌*◌, ◌<◌, ◌≤◌, min, nat_le, filter, Bool, true, false, List, [], ◌∷◌, length, take, drop, map, refl, ap, sym, subst, ◌∙◌, arith}
use Rattle.std.specs.Prelude.{Option, None, Some}
use Rattle.std.specs.FinMap as finmap
use Rattle.std.proofs.lemmas.List.{take_all, length-map, length-drop, get_or-drop, drop_all}
use Rattle.std.proofs.lemmas.Bool.Decides.{nat_tests}
use Rattle.ho_base.specs.declared.numbers.Kind.{Kind}
use Rattle.ho_base.specs.declared.numbers.Order.{Order}
use Rattle.ho_base.specs.declared.numbers.Pfn.{Pfn}
use Rattle.phys_frames.specs.Homes.{HomeId}
use Rattle.phys_frames.specs.Memory.{FolioValue, first_frames}
use Rattle.ho_events.specs.Lists.{firsts, pieces}
use Rattle.ho_events.specs.File.{FileState, extended, runs_of, cut_runs, index_bytes}
use Rattle.file_folios.specs.Slots.{slot_at, slot_bytes, all_bytes, entries_from, runs_in, folios_in, IsPiece, IsSlot}
use Rattle.file_folios.specs.Sized.{bytes_of}
use Rattle.file_folios.specs.FileParts.{piece_bytes, state_of, KeepsFile}
use Rattle.file_folios.specs.FileAnswers.{folio_at, folios_of, cut_folios, truncated_state}
use Rattle.file_folios.proofs.SlotBytes.{range_bytes}
use Rattle.file_folios.proofs.SlotRuns.{entries_are, values_are, cut_values, cut_entries, left_runs_are}
use Rattle.file_folios.proofs.Cutting.{past_folios}
use Rattle.file_folios.proofs.FileStates.{state_long}

module _ (home : HomeId) (order : Order) (size : ℕ) (slots : List (Option FolioValue)) (k : KeepsFile home order size slots) (s : FileState) (same_order : s.order ≡ order.0) (same_bytes : s.bytes ≡ bytes_of (piece_bytes order) size slots) where
  abbrev p : ℕ
  p = piece_bytes order

  -- the bytes of all indexes, by the state
  all_of : extended (pieces (length s.bytes) p * p) s.bytes ≡ all_bytes p slots
  all_of =
      ap (λ b. extended (pieces (length b) p * p) b) same_bytes
      ∙ ap (λ n. extended (pieces n p * p) (bytes_of p size slots)) (state_long home order size slots k)
      ∙ ap (λ n. extended (n * p) (bytes_of p size slots)) (sym k.holds.count)
      ∙ sym k.holds.zeros

  abbrev with_parts : Pfn → Order → List ℕ → HomeId → FolioValue
  with_parts first order bytes home = record { first = first; order = order; bytes = bytes; home = home }

  folio_with : (f : FolioValue) (i : ℕ) → IsPiece home order p f → slot_at slots i ≡ Some f → i < length slots → folio_at s home (i, f.first.0) ≡ f
  folio_with f i piece is lt =
      ap (λ n. folio_at (record s { order = n }) home (i, f.first.0)) same_order
      ∙ ap (λ b. with_parts f.first order (take p (drop (i * p) b)) home) all_of
      ∙ ap (λ m. with_parts f.first order (take p (drop m (all_bytes p slots))) home) (omega arith)
      ∙ ap (λ b. with_parts f.first order b home) (range_bytes home order p slots i 0 p k.holds.are lt (omega arith) ∙ ap (λ o. take p (slot_bytes p o)) is ∙ take_all p f.bytes (omega (arith, piece.long)))
      ∙ ap (λ o. with_parts f.first o f.bytes home) (sym piece.of_order)
      ∙ ap (λ h. with_parts f.first f.order f.bytes h) (sym piece.of_home)

  folios_from : (i : ℕ) (xs : List (Option FolioValue)) → ((j : ℕ) → j < length xs → slot_at xs j ≡ slot_at slots (i + j)) → i + length xs ≡ length slots → folios_in xs ≡ map (λ run. folio_at s home run) (entries_from i xs)
  unfolding folios_in entries_from
  folios_from i [] at long = refl
  folios_from i (None ∷ xs) at long = folios_from (suc i) xs (λ j lt. at (suc j) (omega arith) ∙ ap (slot_at slots) (omega arith)) (omega arith)
  folios_from i (Some f ∷ xs) at long =
      let is : slot_at slots i ≡ Some f = ap (slot_at slots) (omega arith) ∙ sym (at 0 (omega arith)) in
      let piece : IsPiece home order p f = subst (IsSlot home order p) is (k.holds.are.at i) in
      ap (λ g. g ∷ folios_in xs) (sym (folio_with f i piece is (omega arith)))
      ∙ ap (λ r. folio_at s home (i, f.first.0) ∷ r) (folios_from (suc i) xs (λ j lt. at (suc j) (omega arith) ∙ ap (slot_at slots) (omega arith)) (omega arith))

  pub folios_are : s.runs ≡ runs_in slots → folios_in slots ≡ folios_of s home
  folios_are same = folios_from 0 slots (λ j lt. ap (slot_at slots) (omega arith)) (omega arith)
      ∙ ap (λ es. map (λ run. folio_at s home run) es) (sym (ap finmap.entries same ∙ entries_are slots))

pub runs_are : (s : FileState) (slots : List (Option FolioValue)) → s.runs ≡ runs_in slots → runs_of s ≡ firsts (first_frames (folios_in slots))
runs_are s slots same = ap (λ m. finmap.values m) same ∙ values_are slots

pub runs_count : (s : FileState) (slots : List (Option FolioValue)) → s.runs ≡ runs_in slots → length (runs_of s) ≡ length (folios_in slots)
runs_count s slots same = ap length (runs_are s slots same) ∙ length-map (first_frames (folios_in slots)) (λ r. r.0) ∙ length-map (folios_in slots) (λ f. f.first)

folios_few : (slots : List (Option FolioValue)) → length (folios_in slots) ≤ length slots
unfolding folios_in
folios_few [] = omega arith
folios_few (None ∷ slots) = omega (arith, folios_few slots)
folios_few (Some f ∷ slots) = omega (arith, folios_few slots)

pub runs_few : (s : FileState) (slots : List (Option FolioValue)) (n : ℕ) → s.runs ≡ runs_in slots → length slots ≡ n → length (runs_of s) ≤ n
runs_few s slots n same long = omega (arith, runs_count s slots same, folios_few slots)

none_from : (i : ℕ) (xs : List (Option FolioValue)) → xs ≡ [] → entries_from i xs ≡ []
unfolding entries_from
none_from i xs h = ap (entries_from i) h

-- the runs and the folios past a size
pub cut_runs_are : (s : FileState) (slots : List (Option FolioValue)) (size n : ℕ) → s.runs ≡ runs_in slots → pieces size (index_bytes s) ≡ n → cut_runs s size ≡ firsts (first_frames (folios_in (drop n slots)))
cut_runs_are s slots size n same is =
    ap (λ m. map (λ e. e.1) (filter (λ e. nat_le m e.0) (finmap.entries s.runs))) is
    ∙ ap (λ r. map (λ e. e.1) (filter (λ e. nat_le n e.0) (finmap.entries r))) same ∙ cut_values n slots

pub cut_count : (s : FileState) (slots : List (Option FolioValue)) (size n : ℕ) → s.runs ≡ runs_in slots → pieces size (index_bytes s) ≡ n → length (cut_runs s size) ≡ length (folios_in (drop n slots))
cut_count s slots size n same is = ap length (cut_runs_are s slots size n same is) ∙ length-map (first_frames (folios_in (drop n slots))) (λ r. r.0) ∙ length-map (folios_in (drop n slots)) (λ f. f.first)

-- no more than there are slots
pub cut_few : (s : FileState) (slots : List (Option FolioValue)) (size n : ℕ) → s.runs ≡ runs_in slots → length slots ≡ n → length (cut_runs s size) ≤ n
cut_few s slots size n same long =
    let m : ℕ = pieces size (index_bytes s) in
    omega (arith, cut_count s slots size m same refl, folios_few (drop m slots), length-drop m slots)

module _ (home : HomeId) (order : Order) (size : ℕ) (slots : List (Option FolioValue)) (k : KeepsFile home order size slots) (s : FileState) (same_order : s.order ≡ order.0) (same_bytes : s.bytes ≡ bytes_of (piece_bytes order) size slots) where
  past_end : (n : ℕ) (b : Bool) → nat_le n (length slots) ≡ b → folios_in (drop n slots) ≡ map (λ run. folio_at s home run) (entries_from n (drop n slots))
  past_end n true e =
      let le : n ≤ length slots = grind (arith, nat_tests) in
      folios_from home order size slots k s same_order same_bytes n (drop n slots) (λ j lt. get_or-drop n slots j None) (omega (arith, length-drop n slots, le))
  past_end n false e =
      let le : length slots ≤ n = grind (arith, nat_tests) in
      past_folios slots n le ∙ ap (λ es. map (λ run. folio_at s home run) es) (sym (none_from n (drop n slots) (drop_all n slots le)))

  pub cut_folios_are : (to n : ℕ) → s.runs ≡ runs_in slots → pieces to (index_bytes s) ≡ n → folios_in (drop n slots) ≡ cut_folios s home to
  cut_folios_are to n same is =
      past_end n (nat_le n (length slots)) refl
      ∙ ap (λ es. map (λ run. folio_at s home run) es) (sym (cut_entries n slots))
      ∙ ap (λ r. map (λ run. folio_at s home run) (filter (λ e. nat_le n e.0) (finmap.entries r))) (sym same)
      ∙ ap (λ m. map (λ run. folio_at s home run) (filter (λ e. nat_le m e.0) (finmap.entries s.runs))) (sym is)

-- another size
pub state_truncated : (s : FileState) (kind : Kind) (order : Order) (size to position : ℕ) (opened pin hold : Bool) (slots now : List (Option FolioValue)) →
    state_of kind order size position opened pin hold slots ≡ s →
    bytes_of (piece_bytes order) to now ≡ take to (extended to (bytes_of (piece_bytes order) size slots)) →
    runs_in now ≡ runs_in (take (pieces to (piece_bytes order)) slots) →
    state_of kind order to (min position to) opened pin hold now ≡ truncated_state s to
state_truncated s kind order size to position opened pin hold slots now is bytes left =
    let was : FileState = state_of kind order size position opened pin hold slots in
    ap (λ b. record (state_of kind order to (min position to) opened pin hold now) { bytes = b }) bytes
    ∙ ap (λ r. record was { bytes = take to (extended to was.bytes); position = min position to; runs = r }) (left ∙ sym (left_runs_are slots (pieces to (piece_bytes order))))
    ∙ ap (λ t. truncated_state t to) is
