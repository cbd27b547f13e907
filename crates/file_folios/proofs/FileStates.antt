-- The states that parts of a file show.
use Rattle.std.proofs.Common.{◌≡◌, ℕ, zero, suc, ◌+◌, ◌-◌, ◌*◌, ◌/◌, ◌^◌, ◌<◌, ◌≤◌, ◌==◌, nat_lt, max, Bool, true, false, not, ◌&&◌, ◌||◌, if◌then◌else◌, List, [], filter, length, take, drop, replicate, refl, ap, sym, subst, ◌∙◌, arith}
use Rattle.std.specs.Prelude.{Option}
use Rattle.std.specs.Ordering.{nat_cmp}
use Rattle.std.specs.Cmp.{nat_cmp_total}
use Rattle.std.specs.FinMap as finmap
use Rattle.std.proofs.lemmas.Bool.Decides.{nat_tests}
use Rattle.std.proofs.Math.Nat.{div-eq_of_lt}
use Rattle.std.proofs.lemmas.Nat.{pow_pos}
use Rattle.ho_base.specs.declared.limits.TheConstants.{PAGE_BYTES, MAX_ORDER, FILE_BYTES}
use Rattle.ho_base.specs.declared.numbers.Kind.{Kind}
use Rattle.ho_base.specs.declared.numbers.Kind.TheVariants.{Memfd}
use Rattle.ho_base.specs.declared.numbers.Order.{Order}
use Rattle.ho_base.specs.declared.numbers.Pfn.{Pfn}
use Rattle.phys_frames.specs.Homes.{HomeId}
use Rattle.phys_frames.specs.Memory.{FolioValue}
use Rattle.ho_events.specs.Lists.{pieces, upto, between, firsts}
use Rattle.ho_events.specs.File.{FileState, index_bytes, is_too_big, touched_holes, overwritten, extended, filled, new_file, is_frozen, grows_frozen, holes, indexes}
use Rattle.file_folios.specs.Slots.{places, holes_in, all_bytes, runs_in, AreSlots}
use Rattle.file_folios.specs.Sized.{bytes_of, places_of}
use Rattle.file_folios.specs.FileParts.{piece_bytes, state_of, KeepsFile}
use Rattle.file_folios.specs.FileAnswers.{written_state, pinned_state, facts_of, more_indexes, wanted_indexes}
use Rattle.file_folios.specs.declared.facts.Facts.{Facts}
use Rattle.file_folios.proofs.Ranges.{page_read}
use Rattle.file_folios.proofs.Places.{between_is, indexes_are}
use Rattle.file_folios.proofs.Extended.{pieces_least, pieces_rise}
use Rattle.file_folios.proofs.Sizes.{bytes_long, enough}
use Rattle.file_folios.proofs.SlotRuns.{holes_are, run_get}

-- the holes that a range touches
pub touched_are : (s : FileState) (order : Order) (slots : List (Option FolioValue)) (off len : ℕ) → s.order ≡ order.0 → s.runs ≡ runs_in slots → 0 < len →
    touched_holes s off len ≡ holes_in slots (places_of (piece_bytes order) off len)
touched_are s order slots off len same runs some =
    let p : ℕ = piece_bytes order in
    let not_none : (len == 0) ≡ false = grind (arith, nat_tests) in
    let row : (n : ℕ) → List ℕ = λ n. between (off / (PAGE_BYTES * 2 ^ n)) (pieces (off + len) (PAGE_BYTES * 2 ^ n)) in
    ap (λ b. if b then [] else filter (λ i. not (finmap.contains_key s.runs i)) (row s.order)) not_none
    ∙ ap (λ r. filter (λ i. not (finmap.contains_key r i)) (row s.order)) runs
    ∙ holes_are slots (row s.order)
    ∙ ap (λ n. holes_in slots (row n)) same
    ∙ ap (holes_in slots) (between_is (off / p) (pieces (off + len) p))

pub touched_none : (s : FileState) (off len : ℕ) → len ≡ 0 → touched_holes s off len ≡ []
touched_none s off len none = let e : (len == 0) ≡ true = grind (arith, nat_tests) in rw e refl

-- a new file
pub piece_some : (order : Order) → 0 < piece_bytes order
piece_some order = omega (arith, pow_pos order.0)

pub no_runs_in : runs_in [] ≡ finmap.empty
no_runs_in = finmap.same_map nat_cmp_total finmap.nat_cmp-IsAntisymmetric (runs_in []) finmap.empty (λ q. run_get [] q ∙ sym (finmap.get-empty nat_cmp q))

no_bytes : (p : ℕ) → all_bytes p [] ≡ []
unfolding all_bytes
no_bytes p = refl

no_upto : upto 0 ≡ []
unfolding upto
no_upto = refl

no_slot : (home : HomeId) (order : Order) (p : ℕ) → AreSlots home order p []
no_slot home order p = record { at = λ i. tt }

no_zeros : (k : ℕ) → k ≡ 0 → replicate {A = ℕ} k 0 ≡ []
no_zeros k h = rw h refl

pub new_keeps : (home : HomeId) (order : Order) (slots : List (Option FolioValue)) → order.0 ≤ MAX_ORDER → slots ≡ [] → KeepsFile home order 0 slots
new_keeps home order slots small none = rw none (record {
  small = small;
  within = omega arith;
  holds = record {
    are = no_slot home order (piece_bytes order);
    count = sym (div-eq_of_lt (omega (arith, piece_some order)));
    zeros = no_bytes (piece_bytes order) ∙ sym (no_zeros (0 * piece_bytes order - 0) (omega arith));
  };
})

pub new_state : (order : Order) (slots : List (Option FolioValue)) → slots ≡ [] → state_of Memfd order 0 0 true false false slots ≡ new_file Memfd order.0 0 []
new_state order slots none = rw (none, no_runs_in, no_upto) refl

-- bytes written and holes filled
pub state_written : (s : FileState) (kind : Kind) (order : Order) (size long position : ℕ) (opened pin hold : Bool) (slots now : List (Option FolioValue)) (off : ℕ) (new : List ℕ) (runs : List Pfn) →
    state_of kind order size position opened pin hold slots ≡ s → 0 < length new →
    bytes_of (piece_bytes order) long now ≡ overwritten off new (bytes_of (piece_bytes order) size slots) →
    runs_in now ≡ filled (holes_in slots (places_of (piece_bytes order) off (length new))) (firsts runs) (runs_in slots) →
    state_of kind order long position opened pin hold now ≡ written_state s off new runs
state_written s kind order size long position opened pin hold slots now off new runs is some bytes filling =
    let was : FileState = state_of kind order size position opened pin hold slots in
    ap (λ b. record (state_of kind order long position opened pin hold now) { bytes = b }) bytes
    ∙ ap (λ r. record was { bytes = overwritten off new was.bytes; runs = r }) (filling ∙ ap (λ hs. filled hs (firsts runs) (runs_in slots)) (sym (touched_are was order slots off (length new) refl refl some)))
    ∙ ap (λ t. written_state t off new runs) is

-- the size is the number of the bytes
pub state_long : (home : HomeId) (order : Order) (size : ℕ) (slots : List (Option FolioValue)) → KeepsFile home order size slots → length (bytes_of (piece_bytes order) size slots) ≡ size
state_long home order size slots k = bytes_long home order (piece_bytes order) (piece_some order) size slots k.holds

pub not_frozen_below : (s : FileState) (size end : ℕ) → length s.bytes ≡ size → end ≤ size → nat_lt size end ≡ grows_frozen s end
not_frozen_below s size end long le =
    let e : nat_lt size end ≡ false = grind (arith, nat_tests) in
    e ∙ sym (ap (λ n. nat_lt n end && is_frozen s) long ∙ ap (λ b. b && is_frozen s) e)

-- the facts of a state
abbrev facts_with : Kind → Order → ℕ → ℕ → Bool → Bool → Bool → Facts
facts_with kind order size position opened pin hold = record { kind = kind; order = order; size = size; position = position; opened = opened; pin = pin; hold = hold }

pub facts_are : (s : FileState) (home : HomeId) (kind : Kind) (order : Order) (size position : ℕ) (opened pin hold : Bool) (slots : List (Option FolioValue)) → KeepsFile home order size slots →
    state_of kind order size position opened pin hold slots ≡ s → facts_with kind order size position opened pin hold ≡ facts_of s
facts_are s home kind order size position opened pin hold slots k is =
    ap (λ n. facts_with kind order n position opened pin hold) (sym (state_long home order size slots k)) ∙ ap (λ t. facts_of t) is

-- a range within the size is read from the slots
pub read_state : (s : FileState) (home : HomeId) (order : Order) (size : ℕ) (slots : List (Option FolioValue)) (off len : ℕ) (out : List ℕ) → KeepsFile home order size slots →
    s.bytes ≡ bytes_of (piece_bytes order) size slots → off + len ≤ size → out ≡ take len (drop off (all_bytes (piece_bytes order) slots)) → out ≡ take len (drop off s.bytes)
read_state s home order size slots off len out k same within is =
    is ∙ sym (page_read (all_bytes (piece_bytes order) slots) size off len within) ∙ ap (λ b. take len (drop off b)) (sym same)

pub within_slots : (home : HomeId) (order : Order) (size : ℕ) (slots : List (Option FolioValue)) → KeepsFile home order size slots → size ≤ length slots * piece_bytes order
within_slots home order size slots k = enough home order (piece_bytes order) (piece_some order) size slots k.holds

-- all holes of the file
pub holes_all : (s : FileState) (home : HomeId) (order : Order) (size : ℕ) (slots : List (Option FolioValue)) → KeepsFile home order size slots →
    s.order ≡ order.0 → s.bytes ≡ bytes_of (piece_bytes order) size slots → s.runs ≡ runs_in slots → holes s (indexes s) ≡ holes_in slots (places 0 (length slots))
holes_all s home order size slots k same_order same_bytes same_runs =
    ap (λ r. filter (λ i. not (finmap.contains_key r i)) (indexes s)) same_runs
    ∙ holes_are slots (indexes s)
    ∙ ap (λ n. holes_in slots (upto (pieces (length s.bytes) (PAGE_BYTES * 2 ^ n)))) same_order
    ∙ ap (λ n. holes_in slots (upto (pieces n (piece_bytes order)))) (ap length same_bytes ∙ state_long home order size slots k)
    ∙ ap (λ n. holes_in slots (upto n)) (sym k.holds.count)
    ∙ ap (holes_in slots) (indexes_are (length slots))

pub few_slots : (home : HomeId) (order : Order) (size : ℕ) (slots : List (Option FolioValue)) → KeepsFile home order size slots → length slots ≤ FILE_BYTES
few_slots home order size slots k =
    omega (arith, k.holds.count, k.within, pieces_least size size (piece_bytes order) (piece_some order) (times size (piece_bytes order) (piece_some order)))
  where
    times : (n p : ℕ) → 0 < p → n ≤ n * p
    times zero p some = omega arith
    times (suc n) p some = let rest : n ≤ n * p = times n p some in omega arith

-- all holes filled, and pinned
pub state_pinned : (s : FileState) (home : HomeId) (kind : Kind) (order : Order) (size position : ℕ) (opened pin hold : Bool) (slots now : List (Option FolioValue)) (used : List Pfn) → KeepsFile home order size slots →
    state_of kind order size position opened pin hold slots ≡ s →
    all_bytes (piece_bytes order) now ≡ all_bytes (piece_bytes order) slots →
    runs_in now ≡ filled (holes_in slots (places 0 (length slots))) (firsts used) (runs_in slots) →
    state_of kind order size position opened true hold now ≡ pinned_state s used
state_pinned s home kind order size position opened pin hold slots now used k is same filling =
    let was : FileState = state_of kind order size position opened pin hold slots in
    ap (λ b. record (state_of kind order size position opened true hold now) { bytes = take size b }) same
    ∙ ap (λ r. record was { runs = r; pin = true }) (filling ∙ ap (λ hs. filled hs (firsts used) (runs_in slots)) (sym (holes_all was home order size slots k refl refl refl)))
    ∙ ap (λ t. pinned_state t used) is

-- filled slots hold the same bytes
pub pinned_keeps : (home : HomeId) (order : Order) (size : ℕ) (slots now : List (Option FolioValue)) → KeepsFile home order size slots → length now ≡ length slots → AreSlots home order (piece_bytes order) now →
    all_bytes (piece_bytes order) now ≡ all_bytes (piece_bytes order) slots → KeepsFile home order size now
pinned_keeps home order size slots now k long are same = record {
  small = k.small;
  within = k.within;
  holds = record {
    are = are;
    count = long ∙ k.holds.count;
    zeros = same ∙ k.holds.zeros ∙ ap (λ b. extended (length slots * piece_bytes order) (take size b)) (sym same) ∙ ap (λ n. extended (n * piece_bytes order) (bytes_of (piece_bytes order) size now)) (sym long);
  };
}

-- how many more indexes a range needs that isn't refused
module _ (s : FileState) (end : ℕ) where
  abbrev p : ℕ
  p = index_bytes s

  more_are : (b : Bool) → nat_lt (length s.bytes) end ≡ b → 0 < p → pieces end p - pieces (length s.bytes) p ≡ more_indexes s end
  more_are true e some =
      let greater : end ≡ max (length s.bytes) end = grind (arith, nat_tests) in
      ap (λ n. pieces n p - pieces (length s.bytes) p) greater
  more_are false e some =
      let le : end ≤ length s.bytes = grind (arith, nat_tests) in
      let same : length s.bytes ≡ max (length s.bytes) end = omega (arith, le) in
      let rise : pieces end p ≤ pieces (length s.bytes) p = pieces_rise end (length s.bytes) p some le in
      let none : pieces end p - pieces (length s.bytes) p ≡ pieces (length s.bytes) p - pieces (length s.bytes) p = omega (arith, rise) in
      none ∙ ap (λ n. pieces n p - pieces (length s.bytes) p) same

  pub wanted_are : (order : Order) (piece wanted count : ℕ) → s.order ≡ order.0 → piece ≡ piece_bytes order → end ≤ FILE_BYTES → grows_frozen s end ≡ false → wanted ≡ pieces end piece → count ≡ pieces (length s.bytes) p →
      wanted - count ≡ wanted_indexes s end
  wanted_are order piece wanted count same is within free w c =
      let fits : is_too_big end ≡ false = grind (arith, nat_tests) in
      let some : 0 < p = subst (λ n. 0 < PAGE_BYTES * 2 ^ n) (sym same) (piece_some order) in
      let is_p : piece ≡ p = is ∙ ap (λ n. PAGE_BYTES * 2 ^ n) (sym same) in
      ap (λ n. n - count) (w ∙ ap (pieces end) is_p) ∙ ap (λ n. pieces end p - n) c
      ∙ more_are (nat_lt (length s.bytes) end) refl some
      ∙ ap (λ b. if b then 0 else more_indexes s end) (sym free)
      ∙ ap (λ b. if b || grows_frozen s end then 0 else more_indexes s end) (sym fits)
