-- The runs of slots.
use Rattle.std.proofs.Common.{◌≡◌, ℕ, zero, suc, ◌+◌, ◌<◌, ◌≤◌, Bool, true, false, cond, not, ◌&&◌, ◌==◌, nat_lt, nat_le, List, [], ◌∷◌, filter, map, length, take, drop, is_some, refl, ap, sym, subst, ◌∙◌, arith, T, Less}
use Rattle.std.specs.Prelude.{Option, None, Some, option_map, slice_set}
use Rattle.std.specs.Ordering.{nat_cmp, eq_by_cmp, is_eq, is_lt}
use Rattle.std.specs.Cmp.{nat_cmp_total}
use Rattle.std.specs.FinMap as finmap
use Rattle.std.specs.FinMap.{find, is_sorted}
use Rattle.std.specs.FinMap.Entries.{below_all}
use Rattle.std.proofs.lemmas.Bool.Decides.{nat_tests}
use Rattle.std.proofs.lemmas.List.{get_or-set_other, get_or-set_same, get_or_past, get_or-take, set_past, length-take}
use Rattle.phys_frames.specs.Memory.{FolioValue, first_frames}
use Rattle.ho_events.specs.Lists.{firsts}
use Rattle.file_folios.specs.Slots.{slot_at, is_hole, entries_from, runs_in, folios_in}

-- comparing numbers
less_is : (x y : ℕ) → x < y → nat_cmp x y ≡ Less
less_is x y h = let t : nat_lt x y ≡ true = grind (arith, nat_tests) in rw t refl

same_is : (x y : ℕ) → x ≡ y → eq_by_cmp nat_cmp x y ≡ true
same_is x y h =
    let f : nat_lt x y ≡ false = grind (arith, nat_tests) in
    let t : (x == y) ≡ true = grind (arith, nat_tests) in rw (f, t) refl

greater_is : (x y : ℕ) → y < x → eq_by_cmp nat_cmp x y ≡ false
greater_is x y h =
    let f : nat_lt x y ≡ false = grind (arith, nat_tests) in
    let t : (x == y) ≡ false = grind (arith, nat_tests) in rw (f, t) refl

-- the entries are in order
below : (k i : ℕ) (slots : List (Option FolioValue)) → k < i → below_all nat_cmp k (entries_from i slots) ≡ true
unfolding entries_from
below k i [] h = refl
below k i (None ∷ slots) h = below k (suc i) slots (omega arith)
below k i (Some f ∷ slots) h =
    ap (λ r. is_lt r && below_all nat_cmp k (entries_from (suc i) slots)) (less_is k i h) ∙ below k (suc i) slots (omega arith)

sorted : (i : ℕ) (slots : List (Option FolioValue)) → is_sorted nat_cmp (entries_from i slots) ≡ true
unfolding entries_from
sorted i [] = refl
sorted i (None ∷ slots) = sorted (suc i) slots
sorted i (Some f ∷ slots) =
    ap (λ b. b && is_sorted nat_cmp (entries_from (suc i) slots)) (below i (suc i) slots (omega arith)) ∙ sorted (suc i) slots

pub entries_are : (slots : List (Option FolioValue)) → finmap.entries (runs_in slots) ≡ entries_from 0 slots
unfolding runs_in
entries_are slots = finmap.entries-from_sorted nat_cmp (entries_from 0 slots) (subst T (sym (sorted 0 slots)) tt)

-- the run at an index
abbrev pub run_of : Option FolioValue → Option ℕ
run_of slot = option_map (λ f. f.first.0) slot

not_found : (k i : ℕ) (slots : List (Option FolioValue)) → k < i → find nat_cmp k (entries_from i slots) ≡ None
unfolding entries_from
not_found k i [] h = refl
not_found k i (None ∷ slots) h = not_found k (suc i) slots (omega arith)
not_found k i (Some f ∷ slots) h =
    ap (λ r. cond (is_eq r) (Some f.first.0) (find nat_cmp k (entries_from (suc i) slots))) (less_is k i h) ∙ not_found k (suc i) slots (omega arith)

found : (i k : ℕ) (slots : List (Option FolioValue)) → find nat_cmp (i + k) (entries_from i slots) ≡ run_of (slot_at slots k)
unfolding entries_from
found i k [] = refl
found i zero (None ∷ slots) = not_found (i + 0) (suc i) slots (omega arith)
found i (suc k) (None ∷ slots) =
    let e : i + suc k ≡ suc i + k = omega arith in rw e (found (suc i) k slots)
found i zero (Some f ∷ slots) = ap (λ b. cond b (Some f.first.0) (find nat_cmp (i + 0) (entries_from (suc i) slots))) (same_is (i + 0) i (omega arith))
found i (suc k) (Some f ∷ slots) =
    let e : i + suc k ≡ suc i + k = omega arith in
    ap (λ b. cond b (Some f.first.0) (find nat_cmp (i + suc k) (entries_from (suc i) slots))) (greater_is (i + suc k) i (omega arith))
    ∙ ap (λ n. find nat_cmp n (entries_from (suc i) slots)) e ∙ found (suc i) k slots

pub run_get : (slots : List (Option FolioValue)) (k : ℕ) → finmap.get (runs_in slots) k ≡ run_of (slot_at slots k)
run_get slots k =
    finmap.get-entries (runs_in slots) k ∙ ap (find nat_cmp k) (entries_are slots)
    ∙ ap (λ n. find nat_cmp n (entries_from 0 slots)) (omega arith) ∙ found 0 k slots

some_run : (slot : Option FolioValue) → is_some (run_of slot) ≡ is_some slot
some_run None = refl
some_run (Some f) = refl

pub hole_is : (slots : List (Option FolioValue)) (k : ℕ) → not (finmap.contains_key (runs_in slots) k) ≡ is_hole slots k
hole_is slots k = ap (λ r. not (is_some r)) (run_get slots k) ∙ ap not (some_run (slot_at slots k))

pub holes_are : (slots : List (Option FolioValue)) (indexes : List ℕ) → filter (λ i. not (finmap.contains_key (runs_in slots) i)) indexes ≡ filter (λ i. is_hole slots i) indexes
holes_are slots indexes = λ j. filter (λ i. hole_is slots i j) indexes

-- two rows of slots with the same runs
pub same_runs : (xs ys : List (Option FolioValue)) → ((k : ℕ) → run_of (slot_at xs k) ≡ run_of (slot_at ys k)) → runs_in xs ≡ runs_in ys
same_runs xs ys h =
    finmap.same_map nat_cmp_total finmap.nat_cmp-IsAntisymmetric (runs_in xs) (runs_in ys) (λ k. run_get xs k ∙ h k ∙ sym (run_get ys k))

-- a folio put at an index
apart_or_same : (k i : ℕ) (b : Bool) → nat_lt k i ≡ b → (k ≡ i → ⊥) → eq_by_cmp nat_cmp k i ≡ false
apart_or_same k i true e h = let t : k < i = grind (arith, nat_tests) in ap is_eq (less_is k i t)
apart_or_same k i false e h = let t : i < k = grind (arith, nat_tests) in greater_is k i t

set_run : (slots : List (Option FolioValue)) (i k : ℕ) (f : FolioValue) → i < length slots → (b : Bool) → (k == i) ≡ b → run_of (slot_at (slice_set slots i (Some f)) k) ≡ cond (eq_by_cmp nat_cmp k i) (Some f.first.0) (run_of (slot_at slots k))
set_run slots i k f h true e =
    let same : k ≡ i = grind (arith, nat_tests) in
    ap (λ n. run_of (slot_at (slice_set slots i (Some f)) n)) same ∙ ap run_of (get_or-set_same slots i (Some f) None h)
    ∙ ap (λ b. cond b (Some f.first.0) (run_of (slot_at slots k))) (sym (same_is k i same))
set_run slots i k f h false e =
    let apart : k ≡ i → ⊥ = λ s. grind (arith, nat_tests) in
    ap run_of (get_or-set_other slots i k (Some f) None apart)
    ∙ ap (λ b. cond b (Some f.first.0) (run_of (slot_at slots k))) (sym (apart_or_same k i (nat_lt k i) refl apart))

pub runs_set : (slots : List (Option FolioValue)) (i : ℕ) (f : FolioValue) → i < length slots → runs_in (slice_set slots i (Some f)) ≡ finmap.insert (runs_in slots) i f.first.0
runs_set slots i f h =
    finmap.same_map nat_cmp_total finmap.nat_cmp-IsAntisymmetric (runs_in (slice_set slots i (Some f))) (finmap.insert (runs_in slots) i f.first.0)
    (λ k. run_get (slice_set slots i (Some f)) k ∙ set_run slots i k f h (k == i) refl
    ∙ ap (cond (eq_by_cmp nat_cmp k i) (Some f.first.0)) (sym (run_get slots k))
    ∙ sym (finmap.get-insert nat_cmp_total (runs_in slots) i f.first.0 k))

-- past the last there is nothing
pub none_past : (slots : List (Option FolioValue)) (k : ℕ) → length slots ≤ k → slot_at slots k ≡ None
none_past slots k h = get_or_past slots k None h

-- another folio with the same first frame
module _ (slots : List (Option FolioValue)) (i : ℕ) (f g : FolioValue) (is : slot_at slots i ≡ Some f) (first : g.first ≡ f.first) where
  same_at : (k : ℕ) → (b c : Bool) → (k == i) ≡ b → nat_lt i (length slots) ≡ c → run_of (slot_at (slice_set slots i (Some g)) k) ≡ run_of (slot_at slots k)
  same_at k true true e lt =
      let same : k ≡ i = grind (arith, nat_tests) in
      let inside : i < length slots = grind (arith, nat_tests) in
      ap (λ n. run_of (slot_at (slice_set slots i (Some g)) n)) same ∙ ap run_of (get_or-set_same slots i (Some g) None inside)
      ∙ ap (λ q. Some q.0) first ∙ sym (ap run_of is) ∙ ap (λ n. run_of (slot_at slots n)) (sym same)
  same_at k true false e lt =
      let past : length slots ≤ i = grind (arith, nat_tests) in
      ap (λ s. run_of (slot_at s k)) (set_past slots i (Some g) past)
  same_at k false c e lt =
      let apart : k ≡ i → ⊥ = λ s. grind (arith, nat_tests) in
      ap run_of (get_or-set_other slots i k (Some g) None apart)

  pub set_same_run : runs_in (slice_set slots i (Some g)) ≡ runs_in slots
  set_same_run = same_runs (slice_set slots i (Some g)) slots (λ k. same_at k (k == i) (nat_lt i (length slots)) refl refl)

-- all runs by index
values_from : (i : ℕ) (slots : List (Option FolioValue)) → map (λ e. e.1) (entries_from i slots) ≡ firsts (first_frames (folios_in slots))
unfolding entries_from folios_in
values_from i [] = refl
values_from i (None ∷ slots) = values_from (suc i) slots
values_from i (Some f ∷ slots) = ap (λ r. f.first.0 ∷ r) (values_from (suc i) slots)

pub values_are : (slots : List (Option FolioValue)) → finmap.values (runs_in slots) ≡ firsts (first_frames (folios_in slots))
values_are slots = ap (λ es. map (λ e. e.1) es) (entries_are slots) ∙ values_from 0 slots

-- the runs of the slots from a number on, and of those below it
all_pass : (m i : ℕ) (slots : List (Option FolioValue)) → m ≤ i → filter (λ e. nat_le m e.0) (entries_from i slots) ≡ entries_from i slots
unfolding entries_from
all_pass m i [] h = refl
all_pass m i (None ∷ slots) h = all_pass m (suc i) slots (omega arith)
all_pass m i (Some f ∷ slots) h =
    let t : nat_le m i ≡ true = grind (arith, nat_tests) in
    ap (λ b. cond b ((i, f.first.0) ∷ filter (λ e. nat_le m e.0) (entries_from (suc i) slots)) (filter (λ e. nat_le m e.0) (entries_from (suc i) slots))) t
    ∙ ap (λ r. (i, f.first.0) ∷ r) (all_pass m (suc i) slots (omega arith))

cut_from : (i n m : ℕ) (slots : List (Option FolioValue)) → m ≡ i + n → filter (λ e. nat_le m e.0) (entries_from i slots) ≡ entries_from m (drop n slots)
unfolding entries_from
cut_from i zero m slots e = all_pass m i slots (omega arith) ∙ ap (λ k. entries_from k slots) (omega arith)
cut_from i (suc n) m [] e = refl
cut_from i (suc n) m (None ∷ slots) e = cut_from (suc i) n m slots (omega arith)
cut_from i (suc n) m (Some f ∷ slots) e =
    let t : nat_le m i ≡ false = grind (arith, nat_tests) in
    ap (λ b. cond b ((i, f.first.0) ∷ filter (λ e. nat_le m e.0) (entries_from (suc i) slots)) (filter (λ e. nat_le m e.0) (entries_from (suc i) slots))) t
    ∙ cut_from (suc i) n m slots (omega arith)

pub cut_entries : (n : ℕ) (slots : List (Option FolioValue)) → filter (λ e. nat_le n e.0) (finmap.entries (runs_in slots)) ≡ entries_from n (drop n slots)
cut_entries n slots = ap (λ es. filter (λ e. nat_le n e.0) es) (entries_are slots) ∙ cut_from 0 n n slots (omega arith)

pub cut_values : (n : ℕ) (slots : List (Option FolioValue)) → map (λ e. e.1) (filter (λ e. nat_le n e.0) (finmap.entries (runs_in slots))) ≡ firsts (first_frames (folios_in (drop n slots)))
cut_values n slots = ap (λ es. map (λ e. e.1) es) (cut_entries n slots) ∙ values_from n (drop n slots)

front_run : (slots : List (Option FolioValue)) (n q : ℕ) (b : Bool) → nat_lt q n ≡ b → run_of (slot_at (take n slots) q) ≡ cond (nat_lt q n) (run_of (slot_at slots q)) None
front_run slots n q true e = ap run_of (get_or-take n slots q None (grind (arith, nat_tests))) ∙ ap (λ b. cond b (run_of (slot_at slots q)) None) (sym e)
front_run slots n q false e =
    let past : n ≤ q = grind (arith, nat_tests) in
    ap run_of (get_or_past (take n slots) q None (omega (arith, length-take n slots))) ∙ ap (λ b. cond b (run_of (slot_at slots q)) None) (sym e)

pub left_runs_are : (slots : List (Option FolioValue)) (n : ℕ) → finmap.retain_keys (runs_in slots) (λ i. nat_lt i n) ≡ runs_in (take n slots)
left_runs_are slots n =
    finmap.same_map nat_cmp_total finmap.nat_cmp-IsAntisymmetric (finmap.retain_keys (runs_in slots) (λ i. nat_lt i n)) (runs_in (take n slots))
    (λ q. finmap.get-retain_keys (runs_in slots) (λ i. nat_lt i n) q (λ x t. ap (λ k. nat_lt k n) (sym (finmap.nat_cmp-IsAntisymmetric q x t)))
    ∙ ap (λ r. cond (nat_lt q n) r None) (run_get slots q) ∙ sym (front_run slots n q (nat_lt q n) refl) ∙ sym (run_get (take n slots) q))
