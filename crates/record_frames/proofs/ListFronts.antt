-- A list frame as the program reads it is one of the chain; the numbers in it one by one.
use Rattle.std.proofs.Common.{◌≡◌, ℕ, zero, suc, ◌+◌, ◌-◌, ◌*◌, ◌<◌, Bool, true, false, cond, List, [], ◌∷◌, ◌++◌, length, take, drop, Option, Some, None, refl, sym, ap, subst, ◌∙◌, arith, append_assoc}
use Rattle.std.specs.List.{list_all, list_any}
use Rattle.std.specs.Int.{w64, from_le_bytes}
use Rattle.std.specs.Prelude.{not, ◌&&◌, ◌||◌, ◌==◌, nat_lt, nat_le, nat_eq}
use Rattle.std.proofs.lemmas.List.{append-nil, drop-drop, length-drop, map-append, take_all, take-take}
use Rattle.std.proofs.lemmas.List.Folds.{list_all-append}
use Rattle.std.proofs.lemmas.Bool.{and_from}
use Rattle.ho_base.specs.Bytes.{u64_at}
use Rattle.ho_base.specs.declared.numbers.Pfn.{Pfn}
use Rattle.ho_events.specs.Lists.{firsts}
use Rattle.record_frames.specs.Ram.{Ram, is_frame}
use Rattle.record_frames.specs.Sheets.{Sheet, items_of, numbers_of}
use Rattle.record_frames.specs.Rules.{LISTED, is_list_sheet, is_run}
use Rattle.record_frames.specs.Reading.{Front, also, front_at, items_at, listed_at, list_layout, sheet_at}
use Rattle.record_frames.specs.Slots.{Gives}
use Rattle.record_frames.specs.Sheeted.{numbers_in, runs_kept, has_count, front_with, list_front_at}

-- the first of some numbers
numbers_first : (k : ℕ) (bytes : List ℕ) → numbers_in (suc k) bytes ≡ u64_at bytes 0 ∷ numbers_in k (drop 8 bytes)
unfolding numbers_in
numbers_first k bytes = refl

-- the numbers from a place on
pub numbers_step : (k i : ℕ) (bytes : List ℕ) → i < k
    → numbers_in (k - i) (drop (8 * i) bytes) ≡ u64_at bytes (8 * i) ∷ numbers_in (k - (i + 1)) (drop (8 * (i + 1)) bytes)
numbers_step k i bytes lt =
    let one : k - i ≡ suc (k - (i + 1)) = omega (arith, lt) in
    let eight : 8 * i + 8 ≡ 8 * (i + 1) = omega arith in
    ap (λ (m : ℕ). numbers_in m (drop (8 * i) bytes)) one
    ∙ numbers_first (k - (i + 1)) (drop (8 * i) bytes)
    ∙ ap (λ (l : List ℕ). u64_at bytes (8 * i) ∷ numbers_in (k - (i + 1)) l) (drop-drop 8 (8 * i) bytes ∙ ap (λ (m : ℕ). drop m bytes) eight)

numbers_none : (bytes : List ℕ) → numbers_in 0 bytes ≡ []
unfolding numbers_in
numbers_none bytes = refl

abbrev run_at : ℕ → Pfn
run_at p = record { 0 = p }

abbrev pub IsRead : ℕ → ℕ → ℕ → List ℕ → ℕ → List Pfn → Type 0
IsRead n order k bytes i runs =
    (firsts runs ++ numbers_in (k - i) (drop (8 * i) bytes) ≡ numbers_in k bytes) × (list_all (is_run n order) (firsts runs) ≡ true)

pub read_begins : (n order k : ℕ) (bytes : List ℕ) (runs : List Pfn) → runs ≡ [] → IsRead n order k bytes 0 runs
read_begins n order k bytes runs e =
    let zero_less : k - 0 ≡ k = omega arith in (
      ap (λ (r : List Pfn). firsts r ++ numbers_in (k - 0) (drop (8 * 0) bytes)) e ∙ ap (λ (m : ℕ). numbers_in m bytes) zero_less,
      ap (λ (r : List Pfn). list_all (is_run n order) (firsts r)) e,
    )

-- the numbers so far, the next one, and the rest
split_at : (n order k i first : ℕ) (bytes : List ℕ) (runs : List Pfn) → IsRead n order k bytes i runs → i < k → first ≡ u64_at bytes (8 * i)
    → firsts runs ++ first ∷ numbers_in (k - (i + 1)) (drop (8 * (i + 1)) bytes) ≡ numbers_in k bytes
split_at n order k i first bytes runs h lt e =
    ap (λ (x : ℕ). firsts runs ++ x ∷ numbers_in (k - (i + 1)) (drop (8 * (i + 1)) bytes)) e
    ∙ ap (λ (l : List ℕ). firsts runs ++ l) (sym (numbers_step k i bytes lt)) ∙ h.0

pub read_more : (n order k i first : ℕ) (bytes : List ℕ) (runs new : List Pfn) → IsRead n order k bytes i runs → i < k → first ≡ u64_at bytes (8 * i)
    → is_run n order first ≡ true → new ≡ runs ++ run_at first ∷ [] → IsRead n order k bytes (i + 1) new
read_more n order k i first bytes runs new h lt e is push =
    let rest = numbers_in (k - (i + 1)) (drop (8 * (i + 1)) bytes) in
    let now : firsts new ≡ firsts runs ++ first ∷ [] = ap firsts push ∙ map-append (λ (p : Pfn). p.0) runs (run_at first ∷ []) in
    let one : list_all (is_run n order) (first ∷ []) ≡ true = and_from (is_run n order first) true is refl in (
      ap (λ (l : List ℕ). l ++ rest) now ∙ append_assoc (firsts runs) (first ∷ []) rest ∙ split_at n order k i first bytes runs h lt e,
      ap (list_all (is_run n order)) now ∙ list_all-append (is_run n order) (firsts runs) (first ∷ []) ∙ and_from (list_all (is_run n order) (firsts runs)) (list_all (is_run n order) (first ∷ [])) h.1 one,
    )

and_no : (a b : Bool) → b ≡ false → (a && b) ≡ false
and_no true b h = h
and_no false b h = refl

no_and : (a b : Bool) → a ≡ false → (a && b) ≡ false
no_and true b h = absurd cc
no_and false b h = refl

kept_cond : (n order k : ℕ) (bytes : List ℕ) → runs_kept n order k bytes ≡ cond (list_all (is_run n order) (numbers_in k bytes)) (Some (numbers_in k bytes)) None
unfolding runs_kept
kept_cond n order k bytes = refl

pub read_none : (n order k i first : ℕ) (bytes : List ℕ) (runs : List Pfn) → IsRead n order k bytes i runs → i < k → first ≡ u64_at bytes (8 * i)
    → is_run n order first ≡ false → runs_kept n order k bytes ≡ None
read_none n order k i first bytes runs h lt e is =
    let rest = numbers_in (k - (i + 1)) (drop (8 * (i + 1)) bytes) in
    let test = list_all (is_run n order) in
    let all : test (numbers_in k bytes) ≡ false =
    ap test (sym (split_at n order k i first bytes runs h lt e)) ∙ list_all-append (is_run n order) (firsts runs) (first ∷ rest)
    ∙ and_no (test (firsts runs)) (test (first ∷ rest)) (no_and (is_run n order first) (test rest) is) in
    kept_cond n order k bytes ∙ ap (λ (b : Bool). cond b (Some (numbers_in k bytes)) None) all

pub read_all : (n order k i : ℕ) (bytes : List ℕ) (runs : List Pfn) → IsRead n order k bytes i runs → i ≡ k → runs_kept n order k bytes ≡ Some (firsts runs)
read_all n order k i bytes runs h e =
    let none : k - i ≡ 0 = omega (arith, e) in
    let is : firsts runs ≡ numbers_in k bytes =
    sym (append-nil (firsts runs)) ∙ ap (λ (l : List ℕ). firsts runs ++ l) (sym (ap (λ (m : ℕ). numbers_in m (drop (8 * i) bytes)) none ∙ numbers_none (drop (8 * i) bytes))) ∙ h.0 in
    kept_cond n order k bytes
    ∙ ap (λ (l : List ℕ). cond (list_all (is_run n order) l) (Some l) None) (sym is)
    ∙ ap (λ (b : Bool). cond b (Some (firsts runs)) None) h.1

-- ---- a list frame as the program reads it is one of the chain

abbrev a_list : ℕ → ℕ → ℕ → ℕ → List ℕ → ℕ → Bool
a_list n order folios before runs next =
    nat_lt 0 (length runs) && nat_le (length runs) LISTED && (next == 0 || length runs == LISTED)
    && list_all (is_run n order) runs && (nat_lt 0 next || before + length runs == folios)

numbers_long : (k : ℕ) (bytes : List ℕ) → length (numbers_in k bytes) ≡ k
unfolding numbers_in
numbers_long zero bytes = refl
numbers_long (suc k) bytes = ap suc (numbers_long k (drop 8 bytes))

numbers_all : (k : ℕ) (bytes : List ℕ) → items_at 8 listed_at k bytes ≡ Some (numbers_in k bytes)
unfolding numbers_in
numbers_all zero bytes = refl
numbers_all (suc k) bytes =
    ap (λ (x : ℕ). also (items_at 8 listed_at k (drop 8 bytes)) (λ xs. Some (x ∷ xs))) (ap (λ (l : List ℕ). from_le_bytes w64 l) (take-take 8 8 bytes (omega arith)))
    ∙ ap (λ (o : Option (List ℕ)). also o (λ xs. Some (u64_at bytes 0 ∷ xs))) (numbers_all k (drop 8 bytes))

tests : (f : Option (Front ℕ)) (z a m r e : Bool)
    → cond a (cond (z && a && m && r && e) f None) None ≡ cond (z && a && m && e) (cond r f None) None
tests f true false m r e = refl
tests f false false m r e = refl
tests f false true m r e = refl
tests f true true false r e = refl
tests f true true true false false = refl
tests f true true true false true = refl
tests f true true true true e = refl

and_true : (b : Bool) → (b && true) ≡ b
and_true true = refl
and_true false = refl

both : (b c : Bool) (o : Option (Front ℕ)) → cond b (cond c o None) None ≡ cond (b && c) o None
both true c o = refl
both false c o = refl

also_cond : (b : Bool) (f : Front ℕ) (g : Front ℕ → Option (Front ℕ)) → also (cond b (Some f) None) g ≡ cond b (g f) None
also_cond true f g = refl
also_cond false f g = refl

with_cond : (b : Bool) (next : ℕ) (xs : List ℕ) → front_with next (cond b (Some xs) None) ≡ cond b (Some (record { next = next; items = xs })) None
with_cond true next xs = refl
with_cond false next xs = refl

-- what a list frame says, and the numbers that it then has
abbrev with_items : ℕ → ℕ → Option (List ℕ) → Option (Front ℕ)
with_items next k items = cond (nat_le k LISTED && true) (also items (λ xs. Some (record { next = next; items = xs }))) None

abbrev tested : ℕ → ℕ → ℕ → ℕ → Front ℕ → Option (Front ℕ)
tested n order folios before f = cond (a_list n order folios before f.items f.next) (Some f) None

chain_steps : (ram : Ram) (order folios : ℕ) (seen : List ℕ) (earlier : List (Sheet ℕ)) (at : ℕ)
    → sheet_at ram list_layout (is_list_sheet ram.count order folios) seen earlier at
    ≡ cond (is_frame ram.count at && not (list_any (nat_eq at) (seen ++ numbers_of earlier)))
    (also (with_items (u64_at (ram.page at) 0) (u64_at (ram.page at) 8) (items_at 8 listed_at (u64_at (ram.page at) 8) (drop 16 (ram.page at))))
    (tested ram.count order folios (length (items_of earlier)))) None
unfolding sheet_at front_at
chain_steps ram order folios seen earlier at = refl

front_steps : (ram : Ram) (order folios before : ℕ) (seen : List ℕ) (at : ℕ)
    → list_front_at ram order folios before seen at
    ≡ cond (is_frame ram.count at && not (list_any (nat_eq at) seen) && has_count (u64_at (ram.page at) 8) (u64_at (ram.page at) 0) before folios)
    (front_with (u64_at (ram.page at) 0) (runs_kept ram.count order (u64_at (ram.page at) 8) (drop 16 (ram.page at)))) None
unfolding list_front_at
front_steps ram order folios before seen at = refl

pub front_of_chain : (ram : Ram) (order folios : ℕ) (seen : List ℕ) (earlier : List (Sheet ℕ)) (at : ℕ)
    → sheet_at ram list_layout (is_list_sheet ram.count order folios) seen earlier at
    ≡ list_front_at ram order folios (length (items_of earlier)) (seen ++ numbers_of earlier) at
front_of_chain ram order folios seen earlier at =
    let page = ram.page at in
    let k = u64_at page 8 in
    let next = u64_at page 0 in
    let rest = drop 16 page in
    let xs = numbers_in k rest in
    let before = length (items_of earlier) in
    let fresh : Bool = is_frame ram.count at && not (list_any (nat_eq at) (seen ++ numbers_of earlier)) in
    let runs : Bool = list_all (is_run ram.count order) xs in
    let f : Front ℕ = record { next = next; items = xs } in
    let z : Bool = nat_lt 0 k in
    let a : Bool = nat_le k LISTED in
    let m : Bool = next == 0 || k == LISTED in
    let e : Bool = nat_lt 0 next || before + k == folios in
    let P : ℕ → Bool = λ n. nat_lt 0 n && nat_le n LISTED && (next == 0 || n == LISTED) && runs && (nat_lt 0 next || before + n == folios) in
    let inside : also (with_items next k (Some xs)) (tested ram.count order folios before) ≡ cond (has_count k next before folios) (cond runs (Some f) None) None =
    ap (λ (b : Bool). also (cond b (Some f) None) (tested ram.count order folios before)) (and_true a)
    ∙ also_cond a f (tested ram.count order folios before)
    ∙ ap (λ (n : ℕ). cond a (cond (P n) (Some f) None) None) (numbers_long k rest)
    ∙ tests (Some f) z a m runs e in
    chain_steps ram order folios seen earlier at
    ∙ ap (λ (o : Option (List ℕ)). cond fresh (also (with_items next k o) (tested ram.count order folios before)) None) (numbers_all k rest)
    ∙ ap (λ (o : Option (Front ℕ)). cond fresh o None) inside
    ∙ both fresh (has_count k next before folios) (cond runs (Some f) None)
    ∙ ap (λ (o : Option (Front ℕ)). cond (fresh && has_count k next before folios) o None) (sym (with_cond runs next xs))
    ∙ ap (λ (o : Option (List ℕ)). cond (fresh && has_count k next before folios) (front_with next o) None) (sym (kept_cond ram.count order k rest))
    ∙ sym (front_steps ram order folios before (seen ++ numbers_of earlier) at)

-- ---- the tests of a list frame one after another

pub no_frame : (ram : Ram) (order folios before : ℕ) (seen : List ℕ) (at : ℕ) → is_frame ram.count at ≡ false → list_front_at ram order folios before seen at ≡ None
no_frame ram order folios before seen at h =
    let count = has_count (u64_at (ram.page at) 8) (u64_at (ram.page at) 0) before folios in
    let runs = front_with (u64_at (ram.page at) 0) (runs_kept ram.count order (u64_at (ram.page at) 8) (drop 16 (ram.page at))) in
    front_steps ram order folios before seen at ∙ ap (λ (b : Bool). cond (b && not (list_any (nat_eq at) seen) && count) runs None) h

pub was_read : (ram : Ram) (order folios before : ℕ) (seen : List ℕ) (at : ℕ) → is_frame ram.count at ≡ true → list_any (nat_eq at) seen ≡ true
    → list_front_at ram order folios before seen at ≡ None
was_read ram order folios before seen at h r =
    let count = has_count (u64_at (ram.page at) 8) (u64_at (ram.page at) 0) before folios in
    let runs = front_with (u64_at (ram.page at) 0) (runs_kept ram.count order (u64_at (ram.page at) 8) (drop 16 (ram.page at))) in
    front_steps ram order folios before seen at ∙ ap (λ (b : Bool). cond (b && not (list_any (nat_eq at) seen) && count) runs None) h
    ∙ ap (λ (b : Bool). cond (true && not b && count) runs None) r

pub no_count : (ram : Ram) (order folios before : ℕ) (seen : List ℕ) (at : ℕ) → is_frame ram.count at ≡ true → list_any (nat_eq at) seen ≡ false
    → has_count (u64_at (ram.page at) 8) (u64_at (ram.page at) 0) before folios ≡ false → list_front_at ram order folios before seen at ≡ None
no_count ram order folios before seen at h r c =
    let count = has_count (u64_at (ram.page at) 8) (u64_at (ram.page at) 0) before folios in
    let runs = front_with (u64_at (ram.page at) 0) (runs_kept ram.count order (u64_at (ram.page at) 8) (drop 16 (ram.page at))) in
    front_steps ram order folios before seen at ∙ ap (λ (b : Bool). cond (b && not (list_any (nat_eq at) seen) && count) runs None) h
    ∙ ap (λ (b : Bool). cond (true && not b && count) runs None) r ∙ ap (λ (b : Bool). cond b runs None) c

pub with_runs : (ram : Ram) (order folios before : ℕ) (seen : List ℕ) (at : ℕ) → is_frame ram.count at ≡ true → list_any (nat_eq at) seen ≡ false
    → has_count (u64_at (ram.page at) 8) (u64_at (ram.page at) 0) before folios ≡ true
    → list_front_at ram order folios before seen at ≡ front_with (u64_at (ram.page at) 0) (runs_kept ram.count order (u64_at (ram.page at) 8) (drop 16 (ram.page at)))
with_runs ram order folios before seen at h r c =
    let count = has_count (u64_at (ram.page at) 8) (u64_at (ram.page at) 0) before folios in
    let runs = front_with (u64_at (ram.page at) 0) (runs_kept ram.count order (u64_at (ram.page at) 8) (drop 16 (ram.page at))) in
    front_steps ram order folios before seen at ∙ ap (λ (b : Bool). cond (b && not (list_any (nat_eq at) seen) && count) runs None) h
    ∙ ap (λ (b : Bool). cond (true && not b && count) runs None) r ∙ ap (λ (b : Bool). cond b runs None) c

-- what is read of a list frame that keeps its tests
pub front_from : (ram : Ram) (order folios before : ℕ) (seen : List ℕ) (at next k n : ℕ) (page rest : List ℕ) (r : Option (List ℕ)) → is_frame ram.count at ≡ true
    → list_any (nat_eq at) seen ≡ false → has_count k next before folios ≡ true → page ≡ ram.page at → next ≡ u64_at page 0 → k ≡ u64_at page 8 → rest ≡ drop 16 page
    → n ≡ ram.count → runs_kept n order k rest ≡ r → list_front_at ram order folios before seen at ≡ front_with next r
front_from ram order folios before seen at next k n page rest r frame unread count is_page is_next is_k is_rest is_n e =
    let next_at : next ≡ u64_at (ram.page at) 0 = is_next ∙ ap (λ (l : List ℕ). u64_at l 0) is_page in
    let k_at : k ≡ u64_at (ram.page at) 8 = is_k ∙ ap (λ (l : List ℕ). u64_at l 8) is_page in
    let rest_at : rest ≡ drop 16 (ram.page at) = is_rest ∙ ap (λ (l : List ℕ). drop 16 l) is_page in
    let count_at : has_count (u64_at (ram.page at) 8) (u64_at (ram.page at) 0) before folios ≡ true =
    ap (λ (x : ℕ). has_count x (u64_at (ram.page at) 0) before folios) (sym k_at) ∙ ap (λ (x : ℕ). has_count k x before folios) (sym next_at) ∙ count in
    with_runs ram order folios before seen at frame unread count_at
    ∙ ap (λ (x : ℕ). front_with x (runs_kept ram.count order (u64_at (ram.page at) 8) (drop 16 (ram.page at)))) (sym next_at)
    ∙ ap (λ (x : ℕ). front_with next (runs_kept ram.count order x (drop 16 (ram.page at)))) (sym k_at)
    ∙ ap (λ (l : List ℕ). front_with next (runs_kept ram.count order k l)) (sym rest_at)
    ∙ ap (λ (x : ℕ). front_with next (runs_kept x order k rest)) (sym is_n)
    ∙ ap (front_with next) e

-- the bytes from a place on
pub from_place : (n : ℕ) (l : List ℕ) → take (length l - n) (drop n l) ≡ drop n l
from_place n l = take_all (length l - n) (drop n l) (omega (arith, length-drop n l))

-- what an answer says of an answer that is equal to it
pub given : {X Y : Type 0} (view : X → Y) (o p : Option X) (read : Option Y) → o ≡ p → Gives view o read → Gives view p read
given {X = X} view o p read e h = let P : Option X → Type 0 = λ x. Gives view x read in subst P e h
