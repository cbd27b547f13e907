-- The runs that the elements of a written chain mark.
use Rattle.std.proofs.Common.{◌≡◌, ℕ, zero, suc, ◌+◌, ◌-◌, ◌*◌, ◌/◌, ◌%◌, ◌^◌, ◌<◌, ◌≤◌, Bool, true, false, List, [], ◌∷◌, length, get_or, refl, sym, ap, subst, ◌∙◌, ⊎_elim, arith}
use Rattle.std.specs.Prelude.{nat_eq, nat_lt, nat_le, ◌&&◌}
use Rattle.std.specs.FinSet as sets
use Rattle.std.specs.List.{All, Contains, list_any}
use Rattle.std.proofs.lemmas.Bool.{leb-true, ltb-true, eqb-true, le-leb, lt-ltb, eq-eqb, and_parts, and_from, or_cases, or_left, or_right, cases_Bool, false_from_ne_true, false≢true}
use Rattle.std.proofs.lemmas.Nat.{pow_pos, div_below}
use Rattle.std.proofs.Math.Nat.{mul-div_cancel, mul-mod_left}
use Rattle.std.proofs.lemmas.List.Elements.{All-head, All-tail, Contains-append_left, Contains-append_right}
use Rattle.std.proofs.lemmas.List.FromFn.{length-map-range_with_len, get_or-map-range_with_len}
use Rattle.ho_base.specs.BitmapCount.{cover, bitmap_count}
use Rattle.folio_bitmaps.specs.Runs.{Run, Runs, IsRun}
use Rattle.folio_bitmaps.specs.Bitmaps.{is_set, bit_index}
use Rattle.folio_bitmaps.specs.Chunks.{Element, element_at, elements_of, count_of, run_of}
use Rattle.folio_bitmaps.specs.Written.{IsBitmap, IsWritten, full_count}
use Rattle.folio_bitmaps.proofs.Sets.{run_path}
use Rattle.folio_bitmaps.proofs.Counts.{bit_index_count, aligned_is}
use Rattle.folio_bitmaps.proofs.Follows.{upto, all_upto}
use Rattle.folio_bitmaps.proofs.ReadBack.{IsOne, run_found}
use Rattle.record_frames.specs.Ram.{Ram}
use Rattle.record_frames.specs.Sheets.{items_of}
use Rattle.record_frames.specs.Rules.{marks, is_marked}
use Rattle.kho_writer.proofs.InChain.{chain_of, From, chain_ones}

-- ---- one element

-- an element whose bit b is set marks the run of the bit
marks_own : (e : Element) (b : ℕ) → b < 4096 → is_set e.bits b ≡ true → marks (run_of e b) e ≡ true
marks_own e b lt set =
    let p = 2 ^ e.order in
    let behind : e.base + b * p - e.base ≡ b * p = omega arith in
    let at : (e.base + b * p - e.base) / p ≡ b = ap (λ (x : ℕ). x / p) behind ∙ mul-div_cancel b (pow_pos e.order) in
    let whole : (e.base + b * p - e.base) % p ≡ 0 = ap (λ (x : ℕ). x % p) behind ∙ mul-mod_left b p in
    let within : b * p < 4096 * p = product b p lt (pow_pos e.order) in
    and_from (nat_eq e.order e.order && nat_le e.base (e.base + b * p) && nat_lt (e.base + b * p) (e.base + cover e.order) && nat_eq ((e.base + b * p - e.base) % p) 0) (is_set e.bits ((e.base + b * p - e.base) / p))
    (and_from (nat_eq e.order e.order && nat_le e.base (e.base + b * p) && nat_lt (e.base + b * p) (e.base + cover e.order)) (nat_eq ((e.base + b * p - e.base) % p) 0)
    (and_from (nat_eq e.order e.order && nat_le e.base (e.base + b * p)) (nat_lt (e.base + b * p) (e.base + cover e.order))
    (and_from (nat_eq e.order e.order) (nat_le e.base (e.base + b * p)) (eq-eqb e.order e.order refl) (le-leb e.base (e.base + b * p) (omega arith)))
    (lt-ltb (e.base + b * p) (e.base + cover e.order) (omega arith)))
    (eq-eqb ((e.base + b * p - e.base) % p) 0 whole))
    (ap (is_set e.bits) at ∙ set)
  where
    product : (b p : ℕ) → b < 4096 → 0 < p → b * p < 4096 * p
    product b p lt pos = grind arith

-- the bit of a run that an element marks
record MarksBit (r : Run) (e : Element) : Type 0 where
  bit : ℕ
  small : bit < 4096
  is_one : is_set e.bits bit ≡ true
  same : run_of e bit ≡ r

marked_bit : (r : Run) (e : Element) → marks r e ≡ true → MarksBit r e
marked_bit r e h =
    let p = 2 ^ r.order in
    let a = and_parts (nat_eq e.order r.order && nat_le e.base r.first && nat_lt r.first (e.base + cover r.order) && nat_eq ((r.first - e.base) % p) 0) (is_set e.bits ((r.first - e.base) / p)) h in
    let b = and_parts (nat_eq e.order r.order && nat_le e.base r.first && nat_lt r.first (e.base + cover r.order)) (nat_eq ((r.first - e.base) % p) 0) a.0 in
    let c = and_parts (nat_eq e.order r.order && nat_le e.base r.first) (nat_lt r.first (e.base + cover r.order)) b.0 in
    let d = and_parts (nat_eq e.order r.order) (nat_le e.base r.first) c.0 in
    let order : e.order ≡ r.order = eqb-true e.order r.order d.0 in
    let low : e.base ≤ r.first = leb-true e.base r.first d.1 in
    let high : r.first < e.base + cover r.order = ltb-true r.first (e.base + cover r.order) c.1 in
    let bit = (r.first - e.base) / p in
    let whole : r.first - e.base ≡ bit * p = aligned_is (r.first - e.base) r.order (eqb-true ((r.first - e.base) % p) 0 b.1) in
    let wide : bit * 2 ^ e.order ≡ bit * p = ap (λ (o : ℕ). bit * 2 ^ o) order in
    record {
      bit = bit;
      small = div_below (r.first - e.base) p 4096 (pow_pos r.order) (omega arith);
      is_one = a.1;
      same = run_path (run_of e bit) r order (omega arith);
    }

-- ---- several elements

any_all : {A : Type 0} (P : A → Bool) (b : Bool) (xs : List A) → All (λ x. P x ≡ true → b ≡ true) xs → list_any P xs ≡ true → b ≡ true
any_all P b [] h t = absurd (false≢true t)
any_all P b (x ∷ xs) h t =
    ⊎_elim (λ (here : P x ≡ true). All-head (λ y. P y ≡ true → b ≡ true) x xs h here)
    (λ (more : list_any P xs ≡ true). any_all P b xs (All-tail (λ y. P y ≡ true → b ≡ true) x xs h) more)
    (or_cases (P x) (list_any P xs) t)

all_weaker : {A : Type 0} (P Q : A → Type 0) → ((x : A) → P x → Q x) → (xs : List A) → All P xs → All Q xs
all_weaker P Q f xs h k d lt = f (get_or xs k d) (h k d lt)

any_of : {A : Type 0} (P : A → Bool) (xs : List A) (x : A) → Contains xs x → P x ≡ true → list_any P xs ≡ true
any_of P xs x there h = any_at xs there.0 there.1 (ap P there.2 ∙ h)
  where
    any_at : (xs : List _) (k : ℕ) → k < length xs → P (get_or xs k x) ≡ true → list_any P xs ≡ true
    any_at [] k lt t = absurd (omega arith)
    any_at (y ∷ xs) zero lt t = or_left (P y) (list_any P xs) t
    any_at (y ∷ xs) (suc k) lt t = or_right (P y) (list_any P xs) (any_at xs k (omega arith) t)

element_there : (page : List ℕ) (k : ℕ) → k < count_of page → Contains (elements_of page) (element_at page k)
element_there page k lt = subst (λ (es : List Element). Contains es (element_at page k)) (sym (all_upto page)) (found (count_of page) lt)
  where
    found : (c : ℕ) → k < c → Contains (upto page c) (element_at page k)
    found c few =
        let long : length (upto page c) ≡ c = length-map-range_with_len (element_at page) 0 c in
        (k, omega arith, get_or-map-range_with_len (element_at page) 0 c k k (element_at page k) few (omega arith))

item_there : (ram : Ram) (chunks : List ℕ) (k d : ℕ) (e : Element) → k < length chunks → Contains (elements_of (ram.page (get_or chunks k d))) e → Contains (items_of (chain_of ram chunks)) e
item_there ram [] k d e lt h = absurd (omega arith)
item_there ram (p ∷ chunks) zero d e lt h = Contains-append_left (elements_of (ram.page p)) (items_of (chain_of ram chunks)) e h
item_there ram (p ∷ chunks) (suc k) d e lt h = Contains-append_right (elements_of (ram.page p)) (items_of (chain_of ram chunks)) e (item_there ram chunks k d e (omega arith) h)

-- ---- the chain

module _ (ram : Ram) (runs : Runs) (members : (r : Run) → sets.contains runs r ≡ true → IsRun ram.count r) (chunks : List ℕ)
    (count : length chunks ≡ (bitmap_count ram.count + 6) / 7)
    (pages : (i d : ℕ) → i < length chunks → IsWritten ram.count runs i (get_or chunks (i + 1) 0) (ram.page (get_or chunks i d))) where
  pub from_first : From ram runs members 0 chunks
  from_first j d lt = let e : 0 + j ≡ j = omega arith in subst (λ (x : ℕ). IsWritten ram.count runs x (get_or chunks (j + 1) 0) (ram.page (get_or chunks j d))) (sym e) (pages j d lt)

  -- a run of the set is marked
  run_marked : (r : Run) → sets.contains runs r ≡ true → is_marked (items_of (chain_of ram chunks)) r ≡ true
  run_marked r t =
      let n = ram.count in
      let run : IsRun n r = members r t in
      let number : ℕ = bit_index n r / 4096 in
      let few : number < bitmap_count n = omega (arith, bit_index_count n r run) in
      let i : ℕ = number / 7 in
      let k : ℕ = number % 7 in
      let there : i < length chunks = omega (arith, count) in
      let w = pages i 0 there in
      let inside : k < full_count n i = omega arith in
      let page : List ℕ = ram.page (get_or chunks i 0) in
      let e : Element = element_at page k in
      let is : IsBitmap n runs (7 * i + k) e = w.elements k inside in
      let bit : bit_index n r % 4096 < 4096 = omega arith in
      let same : run_of e (bit_index n r % 4096) ≡ r = run_found n e r run is.below is.aligned (is.number ∙ omega arith) in
      let one : is_set e.bits (bit_index n r % 4096) ≡ true = is.bits (bit_index n r % 4096) bit ∙ ap (sets.contains runs) same ∙ t in
      any_of (marks r) (items_of (chain_of ram chunks)) e (item_there ram chunks i 0 e there (element_there page k (omega (arith, w.count))))
      (ap (λ (q : Run). marks q e) (sym same) ∙ marks_own e (bit_index n r % 4096) bit one)

  -- an element marks runs of the set alone
  one_marks : (r : Run) (e : Element) → IsOne ram.count runs members e → marks r e ≡ true → sets.contains runs r ≡ true
  one_marks r e one h =
      let m = marked_bit r e h in
      ap (sets.contains runs) (sym m.same) ∙ sym (one.is.bits m.bit m.small) ∙ m.is_one

  pub marks_set : (r : Run) → is_marked (items_of (chain_of ram chunks)) r ≡ sets.contains runs r
  marks_set r =
      ⊎_elim (λ (t : sets.contains runs r ≡ true). run_marked r t ∙ sym t)
      (λ (f : sets.contains runs r ≡ false).
      false_from_ne_true (is_marked (items_of (chain_of ram chunks)) r)
      (λ m. false≢true (sym f ∙ any_all (marks r) (sets.contains runs r) (items_of (chain_of ram chunks))
      (all_weaker (IsOne ram.count runs members) (λ e. marks r e ≡ true → sets.contains runs r ≡ true) (one_marks r) (items_of (chain_of ram chunks)) (chain_ones ram runs members 0 chunks from_first)) m))
      ∙ sym f)
      (cases_Bool (sets.contains runs r))
