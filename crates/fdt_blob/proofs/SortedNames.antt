-- Sorted names of which no two neighbours are alike are all apart.
use Rattle.std.proofs.Common.{◌≡◌, ℕ, ◌+◌, ◌<◌, Bool, true, false, List, [], ◌∷◌, length, map, get_or, refl, sym, ◌∙◌, arith, Bor}
use Rattle.std.specs.Prelude.{not}
use Rattle.std.specs.List.{IsAllAdjacentAnswer, IsDistinct, AllByRecursion, list_any}
use Rattle.std.specs.List.Sorted.{IsPermutation, IsSorted, IsStrictlySortedBy}
use Rattle.std.specs.Ordering.{nat_cmp, eq_by_cmp, is_lt, is_eq, ordering_reverse}
use Rattle.std.specs.declared.cmp.Ordering.{Ordering}
use Rattle.std.specs.declared.cmp.Ordering.TheVariants.{Less, Equal, Greater}
use Rattle.std.specs.Cmp.{IsTotalOrder, on_total, eq_by_cmp_equiv}
use Rattle.std.specs.Cmp.Lexicographic.{slice_cmp, nat_list_cmp_total, texts_ties}
use Rattle.std.proofs.lemmas.Bool.{false_from_ne_true, true≢false, or_parts, and_parts, not-true, not_from_false, or_from, and_from}
use Rattle.std.proofs.lemmas.Map.Keys.{sorted_from_all_adjacent, IsDistinct-from_sorted, IsDistinct-IsPermutation, apart_from_distinct}
use Rattle.std.proofs.lemmas.List.Sorted.{IsPermutation-sym}
use Rattle.fdt_blob.specs.Trees.{all_apart, same_name}

abbrev Text : Type 0
Text = Bor (List ℕ)

abbrev same : Text → Text → Bool
same x y = same_name x.now y.now

abbrev order : Text → Text → Ordering
order x y = slice_cmp nat_cmp x.now y.now

abbrev texts : List Text → List (List ℕ)
texts xs = map (λ x. x.now) xs

order_total : IsTotalOrder order
order_total = on_total (λ x. x.now) nat_list_cmp_total

-- what isn't greater and isn't equal is less
less : (o p : Ordering) → o ≡ ordering_reverse p → is_lt p ≡ false → is_eq o ≡ false → o ≡ Less
less Less p e h g = refl
less Equal p e h g = absurd cc
less Greater Less e h g = absurd cc
less Greater Equal e h g = absurd cc
less Greater Greater e h g = absurd cc

-- a name is apart from others, said in two ways
others_apart : (x : Text) (xs : List Text) → list_any (same_name x.now) (texts xs) ≡ false → AllByRecursion (λ y. eq_by_cmp order x y ≡ false) xs
others_apart x [] h = tt
others_apart x (y ∷ ys) h =
    let p = or_parts (same x y) (list_any (same_name x.now) (texts ys)) h in
    (sym (texts_ties x.now y.now) ∙ p.0, others_apart x ys p.1)

none_same : (x : Text) (xs : List Text) → AllByRecursion (λ y. eq_by_cmp order x y ≡ false) xs → list_any (same_name x.now) (texts xs) ≡ false
none_same x [] h = refl
none_same x (y ∷ ys) h = or_from (same x y) (list_any (same_name x.now) (texts ys)) (texts_ties x.now y.now ∙ h.0) (none_same x ys h.1)

-- names are all apart, said in two ways
distinct : (xs : List Text) → all_apart (texts xs) ≡ true → IsDistinct (eq_by_cmp order) xs
unfolding IsDistinct
distinct [] h = tt
distinct (x ∷ xs) h =
    let p = and_parts (not (list_any (same_name x.now) (texts xs))) (all_apart (texts xs)) h in
    (others_apart x xs (not-true _ p.0), distinct xs p.1)

apart : (xs : List Text) → IsDistinct (eq_by_cmp order) xs → all_apart (texts xs) ≡ true
unfolding IsDistinct
apart [] h = refl
apart (x ∷ xs) h = and_from (not (list_any (same_name x.now) (texts xs))) (all_apart (texts xs)) (not_from_false _ (none_same x xs h.0)) (apart xs h.1)

flips : (x y : Text) → eq_by_cmp order x y ≡ eq_by_cmp order y x
flips = (eq_by_cmp_equiv order_total).symm

-- sorted names whose neighbours differ rise
rises : (ys : List Text) → IsSorted order ys → ((k : ℕ) (d : Text) → k + 1 < length ys → true ≡ not (same (get_or ys k d) (get_or ys (k + 1) d))) → IsStrictlySortedBy order ys
unfolding IsStrictlySortedBy
rises [] sorted differ = tt
rises (y ∷ ys) sorted differ = sorted_from_all_adjacent order_total (y ∷ ys) y (λ k h.
    let a = get_or (y ∷ ys) k y in
    let b = get_or (y ∷ ys) (k + 1) y in
    less (order a b) (order b a) (order_total.antisymm a b) (sorted k y (omega arith) h) (sym (texts_ties a.now b.now) ∙ not-true _ (sym (differ k y h))))

-- where two neighbours are alike, names aren't all apart
alike : (ys : List Text) (k : ℕ) → k + 1 < length ys → ((d : Text) → false ≡ not (same (get_or ys k d) (get_or ys (k + 1) d))) → IsDistinct (eq_by_cmp order) ys → ⊥
alike [] k h f all = omega arith
alike (y ∷ ys) k h f all =
    let a = get_or (y ∷ ys) k y in
    let b = get_or (y ∷ ys) (k + 1) y in
    let not_same : same a b ≡ false = texts_ties a.now b.now ∙ apart_from_distinct (eq_by_cmp order) (y ∷ ys) k (k + 1) y all (omega arith) h in
    true≢false (sym (f y ∙ not_from_false _ not_same))

pub apart_from_sorted : (xs ys : List Text) (r : Bool) → IsPermutation xs ys → IsSorted order ys → IsAllAdjacentAnswer (λ x y b. b ≡ not (same x y)) ys r → r ≡ all_apart (texts xs)
apart_from_sorted xs ys true moved sorted answer =
    let back = IsPermutation-sym xs ys moved in
    sym (apart xs (IsDistinct-IsPermutation (eq_by_cmp order) flips ys xs back (IsDistinct-from_sorted order ys (rises ys sorted answer))))
apart_from_sorted xs ys false moved sorted answer =
    sym (false_from_ne_true (all_apart (texts xs)) (λ e.
    alike ys answer.0 answer.1 answer.2 (IsDistinct-IsPermutation (eq_by_cmp order) flips xs ys moved (distinct xs e))))
