-- Lists in the order of stamp and agent: what each agent did decides them, and so each object's part of them.
use Rattle.std.proofs.Common.{◌≡◌, ◌≢◌, ℕ, ◌+◌, ◌<◌, ◌≤◌, Bool, true, false, ◌&&◌, ◌||◌, ◌==◌, nat_lt, List, [], ◌∷◌, ◌++◌, filter, refl, sym, ap, subst, ◌∙◌, arith, IsTrue, cond, get_or}
use Rattle.std.specs.List.{list_all}
use Rattle.std.proofs.lemmas.Bool.Decides.{nat_tests}
use Rattle.ho_events.specs.declared.entry.Entry.{Entry}
use Rattle.ho_events.specs.History.{on, is_on, by}
use Rattle.ho_world.specs.Entries.{all_pairs, comes_before}
use Rattle.ho_world.proofs.Fronts.{and_both, and_left, and_right, all_follow, filter_in, eq_same}

-- an entry has one place in a list whose stamps rise

below : Entry → Entry → Bool
below e d = nat_lt d.stamp e.stamp

no_stamp_below : (e : Entry) → IsTrue (nat_lt e.stamp e.stamp) → ⊥
no_stamp_below e h = grind (arith, nat_tests)

first_same : (x y : Entry) (xs ys : List Entry) → x ∷ xs ≡ y ∷ ys → x ≡ y
first_same x y xs ys e = ap (λ zs. get_or zs 0 x) e

rest_same : (x y : Entry) (xs ys : List Entry) → x ∷ xs ≡ y ∷ ys → xs ≡ ys
rest_same x y xs ys e = ap tail e
  where
    tail : List Entry → List Entry
    tail [] = []
    tail (z ∷ zs) = zs

pub same_front : (e : Entry) (xs ys us vs : List Entry) → IsTrue (list_all (λ d. nat_lt d.stamp e.stamp) xs) → IsTrue (list_all (λ d. nat_lt d.stamp e.stamp) us) → xs ++ e ∷ ys ≡ us ++ e ∷ vs → xs ≡ us
same_front e [] ys [] vs h k is = refl
same_front e [] ys (u ∷ us) vs h k is =
    absurd (no_stamp_below e (subst (λ d. IsTrue (nat_lt d.stamp e.stamp)) (sym (first_same e u ys (us ++ e ∷ vs) is)) (and_left (nat_lt u.stamp e.stamp) _ k)))
same_front e (x ∷ xs) ys [] vs h k is =
    absurd (no_stamp_below e (subst (λ d. IsTrue (nat_lt d.stamp e.stamp)) (first_same x e (xs ++ e ∷ ys) vs is) (and_left (nat_lt x.stamp e.stamp) _ h)))
same_front e (x ∷ xs) ys (u ∷ us) vs h k is =
    ap (λ zs. x ∷ zs) (same_front e xs ys us vs (and_right (nat_lt x.stamp e.stamp) _ h) (and_right (nat_lt u.stamp e.stamp) _ k) (rest_same x u (xs ++ e ∷ ys) (us ++ e ∷ vs) is))
    ∙ ap (λ z. z ∷ us) (first_same x u (xs ++ e ∷ ys) (us ++ e ∷ vs) is)

-- a list in order is decided by its agents' parts

-- an entry of a list is its first, or stands after it
in_part : (x y : Entry) (xs : List Entry) (p : Entry → Bool) → IsTrue (list_all p (y ∷ xs)) → (a : ℕ) (us : List Entry) → by a (y ∷ xs) ≡ x ∷ us → IsTrue (p x)
unfolding by
in_part x y xs p h a us is = first_passes (filter (λ e. e.agent.0 == a) (y ∷ xs)) (kept (y ∷ xs) h) is
  where
    kept : (zs : List Entry) → IsTrue (list_all p zs) → IsTrue (list_all p (filter (λ e. e.agent.0 == a) zs))
    kept [] h = refl
    kept (z ∷ zs) h =
        elim (z.agent.0 == a) as (λ b. IsTrue (list_all p (cond b (z ∷ filter (λ e. e.agent.0 == a) zs) (filter (λ e. e.agent.0 == a) zs)))) [
          | true ↦ and_both (p z) _ (and_left (p z) _ h) (kept zs (and_right (p z) _ h))
          | false ↦ kept zs (and_right (p z) _ h)
        ]

    first_passes : (zs : List Entry) → IsTrue (list_all p zs) → zs ≡ x ∷ us → IsTrue (p x)
    first_passes [] h is = absurd cc
    first_passes (z ∷ zs) h is = subst (λ d. IsTrue (p d)) (first_same z x zs us is) (and_left (p z) _ h)

-- not later than
abbrev upto_it : Entry → Entry → Bool
upto_it y x = comes_before y x || (y.kernel == x.kernel && y.stamp == x.stamp && y.agent.0 == x.agent.0)

upto_first : (y : Entry) (ys : List Entry) → IsTrue (list_all (comes_before y) ys) → IsTrue (list_all (upto_it y) (y ∷ ys))
upto_first y ys h = and_both (upto_it y y) _ (itself y.kernel y.stamp y.agent.0) (all_follow (comes_before y) (upto_it y) ys (λ d c. sooner (comes_before y d) _ c) h)
  where
    itself : (k t a : ℕ) → IsTrue ((nat_lt k k || (k == k && (nat_lt t t || (t == t && nat_lt a a)))) || (k == k && t == t && a == a))
    itself k t a = grind (arith, nat_tests)

    sooner : (b c : Bool) → IsTrue b → IsTrue (b || c)
    sooner true c h = refl
    sooner false c h = absurd cc

both_ways : (k t a l u b : ℕ) → IsTrue ((nat_lt k l || (k == l && (nat_lt t u || (t == u && nat_lt a b)))) || (k == l && t == u && a == b))
    → IsTrue ((nat_lt l k || (l == k && (nat_lt u t || (u == t && nat_lt b a)))) || (l == k && u == t && b == a)) → a ≡ b
both_ways k t a l u b h g = grind (arith, nat_tests)

own_part : (x : Entry) (xs : List Entry) → by x.agent.0 (x ∷ xs) ≡ x ∷ by x.agent.0 xs
unfolding by
own_part x xs = filter_in (λ e. e.agent.0 == x.agent.0) x xs (eq_same x.agent.0)

without_first : (x : Entry) (xs ys : List Entry) (a : ℕ) → by a (x ∷ xs) ≡ by a (x ∷ ys) → by a xs ≡ by a ys
unfolding by
without_first x xs ys a is =
    elim (x.agent.0 == a) as (λ b. cond b (x ∷ filter (λ e. e.agent.0 == a) xs) (filter (λ e. e.agent.0 == a) xs) ≡ cond b (x ∷ filter (λ e. e.agent.0 == a) ys) (filter (λ e. e.agent.0 == a) ys) → filter (λ e. e.agent.0 == a) xs ≡ filter (λ e. e.agent.0 == a) ys) [
      | true ↦ λ h. rest_same x x _ _ h
      | false ↦ λ h. h
    ] is

no_part : (x : Entry) (xs : List Entry) → by x.agent.0 (x ∷ xs) ≡ [] → ⊥
no_part x xs is = apart (x ∷ by x.agent.0 xs) refl (sym (own_part x xs) ∙ is)
  where
    apart : (zs : List Entry) → zs ≡ x ∷ by x.agent.0 xs → x ∷ by x.agent.0 xs ≡ [] → ⊥
    apart zs e h = cc

by_none : (a : ℕ) → by a [] ≡ []
unfolding by
by_none a = refl

-- two lists in order with the same parts are the same
pub same_by_agents : (xs ys : List Entry) → IsTrue (all_pairs comes_before xs) → IsTrue (all_pairs comes_before ys) → ((a : ℕ) → by a xs ≡ by a ys) → xs ≡ ys
unfolding all_pairs
same_by_agents [] [] h k parts = refl
same_by_agents [] (y ∷ ys) h k parts = absurd (no_part y ys (sym (parts y.agent.0) ∙ by_none y.agent.0))
same_by_agents (x ∷ xs) [] h k parts = absurd (no_part x xs (parts x.agent.0 ∙ by_none x.agent.0))
same_by_agents (x ∷ xs) (y ∷ ys) h k parts =
    let later : IsTrue (upto_it y x) =
    in_part x y ys (upto_it y) (upto_first y ys (and_left (list_all (comes_before y) ys) _ k)) x.agent.0 (by x.agent.0 xs) (sym (parts x.agent.0) ∙ own_part x xs) in
    let sooner : IsTrue (upto_it x y) =
    in_part y x xs (upto_it x) (upto_first x xs (and_left (list_all (comes_before x) xs) _ h)) y.agent.0 (by y.agent.0 ys) (parts y.agent.0 ∙ own_part y ys) in
    let agents : x.agent.0 ≡ y.agent.0 = both_ways x.kernel x.stamp x.agent.0 y.kernel y.stamp y.agent.0 sooner later in
    let first : x ≡ y =
    first_same x y (by x.agent.0 xs) (by x.agent.0 ys) (sym (own_part x xs) ∙ parts x.agent.0 ∙ subst (λ a. by a (y ∷ ys) ≡ y ∷ by a ys) (sym agents) (own_part y ys)) in
    let rest : xs ≡ ys =
    same_by_agents xs ys (and_right (list_all (comes_before x) xs) _ h) (and_right (list_all (comes_before y) ys) _ k)
    (λ a. without_first x xs ys a (parts a ∙ ap (λ z. by a (z ∷ ys)) (sym first))) in
    ap (λ z. z ∷ xs) first ∙ ap (λ zs. y ∷ zs) rest

-- a part of a list in order is in order
pairs_part : (p : Entry → Bool) (xs : List Entry) → IsTrue (all_pairs comes_before xs) → IsTrue (all_pairs comes_before (filter p xs))
unfolding all_pairs
pairs_part p [] h = refl
pairs_part p (x ∷ xs) h =
    elim (p x) as (λ b. IsTrue (all_pairs comes_before (cond b (x ∷ filter p xs) (filter p xs)))) [
      | true ↦ and_both (list_all (comes_before x) (filter p xs)) _ (kept (comes_before x) xs (and_left (list_all (comes_before x) xs) _ h)) (pairs_part p xs (and_right (list_all (comes_before x) xs) _ h))
      | false ↦ pairs_part p xs (and_right (list_all (comes_before x) xs) _ h)
    ]
  where
    kept : (q : Entry → Bool) (zs : List Entry) → IsTrue (list_all q zs) → IsTrue (list_all q (filter p zs))
    kept q [] h = refl
    kept q (z ∷ zs) h =
        elim (p z) as (λ b. IsTrue (list_all q (cond b (z ∷ filter p zs) (filter p zs)))) [
          | true ↦ and_both (q z) _ (and_left (q z) _ h) (kept q zs (and_right (q z) _ h))
          | false ↦ kept q zs (and_right (q z) _ h)
        ]

swapped : (p q : Entry → Bool) (xs : List Entry) → filter p (filter q xs) ≡ filter q (filter p xs)
swapped p q [] = refl
swapped p q (x ∷ xs) =
    elim (p x) as (λ b. p x ≡ b → filter p (cond (q x) (x ∷ filter q xs) (filter q xs)) ≡ filter q (cond b (x ∷ filter p xs) (filter p xs))) [
      | true ↦ λ px. elim (q x) as (λ c. q x ≡ c → filter p (cond c (x ∷ filter q xs) (filter q xs)) ≡ filter q (x ∷ filter p xs)) [
        | true ↦ λ qx. filter_in p x (filter q xs) px ∙ ap (λ zs. x ∷ zs) (swapped p q xs) ∙ sym (filter_in q x (filter p xs) qx)
        | false ↦ λ qx. swapped p q xs ∙ sym (ap (λ c. cond c (x ∷ filter q (filter p xs)) (filter q (filter p xs))) qx)
      ] refl
      | false ↦ λ px. elim (q x) as (λ c. q x ≡ c → filter p (cond c (x ∷ filter q xs) (filter q xs)) ≡ filter q (filter p xs)) [
        | true ↦ λ qx. ap (λ c. cond c (x ∷ filter p (filter q xs)) (filter p (filter q xs))) px ∙ swapped p q xs
        | false ↦ λ qx. swapped p q xs
      ] refl
    ] refl

-- what the threads give: the merged list is in order, its agents' parts are the logs, and each agent's part of an
-- object's new entries is its log cut to the object. Then the object's new entries are its part of the merged list
pub object_part : (merged : List Entry) (logs : ℕ → List Entry) (o : ℕ) (new : List Entry) → IsTrue (all_pairs comes_before merged) → ((a : ℕ) → by a merged ≡ logs a)
    → IsTrue (all_pairs comes_before new) → ((a : ℕ) → by a new ≡ on o (logs a)) → on o merged ≡ new
unfolding on by
object_part merged logs o new h logged k cut =
    same_by_agents (on o merged) new (pairs_part (λ e. is_on o e.object) merged h) k
    (λ a. swapped (λ e. e.agent.0 == a) (λ e. is_on o e.object) merged ∙ ap (on o) (logged a) ∙ sym (cut a))
