-- Which frames are owned after a take.
use Rattle.std.proofs.Common.{◌≡◌, ℕ, ◌<◌, Bool, true, false, cond, List, [], ◌∷◌, length, map, refl, sym, ap, ◌∙◌, arith, inl, inr, suc}
use Rattle.std.specs.Prelude.{Some, ◌⊎◌, ◌==◌, ◌||◌, slice_index_or}
use Rattle.std.specs.List.{list_any}
use Rattle.std.specs.Cmp.{nat_cmp_total, unsigned_tied}
use Rattle.std.specs.Ordering.{nat_cmp, eq_by_cmp}
use Rattle.std.specs.FinMap as finmap
use Rattle.std.proofs.lemmas.Bool.{eq-eqb, eqb-true}
use Rattle.ho_base.specs.declared.numbers.Pfn.{Pfn}
use Rattle.ho_events.specs.Lists.{firsts, is_just, upto}
use Rattle.ho_events.specs.Pool.{PoolState, is_owned, run_start, own}
use Rattle.phys_frames.specs.Homes.{HomeId}
use Rattle.phys_frames.specs.Memory.{FolioValue, zeroed}

any_weaker : (f g : ℕ → Bool) → ((o : ℕ) → f o ≡ true → g o ≡ true) → (xs : List ℕ) → list_any f xs ≡ true → list_any g xs ≡ true
any_weaker f g h [] is = is
any_weaker f g h (x ∷ xs) is = go (any_weaker f g h xs) (f x) refl is
  where
    left : (b c : Bool) → b ≡ true → (b || c) ≡ true
    left b c e = ap (λ x. x || c) e

    right : (b c : Bool) → c ≡ true → (b || c) ≡ true
    right true c e = refl
    right false c e = e

    go : (list_any f xs ≡ true → list_any g xs ≡ true) → (b : Bool) → f x ≡ b → (b || list_any f xs) ≡ true → list_any g (x ∷ xs) ≡ true
    go rest true e k = left (g x) (list_any g xs) (h x e)
    go rest false e k = right (g x) (list_any g xs) (rest k)

pub starts_here : (p : ℕ) → run_start 0 p ≡ p
starts_here p = omega arith

clash : (b : Bool) → b ≡ true → b ≡ false → ⊥
clash b h k = absurd cc

one_more : (s : PoolState) (r q o : ℕ) → (q == r) ≡ false → is_just o (finmap.get (finmap.insert s.owned r 0) (run_start o q)) ≡ true → is_just o (finmap.get s.owned (run_start o q)) ≡ true
one_more s r q o away h = go (eq_by_cmp nat_cmp (run_start o q) r) refl (sym (ap (is_just o) (finmap.get-insert nat_cmp_total s.owned r 0 (run_start o q))) ∙ h)
  where
    go : (b : Bool) → eq_by_cmp nat_cmp (run_start o q) r ≡ b → is_just o (cond b (Some 0) (finmap.get s.owned (run_start o q))) ≡ true → is_just o (finmap.get s.owned (run_start o q)) ≡ true
    go false e k = k
    go true e k =
        let zero_is : 0 ≡ o = eqb-true 0 o k in
        let start_is : run_start o q ≡ r = eqb-true (run_start o q) r (sym (unsigned_tied (run_start o q) r) ∙ e) in
        let here : q ≡ r = sym (starts_here q) ∙ ap (λ n. run_start n q) zero_is ∙ start_is in
        absurd (clash (q == r) (eq-eqb q r here) away)

-- a frame that is owned after a take was taken, or was owned before
pub owned_after : (ps : List ℕ) (s : PoolState) (q : ℕ) → is_owned (record s { owned = own 0 ps s.owned }) q ≡ true → (list_any (λ y. y == q) ps ≡ true) ⊎ (is_owned s q ≡ true)
owned_after [] s q h = inr h
owned_after (p ∷ ps) s q h = go (owned_after ps (record s { owned = finmap.insert s.owned p 0 }) q h)
  where
    left : (b c : Bool) → b ≡ true → (b || c) ≡ true
    left b c e = ap (λ x. x || c) e

    right : (b c : Bool) → c ≡ true → (b || c) ≡ true
    right true c e = refl
    right false c e = e

    turned : (q == p) ≡ true → (p == q) ≡ true
    turned e = eq-eqb p q (sym (eqb-true q p e))

    at : (b : Bool) → (q == p) ≡ b → is_owned (record s { owned = finmap.insert s.owned p 0 }) q ≡ true → (list_any (λ y. y == q) (p ∷ ps) ≡ true) ⊎ (is_owned s q ≡ true)
    at true e k = inl (left (p == q) (list_any (λ y. y == q) ps) (turned e))
    at false e k = inr (any_weaker (λ o. is_just o (finmap.get (finmap.insert s.owned p 0) (run_start o q))) (λ o. is_just o (finmap.get s.owned (run_start o q))) (λ o. one_more s p q o e) (upto 10) k)

    go : (list_any (λ y. y == q) ps ≡ true) ⊎ (is_owned (record s { owned = finmap.insert s.owned p 0 }) q ≡ true) → (list_any (λ y. y == q) (p ∷ ps) ≡ true) ⊎ (is_owned s q ≡ true)
    go (inl k) = inl (right (p == q) (list_any (λ y. y == q) ps) k)
    go (inr k) = at (q == p) refl k

-- the folio that begins at a frame, by its place
pub record Place (folios : List FolioValue) (p : ℕ) : Type 0 where
  pub at : ℕ
  pub below : at < length folios
  pub first : (d : FolioValue) → (slice_index_or folios at d).first.0 ≡ p

pub place_of : (home : HomeId) (runs : List Pfn) (p : ℕ) → list_any (λ y. y == p) (firsts runs) ≡ true → Place (map (zeroed home) runs) p
place_of home [] p h = absurd (clash false h refl)
place_of home (r ∷ runs) p h = go (place_of home runs p) (r.0 == p) refl h
  where
    go : (list_any (λ y. y == p) (firsts runs) ≡ true → Place (map (zeroed home) runs) p) → (b : Bool) → (r.0 == p) ≡ b → (b || list_any (λ y. y == p) (firsts runs)) ≡ true → Place (map (zeroed home) (r ∷ runs)) p
    go more true e k = record { at = 0; below = omega arith; first = λ d. eqb-true r.0 p e }
    go more false e k =
        let rest = more k in record { at = suc rest.at; below = omega (arith, rest.below); first = λ d. rest.first d }
