-- The map of owned runs that a table shows.
use Rattle.std.proofs.Common.{◌≡◌, ◌≢◌, ℕ, ◌+◌, ◌<◌, ◌≤◌, ◌==◌, ◌||◌, Bool, true, false, cond, List, [], ◌∷◌, length, get_or, set, refl, ap, sym, ◌∙◌, arith, zero, suc, ⊎_elim}
use Rattle.std.specs.Prelude.{None, Some}
use Rattle.std.specs.List.{list_any}
use Rattle.std.specs.Ordering.{nat_cmp, eq_by_cmp}
use Rattle.std.specs.Cmp.{nat_cmp_total, unsigned_tied}
use Rattle.std.specs.FinMap as finmap
use Rattle.std.specs.FinMap.{nat_cmp-IsAntisymmetric}
use Rattle.std.proofs.lemmas.Bool.{cases_lt, cases_eq, eqb-true, eq-eqb, ne_eqb}
use Rattle.std.proofs.lemmas.List.{get_or-set_other, get_or-set_same, get_or_past}
use Rattle.buddy_pages.proofs.Frames.{same_bool}
use Rattle.ho_events.specs.Lists.{is_just, upto}
use Rattle.ho_events.specs.Pool.{run_start}
use Rattle.pool_core.specs.PoolTags.{order_at, with_run, owned_below, owned_of, is_held}

abbrev Owned : Type 0
Owned = finmap.FinMap nat_cmp ℕ

pub same_test : (k q : ℕ) → eq_by_cmp nat_cmp q k ≡ (q == k)
same_test k q = unsigned_tied q k

run_other : (k n q : ℕ) (m : Owned) → q ≢ n → finmap.get (with_run k n m) q ≡ finmap.get m q
run_other zero n q m ne = refl
run_other (suc o) n q m ne = finmap.get-insert nat_cmp_total m n o q ∙ ap (λ c. cond c (Some o) (finmap.get m q)) (same_test n q ∙ ne_eqb q n ne)

run_here : (k n : ℕ) (m : Owned) → finmap.get m n ≡ None → finmap.get (with_run k n m) n ≡ order_at k
run_here zero n m h = h
run_here (suc o) n m h = finmap.get-insert nat_cmp_total m n o n ∙ ap (λ c. cond c (Some o) (finmap.get m n)) (same_test n n ∙ eq-eqb n n refl)

above_is : (tags : List ℕ) (n q : ℕ) → n ≤ q → finmap.get (owned_below tags n) q ≡ None
unfolding owned_below
above_is tags zero q h = finmap.get-empty nat_cmp q
above_is tags (suc n) q h = run_other (get_or tags n 0) n q (owned_below tags n) (λ e. absurd (omega arith)) ∙ above_is tags n q (omega arith)

below_is : (tags : List ℕ) (n q : ℕ) → q < n → finmap.get (owned_below tags n) q ≡ order_at (get_or tags q 0)
unfolding owned_below
below_is tags zero q h = absurd (omega arith)
below_is tags (suc n) q h =
    ⊎_elim (λ (e : q ≡ n).
    ap (finmap.get (owned_below tags (suc n))) e
    ∙ run_here (get_or tags n 0) n (owned_below tags n) (above_is tags n n (omega arith))
    ∙ ap (λ z. order_at (get_or tags z 0)) (sym e))
    (λ (ne : q ≢ n). run_other (get_or tags n 0) n q (owned_below tags n) ne ∙ below_is tags n q (omega arith))
    (cases_eq q n)

-- the order of the run that begins at a frame is what its number says
pub get_owned : (tags : List ℕ) (q : ℕ) → finmap.get (owned_of tags) q ≡ order_at (get_or tags q 0)
unfolding owned_of
get_owned tags q =
    ⊎_elim (λ (l : q < length tags). below_is tags (length tags) q l)
    (λ (l : length tags ≤ q). above_is tags (length tags) q l ∙ sym (ap order_at (get_or_past tags q 0 l)))
    (cases_lt q (length tags))

is_just_at : (o n : ℕ) → is_just o (order_at n) ≡ (n == o + 1)
is_just_at o zero = sym (ne_eqb 0 (o + 1) (λ e. absurd (omega arith)))
is_just_at o (suc n) =
    same_bool (n == o) (suc n == o + 1)
    (λ h. let e : n ≡ o = eqb-true n o h in eq-eqb (suc n) (o + 1) (omega arith))
    (λ h. let e : suc n ≡ o + 1 = eqb-true (suc n) (o + 1) h in eq-eqb n o (omega arith))

-- a run is owned where the number says so
pub owned_run : (tags : List ℕ) (o p : ℕ) → is_just o (finmap.get (owned_of tags) p) ≡ (get_or tags p 0 == o + 1)
owned_run tags o p = ap (is_just o) (get_owned tags p) ∙ is_just_at o (get_or tags p 0)

any_same : (f g : ℕ → Bool) → ((i : ℕ) → f i ≡ g i) → (is : List ℕ) → list_any f is ≡ list_any g is
any_same f g same [] = refl
any_same f g same (i ∷ is) = ap (λ b. b || list_any f is) (same i) ∙ ap (λ b. g i || b) (any_same f g same is)

-- a frame is owned where a run holds it
pub owned_frame : (tags : List ℕ) (p : ℕ) → list_any (λ o. is_just o (finmap.get (owned_of tags) (run_start o p))) (upto 10) ≡ is_held tags p
unfolding is_held
owned_frame tags p =
    any_same (λ o. is_just o (finmap.get (owned_of tags) (run_start o p))) (λ o. get_or tags (run_start o p) 0 == o + 1)
    (λ o. owned_run tags o (run_start o p)) (upto 10)

-- the number at a frame after one number was set
pub get_set : (tags : List ℕ) (p n q : ℕ) → p < length tags → get_or (set tags p n) q 0 ≡ cond (q == p) n (get_or tags q 0)
get_set tags p n q h =
    ⊎_elim (λ (e : q ≡ p).
    ap (λ z. get_or (set tags p n) z 0) e ∙ get_or-set_same tags p n 0 h ∙ sym (ap (λ c. cond c n (get_or tags q 0)) (eq-eqb q p e)))
    (λ (ne : q ≢ p). get_or-set_other tags p q n 0 ne ∙ sym (ap (λ c. cond c n (get_or tags q 0)) (ne_eqb q p ne)))
    (cases_eq q p)

order_cond : (c : Bool) (n m : ℕ) → order_at (cond c n m) ≡ cond c (order_at n) (order_at m)
order_cond true n m = refl
order_cond false n m = refl

shown_set : (tags : List ℕ) (p n q : ℕ) → p < length tags → finmap.get (owned_of (set tags p n)) q ≡ cond (q == p) (order_at n) (finmap.get (owned_of tags) q)
shown_set tags p n q h =
    get_owned (set tags p n) q ∙ ap order_at (get_set tags p n q h) ∙ order_cond (q == p) n (get_or tags q 0)
    ∙ ap (cond (q == p) (order_at n)) (sym (get_owned tags q))

pub owned_set : (tags : List ℕ) (p o : ℕ) → p < length tags → owned_of (set tags p (o + 1)) ≡ finmap.insert (owned_of tags) p o
owned_set tags p o h =
    let e : o + 1 ≡ suc o = omega arith in
    finmap.same_map nat_cmp_total nat_cmp-IsAntisymmetric (owned_of (set tags p (o + 1))) (finmap.insert (owned_of tags) p o)
    (λ q. shown_set tags p (o + 1) q h ∙ ap (λ z. cond (q == p) (order_at z) (finmap.get (owned_of tags) q)) e
    ∙ sym (finmap.get-insert nat_cmp_total (owned_of tags) p o q ∙ ap (λ c. cond c (Some o) (finmap.get (owned_of tags) q)) (same_test p q)))

pub owned_clear : (tags : List ℕ) (p : ℕ) → p < length tags → owned_of (set tags p 0) ≡ finmap.remove (owned_of tags) p
owned_clear tags p h =
    finmap.same_map nat_cmp_total nat_cmp-IsAntisymmetric (owned_of (set tags p 0)) (finmap.remove (owned_of tags) p)
    (λ q. shown_set tags p 0 q h
    ∙ sym (finmap.get-remove nat_cmp_total (owned_of tags) p q ∙ ap (λ c. cond c None (finmap.get (owned_of tags) q)) (same_test p q)))
