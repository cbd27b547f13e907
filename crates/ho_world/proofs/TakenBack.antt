-- Runs that are taken and given back leave the owned runs as they were.
use Rattle.std.proofs.Common.{◌≡◌, ℕ, Bool, true, false, not, ◌&&◌, ◌||◌, List, [], ◌∷◌, cond, refl, sym, ap, ◌∙◌, IsTrue, is_some, Ordering, Less, Equal, Greater}
use Rattle.std.specs.Prelude.{Option, None, Some}
use Rattle.std.specs.List.{list_all, list_any}
use Rattle.std.specs.Ordering.{nat_cmp, eq_by_cmp}
use Rattle.std.specs.Cmp.{nat_cmp_total}
use Rattle.std.specs.FinMap as finmap
use Rattle.ho_events.specs.Pool.{own, disown}
use Rattle.ho_world.proofs.Fronts.{and_left, and_right}

is_in : ℕ → List ℕ → Bool
is_in q ps = list_any (eq_by_cmp nat_cmp q) ps

twice : {T : Type 0} (b c : Bool) (x y : T) → cond b x (cond c x y) ≡ cond (c || b) x y
twice true true x y = refl
twice true false x y = refl
twice false true x y = refl
twice false false x y = refl

get_own : (o : ℕ) (ps : List ℕ) (m : finmap.FinMap nat_cmp ℕ) (q : ℕ) → finmap.get (own o ps m) q ≡ cond (is_in q ps) (Some o) (finmap.get m q)
unfolding is_in
get_own o [] m q = refl
get_own o (p ∷ ps) m q =
    get_own o ps (finmap.insert m p o) q
    ∙ ap (cond (list_any (eq_by_cmp nat_cmp q) ps) (Some o)) (finmap.get-insert nat_cmp_total m p o q)
    ∙ twice (list_any (eq_by_cmp nat_cmp q) ps) (eq_by_cmp nat_cmp q p) (Some o) (finmap.get m q)

get_disown : (ps : List ℕ) (m : finmap.FinMap nat_cmp ℕ) (q : ℕ) → finmap.get (disown ps m) q ≡ cond (is_in q ps) None (finmap.get m q)
unfolding is_in
get_disown [] m q = refl
get_disown (p ∷ ps) m q =
    get_disown ps (finmap.remove m p) q
    ∙ ap (cond (list_any (eq_by_cmp nat_cmp q) ps) None) (finmap.get-remove nat_cmp_total m p q)
    ∙ twice (list_any (eq_by_cmp nat_cmp q) ps) (eq_by_cmp nat_cmp q p) None (finmap.get m q)

same_key : (q p : ℕ) (r : Ordering) → nat_cmp q p ≡ r → IsTrue (eq_by_cmp nat_cmp q p) → q ≡ p
same_key q p Equal e h = finmap.nat_cmp-IsAntisymmetric q p e
same_key q p Less e h = absurd cc
same_key q p Greater e h = absurd cc

none_of : (o : Option ℕ) → IsTrue (not (is_some o)) → o ≡ None
none_of None h = refl
none_of (Some x) h = absurd cc

missing : (owned : finmap.FinMap nat_cmp ℕ) (q : ℕ) (ps : List ℕ) → IsTrue (list_all (λ p. not (finmap.contains_key owned p)) ps) → is_in q ps ≡ true → finmap.get owned q ≡ None
unfolding is_in
missing owned q [] h i = absurd cc
missing owned q (p ∷ ps) h i =
    elim (eq_by_cmp nat_cmp q p) as (λ b. eq_by_cmp nat_cmp q p ≡ b → (b || list_any (eq_by_cmp nat_cmp q) ps) ≡ true → finmap.get owned q ≡ None) [
      | true ↦ λ e i. ap (finmap.get owned) (same_key q p _ refl e) ∙ none_of (finmap.get owned p) (and_left (not (finmap.contains_key owned p)) _ h)
      | false ↦ λ e i. missing owned q ps (and_right (not (finmap.contains_key owned p)) _ h) i
    ] refl i

pub taken_back : (o : ℕ) (ps : List ℕ) (owned : finmap.FinMap nat_cmp ℕ) → IsTrue (list_all (λ p. not (finmap.contains_key owned p)) ps) → disown ps (own o ps owned) ≡ owned
taken_back o ps owned h =
    finmap.same_map nat_cmp_total finmap.nat_cmp-IsAntisymmetric _ _
    (λ q. get_disown ps (own o ps owned) q
    ∙ elim (is_in q ps) as (λ b. is_in q ps ≡ b → cond b None (finmap.get (own o ps owned) q) ≡ finmap.get owned q) [
      | true ↦ λ e. sym (missing owned q ps h e)
      | false ↦ λ e. get_own o ps owned q ∙ ap (λ b. cond b (Some o) (finmap.get owned q)) e
    ] refl)
