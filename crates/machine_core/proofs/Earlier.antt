-- The stamps of an agent's entries in the histories of a kernel.
use Rattle.std.proofs.Common.{◌≡◌, ℕ, ◌==◌, Bool, true, false, ◌&&◌, List, [], ◌∷◌, ◌++◌, filter, flat_map, cond, refl, sym, ap, subst, IsTrue}
use Rattle.std.specs.Prelude.{nat_le}
use Rattle.std.specs.List.{list_all}
use Rattle.ho_events.specs.Lists.{upto}
use Rattle.ho_events.specs.declared.entry.Entry.{Entry}
use Rattle.ho_world.specs.Logs.{Paired}
use Rattle.ho_world.proofs.Fronts.{and_both, and_left, and_right, all_append}
use Rattle.machine_core.specs.Kernels.{AreUpTo}
use Rattle.machine_core.specs.Objects.{object_count}
use Rattle.machine_core.specs.Plain.{pairs_of, put_in, sorted, earlier_in}

pub kept : {T : Type 0} (p q : T → Bool) (xs : List T) → IsTrue (list_all q xs) → IsTrue (list_all q (filter p xs))
kept p q [] h = refl
kept p q (x ∷ xs) h =
    elim (p x) as (λ b. IsTrue (list_all q (cond b (x ∷ filter p xs) (filter p xs)))) [
      | true ↦ and_both (q x) _ (and_left (q x) _ h) (kept p q xs (and_right (q x) _ h))
      | false ↦ kept p q xs (and_right (q x) _ h)
    ]

pairs_same : (q : Entry → Bool) (seen es : List Entry) → list_all (λ (p : Paired). q p.entry) (pairs_of seen es) ≡ list_all q es
pairs_same q seen [] = refl
pairs_same q seen (e ∷ es) = ap (λ b. q e && b) (pairs_same q (seen ++ e ∷ []) es)

each_passes : {T : Type 0} (q : T → Bool) (f : ℕ → List T) (ns : List ℕ) → ((n : ℕ) → IsTrue (list_all q (f n))) → IsTrue (list_all q (flat_map f ns))
each_passes q f [] h = refl
each_passes q f (n ∷ ns) h = all_append q (f n) (flat_map f ns) (h n) (each_passes q f ns h)

put_passes : (q : Paired → Bool) (p : Paired) (ps : List Paired) → IsTrue (q p) → IsTrue (list_all q ps) → IsTrue (list_all q (put_in p ps))
put_passes q p [] h k = and_both (q p) true h refl
put_passes q p (x ∷ ps) h k =
    elim (nat_le p.entry.stamp x.entry.stamp) as (λ b. IsTrue (list_all q (cond b (p ∷ x ∷ ps) (x ∷ put_in p ps)))) [
      | true ↦ and_both (q p) _ h k
      | false ↦ and_both (q x) _ (and_left (q x) _ k) (put_passes q p ps h (and_right (q x) _ k))
    ]

sorted_passes : (q : Paired → Bool) (ps : List Paired) → IsTrue (list_all q ps) → IsTrue (list_all q (sorted ps))
sorted_passes q [] h = refl
sorted_passes q (p ∷ ps) h = put_passes q p (sorted ps) (and_left (q p) _ h) (sorted_passes q ps (and_right (q p) _ h))

-- no stamp of an agent's earlier entries is greater than those of the histories
pub earlier_up_to : (a t : ℕ) (histories : ℕ → List Entry) → ((n : ℕ) → AreUpTo t (histories n)) → IsTrue (list_all (λ (p : Paired). nat_le p.entry.stamp t) (earlier_in a histories))
unfolding earlier_in
earlier_up_to a t histories h =
    sorted_passes (λ p. nat_le p.entry.stamp t) _
    (kept (λ p. p.entry.agent.0 == a) (λ p. nat_le p.entry.stamp t) (flat_map (λ n. pairs_of [] (histories n)) (upto object_count))
    (each_passes (λ p. nat_le p.entry.stamp t) (λ n. pairs_of [] (histories n)) (upto object_count)
    (λ n. subst IsTrue (sym (pairs_same (λ e. nat_le e.stamp t) [] (histories n))) (h n))))
