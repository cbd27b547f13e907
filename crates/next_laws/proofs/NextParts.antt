-- What the objects of the next kernel are made of.
use Rattle.std.proofs.Common.{◌≡◌, ℕ, zero, suc, ◌+◌, false, List, [], ◌∷◌, ◌++◌, map, length, refl, sym, ap, ◌∙◌}
use Rattle.std.specs.Prelude.{Option, None, Some}
use Rattle.std.specs.List.{AllByRecursion, IsDistinct}
use Rattle.std.specs.Ordering.{nat_cmp, eq_by_cmp}
use Rattle.std.specs.Cmp.Lexicographic.{slice_cmp, texts_ties}
use Rattle.std.proofs.lemmas.Cmp.{nat_cmp_total, nat_list_cmp_total}
use Rattle.std.proofs.lemmas.Map.Keys.{IsDistinct-head, IsDistinct-tail}
use Rattle.std.specs.FinMap as finmap
use Rattle.std.specs.FinSet as finset
use Rattle.ho_base.specs.declared.limits.TheConstants.{OUT_SLOTS}
use Rattle.ho_base.specs.declared.numbers.Pfn.{Pfn}
use Rattle.ho_base.specs.declared.numbers.Order.{Order}
use Rattle.ho_events.specs.Lists.{same_bytes, upto}
use Rattle.ho_events.specs.Handler.{BoundState}
use Rattle.ho_events.specs.Pool.{own}
use Rattle.ho_events.specs.Registry.{Slots}
use Rattle.ho_events.specs.Session.{In, Listed}
use Rattle.ho_world.specs.Frozen.{CarriedFile, CarriedSession, carried_files, next_listed, next_waiting, numbers_below, own_files, own_bounds}
use Rattle.pool_core.specs.PoolAdopting.{owned_at}
use Rattle.registry_core.specs.Registries.{slotted_from}
use Rattle.session_core.specs.SessionShown.{listed}
use Rattle.next_laws.specs.Begins.{run_of, runs_with, all_runs, NoBounds, names_of, numbered, PoolIsNext, RegistryIsNext, SessionIsNext}
use Rattle.next_laws.proofs.Inserted.{put_all, Apart, from_entries_is, from_sorted_is}

-- ---- the pool

abbrev Owned : Type 0
Owned = finmap.FinMap nat_cmp ℕ

owned_both : (a b : List (Pfn × Order)) (m : Owned) → owned_at (a ++ b) m ≡ owned_at b (owned_at a m)
unfolding owned_at
owned_both [] b m = refl
owned_both (r ∷ a) b m = owned_both a b (finmap.insert m r.0.0 r.1.0)

owned_by : (order : ℕ) (ps : List ℕ) (m : Owned) → owned_at (map (run_of order) ps) m ≡ own order ps m
unfolding owned_at
owned_by order [] m = refl
owned_by order (p ∷ ps) m = owned_by order ps (finmap.insert m p order)

owned_files : (cs : List CarriedFile) (m : Owned) → owned_at (all_runs cs) m ≡ own_files cs m
unfolding owned_at
owned_files [] m = refl
owned_files (c ∷ cs) m =
    owned_both (runs_with c) (all_runs cs) m ∙ ap (owned_at (all_runs cs)) (owned_by c.order c.runs m) ∙ owned_files cs (own c.order c.runs m)

no_bounds : (bounds : List (Option BoundState)) (m : Owned) → NoBounds bounds → own_bounds bounds m ≡ m
no_bounds [] m h = refl
no_bounds (None ∷ bounds) m h = no_bounds bounds m h.1
no_bounds (Some b ∷ bounds) m h = absurd (let no = h.0 in cc)

pub pool_is_next : PoolIsNext
pool_is_next f none = λ j. record {
  shape = f.shape;
  owned = (owned_files (carried_files f) finmap.empty ∙ sym (no_bounds f.bounds (own_files (carried_files f) finmap.empty) none)) j;
  pinned = finset.empty;
}

-- ---- the registry

slots_put : (slot : ℕ) (ss : List CarriedSession) (m : Slots) → put_all (slotted_from slot (names_of ss)) m ≡ next_waiting slot ss m
slots_put slot [] m = refl
slots_put slot (s ∷ ss) m = slots_put (slot + 1) ss (finmap.insert m s.name slot)

all_apart : (slot : ℕ) (name : List ℕ) (names : List (List ℕ)) → AllByRecursion (λ y. same_bytes name y ≡ false) names
    → AllByRecursion (λ g. eq_by_cmp (slice_cmp nat_cmp) name g.0 ≡ false) (slotted_from slot names)
all_apart slot name [] h = tt
all_apart slot name (n ∷ names) h = (sym (texts_ties name n) ∙ h.0, all_apart (slot + 1) name names h.1)

names_apart : (slot : ℕ) (names : List (List ℕ)) → IsDistinct same_bytes names → Apart (slice_cmp nat_cmp) (slotted_from slot names)
names_apart slot [] h = tt
names_apart slot (n ∷ names) h =
    (all_apart (slot + 1) n names (IsDistinct-head same_bytes n names h), names_apart (slot + 1) names (IsDistinct-tail same_bytes n names h))

waiting_is : (ss : List CarriedSession) → IsDistinct same_bytes (names_of ss) → finmap.from_entries (slotted_from OUT_SLOTS (names_of ss)) ≡ next_waiting OUT_SLOTS ss finmap.empty
waiting_is ss apart =
    from_entries_is nat_list_cmp_total (finmap.slice_cmp-IsAntisymmetric finmap.nat_cmp-IsAntisymmetric) (slotted_from OUT_SLOTS (names_of ss)) (names_apart OUT_SLOTS (names_of ss) apart)
    ∙ slots_put OUT_SLOTS ss finmap.empty

abbrev Numbers : Type 0
Numbers = finset.FinSet nat_cmp

abbrev put_each : List ℕ → Numbers → Numbers
put_each [] set = set
put_each (x ∷ xs) set = put_each xs (finset.insert set x)

below_is : (n : ℕ) (set : Numbers) → numbers_below n set ≡ put_each (upto n) set
below_is n set = refl

put_last : (xs : List ℕ) (x : ℕ) (set : Numbers) → put_each (xs ++ x ∷ []) set ≡ finset.insert (put_each xs set) x
put_last [] x set = refl
put_last (y ∷ xs) x set = put_last xs x (finset.insert set y)

numbers_are : (n : ℕ) → finset.from_list (upto n) ≡ put_each (upto n) finset.empty
unfolding upto
numbers_are zero = refl
numbers_are (suc n) =
    finset.from_list_push nat_cmp_total finmap.nat_cmp-IsAntisymmetric (upto n) n ∙ ap (λ s. finset.insert s n) (numbers_are n)
    ∙ sym (put_last (upto n) n finset.empty)

pub registry_is_next : RegistryIsNext
registry_is_next f apart = λ j. record {
  outgoing = finmap.empty;
  waiting = waiting_is f.sessions apart j;
  opened = finmap.empty;
  files = (numbers_are (length (carried_files f)) ∙ sym (below_is (length (carried_files f)) finset.empty)) j;
}

-- ---- a session

files_put : (n : ℕ) (cs : List CarriedFile) (m : finmap.FinMap nat_cmp Listed) → put_all (map listed (numbered n cs)) m ≡ next_listed n cs m
files_put n [] m = refl
files_put n (c ∷ cs) m = files_put (n + 1) cs (finmap.insert m c.token (record { file = n; handle = c.handle; taken = false }))

pub session_is_next : SessionIsNext
session_is_next n name cs rise =
    ap (λ files. In name false files)
    (from_sorted_is nat_cmp_total finmap.nat_cmp-IsAntisymmetric (map listed (numbered n cs)) rise ∙ files_put n cs finmap.empty)
