-- Folios of one home and order: those of taken runs, and those that a file gives up.
use Rattle.std.proofs.Common.{◌≡◌, ℕ, ◌*◌, ◌^◌, List, [], ◌∷◌, length, map, replicate, refl, ap, sym, subst, ◌∙◌}
use Rattle.std.proofs.Math.Nat.{mul_comm}
use Rattle.std.specs.FinMap as finmap
use Rattle.std.specs.List.{All, AllByRecursion}
use Rattle.std.proofs.lemmas.List.{length-replicate}
use Rattle.std.proofs.lemmas.List.Elements.{All-from_recursion}
use Rattle.ho_base.specs.declared.limits.TheConstants.{PAGE_BYTES}
use Rattle.ho_base.specs.declared.numbers.Order.{Order}
use Rattle.ho_base.specs.declared.numbers.Pfn.{Pfn}
use Rattle.ho_events.specs.File.{FileState}
use Rattle.ho_events.specs.Lists.{firsts}
use Rattle.phys_frames.specs.Homes.{HomeId}
use Rattle.phys_frames.specs.Memory.{AreOf, FolioValue, first_frames}
use Rattle.pool_core.specs.PoolLending.{zeroed_run, zero_pages}
use Rattle.file_folios.specs.FileAnswers.{AreFillsOf, folio_at}

-- folios of one home, as the pool asks for them
as_recursion : (home : HomeId) → (folios : List FolioValue) → AreOf home folios → AllByRecursion (λ (f : FolioValue). f.home ≡ home) folios
as_recursion home [] h = tt
as_recursion home (f ∷ folios) h = (h.0, as_recursion home folios h.1)

pub all_of : (home : HomeId) → (folios : List FolioValue) → AreOf home folios → All (λ (f : FolioValue). f.home ≡ home) folios
all_of home folios h = All-from_recursion (λ (f : FolioValue). f.home ≡ home) folios (as_recursion home folios h)

-- ---- the folios of taken runs: they can fill holes, are of their home and order, and begin at their runs

blank_bytes : (o : Order) → zero_pages (2 ^ o.0) ≡ replicate (PAGE_BYTES * 2 ^ o.0) 0
unfolding zero_pages
blank_bytes o = ap (λ n. replicate n 0) (mul_comm (2 ^ o.0) PAGE_BYTES)

pub runs_fill : (home : HomeId) (o : Order) (runs : List Pfn) → AreFillsOf home o.0 (map (zeroed_run home o) runs)
unfolding zeroed_run
runs_fill home o [] = tt
runs_fill home o (r ∷ runs) = (
  record {
    fits = record {
      of_home = refl;
      of_order = refl;
      long = ap length (blank_bytes o) ∙ length-replicate (PAGE_BYTES * 2 ^ o.0) 0;
    };
    zeros = blank_bytes o;
  },
  runs_fill home o runs,
)

pub runs_of_home : (home : HomeId) (o : Order) (runs : List Pfn) → AreOf home (map (zeroed_run home o) runs)
unfolding zeroed_run
runs_of_home home o [] = tt
runs_of_home home o (r ∷ runs) = (refl, runs_of_home home o runs)

runs_order : (home : HomeId) (o : Order) (runs : List Pfn) → AllByRecursion (λ (f : FolioValue). f.order ≡ o) (map (zeroed_run home o) runs)
unfolding zeroed_run
runs_order home o [] = tt
runs_order home o (r ∷ runs) = (refl, runs_order home o runs)

pub runs_of_order : (home : HomeId) (o : Order) (runs : List Pfn) → All (λ (f : FolioValue). f.order ≡ o) (map (zeroed_run home o) runs)
runs_of_order home o runs = All-from_recursion (λ (f : FolioValue). f.order ≡ o) _ (runs_order home o runs)

pub runs_begin : (home : HomeId) (o : Order) (runs : List Pfn) → first_frames (map (zeroed_run home o) runs) ≡ runs
unfolding zeroed_run
runs_begin home o [] = refl
runs_begin home o (r ∷ runs) = ap (λ rs. r ∷ rs) (runs_begin home o runs)

-- ---- folios of a file, at some of its runs

abbrev pub at_runs : FileState → HomeId → List (ℕ × ℕ) → List FolioValue
at_runs f home es = map (λ run. folio_at f home run) es

pub at_runs_home : (f : FileState) (home : HomeId) (es : List (ℕ × ℕ)) → AreOf home (at_runs f home es)
at_runs_home f home [] = tt
at_runs_home f home (e ∷ es) = (refl, at_runs_home f home es)

at_runs_recursion : (f : FileState) (home : HomeId) (o : Order) (es : List (ℕ × ℕ)) → f.order ≡ o.0 → AllByRecursion (λ (x : FolioValue). x.order ≡ o) (at_runs f home es)
at_runs_recursion f home o [] same = tt
at_runs_recursion f home o (e ∷ es) same = (λ i. record { 0 = same i }, at_runs_recursion f home o es same)

pub at_runs_order : (f : FileState) (home : HomeId) (o : Order) (es : List (ℕ × ℕ)) → f.order ≡ o.0 → All (λ (x : FolioValue). x.order ≡ o) (at_runs f home es)
at_runs_order f home o es same = All-from_recursion (λ (x : FolioValue). x.order ≡ o) _ (at_runs_recursion f home o es same)

-- they begin at runs whose first frames are the entries'
pub at_runs_begin : (f : FileState) (home : HomeId) (es : List (ℕ × ℕ)) (runs : List Pfn) → firsts runs ≡ map (λ e. e.1) es → first_frames (at_runs f home es) ≡ runs
at_runs_begin f home [] [] same = refl
at_runs_begin f home [] (r ∷ runs) same = absurd cc
at_runs_begin f home (e ∷ es) [] same = absurd cc
at_runs_begin f home (e ∷ es) (r ∷ runs) same =
    λ i. record { 0 = sym (head_same same) i } ∷ at_runs_begin f home es runs (tail_same same) i
  where
    head_same : {x y : ℕ} {xs ys : List ℕ} → x ∷ xs ≡ y ∷ ys → x ≡ y
    head_same h = cc

    tail_same : {x y : ℕ} {xs ys : List ℕ} → x ∷ xs ≡ y ∷ ys → xs ≡ ys
    tail_same h = cc
