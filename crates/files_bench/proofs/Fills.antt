-- The folios of taken runs can fill holes.
use Rattle.std.proofs.Common.{◌≡◌, ℕ, ◌*◌, ◌^◌, List, [], ◌∷◌, ◌++◌, length, map, replicate, refl, ap, sym, subst, ◌∙◌}
use Rattle.std.specs.Prelude.{Option, Some}
use Rattle.std.specs.Option.{IsSome}
use Rattle.std.specs.List.{All}
use Rattle.std.proofs.Math.Nat.{mul_comm}
use Rattle.std.proofs.lemmas.List.{length-replicate}
use Rattle.std.proofs.lemmas.List.Elements.{All-replicate}
use Rattle.ho_base.specs.declared.limits.TheConstants.{PAGE_BYTES}
use Rattle.ho_base.specs.declared.numbers.Order.{Order}
use Rattle.ho_base.specs.declared.numbers.Pfn.{Pfn}
use Rattle.phys_frames.specs.Homes.{HomeId}
use Rattle.phys_frames.specs.Memory.{FolioValue, zero_page}
use Rattle.pool_core.specs.PoolLending.{zeroed_run, zero_pages}
use Rattle.file_folios.specs.FileAnswers.{AreFillsOf}

blank_bytes : (o : Order) → zero_pages (2 ^ o.0) ≡ replicate (PAGE_BYTES * 2 ^ o.0) 0
unfolding zero_pages
blank_bytes o = ap (λ n. replicate n 0) (mul_comm (2 ^ o.0) PAGE_BYTES)

runs_fill : (home : HomeId) (o : Order) (runs : List Pfn) → AreFillsOf home o.0 (map (zeroed_run home o) runs)
unfolding zeroed_run
runs_fill home o [] = tt
runs_fill home o (r ∷ runs) = (
  record {
    fits = record {
      of_home = refl;
      of_order = refl;
      long = ap length (blank_bytes o) ∙ length-replicate (PAGE_BYTES * 2 ^ o.0) 0;
    };
    zeros = blank_bytes o;
  },
  runs_fill home o runs,
)

-- the folios of runs that were taken into an empty list;  those of an empty list
pub taken_fill : (home : HomeId) (o : Order) (runs : List Pfn) (before after : List FolioValue) → before ≡ [] → after ≡ before ++ map (zeroed_run home o) runs → AreFillsOf home o.0 after
taken_fill home o runs before after empty is =
    subst (AreFillsOf home o.0) (sym (is ∙ ap (λ l. l ++ map (zeroed_run home o) runs) empty)) (runs_fill home o runs)

pub none_fill : (home : HomeId) (o : ℕ) (fills : List FolioValue) → fills ≡ [] → AreFillsOf home o fills
none_fill home o fills empty = subst (AreFillsOf home o) (sym empty) tt

-- new frames are home
pub new_home : (n : ℕ) (pages : List (Option (List ℕ))) → pages ≡ replicate n (Some zero_page) → All IsSome pages
new_home n pages is = subst (All IsSome) (sym is) (All-replicate IsSome n (Some zero_page) refl)
