-- Runs that are lent one after the other.
use Rattle.std.proofs.Common.{◌≡◌, ℕ, ◌+◌, ◌*◌, ◌^◌, List, [], ◌∷◌, ◌++◌, map, length, replicate, refl, ap, sym, ◌∙◌, arith, subst, append_assoc}
use Rattle.std.specs.List.{All}
use Rattle.std.proofs.lemmas.List.Elements.{All-map}
use Rattle.ho_base.specs.declared.numbers.Pfn.{Pfn}
use Rattle.ho_base.specs.declared.numbers.Order.{Order}
use Rattle.ho_base.specs.declared.limits.TheConstants.{PAGE_BYTES}
use Rattle.phys_frames.specs.Homes.{HomeId}
use Rattle.phys_frames.specs.Memory.{FolioValue, frames_in, with_bytes, zeroed, zero_page}
use Rattle.pool_core.specs.PoolTags.{TableValue, with_tag, with_tags, CanLend, EachCanLend}
use Rattle.pool_core.specs.PoolLending.{zero_pages, zeroed_run}

abbrev folio_by : Pfn → Order → List ℕ → HomeId → FolioValue
folio_by first order bytes home = record { first = first; order = order; bytes = bytes; home = home }

-- a folio whose bytes were made zero
pub zeroed_is : (f : FolioValue) (p : Pfn) (o : Order) (home : HomeId) → f.first ≡ p → f.order ≡ o → f.home ≡ home → length f.bytes ≡ frames_in o * PAGE_BYTES → with_bytes f (replicate (length f.bytes) 0) ≡ zeroed_run home o p
unfolding zeroed_run zero_pages
zeroed_is f p o home first order at len =
    ap (λ a. folio_by a f.order (replicate (length f.bytes) 0) f.home) first
    ∙ ap (λ x. folio_by p x (replicate (length f.bytes) 0) f.home) order
    ∙ ap (λ n. folio_by p o (replicate n 0) f.home) len
    ∙ ap (folio_by p o (replicate (2 ^ o.0 * PAGE_BYTES) 0)) at

-- a run of order 0 is one frame of zeros
pub zeroed_one : (home : HomeId) (p : Pfn) → zeroed_run home (record { 0 = 0 }) p ≡ zeroed home p
unfolding zeroed_run zero_pages zero_page
zeroed_one home p = refl

pub lent_step : (n : ℕ) (t u : TableValue) (r : Pfn) (rest left : List Pfn) → u ≡ with_tag t r.0 n → left ≡ r ∷ rest → with_tags n rest u ≡ with_tags n left t
unfolding with_tags
lent_step n t u r rest left is so = ap (with_tags n rest) is ∙ ap (λ l. with_tags n l t) (sym so)

pub lent_end : (n : ℕ) (t : TableValue) (runs : List Pfn) → length runs ≡ 0 → with_tags n runs t ≡ t
unfolding with_tags
lent_end n t [] h = refl
lent_end n t (r ∷ runs) h = absurd (omega arith)

pub out_step : (n : ℕ) (o : Order) (t u : TableValue) (out more : List FolioValue) (f : FolioValue) (r : Pfn) (rest left : List Pfn) → u ≡ with_tag t r.0 n → f ≡ zeroed_run t.home o r → more ≡ out ++ f ∷ [] → left ≡ r ∷ rest → more ++ map (zeroed_run u.home o) rest ≡ out ++ map (zeroed_run t.home o) left
out_step n o t u out more f r rest left is folio pushed so =
    ap (λ v. more ++ map (zeroed_run v.home o) rest) is
    ∙ (ap (λ l. l ++ map (zeroed_run t.home o) rest) pushed
    ∙ (append_assoc out (f ∷ []) (map (zeroed_run t.home o) rest)
    ∙ (ap (λ g. out ++ g ∷ map (zeroed_run t.home o) rest) folio ∙ ap (λ l. out ++ map (zeroed_run t.home o) l) (sym so))))

pub first_lends : (t : TableValue) (o : ℕ) (r : Pfn) (rest left : List Pfn) → left ≡ r ∷ rest → EachCanLend t o left → CanLend t o r.0
unfolding EachCanLend
first_lends t o r rest left so h = (subst (EachCanLend t o) so h).0

pub rest_lends : (t u : TableValue) (o : ℕ) (r : Pfn) (rest left : List Pfn) → u ≡ with_tag t r.0 (o + 1) → left ≡ r ∷ rest → EachCanLend t o left → EachCanLend u o rest
unfolding EachCanLend
rest_lends t u o r rest left is so h = subst (λ x. EachCanLend x o rest) (sym is) (subst (EachCanLend t o) so h).1

-- folios that were taken are of the home and the order that they were taken of
pub zeroed_at_home : (home : HomeId) (o : Order) (runs : List Pfn) (folios : List FolioValue) → folios ≡ map (zeroed_run home o) runs → All (λ f. f.home ≡ home) folios
unfolding zeroed_run
zeroed_at_home home o runs folios so = subst (All (λ f. f.home ≡ home)) (sym so) (All-map (λ f. f.home ≡ home) (zeroed_run home o) runs (λ k d h. refl))

pub zeroed_of_order : (home : HomeId) (o : Order) (runs : List Pfn) (folios : List FolioValue) → folios ≡ map (zeroed_run home o) runs → All (λ f. f.order ≡ o) folios
unfolding zeroed_run
zeroed_of_order home o runs folios so = subst (All (λ f. f.order ≡ o)) (sym so) (All-map (λ f. f.order ≡ o) (zeroed_run home o) runs (λ k d h. refl))
