-- The frames that no owned run holds stay home when a run is lent, and when a folio comes back.
use Rattle.std.proofs.Common.{◌≡◌, ℕ, ◌+◌, ◌^◌, ◌<◌, ◌≤◌, ◌⊎◌, List, length, get_or, set, sym, ◌∙◌, arith, subst, inl, inr, ⊎_elim}
use Rattle.std.specs.Prelude.{Option, None, Some}
use Rattle.std.specs.Option.{IsSome}
use Rattle.std.proofs.lemmas.Bool.{cases_lt, false≢true}
use Rattle.std.proofs.lemmas.List.{length-set, get_or_default}
use Rattle.std.proofs.lemmas.Nat.{pow_pos}
use Rattle.ho_base.specs.ShapeRule.{Layout}
use Rattle.ho_base.specs.declared.numbers.Pfn.{Pfn}
use Rattle.ho_base.specs.declared.numbers.Order.{Order}
use Rattle.phys_frames.specs.Homes.{HomeId}
use Rattle.phys_frames.specs.Memory.{Memory, FolioValue, page_at, InRun, RunHome, RunOut, without_run, with_folio}
use Rattle.phys_frames.proofs.Homes.{taken_count, given_count}
use Rattle.pool_core.specs.PoolTags.{is_held, KeepsHome, CanLend}
use Rattle.pool_core.proofs.PoolHeld.{none_false, held_kept, held_now, held_still}

abbrev frame : ℕ → Pfn
frame q = record { 0 = q }

-- a frame of the run, or another one
pub cases_run : (p q n : ℕ) → ((p ≤ q) × (q < p + n)) ⊎ ((q < p) ⊎ (p + n ≤ q))
cases_run p q n =
    ⊎_elim (λ (l : q < p). inr (inl l))
    (λ (l : p ≤ q). ⊎_elim (λ (m : q < p + n). inl (l, m)) (λ (m : p + n ≤ q). inr (inr m)) (cases_lt q (p + n)))
    (cases_lt q p)

not_in : (p q n : ℕ) → (q < p) ⊎ (p + n ≤ q) → (p ≤ q) × (q < p + n) → ⊥
not_in p q n (inl l) h = omega (arith, h.0)
not_in p q n (inr l) h = omega (arith, h.1)

-- a frame that is out isn't home
out_not_home : (page : Option (List ℕ)) → page ≡ None → IsSome page → ⊥
out_not_home None out home = cc
out_not_home (Some bytes) out home = cc

-- a run that can be lent is home
pub can_lend_home : (shape : Layout) (m : Memory) (home : HomeId) (tags : List ℕ) (p : Pfn) (o : Order) → KeepsHome shape m tags → CanLend (record { shape = shape; home = home; tags = tags }) o.0 p.0 → RunHome m p o
can_lend_home shape m home tags p o k c = (
  omega (arith, c.within, k.pages),
  λ j d above below.
      let within : j < length m.pages = omega (arith, c.within, k.pages, below) in
      subst IsSome (get_or_default m.pages j None d within) (k.home j (omega (arith, c.within, below)) (c.each j above below)),
)

pub lent_keeps : (shape : Layout) (m n : Memory) (home : HomeId) (tags : List ℕ) (p : Pfn) (o : Order) → o.0 ≤ 9 → KeepsHome shape m tags → CanLend (record { shape = shape; home = home; tags = tags }) o.0 p.0 → n ≡ without_run m p o → ((q : Pfn) → ¬ (InRun p o q) → page_at (without_run m p o) q ≡ page_at m q) → KeepsHome shape n (set tags p.0 (o.0 + 1))
lent_keeps shape m n home tags p o small k c e others = subst (λ x. KeepsHome shape x (set tags p.0 (o.0 + 1))) (sym e) (record {
  pages = taken_count m p o (omega (arith, c.within, k.pages)) ∙ k.pages;
  places = k.places;
  len = length-set tags p.0 (o.0 + 1) ∙ k.len;
  home = λ q below free.
      ⊎_elim (λ (i : (p.0 ≤ q) × (q < p.0 + 2 ^ o.0)).
      absurd (false≢true (sym free ∙ held_now tags p.0 o.0 within c.blank q c.aligned (omega (arith, small)) i.0 i.1)))
      (λ (out : (q < p.0) ⊎ (p.0 + 2 ^ o.0 ≤ q)).
      subst IsSome (sym (others (frame q) (not_in p.0 q (2 ^ o.0) out)))
      (k.home q below (none_false (is_held tags q) (λ h. false≢true (sym free ∙ held_kept tags p.0 o.0 within c.blank q h)))))
      (cases_run p.0 q (2 ^ o.0));
})
  where
    within : p.0 < length tags
    within = omega (arith, c.within, k.len, pow_pos o.0)

pub back_keeps : (shape : Layout) (m n : Memory) (tags : List ℕ) (f : FolioValue) → KeepsHome shape m tags → get_or tags f.first.0 0 ≡ f.order.0 + 1 → n ≡ with_folio m f → RunOut m f.first f.order → RunHome (with_folio m f) f.first f.order → ((q : Pfn) → ¬ (InRun f.first f.order q) → page_at (with_folio m f) q ≡ page_at m q) → KeepsHome shape n (set tags f.first.0 0)
back_keeps shape m n tags f k owned e out home others = subst (λ x. KeepsHome shape x (set tags f.first.0 0)) (sym e) (record {
  pages = given_count m f out.0 ∙ k.pages;
  places = k.places;
  len = length-set tags f.first.0 0 ∙ k.len;
  home = λ q below free.
      ⊎_elim (λ (i : (f.first.0 ≤ q) × (q < f.first.0 + 2 ^ f.order.0)). home.1 q None i.0 i.1)
      (λ (beside : (q < f.first.0) ⊎ (f.first.0 + 2 ^ f.order.0 ≤ q)).
      subst IsSome (sym (others (frame q) (not_in f.first.0 q (2 ^ f.order.0) beside)))
      (k.home q below (none_false (is_held tags q) (λ h. false≢true (sym free ∙ held_still tags f.first.0 f.order.0 owned q beside h)))))
      (cases_run f.first.0 q (2 ^ f.order.0));
})

pub lodged_home : (shape : Layout) (m n : Memory) (tags : List ℕ) (f : FolioValue) → KeepsHome shape m tags → n ≡ with_folio m f → RunOut m f.first f.order → ((q : Pfn) → ¬ (InRun f.first f.order q) → page_at (with_folio m f) q ≡ page_at m q) → KeepsHome shape n tags
lodged_home shape m n tags f k e out others = subst (λ x. KeepsHome shape x tags) (sym e) (record {
  pages = given_count m f out.0 ∙ k.pages;
  places = k.places;
  len = k.len;
  home = λ q below free.
      let was : IsSome (page_at m (frame q)) = k.home q below free in
      subst IsSome (sym (others (frame q) (λ inside. out_not_home _ (out.1 q None inside.0 inside.1) was))) was;
})
