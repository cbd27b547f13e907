-- The least frame that breaks the rule.
use Rattle.std.proofs.Common.{◌≡◌, ℕ, zero, suc, ◌+◌, ◌<◌, ◌≤◌, Bool, true, false, cond, List, length, map, Some, None, refl, sym, ap, ◌∙◌, ⊎_elim, arith}
use Rattle.std.specs.Prelude.{nat_eq, filter}
use Rattle.std.specs.List.{range_with_len}
use Rattle.std.proofs.lemmas.Bool.Decides.{eqb_tells}
use Rattle.ho_base.specs.ShapeRule.{Layout, holds}
use Rattle.ho_base.specs.declared.shape.Area.{Area}
use Rattle.folio_bitmaps.specs.Runs.{Run}
use Rattle.folio_bitmaps.specs.Chunks.{Element}
use Rattle.record_frames.specs.Kept.{Kept}
use Rattle.record_frames.specs.Sheets.{Sheet, items_of, numbers_of}
use Rattle.record_frames.specs.Owners.{users, users_at, unmarked_at, marked_at, run_holds, is_owned_well, first_ill}
use Rattle.kho_records.specs.declared.chain.sheet.ChunkSheet.{ChunkSheet}
use Rattle.kho_records.specs.Chunks.{chunk_views}
use Rattle.kho_records.specs.declared.owners.owned.UsedRun.{UsedRun}
use Rattle.kho_records.specs.declared.owners.owner.Owner.{Owner}
use Rattle.kho_records.specs.Owned.{run_view}
use Rattle.kho_records.specs.Owner.{owner_of, owner_at, marked_below, marked_owner, is_right}
use Rattle.kho_records.proofs.Rule.{rule_is, owner_is}

-- the rule for frame p by what the program keeps
unfoldable pub right_at : List UsedRun → List Area → List ChunkSheet → ℕ → Bool
right_at us areas chunks p = is_right p (owner_at us areas chunks p) (marked_owner (items_of (chunk_views chunks)) p)

-- the frames from 0 to p keep it
pub record AreRight (us : List UsedRun) (areas : List Area) (chunks : List ChunkSheet) (n : ℕ) : Type 0 where
  pub each : (p : ℕ) → p < n → right_at us areas chunks p ≡ true

well_by : (k : Kept) (p : ℕ) → is_owned_well k p ≡ is_right p (owner_of (users_at k p) (unmarked_at k p)) (owner_of (marked_below (items_of k.chain) p 10) 0)
unfolding marked_below
well_by k p = rule_is p (users_at k p) (unmarked_at k p) (marked_at k p)

well_at : (k : Kept) (shape : Layout) (us : List UsedRun) (chunks : List ChunkSheet) → k.shape ≡ shape → k.chain ≡ chunk_views chunks → users k ≡ map run_view us
    → (p : ℕ) → is_owned_well k p ≡ right_at us shape.scratch chunks p
unfolding right_at
well_at k shape us chunks is_shape is_chain is_users p =
    well_by k p
    ∙ ap (λ (rs : List Run). is_right p (owner_of (filter (run_holds p) rs) (unmarked_at k p)) (owner_of (marked_below (items_of k.chain) p 10) 0)) is_users
    ∙ ap (λ (l : Layout). is_right p (owner_of (filter (run_holds p) (map run_view us)) (length (filter (holds p) l.scratch) + length (filter (nat_eq p) (numbers_of k.chain)))) (owner_of (marked_below (items_of k.chain) p 10) 0)) is_shape
    ∙ ap (λ (c : List (Sheet Element)). is_right p (owner_of (filter (run_holds p) (map run_view us)) (length (filter (holds p) shape.scratch) + length (filter (nat_eq p) (numbers_of c)))) (owner_of (marked_below (items_of c) p 10) 0)) is_chain
    ∙ ap (λ (o : Owner). is_right p o (marked_owner (items_of (chunk_views chunks)) p)) (sym (owner_is us shape.scratch chunks p))

ill_none : (k : Kept) (a n : ℕ) → ((p : ℕ) → p < a + n → is_owned_well k p ≡ true) → first_ill k (range_with_len a n) ≡ None
ill_none k a zero h = refl
ill_none k a (suc n) h =
    ap (λ (b : Bool). cond b (first_ill k (range_with_len (a + 1) n)) (Some a)) (h a (omega arith)) ∙ ill_none k (a + 1) n (λ p lt. h p (omega arith))

ill_some : (k : Kept) (a n i : ℕ) → ((p : ℕ) → p < i → is_owned_well k p ≡ true) → is_owned_well k i ≡ false → a ≤ i → i < a + n → first_ill k (range_with_len a n) ≡ Some i
ill_some k a zero i h ill from to = absurd (omega arith)
ill_some k a (suc n) i h ill from to =
    ⊎_elim (λ y.
    ap (λ (b : Bool). cond b (first_ill k (range_with_len (a + 1) n)) (Some a)) (ap (is_owned_well k) y.1 ∙ ill) ∙ ap (λ (m : ℕ). Some m) y.1)
    (λ z.
    ap (λ (b : Bool). cond b (first_ill k (range_with_len (a + 1) n)) (Some a)) (h a (omega arith)) ∙ ill_some k (a + 1) n i h ill (omega arith) (omega arith))
    (eqb_tells a i)

module _ (k : Kept) (shape : Layout) (us : List UsedRun) (chunks : List ChunkSheet) (is_shape : k.shape ≡ shape) (is_chain : k.chain ≡ chunk_views chunks) (is_users : users k ≡ map run_view us) where
  pub found_none : (n i : ℕ) → AreRight us shape.scratch chunks i → n ≤ i → None ≡ first_ill k (range_with_len 0 n)
  found_none n i h le = sym (ill_none k 0 n (λ p lt. well_at k shape us chunks is_shape is_chain is_users p ∙ h.each p (omega arith)))

  pub found_some : (n i : ℕ) → AreRight us shape.scratch chunks i → i < n → right_at us shape.scratch chunks i ≡ false → Some i ≡ first_ill k (range_with_len 0 n)
  found_some n i h lt ill =
      sym (ill_some k 0 n i (λ p below. well_at k shape us chunks is_shape is_chain is_users p ∙ h.each p below) (well_at k shape us chunks is_shape is_chain is_users i ∙ ill) (omega arith) (omega arith))

-- what the program finds of a frame
pub right_is : (us : List UsedRun) (areas : List Area) (chunks : List ChunkSheet) (p : ℕ) (owner runs : Owner) (b c : Bool) → owner ≡ owner_at us areas chunks p
    → runs ≡ marked_owner (items_of (chunk_views chunks)) p → b ≡ is_right p owner runs → b ≡ c → right_at us areas chunks p ≡ c
unfolding right_at
right_is us areas chunks p owner runs b c is_owner is_runs is_b is_c =
    ap (λ (o : Owner). is_right p o (marked_owner (items_of (chunk_views chunks)) p)) (sym is_owner) ∙ ap (λ (o : Owner). is_right p owner o) (sym is_runs) ∙ sym is_b ∙ is_c

-- no frame, and one frame more
pub right_none : (us : List UsedRun) (areas : List Area) (chunks : List ChunkSheet) → AreRight us areas chunks 0
right_none us areas chunks = record { each = λ p lt. absurd (omega arith) }

pub right_more : (us : List UsedRun) (areas : List Area) (chunks : List ChunkSheet) (n : ℕ) → AreRight us areas chunks n → right_at us areas chunks n ≡ true → AreRight us areas chunks (n + 1)
right_more us areas chunks n h now =
    record { each = λ p lt. ⊎_elim (λ y. ap (right_at us areas chunks) y.1 ∙ now) (λ z. h.each p (omega arith)) (eqb_tells p n) }
