-- The tests of a chunk frame one after another.
use Rattle.std.proofs.Common.{◌≡◌, ℕ, Bool, true, false, cond, List, drop, Option, Some, None, refl, sym, ap, ◌∙◌}
use Rattle.std.specs.Prelude.{not, ◌&&◌, nat_eq}
use Rattle.std.specs.List.{list_any}
use Rattle.ho_base.specs.Bytes.{u64_at}
use Rattle.folio_bitmaps.specs.Chunks.{Element}
use Rattle.record_frames.specs.Ram.{Ram, is_frame}
use Rattle.record_frames.specs.Reading.{Front, items_at}
use Rattle.record_frames.specs.Slots.{kept_if}
use Rattle.kho_records.specs.Fronts.{rise_behind, element_kept, has_head, front_with, chunk_front_at}
use Rattle.kho_records.specs.declared.chain.order.ElementPlace.{ElementPlace}

module _ (ram : Ram) (last : Option ElementPlace) (seen : List ℕ) (at : ℕ) where
  abbrev front : Option (Front Element)
  front = front_with (u64_at (ram.page at) 0) (kept_if (rise_behind last) (items_at 528 (element_kept ram.count) (u64_at (ram.page at) 8) (drop 32 (ram.page at))))

  steps : chunk_front_at ram last seen at ≡ cond (is_frame ram.count at && not (list_any (nat_eq at) seen) && has_head (ram.page at)) front None
  unfolding chunk_front_at
  steps = refl

  pub no_frame : is_frame ram.count at ≡ false → chunk_front_at ram last seen at ≡ None
  no_frame h = steps ∙ ap (λ (b : Bool). cond (b && not (list_any (nat_eq at) seen) && has_head (ram.page at)) front None) h

  pub was_read : is_frame ram.count at ≡ true → list_any (nat_eq at) seen ≡ true → chunk_front_at ram last seen at ≡ None
  was_read h r =
      steps ∙ ap (λ (b : Bool). cond (b && not (list_any (nat_eq at) seen) && has_head (ram.page at)) front None) h
      ∙ ap (λ (b : Bool). cond (true && not b && has_head (ram.page at)) front None) r

  pub no_head : is_frame ram.count at ≡ true → list_any (nat_eq at) seen ≡ false → has_head (ram.page at) ≡ false → chunk_front_at ram last seen at ≡ None
  no_head h r z =
      steps ∙ ap (λ (b : Bool). cond (b && not (list_any (nat_eq at) seen) && has_head (ram.page at)) front None) h
      ∙ ap (λ (b : Bool). cond (true && not b && has_head (ram.page at)) front None) r ∙ ap (λ (b : Bool). cond b front None) z

  with_elements : is_frame ram.count at ≡ true → list_any (nat_eq at) seen ≡ false → has_head (ram.page at) ≡ true → chunk_front_at ram last seen at ≡ front
  with_elements h r z =
      steps ∙ ap (λ (b : Bool). cond (b && not (list_any (nat_eq at) seen) && has_head (ram.page at)) front None) h
      ∙ ap (λ (b : Bool). cond (true && not b && has_head (ram.page at)) front None) r ∙ ap (λ (b : Bool). cond b front None) z

-- what is read of a chunk frame that keeps the tests of its head
pub front_from : (ram : Ram) (last : Option ElementPlace) (seen : List ℕ) (at next k n : ℕ) (page rest : List ℕ) (o : Option (List Element)) → is_frame ram.count at ≡ true
    → list_any (nat_eq at) seen ≡ false → page ≡ ram.page at → has_head page ≡ true → next ≡ u64_at page 0 → k ≡ u64_at page 8 → rest ≡ drop 32 page → n ≡ ram.count
    → items_at 528 (element_kept n) k rest ≡ o → chunk_front_at ram last seen at ≡ front_with next (kept_if (rise_behind last) o)
front_from ram last seen at next k n page rest o frame unread is_page head is_next is_k is_rest is_n e =
    let next_at : next ≡ u64_at (ram.page at) 0 = is_next ∙ ap (λ (l : List ℕ). u64_at l 0) is_page in
    let k_at : k ≡ u64_at (ram.page at) 8 = is_k ∙ ap (λ (l : List ℕ). u64_at l 8) is_page in
    let rest_at : rest ≡ drop 32 (ram.page at) = is_rest ∙ ap (λ (l : List ℕ). drop 32 l) is_page in
    with_elements ram last seen at frame unread (ap has_head (sym is_page) ∙ head)
    ∙ ap (λ (x : ℕ). front_with x (kept_if (rise_behind last) (items_at 528 (element_kept ram.count) (u64_at (ram.page at) 8) (drop 32 (ram.page at))))) (sym next_at)
    ∙ ap (λ (x : ℕ). front_with next (kept_if (rise_behind last) (items_at 528 (element_kept ram.count) x (drop 32 (ram.page at))))) (sym k_at)
    ∙ ap (λ (l : List ℕ). front_with next (kept_if (rise_behind last) (items_at 528 (element_kept ram.count) k l))) (sym rest_at)
    ∙ ap (λ (x : ℕ). front_with next (kept_if (rise_behind last) (items_at 528 (element_kept x) k rest))) (sym is_n)
    ∙ ap (λ (p : Option (List Element)). front_with next (kept_if (rise_behind last) p)) e

pub rise_kept : (last : Option ElementPlace) (xs : List Element) (b : Bool) → rise_behind last xs ≡ b → kept_if (rise_behind last) (Some xs) ≡ cond b (Some xs) None
rise_kept last xs b h = ap (λ (t : Bool). cond t (Some xs) None) h
