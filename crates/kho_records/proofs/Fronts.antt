-- A chunk frame as the program reads it is one of the chain.
use Rattle.std.proofs.Common.{◌≡◌, ℕ, Bool, true, false, cond, List, ◌++◌, length, take, drop, Option, Some, None, refl, sym, ap, ◌∙◌}
use Rattle.std.specs.Prelude.{not, ◌&&◌, nat_lt, nat_le, nat_eq}
use Rattle.std.specs.List.{list_all, list_any}
use Rattle.ho_base.specs.Bytes.{u64_at}
use Rattle.folio_bitmaps.specs.Chunks.{Element}
use Rattle.record_frames.specs.Ram.{Ram, is_frame}
use Rattle.record_frames.specs.Sheets.{Sheet, items_of, numbers_of}
use Rattle.record_frames.specs.Rules.{ELEMENTS, all_rise, element_before, is_element, is_chunk_sheet}
use Rattle.record_frames.specs.Reading.{Front, also, are_zero, items_at, element_at, chunk_layout, front_at, sheet_at}
use Rattle.record_frames.specs.Slots.{kept_if}
use Rattle.record_frames.proofs.OneSheet.{kept_items, items_long, cond_none}
use Rattle.kho_records.specs.Fronts.{rise_behind, last_place, element_kept, has_head, front_with, chunk_front_at}
use Rattle.kho_records.specs.declared.chain.order.ElementPlace.{ElementPlace}
use Rattle.kho_records.proofs.Rising.{rise_behind_all}

-- what the tests of a frame with some elements come to, in the two orders in which they are made
tests : (fresh few zeros some each rise : Bool) (next : ℕ) (xs : List Element)
    → cond fresh (cond (few && zeros) (cond (some && few && each && rise) (Some (record { next = next; items = xs })) None) None) None
    ≡ cond (fresh && (some && few && zeros)) (front_with next (kept_if (λ x. rise) (cond each (Some xs) None))) None
tests false few zeros some each rise next xs = refl
tests true false zeros true each rise next xs = refl
tests true false zeros false each rise next xs = refl
tests true true false true each rise next xs = refl
tests true true false false each rise next xs = refl
tests true true true false each rise next xs = refl
tests true true true true false rise next xs = refl
tests true true true true true true next xs = refl
tests true true true true true false next xs = refl

also_cond : (b : Bool) (f : Front Element) (g : Front Element → Option (Front Element)) → also (cond b (Some f) None) g ≡ cond b (g f) None
also_cond true f g = refl
also_cond false f g = refl

kept_same : (xs : List Element) (last : Option ElementPlace) (b : Bool) → kept_if (rise_behind last) (cond b (Some xs) None) ≡ kept_if (λ x. rise_behind last xs) (cond b (Some xs) None)
kept_same xs last true = refl
kept_same xs last false = refl

abbrev a_chunk : ℕ → ℕ → Bool → Bool → Bool
a_chunk n long each rise = nat_lt 0 long && nat_le long ELEMENTS && each && rise

module _ (ram : Ram) (last : Option ElementPlace) (seen : List ℕ) (earlier : List (Sheet Element)) (at : ℕ) where
  abbrev k : ℕ
  k = u64_at (ram.page at) 8

  abbrev next : ℕ
  next = u64_at (ram.page at) 0

  abbrev elements : Option (List Element)
  elements = items_at 528 element_at k (drop 32 (ram.page at))

  abbrev fresh : Bool
  fresh = is_frame ram.count at && not (list_any (nat_eq at) (seen ++ numbers_of earlier))

  abbrev zeros : Bool
  zeros = are_zero (take 16 (drop 16 (ram.page at)))

  abbrev each : List Element → Bool
  each xs = list_all (is_element ram.count) xs

  abbrev tested : Front Element → Option (Front Element)
  tested f = cond (a_chunk ram.count (length f.items) (each f.items) (all_rise element_before (items_of earlier ++ f.items))) (Some f) None

  abbrev inside : Option (List Element) → Option (Front Element)
  inside o = cond fresh (also (cond (nat_le k ELEMENTS && zeros) (also o (λ xs. Some (record { next = next; items = xs }))) None) tested) None

  abbrev kept : Option (List Element) → Option (Front Element)
  kept o = cond (fresh && has_head (ram.page at)) (front_with next (kept_if (rise_behind last) (kept_if each o))) None

  left : sheet_at ram chunk_layout (is_chunk_sheet ram.count) seen earlier at ≡ inside elements
  unfolding sheet_at front_at
  left = refl

  reads : chunk_front_at ram last (seen ++ numbers_of earlier) at
      ≡ cond (fresh && has_head (ram.page at))
      (front_with next (kept_if (rise_behind last) (items_at 528 (λ b. kept_if (is_element ram.count) (element_at b)) k (drop 32 (ram.page at))))) None
  unfolding chunk_front_at element_kept
  reads = refl

  right : chunk_front_at ram last (seen ++ numbers_of earlier) at ≡ kept elements
  right =
      reads
      ∙ ap (λ (o : Option (List Element)). cond (fresh && has_head (ram.page at)) (front_with next (kept_if (rise_behind last) o)) None)
      (kept_items 528 element_at (is_element ram.count) k (drop 32 (ram.page at)))

  at_elements : (o : Option (List Element)) → elements ≡ o → last ≡ last_place None (items_of earlier) → rise_behind None (items_of earlier) ≡ true → inside o ≡ kept o
  at_elements None e is h =
      ap (λ (p : Option (Front Element)). cond fresh (also p tested) None) (cond_none (nat_le k ELEMENTS && zeros))
      ∙ cond_none fresh ∙ sym (cond_none (fresh && has_head (ram.page at)))
  at_elements (Some xs) e is h =
      let f : Front Element = record { next = next; items = xs } in
      let few : Bool = nat_le k ELEMENTS in
      ap (λ (p : Option (Front Element)). cond fresh p None) (also_cond (few && zeros) f tested)
      ∙ ap (λ (n : ℕ). cond fresh (cond (few && zeros) (cond (a_chunk ram.count n (each xs) (all_rise element_before (items_of earlier ++ xs))) (Some f) None) None) None)
      (items_long 528 element_at k (drop 32 (ram.page at)) xs e)
      ∙ ap (λ (b : Bool). cond fresh (cond (few && zeros) (cond (a_chunk ram.count k (each xs) b) (Some f) None) None) None)
      (rise_behind_all last (items_of earlier) xs is h)
      ∙ tests fresh few zeros (nat_lt 0 k) (each xs) (rise_behind last xs) next xs
      ∙ sym (ap (λ (p : Option (List Element)). cond (fresh && has_head (ram.page at)) (front_with next p) None) (kept_same xs last (each xs)))

  -- behind sheets whose elements rise up to the place `last`, the narrower reading of a chunk frame is that of the chain
  pub front_of_chain : last ≡ last_place None (items_of earlier) → rise_behind None (items_of earlier) ≡ true
      → sheet_at ram chunk_layout (is_chunk_sheet ram.count) seen earlier at ≡ chunk_front_at ram last (seen ++ numbers_of earlier) at
  front_of_chain is h = left ∙ at_elements elements refl is h ∙ sym right
