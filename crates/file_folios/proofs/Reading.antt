-- A range of bytes read from slots, one index after the other.
use Rattle.std.proofs.Common.{◌≡◌, ℕ, ◌+◌, ◌-◌, ◌*◌, ◌/◌, ◌%◌, ◌<◌, ◌≤◌, min, List, ◌++◌, length, take, drop, ap, sym, subst, ◌∙◌, arith, append_assoc, get_or}
use Rattle.std.specs.Prelude.{Option, None, Some}
use Rattle.std.specs.Option.{MatchOption}
use Rattle.std.proofs.lemmas.List.{append-nil, drop-drop, get_or_default}
use Rattle.ho_base.specs.declared.numbers.Order.{Order}
use Rattle.phys_frames.specs.Homes.{HomeId}
use Rattle.phys_frames.specs.Memory.{FolioValue}
use Rattle.file_folios.specs.Slots.{slot_at, slot_bytes, all_bytes, IsSlot, AreSlots}
use Rattle.file_folios.proofs.Lists.{next_range}
use Rattle.file_folios.proofs.Division.{place_is, at_within, index_below}
use Rattle.file_folios.proofs.SlotBytes.{range_bytes}

-- the first of the bytes of a range are read
pub record Reading (p off len : ℕ) (slots : List (Option FolioValue)) (before : List ℕ) (done : ℕ) (out : List ℕ) : Type 0 where
  pub within : done ≤ len
  pub items : out ≡ before ++ take done (drop off (all_bytes p slots))

module _ (p off len : ℕ) (slots : List (Option FolioValue)) (before : List ℕ) where
  pub read_none : Reading p off len slots before 0 before
  read_none = record { within = omega arith; items = sym (append-nil before) }

  pub read_all : (done : ℕ) (out : List ℕ) → Reading p off len slots before done out → len ≤ done → out ≡ before ++ take len (drop off (all_bytes p slots))
  read_all done out r h = r.items ∙ ap (λ n. before ++ take n (drop off (all_bytes p slots))) (same done r.within h)
    where
      same : (n : ℕ) → n ≤ len → len ≤ n → n ≡ len
      same n le ge = omega arith

  module _ (home : HomeId) (order : Order) (done k : ℕ) (out : List ℕ) (some : 0 < p) (h : AreSlots home order p slots) (r : Reading p off len slots before done out) (fits : off + len ≤ length slots * p) (more : done < len) (is : k ≡ min (p - (off + done) % p) (len - done)) where
    abbrev n : ℕ
    n = off + done

    pub read_index : n / p < length slots
    read_index = index_below n (length slots) p some (omega arith)

    k_fits : n % p + k ≤ p
    k_fits = omega (arith, at_within n p some)

    of_slot : (slot : Option FolioValue) → IsSlot home order p slot → MatchOption slot (n % p + k ≤ p) (λ f. n % p + k ≤ length f.bytes)
    of_slot None s = k_fits
    of_slot (Some f) s = omega (arith, s.long, k_fits)

    module _ (d slot : Option FolioValue) (at : slot ≡ get_or slots (n / p) d) where
      slot_is : slot ≡ slot_at slots (n / p)
      slot_is = at ∙ get_or_default slots (n / p) d None read_index

      pub read_fits : MatchOption slot (n % p + k ≤ p) (λ f. n % p + k ≤ length f.bytes)
      read_fits = subst (λ s. MatchOption s (n % p + k ≤ p) (λ f. n % p + k ≤ length f.bytes)) (sym slot_is) (of_slot (slot_at slots (n / p)) (h.at (n / p)))

      pub read_more : (next : List ℕ) → next ≡ out ++ take k (drop (n % p) (slot_bytes p slot)) → Reading p off len slots before (done + k) next
      read_more next e = record {
        within = omega arith;
        items = e ∙ ap (λ o. o ++ take k (drop (n % p) (slot_bytes p slot))) r.items
            ∙ ap (λ s. (before ++ take done (drop off (all_bytes p slots))) ++ take k (drop (n % p) (slot_bytes p s))) slot_is
            ∙ ap (λ x. (before ++ take done (drop off (all_bytes p slots))) ++ x) (sym (range_bytes home order p slots (n / p) (n % p) k h read_index k_fits))
            ∙ ap (λ m. (before ++ take done (drop off (all_bytes p slots))) ++ take k (drop m (all_bytes p slots))) (place_is n p)
            ∙ ap (λ x. (before ++ take done (drop off (all_bytes p slots))) ++ take k x) (sym (drop-drop done off (all_bytes p slots)))
            ∙ append_assoc before (take done (drop off (all_bytes p slots))) (take k (drop done (drop off (all_bytes p slots))))
            ∙ ap (λ x. before ++ x) (next_range (drop off (all_bytes p slots)) done k);
      }
