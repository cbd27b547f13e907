-- Bytes written over slots, one index after the other.
use Rattle.std.proofs.Common.{◌≡◌, ℕ, ◌+◌, ◌-◌, ◌*◌, ◌/◌, ◌%◌, ◌<◌, ◌≤◌, min, true, false, not, is_some, List, ◌++◌, length, take, drop, refl, ap, sym, subst, ◌∙◌, arith}
use Rattle.std.specs.Prelude.{Option, None, Some, option_map, slice_set}
use Rattle.std.specs.Option.{MatchOption}
use Rattle.std.specs.FinMap as finmap
use Rattle.std.proofs.lemmas.List.{length-take, length-drop, length-set, take_all}
use Rattle.ho_base.specs.declared.numbers.Order.{Order}
use Rattle.phys_frames.specs.Homes.{HomeId}
use Rattle.phys_frames.specs.Memory.{FolioValue, written, with_bytes}
use Rattle.ho_events.specs.Lists.{pieces}
use Rattle.file_folios.specs.Slots.{slot_at, is_hole, all_bytes, runs_in, IsPiece, IsSlot, AreSlots}
use Rattle.file_folios.proofs.Lists.{written_none, written_on, written_long, next_range}
use Rattle.file_folios.proofs.Division.{place_is, at_within, index_below, index_from, index_piece}
use Rattle.file_folios.proofs.SlotBytes.{all_length, put_bytes, put_slots}
use Rattle.file_folios.proofs.SlotRuns.{hole_is, set_same_run}

-- the first of some bytes are written
pub record Writing (home : HomeId) (order : Order) (p off : ℕ) (bytes : List ℕ) (old : List (Option FolioValue)) (done : ℕ) (now : List (Option FolioValue)) : Type 0 where
  pub within : done ≤ length bytes
  pub slots : AreSlots home order p now
  pub all : all_bytes p now ≡ written (all_bytes p old) off (take done bytes)
  pub runs : runs_in now ≡ runs_in old
  pub count : length now ≡ length old

-- the indexes that a range touches have folios
abbrev pub AreThere : ℕ → ℕ → ℕ → List (Option FolioValue) → Type 0
AreThere p off len slots = (i : ℕ) → off / p ≤ i → i < pieces (off + len) p → is_hole slots i ≡ false

module _ (home : HomeId) (order : Order) (p off : ℕ) (bytes : List ℕ) (old : List (Option FolioValue)) where
  pub wrote_none : AreSlots home order p old → Writing home order p off bytes old 0 old
  wrote_none h = record { within = omega arith; slots = h; all = written_none (all_bytes p old) off; runs = refl; count = refl }

  module _ (done : ℕ) (now : List (Option FolioValue)) (some : 0 < p) (start : AreSlots home order p old) (w : Writing home order p off bytes old done now) (there : AreThere p off (length bytes) old) (fits : off + length bytes ≤ length old * p) (more : done < length bytes) where
    clash : true ≡ false → ⊥
    clash e = absurd cc

    abbrev n : ℕ
    n = off + done

    no_hole : is_hole now (n / p) ≡ false
    no_hole =
        sym (hole_is now (n / p)) ∙ ap (λ m. not (is_some (finmap.get m (n / p)))) w.runs ∙ hole_is old (n / p)
        ∙ there (n / p) (index_from off n p some (omega arith)) (index_piece n (off + length bytes) p some (omega arith))

    of_folio : (slot : Option FolioValue) → IsSlot home order p slot → not (is_some slot) ≡ false → (k : ℕ) → k ≤ p → MatchOption slot ⊥ (λ f. k ≤ length f.bytes)
    of_folio None h e k le = absurd cc
    of_folio (Some f) h e k le = omega (arith, h.long)

    pub put_there : (part : List ℕ) → n % p + length part ≤ p → MatchOption (slot_at now (n / p)) ⊥ (λ f. n % p + length part ≤ length f.bytes)
    put_there part le = of_folio (slot_at now (n / p)) (w.slots.at (n / p)) no_hole (n % p + length part) le

    pub index_there : n / p < length now
    index_there = index_below n (length now) p some (omega (arith, w.count, ap (λ c. c * p) w.count))

    at_folio : (part : List ℕ) → n % p + length part ≤ p → (slot : Option FolioValue) → slot_at now (n / p) ≡ slot → part ≡ take (length part) (drop done bytes) →
        Writing home order p off bytes old (done + length part) (slice_set now (n / p) (option_map (λ f. with_bytes f (written f.bytes (n % p) part)) slot))
    at_folio part le None e is = absurd (clash (sym (ap (λ s. not (is_some s)) e) ∙ no_hole))
    at_folio part le (Some f) e is =
        let g : FolioValue = with_bytes f (written f.bytes (n % p) part) in
        let piece : IsPiece home order p f = subst (IsSlot home order p) e (w.slots.at (n / p)) in
        let long : n % p + length part ≤ length f.bytes = omega (arith, piece.long) in
        let fitting : IsPiece home order p g = record { of_home = piece.of_home; of_order = piece.of_order; long = written_long f.bytes (n % p) part long ∙ piece.long } in
        let whole : length part ≤ length bytes - done = omega (arith, ap length is ∙ length-take (length part) (drop done bytes), length-drop done bytes) in
        let front : length (take done bytes) ≡ done = length-take done bytes ∙ omega (arith, w.within) in
        let old_long : length (all_bytes p old) ≡ length old * p = all_length home order p old start in
        record {
          within = omega arith;
          slots = put_slots home order p now (n / p) g w.slots fitting;
          all = put_bytes home order p now (n / p) (n % p) f g part w.slots e refl le
              ∙ ap (λ k. written (all_bytes p now) k part) (place_is n p)
              ∙ ap (λ b. written b n part) w.all
              ∙ ap (λ k. written (written (all_bytes p old) off (take done bytes)) (off + k) part) (sym front)
              ∙ written_on (all_bytes p old) off (take done bytes) part (omega arith)
              ∙ ap (λ b. written (all_bytes p old) off (take done bytes ++ b)) is
              ∙ ap (written (all_bytes p old) off) (next_range bytes done (length part));
          runs = set_same_run now (n / p) f g e refl ∙ w.runs;
          count = length-set now (n / p) (Some g) ∙ w.count;
        }

    pub wrote_more : (part : List ℕ) → n % p + length part ≤ p → part ≡ take (length part) (drop done bytes) → (next : List (Option FolioValue)) →
        next ≡ slice_set now (n / p) (option_map (λ f. with_bytes f (written f.bytes (n % p) part)) (slot_at now (n / p))) →
        Writing home order p off bytes old (done + length part) next
    wrote_more part le is next e = subst (Writing home order p off bytes old (done + length part)) (sym e) (at_folio part le (slot_at now (n / p)) refl is)

    -- the part that is written next
    module _ (k : ℕ) (is : k ≡ min (p - n % p) (length bytes - done)) where
      abbrev part : List ℕ
      part = take ((done + k) - done) (drop done bytes)

      part_long : length part ≡ k
      part_long = omega (arith, length-take ((done + k) - done) (drop done bytes), length-drop done bytes)

      part_fits : n % p + length part ≤ p
      part_fits = omega (arith, part_long, at_within n p some)

      part_is : part ≡ take (length part) (drop done bytes)
      part_is = ap (λ m. take m (drop done bytes)) (omega (arith, part_long))

      pub next_there : MatchOption (slot_at now (n / p)) ⊥ (λ f. n % p + length part ≤ length f.bytes)
      next_there = put_there part part_fits

      pub next_more : (next : List (Option FolioValue)) →
          next ≡ slice_set now (n / p) (option_map (λ f. with_bytes f (written f.bytes (n % p) part)) (slot_at now (n / p))) →
          Writing home order p off bytes old (done + k) next
      next_more next e = subst (λ m. Writing home order p off bytes old (done + m) next) part_long (wrote_more part part_fits part_is next e)

  pub wrote_all : (done : ℕ) (now : List (Option FolioValue)) → Writing home order p off bytes old done now → length bytes ≤ done → all_bytes p now ≡ written (all_bytes p old) off bytes
  wrote_all done now w h = w.all ∙ ap (written (all_bytes p old) off) (take_all done bytes h)
