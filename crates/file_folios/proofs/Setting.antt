-- One byte put over a range of slots, one index after the other.
use Rattle.std.proofs.Common.{◌≡◌, ℕ, ◌+◌, ◌-◌, ◌*◌, ◌/◌, ◌%◌, ◌<◌, ◌≤◌, min, List, length, take, drop, replicate, ap, sym, subst, ◌∙◌, arith}
use Rattle.std.specs.Prelude.{Option, option_map, slice_set}
use Rattle.std.specs.Option.{MatchOption}
use Rattle.std.proofs.lemmas.List.{length-replicate, take-replicate, drop-replicate}
use Rattle.ho_base.specs.declared.numbers.Order.{Order}
use Rattle.phys_frames.specs.Homes.{HomeId}
use Rattle.phys_frames.specs.Memory.{FolioValue, written, with_bytes}
use Rattle.file_folios.specs.Slots.{slot_at, all_bytes, AreSlots}
use Rattle.file_folios.proofs.Division.{at_within}
use Rattle.file_folios.proofs.Writing.{Writing, AreThere, wrote_all, index_there, put_there, wrote_more}

module _ (home : HomeId) (order : Order) (p off len byte : ℕ) (old : List (Option FolioValue)) (done : ℕ) (now : List (Option FolioValue)) where
  abbrev all : List ℕ
  all = replicate len byte

  long : length all ≡ len
  long = length-replicate len byte

  pub set_all : Writing home order p off all old done now → len ≤ done → all_bytes p now ≡ written (all_bytes p old) off all
  set_all w h = wrote_all home order p off all old done now w (omega (arith, long))

  module _ (some : 0 < p) (start : AreSlots home order p old) (w : Writing home order p off all old done now) (there : AreThere p off len old) (fits : off + len ≤ length old * p) (more : done < len) where
    there_all : AreThere p off (length all) old
    there_all = subst (λ m. AreThere p off m old) (sym long) there

    fits_all : off + length all ≤ length old * p
    fits_all = omega (arith, long, fits)

    more_all : done < length all
    more_all = omega (arith, long)

    abbrev n : ℕ
    n = off + done

    pub set_index : n / p < length now
    set_index = index_there home order p off all old done now some start w there_all fits_all more_all

    module _ (k : ℕ) (is : k ≡ min (p - n % p) (len - done)) where
      abbrev part : List ℕ
      part = replicate k byte

      part_long : length part ≡ k
      part_long = length-replicate k byte

      part_fits : n % p + length part ≤ p
      part_fits = omega (arith, part_long, at_within n p some)

      part_is : part ≡ take (length part) (drop done all)
      part_is =
          ap (λ m. replicate m byte) (sym part_long)
          ∙ sym (take-replicate (length part) (len - done) byte (omega (arith, part_long)))
          ∙ ap (take (length part)) (sym (drop-replicate done len byte))

      pub set_there : MatchOption (slot_at now (n / p)) ⊥ (λ f. n % p + k ≤ length f.bytes)
      set_there = subst (λ m. MatchOption (slot_at now (n / p)) ⊥ (λ f. n % p + m ≤ length f.bytes)) part_long
          (put_there home order p off all old done now some start w there_all fits_all more_all part part_fits)

      pub set_more : (next : List (Option FolioValue)) → next ≡ slice_set now (n / p) (option_map (λ f. with_bytes f (written f.bytes (n % p) (replicate k byte))) (slot_at now (n / p))) →
          Writing home order p off all old (done + k) next
      set_more next e = subst (λ m. Writing home order p off all old (done + m) next) part_long
          (wrote_more home order p off all old done now some start w there_all fits_all more_all part part_fits part_is next e)
