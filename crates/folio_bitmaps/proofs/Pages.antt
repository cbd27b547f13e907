-- The pages of a chain that is written.
use Rattle.std.proofs.Common.{◌≡◌, ℕ, ◌+◌, ◌-◌, ◌*◌, ◌%◌, ◌<◌, ◌≤◌, List, ◌++◌, length, take, drop, replicate, below_more, sym, ap, subst, ◌∙◌, arith}
use Rattle.std.proofs.lemmas.List.{length-take-le, length-drop}
use Rattle.folio_bitmaps.specs.Runs.{Runs}
use Rattle.ho_base.specs.BitmapCount.{cover, bitmap_count}
use Rattle.folio_bitmaps.specs.Bitmaps.{runs_of, AreBitmaps, is_set}
use Rattle.folio_bitmaps.specs.Chunks.{Element, element_at, start_of, next_of, count_of, number_of}
use Rattle.folio_bitmaps.specs.Written.{IsBitmap, IsWritten, full_count}
use Rattle.std.proofs.lemmas.List.{drop-drop, length-replicate, drop-replicate, take-replicate}
use Rattle.std.specs.Int.{w64, to_le_bytes}
use borrow.Rule.Slice.PartMut.{put_mid}
use Rattle.ho_base.specs.Bytes.{u64_at, with_u64_at}
use Rattle.folio_bitmaps.proofs.Parts.{spliced, element_path, part_bit, part_before, number_before, element_before, length-spliced, take-spliced, mid-spliced, drop-spliced, put-spliced}
use Rattle.folio_bitmaps.proofs.Keys.{bitmap_bits}

-- bitmap number t, as the tracker's bytes have it
pub whole_bitmap : (n : ℕ) (bytes : List ℕ) (t : ℕ) (e : Element) → AreBitmaps n bytes → t < bitmap_count n → e.order ≤ 9 → e.base % cover e.order ≡ 0 → e.base < n → number_of n e ≡ t
    → e.bits ≡ take 512 (drop (512 * t) bytes) → IsBitmap n (runs_of n bytes) t e
whole_bitmap n bytes t e h lt small aligned below number bits = record {
  small = small;
  aligned = aligned;
  below = below;
  number = number;
  size = ap length bits ∙ length-take-le 512 (drop (512 * t) bytes) (omega (arith, h.size, length-drop (512 * t) bytes));
  bits = λ b few. ap (λ (l : List ℕ). is_set l b) bits ∙ part_bit bytes t b few ∙ ap (λ (k : ℕ). is_set bytes (4096 * k + b)) (sym number) ∙ bitmap_bits n bytes e b h small aligned below few;
}

-- a part that is replaced
pub mid-part : (a w : ℕ) (old mid : List ℕ) → w ≡ length mid → put_mid a w old mid ≡ spliced old a mid
mid-part a w old mid e = ap (λ (rest : List ℕ). take a old ++ (mid ++ rest)) (drop-drop w a old ∙ ap (λ (j : ℕ). drop (a + j) old) e)

-- what a number that is put leaves
module _ (old : List ℕ) (at value : ℕ) (fits : at + 8 ≤ length old) (new : List ℕ) (e : new ≡ with_u64_at old at value) where
  is : new ≡ spliced old at (to_le_bytes w64 value)
  is = e ∙ put-spliced old at value

  pub put_length : length new ≡ length old
  put_length = ap length is ∙ length-spliced old (to_le_bytes w64 value) at fits

  pub put_before : (m : ℕ) → m ≤ at → take m new ≡ take m old
  put_before m le = ap (take m) is ∙ take-spliced old (to_le_bytes w64 value) at fits m le

  pub put_past : (m : ℕ) → at + 8 ≤ m → drop m new ≡ drop m old
  put_past m le = ap (drop m) is ∙ drop-spliced old (to_le_bytes w64 value) at fits m le

-- an element that is written
module _ (k base order a w : ℕ) (old based ordered mid : List ℕ) (size : length old ≡ 4096) (room : k < 7)
    (e : based ≡ with_u64_at old (start_of k) base) (b : u64_at based (start_of k) ≡ base)
    (f : ordered ≡ with_u64_at based (start_of k + 8) order) (o : u64_at ordered (start_of k + 8) ≡ order)
    (at : a ≡ start_of k + 16) (wide : w ≡ 512) (count : length mid ≡ 512) where
  abbrev done : List ℕ
  done = put_mid a w ordered mid

  based_length : length based ≡ 4096
  based_length = put_length old (start_of k) base (omega arith) based e ∙ size

  ordered_length : length ordered ≡ 4096
  ordered_length = put_length based (start_of k + 8) order (omega (arith, based_length)) ordered f ∙ based_length

  fits : a + length mid ≤ length ordered
  fits = omega (arith, ordered_length)

  done_is : done ≡ spliced ordered a mid
  done_is = mid-part a w ordered mid (wide ∙ sym count)

  done_before : (m : ℕ) → m ≤ a → take m done ≡ take m ordered
  done_before m le = ap (take m) done_is ∙ take-spliced ordered mid a fits m le

  ordered_before : (m : ℕ) → m ≤ start_of k + 8 → take m ordered ≡ take m based
  ordered_before m le = put_before based (start_of k + 8) order (omega (arith, based_length)) ordered f m le

  pub element_written : element_at done k ≡ record { base = base; order = order; bits = mid }
  element_written = element_path (element_at done k) (record { base = base; order = order; bits = mid })
      (number_before (start_of k + 8) (start_of k) done based (done_before (start_of k + 8) (omega arith) ∙ ordered_before (start_of k + 8) (omega arith)) (omega arith) ∙ b)
      (number_before (start_of k + 16) (start_of k + 8) done ordered (done_before (start_of k + 16) (omega arith)) (omega arith) ∙ o)
      (ap (λ (j : ℕ). take 512 (drop j done)) (sym at) ∙ ap (λ (l : List ℕ). take 512 (drop a l)) done_is ∙ mid-spliced ordered mid a fits 512 (sym count))

  pub written_behind : drop (start_of (k + 1)) done ≡ drop (start_of (k + 1)) old
  written_behind =
      ap (drop (start_of (k + 1))) done_is ∙ drop-spliced ordered mid a fits (start_of (k + 1)) (omega arith)
      ∙ put_past based (start_of k + 8) order (omega (arith, based_length)) ordered f (start_of (k + 1)) (omega arith)
      ∙ put_past old (start_of k) base (omega arith) based e (start_of (k + 1)) (omega arith)

-- chunk frame i with its first k elements
pub record IsPart (n : ℕ) (runs : Runs) (i next count k : ℕ) (page : List ℕ) : Type 0 where
  pub size : length page ≡ 4096
  pub next_is : next_of page ≡ next
  pub count_is : count_of page ≡ count
  pub zeros : take 16 (drop 16 page) ≡ replicate 16 0
  pub elements : (j : ℕ) → j < k → IsBitmap n runs (7 * i + j) (element_at page j)
  pub rest : drop (start_of k) page ≡ replicate (4096 - start_of k) 0

pub part_begins : (n : ℕ) (runs : Runs) (i next count : ℕ) (blank first page : List ℕ) → blank ≡ replicate 4096 0
    → first ≡ with_u64_at blank 0 next → u64_at first 0 ≡ next → page ≡ with_u64_at first 8 count → u64_at page 8 ≡ count → IsPart n runs i next count 0 page
part_begins n runs i next count blank first page e f g h o =
    let size : length blank ≡ 4096 = ap length e ∙ length-replicate {A = ℕ} 4096 0 in
    let first_size : length first ≡ 4096 = put_length blank 0 next (omega arith) first f ∙ size in
    let page_size : length page ≡ 4096 = put_length first 8 count (omega arith) page h ∙ first_size in
    let past = λ (m : ℕ) (le : 16 ≤ m). put_past first 8 count (omega arith) page h m le ∙ put_past blank 0 next (omega arith) first f m (omega arith) ∙ ap (drop m) e ∙ drop-replicate {X = ℕ} m 4096 0 in
    record {
      size = page_size;
      next_is = number_before 8 0 page first (put_before first 8 count (omega arith) page h 8 (omega arith)) (omega arith) ∙ g;
      count_is = o;
      zeros = ap (take 16) (past 16 (omega arith)) ∙ take-replicate {X = ℕ} 16 4080 0 (omega arith);
      elements = λ j lt. absurd (omega arith);
      rest = past 32 (omega arith);
    }

pub part_more : (n : ℕ) (runs : Runs) (i next count k : ℕ) (old new : List ℕ) → k < 7 → IsPart n runs i next count k old → length new ≡ 4096 → take (start_of k) new ≡ take (start_of k) old
    → IsBitmap n runs (7 * i + k) (element_at new k) → drop (start_of (k + 1)) new ≡ drop (start_of (k + 1)) old → IsPart n runs i next count (k + 1) new
part_more n runs i next count k old new room h size before element past = record {
  size = size;
  next_is = number_before (start_of k) 0 new old before (omega arith) ∙ h.next_is;
  count_is = number_before (start_of k) 8 new old before (omega arith) ∙ h.count_is;
  zeros = part_before (start_of k) 16 16 new old before (omega arith) ∙ h.zeros;
  elements = below_more _ _
      (λ j lt. subst (IsBitmap n runs (7 * i + j)) (sym (element_before (start_of k) j new old before (omega arith))) (h.elements j lt)) element;
  rest = past ∙ sym (drop-drop 528 (start_of k) old ∙ ap (λ (m : ℕ). drop m old) (next_start k)) ∙ ap (drop 528) h.rest ∙ drop-replicate {X = ℕ} 528 (4096 - start_of k) 0 ∙ ap (λ (m : ℕ). replicate {A = ℕ} m 0) (left k room);
}
  where
    next_start : (j : ℕ) → start_of j + 528 ≡ start_of (j + 1)
    next_start j = omega arith

    left : (j : ℕ) → j < 7 → 4096 - start_of j - 528 ≡ 4096 - start_of (j + 1)
    left j lt = omega arith

pub part_done : (n : ℕ) (runs : Runs) (i next count k : ℕ) (page : List ℕ) → IsPart n runs i next count k page → count ≡ full_count n i → k ≡ full_count n i → IsWritten n runs i next page
part_done n runs i next count k page h e f = record {
  size = h.size;
  next_is = h.next_is;
  count = h.count_is ∙ e;
  zeros = h.zeros;
  elements = λ j lt. h.elements j (omega arith);
  rest = subst (λ (j : ℕ). drop (start_of j) page ≡ replicate (4096 - start_of j) 0) f h.rest;
}
