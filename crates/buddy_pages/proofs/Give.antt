-- A run that is made free and merged with its buddies.
use Rattle.std.proofs.Common.{◌≡◌, ℕ, ◌+◌, ◌-◌, ◌^◌, ◌%◌, ◌<◌, ◌≤◌, Bool, true, false, List, length, get_or, set, min, refl, sym, ◌∙◌, ap, subst, ⊎_elim, arith}
use Rattle.std.specs.Int.Bits.{bit_xor}
use Rattle.std.proofs.lemmas.Bool.{cases_lt}
use Rattle.std.proofs.lemmas.List.{length-set}
use Rattle.std.proofs.lemmas.Nat.{pow_pos}
use Rattle.buddy_pages.specs.FreeFrames.{none_free, with_frames}
use Rattle.buddy_pages.specs.Blocks.{free_frames, AreBlocks}
use Rattle.buddy_pages.proofs.Powers.{double, start_multiple}
use Rattle.buddy_pages.proofs.Frames.{AreFree, AreTaken, AreTaken-from}
use Rattle.buddy_pages.proofs.Covered.{tag_below, length-free_frames, block_free}
use Rattle.buddy_pages.proofs.Cleared.{cleared_blocks, cleared_frames}
use Rattle.buddy_pages.proofs.Placed.{HasPlace, placed_blocks, placed_frames, no_start}
use Rattle.buddy_pages.proofs.Halved.{AreHalves, buddy_halves, merged_set, merged_taken}
use Rattle.buddy_pages.proofs.Halved.AreHalves.{front, back}

-- in the middle of a give: the run at `start` of order `size`, merged so far, isn't in the map yet, and
-- with it the free frames are the old ones and the run that is given
pub record Giving (old tags : List ℕ) (first order start size : ℕ) : Type 0 where
  pub blocks : AreBlocks tags
  pub frames : length tags ≡ length old
  pub small : size ≤ 9
  pub aligned : start % 2 ^ size ≡ 0
  pub within : start + 2 ^ size ≤ length tags
  pub later : 0 < start
  pub taken : AreTaken (free_frames tags) start (2 ^ size)
  pub all : with_frames (free_frames tags) start (2 ^ size) true ≡ with_frames (free_frames old) first (2 ^ order) true

pub giving_begins : (old : List ℕ) (first order : ℕ) → AreBlocks old → order ≤ 9 → first % 2 ^ order ≡ 0 → first + 2 ^ order ≤ length old → 0 < first
    → none_free (free_frames old) first (2 ^ order) ≡ true → Giving old old first order first order
giving_begins old first order k small aligned within later none = record {
  blocks = k;
  frames = refl;
  small = small;
  aligned = aligned;
  within = within;
  later = later;
  taken = AreTaken-from (free_frames old) first (2 ^ order) none;
  all = refl;
}

-- the run one order higher begins at the smaller of the two buddies
start_smaller : (a c x y : ℕ) → AreHalves a c x y → a ≡ min x y
start_smaller a c x y (front e f) = omega arith
start_smaller a c x y (back e f) = omega arith

-- its first frame isn't frame 0
start_later : (tags : List ℕ) → AreBlocks tags → (a c x y o : ℕ) → AreHalves a c x y → 0 < x → get_or tags y 0 ≡ o + 1 → 0 < a
start_later tags k a c x y o (front e f) later t = omega arith
start_later tags k a c x y o (back e f) later t =
    ⊎_elim (λ (l : 0 < y). omega arith)
    (λ (l : y ≤ 0). let z : get_or tags y 0 ≡ 0 = ap (λ i. get_or tags i 0) (omega arith) ∙ k.first in absurd (omega arith))
    (cases_lt 0 y)

block_is_free : (tags : List ℕ) → AreBlocks tags → (q j : ℕ) → get_or tags q 0 ≡ j + 1 → AreFree (free_frames tags) q (2 ^ j)
block_is_free tags k q j t = record { each = λ p a b. block_free tags k p q j (record { tag = t; from = a; to = b }) }

ends : (a c d x y n : ℕ) → d ≡ c + c → AreHalves a c x y → x + c ≤ n → y + c ≤ n → a + d ≤ n
ends a c d x y n e (front f g) h i = omega arith
ends a c d x y n e (back f g) h i = omega arith

-- merged with a buddy that is a free block
pub giving_merges : (old tags : List ℕ) (first order start size : ℕ) → Giving old tags first order start size → size < 9
    → get_or tags (bit_xor start (2 ^ size)) 0 ≡ size + 1 → Giving old (set tags (bit_xor start (2 ^ size)) 0) first order (min start (bit_xor start (2 ^ size))) (size + 1)
giving_merges old tags first order start size g lt t =
    let h : AreHalves (start - start % 2 ^ (size + 1)) (2 ^ size) start (bit_xor start (2 ^ size)) = buddy_halves start size g.aligned in
    let is : start - start % 2 ^ (size + 1) ≡ min start (bit_xor start (2 ^ size)) = start_smaller (start - start % 2 ^ (size + 1)) (2 ^ size) start (bit_xor start (2 ^ size)) h in
    let two : 2 ^ (size + 1) ≡ 2 ^ size + 2 ^ size = double size in
    let below : bit_xor start (2 ^ size) < length tags = tag_below tags (bit_xor start (2 ^ size)) size t in
    let within : bit_xor start (2 ^ size) + 2 ^ size ≤ length tags = g.blocks.within (bit_xor start (2 ^ size)) size t in
    let fits : start - start % 2 ^ (size + 1) + 2 ^ (size + 1) ≤ length tags = ends (start - start % 2 ^ (size + 1)) (2 ^ size) (2 ^ (size + 1)) start (bit_xor start (2 ^ size)) (length tags) two h g.within within in
    let free : free_frames (set tags (bit_xor start (2 ^ size)) 0) ≡ with_frames (free_frames tags) (bit_xor start (2 ^ size)) (2 ^ size) false = cleared_frames tags g.blocks (bit_xor start (2 ^ size)) size t in
    let fits2 : start - start % 2 ^ (size + 1) + 2 ^ (size + 1) ≤ length (free_frames tags) = omega (arith, length-free_frames tags) in
    record {
      blocks = cleared_blocks tags g.blocks (bit_xor start (2 ^ size)) below;
      frames = length-set tags (bit_xor start (2 ^ size)) 0 ∙ g.frames;
      small = omega arith;
      aligned = subst (λ (z : ℕ). z % 2 ^ (size + 1) ≡ 0) is (start_multiple start (2 ^ (size + 1)));
      within = subst (λ (z : ℕ). z + 2 ^ (size + 1) ≤ length (set tags (bit_xor start (2 ^ size)) 0)) is (omega (arith, length-set tags (bit_xor start (2 ^ size)) 0));
      later = subst (λ (z : ℕ). 0 < z) is (start_later tags g.blocks (start - start % 2 ^ (size + 1)) (2 ^ size) start (bit_xor start (2 ^ size)) size h g.later t);
      taken = subst (λ (z : ℕ). AreTaken (free_frames (set tags (bit_xor start (2 ^ size)) 0)) z (2 ^ (size + 1))) is
          (subst (λ (s : List Bool). AreTaken s (start - start % 2 ^ (size + 1)) (2 ^ (size + 1))) (sym free)
          (merged_taken (free_frames tags) (start - start % 2 ^ (size + 1)) (2 ^ size) (2 ^ (size + 1)) start (bit_xor start (2 ^ size)) two h fits2 g.taken));
      all = ap (λ z. with_frames (free_frames (set tags (bit_xor start (2 ^ size)) 0)) z (2 ^ (size + 1)) true) (sym is)
          ∙ ap (λ s. with_frames s (start - start % 2 ^ (size + 1)) (2 ^ (size + 1)) true) free
          ∙ merged_set (free_frames tags) (start - start % 2 ^ (size + 1)) (2 ^ size) (2 ^ (size + 1)) start (bit_xor start (2 ^ size)) two h fits2 (block_is_free tags g.blocks (bit_xor start (2 ^ size)) size t)
          ∙ g.all;
    }

given_place : (old tags : List ℕ) (first order start size : ℕ) → Giving old tags first order start size → (size < 9 → get_or tags (bit_xor start (2 ^ size)) 0 ≡ size + 1 → ⊥) → HasPlace tags start size
given_place old tags first order start size g alone = record {
  small = g.small;
  aligned = g.aligned;
  within = g.within;
  later = g.later;
  taken = g.taken;
  alone = alone;
}

pub given_blocks : (old tags : List ℕ) (first order start size : ℕ) → Giving old tags first order start size → (size < 9 → get_or tags (bit_xor start (2 ^ size)) 0 ≡ size + 1 → ⊥) → AreBlocks (set tags start (size + 1))
given_blocks old tags first order start size g alone = placed_blocks tags g.blocks start size (given_place old tags first order start size g alone)

pub given_set : (old tags : List ℕ) (first order start size : ℕ) → Giving old tags first order start size → (size < 9 → get_or tags (bit_xor start (2 ^ size)) 0 ≡ size + 1 → ⊥)
    → free_frames (set tags start (size + 1)) ≡ with_frames (free_frames old) first (2 ^ order) true
given_set old tags first order start size g alone = placed_frames tags g.blocks start size (given_place old tags first order start size g alone) ∙ g.all

-- the frame where the run begins has no number yet
pub given_none : (old tags : List ℕ) (first order start size : ℕ) → Giving old tags first order start size → (size < 9 → get_or tags (bit_xor start (2 ^ size)) 0 ≡ size + 1 → ⊥) → get_or tags start 0 ≡ 0
given_none old tags first order start size g alone =
    let pos : 0 < 2 ^ size = pow_pos size in
    no_start tags g.blocks start size (given_place old tags first order start size g alone) start (omega arith) (omega arith)

pub giving_below : (old tags : List ℕ) (first order start size : ℕ) → Giving old tags first order start size → start < length tags
giving_below old tags first order start size g = let pos : 0 < 2 ^ size = pow_pos size in omega (arith, g.within)

-- as the code has it: a map, a buddy and a first frame that are equal to these
pub giving_goes_on : (old tags new : List ℕ) (first order start size buddy lower : ℕ) → Giving old tags first order start size → size < 9
    → get_or tags (bit_xor start (2 ^ size)) 0 ≡ size + 1 → buddy ≡ bit_xor start (2 ^ size) → new ≡ set tags buddy 0 → lower ≡ min start buddy
    → Giving old new first order lower (size + 1)
giving_goes_on old tags new first order start size buddy lower g lt t b n l =
    let e : new ≡ set tags (bit_xor start (2 ^ size)) 0 = n ∙ ap (λ z. set tags z 0) b in
    let f : lower ≡ min start (bit_xor start (2 ^ size)) = l ∙ ap (λ z. min start z) b in
    subst (λ (z : ℕ). Giving old new first order z (size + 1)) (sym f)
    (subst (λ (z : List ℕ). Giving old z first order (min start (bit_xor start (2 ^ size))) (size + 1)) (sym e)
    (giving_merges old tags first order start size g lt t))
