-- A free block taken out of the map.
use Rattle.std.proofs.Common.{◌≡◌, ◌≢◌, ◌⊎◌, ℕ, ◌+◌, ◌^◌, ◌<◌, ◌≤◌, true, false, List, length, get_or, set, sym, ◌∙◌, ap, subst, inl, inr, ⊎_elim, arith}
use Rattle.std.specs.Int.Bits.{bit_xor}
use Rattle.std.proofs.lemmas.Bool.{cases_eq, cases_Bool}
use Rattle.std.proofs.lemmas.List.{length-set, get_or-set_same, get_or-set_other}
use Rattle.buddy_pages.specs.FreeFrames.{is_free, with_frames}
use Rattle.buddy_pages.specs.Blocks.{free_frames, AreBlocks}
use Rattle.buddy_pages.proofs.Frames.{place, same_set, same_bool, length-with_frames, with_frames_in, with_frames_out}
use Rattle.buddy_pages.proofs.Frames.Place.{inside, outside}
use Rattle.buddy_pages.proofs.Covered.{InBlock, Covers, tag_below, length-free_frames, free_covers, block_free, same_block}

-- a block that is left was there, and isn't the one taken out
pub cleared_tag : (tags : List ℕ) (q p o : ℕ) → q < length tags → get_or (set tags q 0) p 0 ≡ o + 1 → (get_or tags p 0 ≡ o + 1) × (p ≢ q)
cleared_tag tags q p o lt h =
    ⊎_elim (λ (e : p ≡ q).
    let z : get_or (set tags q 0) p 0 ≡ 0 = ap (λ i. get_or (set tags q 0) i 0) e ∙ get_or-set_same tags q 0 0 lt in
    absurd (omega arith))
    (λ (ne : p ≢ q). (sym (get_or-set_other tags q p 0 0 ne) ∙ h, ne))
    (cases_eq p q)

pub cleared_is : (tags : List ℕ) (q p : ℕ) → q < length tags → (get_or (set tags q 0) p 0 ≡ 0) ⊎ (get_or (set tags q 0) p 0 ≡ get_or tags p 0)
cleared_is tags q p lt =
    ⊎_elim (λ (e : p ≡ q). inl (ap (λ i. get_or (set tags q 0) i 0) e ∙ get_or-set_same tags q 0 0 lt))
    (λ (ne : p ≢ q). inr (get_or-set_other tags q p 0 0 ne))
    (cases_eq p q)

pub cleared_blocks : (tags : List ℕ) → AreBlocks tags → (q : ℕ) → q < length tags → AreBlocks (set tags q 0)
cleared_blocks tags k q lt = record {
  few = omega (arith, length-set tags q 0, k.few);
  small = λ p. ⊎_elim (λ (e : get_or (set tags q 0) p 0 ≡ 0). omega arith)
      (λ (e : get_or (set tags q 0) p 0 ≡ get_or tags p 0). let s : get_or tags p 0 ≤ 10 = k.small p in omega arith)
      (cleared_is tags q p lt);
  aligned = λ p o h. k.aligned p o (cleared_tag tags q p o lt h).0;
  within = λ p o h. let w : p + 2 ^ o ≤ length tags = k.within p o (cleared_tag tags q p o lt h).0 in omega (arith, length-set tags q 0);
  apart = λ p o x h a b. ⊎_elim (λ (e : get_or (set tags q 0) x 0 ≡ 0). e)
      (λ (e : get_or (set tags q 0) x 0 ≡ get_or tags x 0). e ∙ k.apart p o x (cleared_tag tags q p o lt h).0 a b)
      (cleared_is tags q x lt);
  merged = λ p o h l g. k.merged p o (cleared_tag tags q p o lt h).0 l (cleared_tag tags q (bit_xor p (2 ^ o)) o lt g).0;
  first = ⊎_elim (λ (e : get_or (set tags q 0) 0 0 ≡ 0). e)
      (λ (e : get_or (set tags q 0) 0 0 ≡ get_or tags 0 0). e ∙ k.first)
      (cleared_is tags q 0 lt);
}

cleared_frame : (tags : List ℕ) → AreBlocks tags → (q j p : ℕ) → get_or tags q 0 ≡ j + 1 → is_free (free_frames (set tags q 0)) p ≡ is_free (with_frames (free_frames tags) q (2 ^ j) false) p
cleared_frame tags k q j p h =
    let lt : q < length tags = tag_below tags q j h in
    let len : length (free_frames tags) ≡ length tags = length-free_frames tags in
    let within : q + 2 ^ j ≤ length tags = k.within q j h in
    let fits : q + 2 ^ j ≤ length (free_frames tags) = omega arith in
    elim (place q (2 ^ j) p) [
      | inside a b ↦
          ⊎_elim
          (λ (t : is_free (free_frames (set tags q 0)) p ≡ true).
          let c : Covers (set tags q 0) p = free_covers (set tags q 0) p t in
          let old = cleared_tag tags q c.start c.order lt c.block.tag in
          let x : InBlock tags p c.start c.order = record { tag = old.0; from = c.block.from; to = c.block.to } in
          let y : InBlock tags p q j = record { tag = h; from = a; to = b } in
          absurd (old.1 (same_block tags k p c.start c.order q j x y).0))
          (λ (t : is_free (free_frames (set tags q 0)) p ≡ false). t ∙ sym (with_frames_in (free_frames tags) q (2 ^ j) false p fits a b))
          (cases_Bool (is_free (free_frames (set tags q 0)) p))
      | outside out ↦
          same_bool (is_free (free_frames (set tags q 0)) p) (is_free (free_frames tags) p)
          (λ t.
          let c : Covers (set tags q 0) p = free_covers (set tags q 0) p t in
          let old = cleared_tag tags q c.start c.order lt c.block.tag in
          block_free tags k p c.start c.order (record { tag = old.0; from = c.block.from; to = c.block.to }))
          (λ t.
          let c : Covers tags p = free_covers tags p t in
          ⊎_elim
          (λ (e : c.start ≡ q).
          let o : c.order + 1 ≡ j + 1 = sym c.block.tag ∙ ap (λ i. get_or tags i 0) e ∙ h in
          let same : c.order ≡ j = omega arith in
          let to : p < c.start + 2 ^ j = subst (λ (z : ℕ). p < c.start + 2 ^ z) same c.block.to in
          absurd (⊎_elim (λ (l : p < q). omega (arith, c.block.from)) (λ (l : q + 2 ^ j ≤ p). omega arith) out))
          (λ (ne : c.start ≢ q).
          block_free (set tags q 0) (cleared_blocks tags k q lt) p c.start c.order
          (record { tag = get_or-set_other tags q c.start 0 0 ne ∙ c.block.tag; from = c.block.from; to = c.block.to }))
          (cases_eq c.start q))
          ∙ sym (with_frames_out (free_frames tags) q (2 ^ j) false p fits out)
    ]

-- without a block of order j, its frames aren't free and all others are as before
pub cleared_frames : (tags : List ℕ) → AreBlocks tags → (q j : ℕ) → get_or tags q 0 ≡ j + 1 → free_frames (set tags q 0) ≡ with_frames (free_frames tags) q (2 ^ j) false
cleared_frames tags k q j h =
    let len : length (free_frames tags) ≡ length tags = length-free_frames tags in
    let within : q + 2 ^ j ≤ length tags = k.within q j h in
    same_set (free_frames (set tags q 0)) (with_frames (free_frames tags) q (2 ^ j) false)
    (length-free_frames (set tags q 0) ∙ length-set tags q 0 ∙ sym len ∙ sym (length-with_frames (free_frames tags) q (2 ^ j) false (omega arith)))
    (λ p lt. cleared_frame tags k q j p h)
