-- A new map, whose frames are given one after the other.
use Rattle.std.proofs.Common.{◌≡◌, ℕ, ◌+◌, ◌^◌, ◌<◌, ◌≤◌, true, false, ltb, List, length, get_or, replicate, sym, ◌∙◌, ap, subst, ⊎_elim, arith}
use Rattle.std.proofs.lemmas.Bool.{cases_lt, cases_Bool, lt-ltb, le-ltb}
use Rattle.std.proofs.lemmas.List.{get_or_past, get_or-replicate, length-replicate}
use Rattle.std.proofs.lemmas.List.FromFn.{length-map-range_with_len, get_or-map-range_with_len}
use Rattle.buddy_pages.specs.FreeFrames.{is_free, none_free, with_frames, all_but_first}
use Rattle.buddy_pages.specs.Blocks.{free_frames, AreBlocks}
use Rattle.buddy_pages.proofs.Frames.{none_free-from, same_set, with_frames_in, with_frames_below, with_frames_above}
use Rattle.buddy_pages.proofs.Covered.{Covers, length-free_frames, free_covers}
use Rattle.buddy_pages.proofs.Take.{first_taken}

no_tag : (n p : ℕ) → get_or (replicate {A = ℕ} n 0) p 0 ≡ 0
no_tag n p =
    ⊎_elim (λ (l : p < n). get_or-replicate n p 0 0 l)
    (λ (l : n ≤ p). get_or_past (replicate {A = ℕ} n 0) p 0 (omega (arith, length-replicate {A = ℕ} n 0)))
    (cases_lt p n)

no_block : (n p o : ℕ) → get_or (replicate {A = ℕ} n 0) p 0 ≡ o + 1 → ⊥
no_block n p o h = let z : 0 ≡ o + 1 = sym (no_tag n p) ∙ h in omega arith

-- a map of no block
pub none_blocks : (n : ℕ) → n < 2 ^ 32 → AreBlocks (replicate {A = ℕ} n 0)
none_blocks n h = record {
  few = omega (arith, length-replicate {A = ℕ} n 0);
  small = λ p. subst (λ (z : ℕ). z ≤ 10) (sym (no_tag n p)) (omega arith);
  aligned = λ p o t. absurd (no_block n p o t);
  within = λ p o t. absurd (no_block n p o t);
  apart = λ p o q t a b. absurd (no_block n p o t);
  merged = λ p o t l u. no_block n p o t;
  first = no_tag n 0;
}

-- the frames from 1 up to `frame` are given
pub record Filling (n : ℕ) (tags : List ℕ) (frame : ℕ) : Type 0 where
  pub blocks : AreBlocks tags
  pub frames : length tags ≡ n
  pub early : (p : ℕ) → 0 < p → p < frame → is_free (free_frames tags) p ≡ true
  pub late : (p : ℕ) → frame ≤ p → is_free (free_frames tags) p ≡ false

pub filling_begins : (n : ℕ) → n < 2 ^ 32 → Filling n (replicate {A = ℕ} n 0) 1
filling_begins n h = record {
  blocks = none_blocks n h;
  frames = length-replicate {A = ℕ} n 0;
  early = λ p a b. absurd (omega arith);
  late = λ p a. ⊎_elim
      (λ (t : is_free (free_frames (replicate {A = ℕ} n 0)) p ≡ true).
      let c : Covers (replicate {A = ℕ} n 0) p = free_covers (replicate {A = ℕ} n 0) p t in
      absurd (no_block n c.start c.order c.block.tag))
      (λ (f : is_free (free_frames (replicate {A = ℕ} n 0)) p ≡ false). f)
      (cases_Bool (is_free (free_frames (replicate {A = ℕ} n 0)) p));
}

pub filling_taken : (n : ℕ) (tags : List ℕ) (frame : ℕ) → Filling n tags frame → none_free (free_frames tags) frame (2 ^ 0) ≡ true
filling_taken n tags frame f = none_free-from (free_frames tags) frame (2 ^ 0) (record { each = λ p a b. f.late p a })

pub filling_goes_on : (n : ℕ) (tags new : List ℕ) (frame : ℕ) → Filling n tags frame → 0 < frame → frame < n → AreBlocks new → length new ≡ length tags
    → free_frames new ≡ with_frames (free_frames tags) frame (2 ^ 0) true → Filling n new (frame + 1)
filling_goes_on n tags new frame f pos lt k same is =
    let fits : frame + 1 ≤ length (free_frames tags) = omega (arith, length-free_frames tags, f.frames) in
    record {
      blocks = k;
      frames = same ∙ f.frames;
      early = λ p a b. ap (λ z. is_free z p) is ∙ ⊎_elim
          (λ (l : p < frame). with_frames_below (free_frames tags) frame 1 true p fits l ∙ f.early p a l)
          (λ (l : frame ≤ p). with_frames_in (free_frames tags) frame 1 true p fits l (omega arith))
          (cases_lt p frame);
      late = λ p a. ap (λ z. is_free z p) is ∙ with_frames_above (free_frames tags) frame 1 true p fits a ∙ f.late p (omega arith);
    }

pub all_at : (n p : ℕ) → p < n → is_free (all_but_first n) p ≡ ltb 0 p
unfolding all_but_first is_free
all_at n p h = get_or-map-range_with_len (ltb 0) 0 n p p false h (omega arith)

pub length-all : (n : ℕ) → length (all_but_first n) ≡ n
unfolding all_but_first
length-all n = length-map-range_with_len (ltb 0) 0 n

pub filling_ends : (n : ℕ) (tags : List ℕ) (frame : ℕ) → Filling n tags frame → n ≤ frame → free_frames tags ≡ all_but_first n
filling_ends n tags frame f le =
    let len : length (free_frames tags) ≡ n = length-free_frames tags ∙ f.frames in
    same_set (free_frames tags) (all_but_first n) (len ∙ sym (length-all n))
    (λ p l. ⊎_elim
    (λ (a : 0 < p). f.early p a (omega arith) ∙ sym (all_at n p (omega arith) ∙ lt-ltb 0 p a))
    (λ (a : p ≤ 0).
    ⊎_elim (λ (t : is_free (free_frames tags) p ≡ true). absurd (first_taken tags f.blocks (ap (is_free (free_frames tags)) (omega arith) ∙ t)))
    (λ (t : is_free (free_frames tags) p ≡ false). t ∙ sym (all_at n p (omega arith) ∙ le-ltb 0 p a))
    (cases_Bool (is_free (free_frames tags) p)))
    (cases_lt 0 p))
