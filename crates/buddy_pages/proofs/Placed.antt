-- A free block put into the map.
use Rattle.std.proofs.Common.{◌≡◌, ◌≢◌, ◌⊎◌, ℕ, ◌+◌, ◌-◌, ◌^◌, ◌%◌, ◌<◌, ◌≤◌, true, List, length, get_or, set, sym, ◌∙◌, ap, subst, ⊎_elim, arith}
use Rattle.std.specs.Int.Bits.{bit_xor}
use Rattle.std.proofs.lemmas.Bool.{cases_lt, cases_eq, false≢true}
use Rattle.std.proofs.lemmas.List.{length-set, get_or-set_same, get_or-set_other}
use Rattle.std.proofs.lemmas.Nat.{pow_pos}
use Rattle.buddy_pages.specs.FreeFrames.{is_free, with_frames}
use Rattle.buddy_pages.specs.Blocks.{free_frames, AreBlocks}
use Rattle.buddy_pages.proofs.Powers.{buddy_twice, buddy_other}
use Rattle.buddy_pages.proofs.Frames.{place, AreTaken, same_set, same_bool, length-with_frames, with_frames_in, with_frames_out}
use Rattle.buddy_pages.proofs.Frames.Place.{inside, outside}
use Rattle.buddy_pages.proofs.Covered.{InBlock, Covers, length-free_frames, free_covers, block_free}

-- where a free block of order j may be put at frame q
pub record HasPlace (tags : List ℕ) (q j : ℕ) : Type 0 where
  pub small : j ≤ 9
  pub aligned : q % 2 ^ j ≡ 0
  pub within : q + 2 ^ j ≤ length tags
  pub later : 0 < q
  pub taken : AreTaken (free_frames tags) q (2 ^ j)
  pub alone : j < 9 → get_or tags (bit_xor q (2 ^ j)) 0 ≡ j + 1 → ⊥

-- a block after the change is the new one, or was there
pub data Tagged (tags : List ℕ) (q j p o : ℕ) : Type 0 where
  placed : p ≡ q → o ≡ j → Tagged tags q j p o
  kept : p ≢ q → get_or tags p 0 ≡ o + 1 → Tagged tags q j p o

pub tagged : (tags : List ℕ) (q j p o : ℕ) → q < length tags → get_or (set tags q (j + 1)) p 0 ≡ o + 1 → Tagged tags q j p o
tagged tags q j p o lt h =
    ⊎_elim (λ (e : p ≡ q).
    let z : get_or (set tags q (j + 1)) p 0 ≡ j + 1 = ap (λ i. get_or (set tags q (j + 1)) i 0) e ∙ get_or-set_same tags q (j + 1) 0 lt in
    placed e (omega arith))
    (λ (ne : p ≢ q). kept ne (sym (get_or-set_other tags q p (j + 1) 0 ne) ∙ h))
    (cases_eq p q)

-- the run's frames lie in no block
untouched : (tags : List ℕ) → AreBlocks tags → (q j : ℕ) → HasPlace tags q j → (p a o : ℕ) → q ≤ p → p < q + 2 ^ j → InBlock tags p a o → ⊥
untouched tags k q j h p a o f t b = false≢true (sym (h.taken.each p f t) ∙ block_free tags k p a o b)

-- no block begins in the run
pub no_start : (tags : List ℕ) → AreBlocks tags → (q j : ℕ) → HasPlace tags q j → (p : ℕ) → q ≤ p → p < q + 2 ^ j → get_or tags p 0 ≡ 0
no_start tags k q j h p f t =
    ⊎_elim (λ (l : get_or tags p 0 < 1). omega arith)
    (λ (l : 1 ≤ get_or tags p 0).
    let o : get_or tags p 0 ≡ get_or tags p 0 - 1 + 1 = omega arith in
    let pos : 0 < 2 ^ (get_or tags p 0 - 1) = pow_pos (get_or tags p 0 - 1) in
    absurd (untouched tags k q j h p p (get_or tags p 0 - 1) f t (record { tag = o; from = omega arith; to = omega arith })))
    (cases_lt (get_or tags p 0) 1)

-- the run doesn't begin in a block
not_inside : (tags : List ℕ) → AreBlocks tags → (q j : ℕ) → HasPlace tags q j → (p o : ℕ) → get_or tags p 0 ≡ o + 1 → p ≤ q → q < p + 2 ^ o → ⊥
not_inside tags k q j h p o t f l =
    let pos : 0 < 2 ^ j = pow_pos j in
    untouched tags k q j h q p o (omega arith) (omega arith) (record { tag = t; from = f; to = l })

place_below : (tags : List ℕ) (q j : ℕ) → HasPlace tags q j → q < length tags
place_below tags q j h = let pos : 0 < 2 ^ j = pow_pos j in omega (arith, h.within)

placed_apart : (tags : List ℕ) → AreBlocks tags → (q j : ℕ) → HasPlace tags q j → (p o x : ℕ) → Tagged tags q j p o → p < x → x < p + 2 ^ o → get_or (set tags q (j + 1)) x 0 ≡ 0
placed_apart tags k q j h p o x (placed e f) a b =
    let ne : x ≢ q = λ same. omega arith in
    let to : x < p + 2 ^ j = subst (λ (z : ℕ). x < p + 2 ^ z) f b in
    get_or-set_other tags q x (j + 1) 0 ne ∙ no_start tags k q j h x (omega arith) (omega arith)
placed_apart tags k q j h p o x (kept ne t) a b =
    ⊎_elim (λ (same : x ≡ q). absurd (not_inside tags k q j h p o t (omega arith) (omega arith)))
    (λ (other : x ≢ q). get_or-set_other tags q x (j + 1) 0 other ∙ k.apart p o x t a b)
    (cases_eq x q)

placed_merged : (tags : List ℕ) → AreBlocks tags → (q j : ℕ) → HasPlace tags q j → (p o : ℕ) → o < 9 → Tagged tags q j p o → Tagged tags q j (bit_xor p (2 ^ o)) o → ⊥
placed_merged tags k q j h p o l (placed e f) (placed g i) =
    let x : bit_xor q (2 ^ j) ≡ q = ap (λ z. bit_xor z (2 ^ j)) (sym e) ∙ ap (λ z. bit_xor p (2 ^ z)) (sym f) ∙ g in
    buddy_other q j h.aligned x
placed_merged tags k q j h p o l (placed e f) (kept ne t) =
    let x : bit_xor p (2 ^ o) ≡ bit_xor q (2 ^ j) = ap (λ z. bit_xor z (2 ^ o)) e ∙ ap (λ z. bit_xor q (2 ^ z)) f in
    h.alone (omega arith) (ap (λ z. get_or tags z 0) (sym x) ∙ t ∙ ap (λ z. z + 1) f)
placed_merged tags k q j h p o l (kept ne t) (placed g i) =
    let x : bit_xor q (2 ^ j) ≡ p = ap (λ z. bit_xor z (2 ^ j)) (sym g) ∙ ap (λ z. bit_xor (bit_xor p (2 ^ o)) (2 ^ z)) (sym i) ∙ buddy_twice p o (k.aligned p o t) in
    h.alone (omega arith) (ap (λ z. get_or tags z 0) x ∙ t ∙ ap (λ z. z + 1) i)
placed_merged tags k q j h p o l (kept ne t) (kept me u) = k.merged p o t l u

placed_aligned : (tags : List ℕ) → AreBlocks tags → (q j : ℕ) → HasPlace tags q j → (p o : ℕ) → Tagged tags q j p o → p % 2 ^ o ≡ 0
placed_aligned tags k q j h p o (placed e f) = ap (λ z. z % 2 ^ o) e ∙ ap (λ z. q % 2 ^ z) f ∙ h.aligned
placed_aligned tags k q j h p o (kept ne t) = k.aligned p o t

placed_within : (tags : List ℕ) → AreBlocks tags → (q j : ℕ) → HasPlace tags q j → (p o : ℕ) → Tagged tags q j p o → p + 2 ^ o ≤ length (set tags q (j + 1))
placed_within tags k q j h p o (placed e f) =
    let s : 2 ^ o ≡ 2 ^ j = ap (λ z. 2 ^ z) f in
    omega (arith, length-set tags q (j + 1), h.within)
placed_within tags k q j h p o (kept ne t) = let w : p + 2 ^ o ≤ length tags = k.within p o t in omega (arith, length-set tags q (j + 1))

placed_small : (tags : List ℕ) → AreBlocks tags → (q j : ℕ) → HasPlace tags q j → (p : ℕ) → get_or (set tags q (j + 1)) p 0 ≤ 10
placed_small tags k q j h p =
    let lt : q < length tags = place_below tags q j h in
    ⊎_elim (λ (e : p ≡ q).
    let z : get_or (set tags q (j + 1)) p 0 ≡ j + 1 = ap (λ i. get_or (set tags q (j + 1)) i 0) e ∙ get_or-set_same tags q (j + 1) 0 lt in
    omega (arith, h.small))
    (λ (ne : p ≢ q). let z : get_or (set tags q (j + 1)) p 0 ≡ get_or tags p 0 = get_or-set_other tags q p (j + 1) 0 ne in omega (arith, k.small p))
    (cases_eq p q)

pub placed_blocks : (tags : List ℕ) → AreBlocks tags → (q j : ℕ) → HasPlace tags q j → AreBlocks (set tags q (j + 1))
placed_blocks tags k q j h =
    let lt : q < length tags = place_below tags q j h in
    let later : 0 ≢ q = λ z. omega (arith, h.later) in
    record {
      few = omega (arith, length-set tags q (j + 1), k.few);
      small = placed_small tags k q j h;
      aligned = λ p o t. placed_aligned tags k q j h p o (tagged tags q j p o lt t);
      within = λ p o t. placed_within tags k q j h p o (tagged tags q j p o lt t);
      apart = λ p o x t a b. placed_apart tags k q j h p o x (tagged tags q j p o lt t) a b;
      merged = λ p o t l u. placed_merged tags k q j h p o l (tagged tags q j p o lt t) (tagged tags q j (bit_xor p (2 ^ o)) o lt u);
      first = get_or-set_other tags q 0 (j + 1) 0 later ∙ k.first;
    }

-- a frame in a block after the change is in the run or was in a block
was_free : (tags : List ℕ) → AreBlocks tags → (q j : ℕ) → HasPlace tags q j → (p a o : ℕ) → Tagged tags q j a o → a ≤ p → p < a + 2 ^ o → (p < q) ⊎ (q + 2 ^ j ≤ p) → is_free (free_frames tags) p ≡ true
was_free tags k q j h p a o (placed e f) from to out =
    let s : 2 ^ o ≡ 2 ^ j = ap (λ z. 2 ^ z) f in
    absurd (⊎_elim (λ (l : p < q). omega arith) (λ (l : q + 2 ^ j ≤ p). omega arith) out)
was_free tags k q j h p a o (kept ne t) from to out = block_free tags k p a o (record { tag = t; from = from; to = to })

placed_frame : (tags : List ℕ) → AreBlocks tags → (q j : ℕ) → HasPlace tags q j → (p : ℕ) → is_free (free_frames (set tags q (j + 1))) p ≡ is_free (with_frames (free_frames tags) q (2 ^ j) true) p
placed_frame tags k q j h p =
    let lt : q < length tags = place_below tags q j h in
    let fits : q + 2 ^ j ≤ length (free_frames tags) = omega (arith, length-free_frames tags, h.within) in
    let new : AreBlocks (set tags q (j + 1)) = placed_blocks tags k q j h in
    elim (place q (2 ^ j) p) [
      | inside a b ↦
          block_free (set tags q (j + 1)) new p q j (record { tag = get_or-set_same tags q (j + 1) 0 lt; from = a; to = b })
          ∙ sym (with_frames_in (free_frames tags) q (2 ^ j) true p fits a b)
      | outside out ↦
          same_bool (is_free (free_frames (set tags q (j + 1))) p) (is_free (free_frames tags) p)
          (λ t.
          let c : Covers (set tags q (j + 1)) p = free_covers (set tags q (j + 1)) p t in
          was_free tags k q j h p c.start c.order (tagged tags q j c.start c.order lt c.block.tag) c.block.from c.block.to out)
          (λ t.
          let c : Covers tags p = free_covers tags p t in
          let ne : c.start ≢ q = λ e.
          let pos : 0 < 2 ^ j = pow_pos j in
          let z : get_or tags c.start 0 ≡ 0 = no_start tags k q j h c.start (omega arith) (omega arith) in
          omega (arith, c.block.tag) in
          block_free (set tags q (j + 1)) new p c.start c.order
          (record { tag = get_or-set_other tags q c.start (j + 1) 0 ne ∙ c.block.tag; from = c.block.from; to = c.block.to }))
          ∙ sym (with_frames_out (free_frames tags) q (2 ^ j) true p fits out)
    ]

-- with a new block of order j, its frames are free and all others are as before
pub placed_frames : (tags : List ℕ) → AreBlocks tags → (q j : ℕ) → HasPlace tags q j → free_frames (set tags q (j + 1)) ≡ with_frames (free_frames tags) q (2 ^ j) true
placed_frames tags k q j h =
    let len : length (free_frames tags) ≡ length tags = length-free_frames tags in
    same_set (free_frames (set tags q (j + 1))) (with_frames (free_frames tags) q (2 ^ j) true)
    (length-free_frames (set tags q (j + 1)) ∙ length-set tags q (j + 1) ∙ sym len ∙ sym (length-with_frames (free_frames tags) q (2 ^ j) true (omega (arith, h.within))))
    (λ p lt. placed_frame tags k q j h p)
