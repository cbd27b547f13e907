-- Which frames the free blocks of a map cover.
use Rattle.std.proofs.Common.{◌≡◌, ◌⊎◌, ℕ, zero, suc, ◌+◌, ◌-◌, ◌^◌, ◌%◌, ◌<◌, ◌≤◌, Bool, true, false, eqb, List, length, get_or, sym, ◌∙◌, ap, subst, ⊎_elim, arith}
use Rattle.std.specs.List.{range_with_len, list_any}
use Rattle.std.proofs.lemmas.Bool.{cases_lt, cases_order, or_cases, false≢true, eqb-true, eq-eqb}
use Rattle.std.proofs.lemmas.List.{get_or_past}
use Rattle.std.proofs.lemmas.List.Folds.{list_any_at}
use Rattle.std.proofs.Math.Nat.{mod-lt, mod-le, two-pow-succ}
use Rattle.std.proofs.lemmas.List.FromFn.{length-range_with_len, get_or-range_with_len, length-map-range_with_len, get_or-map-range_with_len}
use Rattle.std.proofs.lemmas.Nat.{pow_pos}
use Rattle.buddy_pages.specs.FreeFrames.{is_free}
use Rattle.buddy_pages.specs.Blocks.{is_in_block, is_covered, free_frames, AreBlocks}
use Rattle.buddy_pages.proofs.Powers.{start_only, multiple_near, double, multiple_lower, multiple_sum, power_multiple, run_within, buddy_above}
use Rattle.buddy_pages.proofs.Frames.{AreFree, free_below}

-- frame p lies in the free block of order o at frame a
pub record InBlock (tags : List ℕ) (p a o : ℕ) : Type 0 where
  pub tag : get_or tags a 0 ≡ o + 1
  pub from : a ≤ p
  pub to : p < a + 2 ^ o

-- frame p lies in a free block
pub record Covers (tags : List ℕ) (p : ℕ) : Type 0 where
  pub start : ℕ
  pub order : ℕ
  pub block : InBlock tags p start order

any_some : (t : ℕ → Bool) (f c : ℕ) → list_any t (range_with_len f c) ≡ true → (i : ℕ) × ((i < f + c) × (t i ≡ true))
any_some t f zero h = absurd (false≢true h)
any_some t f (suc c) h =
    ⊎_elim (λ (e : t f ≡ true). (f, (omega arith, e)))
    (λ (e : list_any t (range_with_len (f + 1) c) ≡ true).
    let rest = any_some t (f + 1) c e in
    (rest.0, (omega (arith, rest.1.0), rest.1.1)))
    (or_cases (t f) (list_any t (range_with_len (f + 1) c)) h)

any_from : (t : ℕ → Bool) (f c i : ℕ) → f ≤ i → i < f + c → t i ≡ true → list_any t (range_with_len f c) ≡ true
any_from t f c i a b h =
    let at : get_or (range_with_len f c) (i - f) 0 ≡ i = get_or-range_with_len f c (i - f) 0 (omega arith) ∙ omega arith in
    let long : length (range_with_len f c) ≡ c = length-range_with_len f c in
    list_any_at t (range_with_len f c) (i - f) 0 (omega arith) (ap t at ∙ h)

pub length-free_frames : (tags : List ℕ) → length (free_frames tags) ≡ length tags
unfolding free_frames
length-free_frames tags = length-map-range_with_len (is_covered tags) 0 (length tags)

free_is : (tags : List ℕ) (p : ℕ) → p < length tags → is_free (free_frames tags) p ≡ is_covered tags p
unfolding free_frames is_free
free_is tags p h = get_or-map-range_with_len (is_covered tags) 0 (length tags) p p false h (omega arith)

-- a tag other than 0 is a frame's
pub tag_below : (tags : List ℕ) (p o : ℕ) → get_or tags p 0 ≡ o + 1 → p < length tags
tag_below tags p o h =
    ⊎_elim (λ (l : p < length tags). l)
    (λ (l : length tags ≤ p). let e : get_or tags p 0 ≡ 0 = get_or_past tags p 0 l in absurd (omega arith))
    (cases_lt p (length tags))

-- a free frame lies in a free block
pub free_covers : (tags : List ℕ) (p : ℕ) → is_free (free_frames tags) p ≡ true → Covers tags p
unfolding is_covered is_in_block
free_covers tags p h =
    let lt : p < length (free_frames tags) = free_below (free_frames tags) p h in
    let len : length (free_frames tags) ≡ length tags = length-free_frames tags in
    let c : is_covered tags p ≡ true = sym (free_is tags p (omega arith)) ∙ h in
    let some = any_some (is_in_block tags p) 0 10 c in
    let pos : 0 < 2 ^ some.0 = pow_pos some.0 in
    let below : p % 2 ^ some.0 < 2 ^ some.0 = mod-lt p pos in
    let le : p % 2 ^ some.0 ≤ p = mod-le p (2 ^ some.0) in
    record {
      start = p - p % 2 ^ some.0;
      order = some.0;
      block = record { tag = eqb-true (get_or tags (p - p % 2 ^ some.0) 0) (some.0 + 1) some.1.1; from = omega arith; to = omega arith };
    }

-- a frame of a free block is free
pub block_free : (tags : List ℕ) → AreBlocks tags → (p a o : ℕ) → InBlock tags p a o → is_free (free_frames tags) p ≡ true
unfolding is_covered is_in_block
block_free tags k p a o b =
    let start : p - p % 2 ^ o ≡ a = start_only a p (2 ^ o) (k.aligned a o b.tag) b.from b.to in
    let within : a + 2 ^ o ≤ length tags = k.within a o b.tag in
    let small : get_or tags a 0 ≤ 10 = k.small a in
    let tag : get_or tags a 0 ≡ o + 1 = b.tag in
    let at : eqb (get_or tags (p - p % 2 ^ o) 0) (o + 1) ≡ true = eq-eqb (get_or tags (p - p % 2 ^ o) 0) (o + 1) (ap (λ z. get_or tags z 0) start ∙ tag) in
    free_is tags p (omega (arith, b.to)) ∙ any_from (is_in_block tags p) 0 10 o (omega arith) (omega arith) at

-- a frame lies in one free block at most
pub same_block : (tags : List ℕ) → AreBlocks tags → (p a o b r : ℕ) → InBlock tags p a o → InBlock tags p b r → (a ≡ b) × (o ≡ r)
same_block tags k p a o b r x y =
    let s : get_or tags a 0 ≡ o + 1 = x.tag in
    let t : get_or tags b 0 ≡ r + 1 = y.tag in
    ⊎_elim (λ (e : a ≡ b). let u : get_or tags a 0 ≡ get_or tags b 0 = ap (λ z. get_or tags z 0) e in (e, omega arith))
    (λ (ne : (a < b) ⊎ (b < a)).
    ⊎_elim (λ (l : a < b). let z : get_or tags b 0 ≡ 0 = k.apart a o b s l (omega (arith, x.to, y.from)) in absurd (omega arith))
    (λ (l : b < a). let z : get_or tags a 0 ≡ 0 = k.apart b r a t l (omega (arith, y.to, x.from)) in absurd (omega arith))
    ne)
    (cases_order a b)

-- an aligned run whose frames are all free lies in one free block of its order or a greater one
pub record RunCovers (tags : List ℕ) (q j : ℕ) : Type 0 where
  pub start : ℕ
  pub order : ℕ
  pub greater : j ≤ order
  pub block : InBlock tags q start order

-- a block of a run's own order that holds a frame of it is the run
pub same_start : (tags : List ℕ) → AreBlocks tags → (q a j o : ℕ) → q % 2 ^ j ≡ 0 → InBlock tags q a o → o ≡ j → a ≡ q
same_start tags k q a j o h b e =
    let m : a % 2 ^ j ≡ 0 = subst (λ (z : ℕ). a % 2 ^ z ≡ 0) e (k.aligned a o b.tag) in
    let to : q < a + 2 ^ j = subst (λ (z : ℕ). q < a + 2 ^ z) e b.to in
    let le : q ≤ a = multiple_near a q (2 ^ j) m h to in
    let ge : a ≤ q = b.from in
    omega arith

run_covers_more : (tags : List ℕ) → AreBlocks tags → (j q : ℕ) → j < 9 → q % 2 ^ (j + 1) ≡ 0 → RunCovers tags q j → RunCovers tags (q + 2 ^ j) j → RunCovers tags q (j + 1)
run_covers_more tags k j q le h c d =
    let low : q % 2 ^ j ≡ 0 = multiple_lower q j (j + 1) (omega arith) h in
    let half : (q + 2 ^ j) % 2 ^ j ≡ 0 = multiple_sum q (2 ^ j) (2 ^ j) low (power_multiple j j (omega arith)) in
    let two : 2 ^ (j + 1) ≡ 2 ^ j + 2 ^ j = double j in
    let pos : 0 < 2 ^ j = pow_pos j in
    ⊎_elim (λ (l : j < c.order). record { start = c.start; order = c.order; greater = omega arith; block = c.block })
    (λ (l : c.order ≤ j). ⊎_elim
    (λ (m : j < d.order).
    let w = run_within d.start q (q + 2 ^ j) (j + 1) d.order (omega arith) (k.aligned d.start d.order d.block.tag) h d.block.from d.block.to (omega arith) (omega arith) in
    record { start = d.start; order = d.order; greater = omega arith; block = record { tag = d.block.tag; from = w.0; to = omega (arith, w.1) } })
    (λ (m : d.order ≤ j).
    let oc : c.order ≡ j = omega (arith, c.greater) in
    let od : d.order ≡ j = omega (arith, d.greater) in
    let ec : c.start ≡ q = same_start tags k q c.start j c.order low c.block oc in
    let ed : d.start ≡ q + 2 ^ j = same_start tags k (q + 2 ^ j) d.start j d.order half d.block od in
    let tc : get_or tags q 0 ≡ j + 1 = ap (λ z. get_or tags z 0) (sym ec) ∙ c.block.tag ∙ ap (λ z. z + 1) oc in
    let td : get_or tags (q + 2 ^ j) 0 ≡ j + 1 = ap (λ z. get_or tags z 0) (sym ed) ∙ d.block.tag ∙ ap (λ z. z + 1) od in
    absurd (k.merged q j tc le (ap (λ z. get_or tags z 0) (buddy_above q j h) ∙ td)))
    (cases_lt j d.order))
    (cases_lt j c.order)

pub run_covers : (tags : List ℕ) → AreBlocks tags → (j q : ℕ) → j ≤ 9 → q % 2 ^ j ≡ 0 → AreFree (free_frames tags) q (2 ^ j) → RunCovers tags q j
run_covers tags k zero q le h f =
    let c : Covers tags q = free_covers tags q (f.each q (omega arith) (omega arith)) in
    record { start = c.start; order = c.order; greater = omega arith; block = c.block }
run_covers tags k (suc j) q le h f =
    let e : suc j ≡ j + 1 = omega arith in
    let m : q % 2 ^ (j + 1) ≡ 0 = subst (λ (z : ℕ). q % 2 ^ z ≡ 0) e h in
    let low : q % 2 ^ j ≡ 0 = multiple_lower q j (j + 1) (omega arith) m in
    let half : (q + 2 ^ j) % 2 ^ j ≡ 0 = multiple_sum q (2 ^ j) (2 ^ j) low (power_multiple j j (omega arith)) in
    let two : 2 ^ suc j ≡ 2 ^ j + 2 ^ j = two-pow-succ j in
    let front : AreFree (free_frames tags) q (2 ^ j) = record { each = λ p a b. f.each p a (omega arith) } in
    let back : AreFree (free_frames tags) (q + 2 ^ j) (2 ^ j) = record { each = λ p a b. f.each p (omega arith) (omega arith) } in
    let more : RunCovers tags q (j + 1) = run_covers_more tags k j q (omega arith) m (run_covers tags k j q (omega arith) low front) (run_covers tags k j (q + 2 ^ j) (omega arith) half back) in
    subst (λ (z : ℕ). RunCovers tags q z) (sym e) more
