-- The runs of an order are the blocks of that order and the halves of the runs one order higher.
use Rattle.std.proofs.Common.{◌≡◌, ◌⊎◌, ℕ, ◌+◌, ◌-◌, ◌^◌, ◌%◌, ◌<◌, ◌≤◌, Bool, true, false, cond, eqb, List, length, get_or, refl, sym, ◌∙◌, ap, subst, inl, inr, ⊎_elim, arith}
use Rattle.std.proofs.lemmas.Bool.{cases_lt, cases_Bool, false≢true, eqb-true, eq-eqb}
use Rattle.std.proofs.lemmas.Nat.{pow_pos}
use Rattle.buddy_pages.specs.FreeFrames.{is_free_run, free_runs}
use Rattle.buddy_pages.specs.Blocks.{free_frames, block_count, AreBlocks}
use Rattle.buddy_pages.proofs.Powers.{double, multiple_lower, multiple_sum, multiple_step, power_multiple, run_within, halves}
use Rattle.buddy_pages.proofs.Frames.{same_bool, IsRun, IsRun-from, is_free_run-from}
use Rattle.buddy_pages.proofs.Covered.{InBlock, RunCovers, run_covers, same_block, same_start, length-free_frames}
use Rattle.buddy_pages.proofs.Totals.{total, total_same, total_sum, shift, shift_below, shift_above, total_shift, sum_total}
use Rattle.buddy_pages.proofs.Runs.{bit, bit_false, runs_total, run_fits, block_run}

-- a is one of b, c and d, no two of which are true
one_of_three : (a b c d : Bool) → (b ≡ true → a ≡ true) → (c ≡ true → a ≡ true) → (d ≡ true → a ≡ true) → (a ≡ true → (b ≡ true) ⊎ ((c ≡ true) ⊎ (d ≡ true)))
    → (b ≡ true → c ≡ true → ⊥) → (b ≡ true → d ≡ true → ⊥) → (c ≡ true → d ≡ true → ⊥) → bit a ≡ bit b + (bit c + bit d)
unfolding bit
one_of_three false false false false f g h i j k l = refl
one_of_three false true c d f g h i j k l = absurd (false≢true (f refl))
one_of_three false false true d f g h i j k l = absurd (false≢true (g refl))
one_of_three false false false true f g h i j k l = absurd (false≢true (h refl))
one_of_three true false false false f g h i j k l =
    absurd (⊎_elim (λ (e : false ≡ true). false≢true e)
    (λ (e : (false ≡ true) ⊎ (false ≡ true)). ⊎_elim (λ (m : false ≡ true). false≢true m) (λ (m : false ≡ true). false≢true m) e) (i refl))
one_of_three true true false false f g h i j k l = refl
one_of_three true false true false f g h i j k l = refl
one_of_three true false false true f g h i j k l = refl
one_of_three true true true d f g h i j k l = absurd (j refl refl)
one_of_three true true false true f g h i j k l = absurd (k refl refl)
one_of_three true false true true f g h i j k l = absurd (l refl refl)

-- the halves of a run
front_half : (free : List Bool) (o p : ℕ) → IsRun free (o + 1) p → IsRun free o p
front_half free o p r =
    let two : 2 ^ (o + 1) ≡ 2 ^ o + 2 ^ o = double o in
    record { aligned = multiple_lower p o (o + 1) (omega arith) r.aligned; frames = record { each = λ x a b. r.frames.each x a (omega arith) } }

back_half : (free : List Bool) (o p : ℕ) → 2 ^ o ≤ p → IsRun free (o + 1) (p - 2 ^ o) → IsRun free o p
back_half free o p le r =
    let two : 2 ^ (o + 1) ≡ 2 ^ o + 2 ^ o = double o in
    let low : (p - 2 ^ o) % 2 ^ o ≡ 0 = multiple_lower (p - 2 ^ o) o (o + 1) (omega arith) r.aligned in
    let sum : (p - 2 ^ o + 2 ^ o) % 2 ^ o ≡ 0 = multiple_sum (p - 2 ^ o) (2 ^ o) (2 ^ o) low (power_multiple o o (omega arith)) in
    let e : p - 2 ^ o + 2 ^ o ≡ p = omega arith in
    record { aligned = subst (λ (z : ℕ). z % 2 ^ o ≡ 0) e sum; frames = record { each = λ x a b. r.frames.each x (omega arith) (omega arith) } }

-- a run is a block of its order or lies in a greater one
pub run_or_block : (tags : List ℕ) → AreBlocks tags → (o p : ℕ) → o ≤ 9 → IsRun (free_frames tags) o p → (get_or tags p 0 ≡ o + 1) ⊎ RunCovers tags p (o + 1)
run_or_block tags k o p le r =
    let c : RunCovers tags p o = run_covers tags k o p le r.aligned r.frames in
    ⊎_elim (λ (l : o < c.order). let x : RunCovers tags p (o + 1) = record { start = c.start; order = c.order; greater = omega arith; block = c.block } in inr x)
    (λ (l : c.order ≤ o).
    let e : c.order ≡ o = omega (arith, c.greater) in
    let s : c.start ≡ p = same_start tags k p c.start o c.order r.aligned c.block e in
    inl (ap (λ z. get_or tags z 0) (sym s) ∙ c.block.tag ∙ ap (λ z. z + 1) e))
    (cases_lt o c.order)

not_both : (tags : List ℕ) → AreBlocks tags → (o p : ℕ) → get_or tags p 0 ≡ o + 1 → (a r : ℕ) → InBlock tags p a r → o < r → ⊥
not_both tags k o p t a r b l =
    let pos : 0 < 2 ^ o = pow_pos o in
    let x : InBlock tags p p o = record { tag = t; from = omega arith; to = omega arith } in
    let same : o ≡ r = (same_block tags k p p o a r x b).1 in
    omega arith

block_not_front : (tags : List ℕ) → AreBlocks tags → (o p : ℕ) → o < 9 → get_or tags p 0 ≡ o + 1 → IsRun (free_frames tags) (o + 1) p → ⊥
block_not_front tags k o p le t r =
    let c : RunCovers tags p (o + 1) = run_covers tags k (o + 1) p (omega arith) r.aligned r.frames in
    not_both tags k o p t c.start c.order c.block (omega (arith, c.greater))

block_not_back : (tags : List ℕ) → AreBlocks tags → (o p : ℕ) → o < 9 → 2 ^ o ≤ p → get_or tags p 0 ≡ o + 1 → IsRun (free_frames tags) (o + 1) (p - 2 ^ o) → ⊥
block_not_back tags k o p le s t r =
    let two : 2 ^ (o + 1) ≡ 2 ^ o + 2 ^ o = double o in
    let pos : 0 < 2 ^ o = pow_pos o in
    let c : RunCovers tags (p - 2 ^ o) (o + 1) = run_covers tags k (o + 1) (p - 2 ^ o) (omega arith) r.aligned r.frames in
    let w = run_within c.start (p - 2 ^ o) (p - 2 ^ o) (o + 1) c.order c.greater (k.aligned c.start c.order c.block.tag) r.aligned c.block.from c.block.to (omega arith) (omega arith) in
    let from : c.start ≤ p - 2 ^ o = w.0 in
    let to : p - 2 ^ o + 2 ^ (o + 1) ≤ c.start + 2 ^ c.order = w.1 in
    not_both tags k o p t c.start c.order (record { tag = c.block.tag; from = omega arith; to = omega arith }) (omega (arith, c.greater))

front_not_back : (free : List Bool) (o p : ℕ) → 2 ^ o ≤ p → IsRun free (o + 1) p → IsRun free (o + 1) (p - 2 ^ o) → ⊥
front_not_back free o p le r q =
    let two : 2 ^ (o + 1) ≡ 2 ^ o + 2 ^ o = double o in
    let pos : 0 < 2 ^ o = pow_pos o in
    let step : p - 2 ^ o + 2 ^ (o + 1) ≤ p = multiple_step (p - 2 ^ o) p (2 ^ (o + 1)) q.aligned r.aligned (omega arith) in
    omega arith

-- a run that isn't a block is the front or the back half of a greater run
run_is_half : (tags : List ℕ) → AreBlocks tags → (o p : ℕ) → o < 9 → IsRun (free_frames tags) o p → RunCovers tags p (o + 1) → (IsRun (free_frames tags) (o + 1) p) ⊎ ((2 ^ o ≤ p) × IsRun (free_frames tags) (o + 1) (p - 2 ^ o))
run_is_half tags k o p le r c =
    let two : 2 ^ (o + 1) ≡ 2 ^ o + 2 ^ o = double o in
    let pos : 0 < 2 ^ o = pow_pos o in
    ⊎_elim (λ (m : p % 2 ^ (o + 1) ≡ 0). inl (block_run tags k p p c.start c.order (o + 1) c.block c.greater m (omega arith) (omega arith)))
    (λ (m : (2 ^ o ≤ p) × ((p - 2 ^ o) % 2 ^ (o + 1) ≡ 0)). inr (m.0, block_run tags k (p - 2 ^ o) p c.start c.order (o + 1) c.block c.greater m.1 (omega arith) (omega (arith, m.0))))
    (halves p o r.aligned)

-- a frame begins a run where it begins a block, or the front or the back half of a greater run
halves_at : (tags : List ℕ) → AreBlocks tags → (o p : ℕ) → o < 9 →
    bit (is_free_run (free_frames tags) o p) ≡ bit (eqb (get_or tags p 0) (o + 1)) + (bit (is_free_run (free_frames tags) (o + 1) p) + shift (2 ^ o) (λ i. bit (is_free_run (free_frames tags) (o + 1) i)) p)
halves_at tags k o p le =
    let free : List Bool = free_frames tags in
    let pos : 0 < 2 ^ o = pow_pos o in
    let from_block = λ (t : eqb (get_or tags p 0) (o + 1) ≡ true).
    is_free_run-from (free_frames tags) o p
    (block_run tags k p p p o o (record { tag = eqb-true (get_or tags p 0) (o + 1) t; from = omega arith; to = omega arith }) (omega arith)
    (k.aligned p o (eqb-true (get_or tags p 0) (o + 1) t)) (omega arith) (omega arith)) in
    let from_front = λ (t : is_free_run (free_frames tags) (o + 1) p ≡ true).
    is_free_run-from (free_frames tags) o p (front_half (free_frames tags) o p (IsRun-from (free_frames tags) (o + 1) p t)) in
    let not_front = λ (t : eqb (get_or tags p 0) (o + 1) ≡ true) (u : is_free_run (free_frames tags) (o + 1) p ≡ true).
    block_not_front tags k o p le (eqb-true (get_or tags p 0) (o + 1) t) (IsRun-from (free_frames tags) (o + 1) p u) in
    ⊎_elim
    (λ (l : p < 2 ^ o).
    one_of_three (is_free_run (free_frames tags) o p) (eqb (get_or tags p 0) (o + 1)) (is_free_run (free_frames tags) (o + 1) p) false
    from_block from_front (λ e. absurd (false≢true e))
    (λ t.
    let r : IsRun (free_frames tags) o p = IsRun-from (free_frames tags) o p t in
    ⊎_elim (λ (b : get_or tags p 0 ≡ o + 1). inl (eq-eqb (get_or tags p 0) (o + 1) b))
    (λ (c : RunCovers tags p (o + 1)).
    ⊎_elim (λ (q : IsRun (free_frames tags) (o + 1) p). inr (inl (is_free_run-from (free_frames tags) (o + 1) p q)))
    (λ (q : (2 ^ o ≤ p) × IsRun (free_frames tags) (o + 1) (p - 2 ^ o)). absurd (omega (arith, q.0)))
    (run_is_half tags k o p le r c))
    (run_or_block tags k o p (omega arith) r))
    not_front (λ t e. false≢true e) (λ t e. false≢true e)
    ∙ ap (λ z. bit (eqb (get_or tags p 0) (o + 1)) + (bit (is_free_run (free_frames tags) (o + 1) p) + z))
    (bit_false false refl ∙ sym (shift_below (2 ^ o) (λ i. bit (is_free_run (free_frames tags) (o + 1) i)) p l)))
    (λ (l : 2 ^ o ≤ p).
    one_of_three (is_free_run (free_frames tags) o p) (eqb (get_or tags p 0) (o + 1)) (is_free_run (free_frames tags) (o + 1) p) (is_free_run (free_frames tags) (o + 1) (p - 2 ^ o))
    from_block from_front
    (λ u. is_free_run-from (free_frames tags) o p (back_half (free_frames tags) o p l (IsRun-from (free_frames tags) (o + 1) (p - 2 ^ o) u)))
    (λ t.
    let r : IsRun (free_frames tags) o p = IsRun-from (free_frames tags) o p t in
    ⊎_elim (λ (b : get_or tags p 0 ≡ o + 1). inl (eq-eqb (get_or tags p 0) (o + 1) b))
    (λ (c : RunCovers tags p (o + 1)).
    ⊎_elim (λ (q : IsRun (free_frames tags) (o + 1) p). inr (inl (is_free_run-from (free_frames tags) (o + 1) p q)))
    (λ (q : (2 ^ o ≤ p) × IsRun (free_frames tags) (o + 1) (p - 2 ^ o)). inr (inr (is_free_run-from (free_frames tags) (o + 1) (p - 2 ^ o) q.1)))
    (run_is_half tags k o p le r c))
    (run_or_block tags k o p (omega arith) r))
    not_front
    (λ t u. block_not_back tags k o p le l (eqb-true (get_or tags p 0) (o + 1) t) (IsRun-from (free_frames tags) (o + 1) (p - 2 ^ o) u))
    (λ t u. front_not_back (free_frames tags) o p l (IsRun-from (free_frames tags) (o + 1) p t) (IsRun-from (free_frames tags) (o + 1) (p - 2 ^ o) u))
    ∙ ap (λ z. bit (eqb (get_or tags p 0) (o + 1)) + (bit (is_free_run (free_frames tags) (o + 1) p) + z))
    (sym (shift_above (2 ^ o) (λ i. bit (is_free_run (free_frames tags) (o + 1) i)) p l)))
    (cases_lt p (2 ^ o))

pub blocks_total : (tags : List ℕ) (o : ℕ) → block_count tags o ≡ total (λ p. bit (eqb (get_or tags p 0) (o + 1))) (length tags)
unfolding block_count bit
blocks_total tags o = sum_total (λ t. cond (eqb t (o + 1)) 1 0) tags 0

runs_over_tags : (tags : List ℕ) (o : ℕ) → free_runs (free_frames tags) o ≡ total (λ p. bit (is_free_run (free_frames tags) o p)) (length tags)
runs_over_tags tags o = runs_total (free_frames tags) o ∙ ap (total (λ p. bit (is_free_run (free_frames tags) o p))) (length-free_frames tags)

pub runs_more : (tags : List ℕ) → AreBlocks tags → (o : ℕ) → o < 9 → free_runs (free_frames tags) o ≡ block_count tags o + (free_runs (free_frames tags) (o + 1) + free_runs (free_frames tags) (o + 1))
runs_more tags k o le =
    let n : ℕ = length tags in
    let two : 2 ^ (o + 1) ≡ 2 ^ o + 2 ^ o = double o in
    let pos : 0 < 2 ^ o = pow_pos o in
    let last = λ (i : ℕ) (l : i < length tags) (m : length tags ≤ i + 2 ^ o).
    bit_false (is_free_run (free_frames tags) (o + 1) i)
    (⊎_elim (λ (t : is_free_run (free_frames tags) (o + 1) i ≡ true).
    let fits : i + 2 ^ (o + 1) ≤ length (free_frames tags) = run_fits (free_frames tags) (o + 1) i (IsRun-from (free_frames tags) (o + 1) i t) in
    absurd (omega (arith, length-free_frames tags)))
    (λ (f : is_free_run (free_frames tags) (o + 1) i ≡ false). f)
    (cases_Bool (is_free_run (free_frames tags) (o + 1) i))) in
    runs_over_tags tags o
    ∙ total_same (λ p. bit (is_free_run (free_frames tags) o p))
    (λ p. bit (eqb (get_or tags p 0) (o + 1)) + (bit (is_free_run (free_frames tags) (o + 1) p) + shift (2 ^ o) (λ i. bit (is_free_run (free_frames tags) (o + 1) i)) p))
    (length tags) (λ p l. halves_at tags k o p le)
    ∙ total_sum (λ p. bit (eqb (get_or tags p 0) (o + 1)))
    (λ p. bit (is_free_run (free_frames tags) (o + 1) p) + shift (2 ^ o) (λ i. bit (is_free_run (free_frames tags) (o + 1) i)) p) (length tags)
    ∙ ap (λ z. total (λ p. bit (eqb (get_or tags p 0) (o + 1))) (length tags) + z)
    (total_sum (λ p. bit (is_free_run (free_frames tags) (o + 1) p)) (shift (2 ^ o) (λ i. bit (is_free_run (free_frames tags) (o + 1) i))) (length tags)
    ∙ ap (λ z. total (λ p. bit (is_free_run (free_frames tags) (o + 1) p)) (length tags) + z)
    (total_shift (2 ^ o) (λ i. bit (is_free_run (free_frames tags) (o + 1) i)) (length tags) last))
    ∙ sym (ap (λ z. z + (free_runs (free_frames tags) (o + 1) + free_runs (free_frames tags) (o + 1))) (blocks_total tags o)
    ∙ ap (λ z. total (λ p. bit (eqb (get_or tags p 0) (o + 1))) (length tags) + (z + z)) (runs_over_tags tags (o + 1)))

-- the runs of the greatest order are the blocks of that order
pub runs_greatest : (tags : List ℕ) → AreBlocks tags → free_runs (free_frames tags) 9 ≡ block_count tags 9
runs_greatest tags k =
    runs_over_tags tags 9
    ∙ total_same (λ p. bit (is_free_run (free_frames tags) 9 p)) (λ p. bit (eqb (get_or tags p 0) 10)) (length tags)
    (λ p l. ap bit (same_bool (is_free_run (free_frames tags) 9 p) (eqb (get_or tags p 0) 10)
    (λ t.
    ⊎_elim (λ (b : get_or tags p 0 ≡ 9 + 1). eq-eqb (get_or tags p 0) 10 b)
    (λ (c : RunCovers tags p (9 + 1)).
    let small : get_or tags c.start 0 ≤ 10 = k.small c.start in
    absurd (omega (arith, c.block.tag, c.greater)))
    (run_or_block tags k 9 p (omega arith) (IsRun-from (free_frames tags) 9 p t)))
    (λ t.
    let tag : get_or tags p 0 ≡ 10 = eqb-true (get_or tags p 0) 10 t in
    is_free_run-from (free_frames tags) 9 p
    (block_run tags k p p p 9 9 (record { tag = tag; from = omega arith; to = omega arith }) (omega arith) (k.aligned p 9 tag) (omega arith) (omega arith)))))
    ∙ sym (blocks_total tags 9)
