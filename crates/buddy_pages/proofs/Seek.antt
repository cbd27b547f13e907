-- Searches: for the block that holds a run, for the next free run, and for the number of free runs.
use Rattle.std.proofs.Common.{◌≡◌, ℕ, ◌+◌, ◌-◌, ◌*◌, ◌^◌, ◌%◌, ◌<◌, ◌≤◌, true, List, length, get_or, sym, ◌∙◌, ap, subst, ⊎_elim, arith}
use Rattle.std.proofs.lemmas.Bool.{cases_lt}
use Rattle.std.proofs.lemmas.Nat.{pow_pos}
use Rattle.buddy_pages.specs.FreeFrames.{is_free_run, free_runs, NoRunBelow}
use Rattle.buddy_pages.specs.Blocks.{free_frames, block_count, AreBlocks}
use Rattle.buddy_pages.proofs.Powers.{start_only, multiple_lower, multiple_sum, multiple_near, power_multiple}
use Rattle.buddy_pages.proofs.Frames.{IsRun, IsRun-from, is_free_run-from}
use Rattle.buddy_pages.proofs.Covered.{InBlock, RunCovers, run_covers, length-free_frames}
use Rattle.buddy_pages.proofs.Runs.{runs_le, some_run, run_begins, block_run}
use Rattle.buddy_pages.proofs.Halves.{runs_more, runs_greatest}

-- no free block of an order below `size` holds the run
pub record Seeking (tags : List ℕ) (first order size : ℕ) : Type 0 where
  pub least : order ≤ size
  pub small : size ≤ 9
  pub none : (j : ℕ) → order ≤ j → j < size → get_or tags (first - first % 2 ^ j) 0 ≡ j + 1 → ⊥
  pub begins : first < length tags

-- one does
record HasBlock (tags : List ℕ) (first order : ℕ) : Type 0 where
  size : ℕ
  greater : order ≤ size
  small : size ≤ 9
  block : get_or tags (first - first % 2 ^ size) 0 ≡ size + 1

has_block : (tags : List ℕ) → AreBlocks tags → (first order : ℕ) → order ≤ 9 → is_free_run (free_frames tags) order first ≡ true → HasBlock tags first order
has_block tags k first order le run =
    let r : IsRun (free_frames tags) order first = IsRun-from (free_frames tags) order first run in
    let c : RunCovers tags first order = run_covers tags k order first le r.aligned r.frames in
    let s : first - first % 2 ^ c.order ≡ c.start = start_only c.start first (2 ^ c.order) (k.aligned c.start c.order c.block.tag) c.block.from c.block.to in
    let most : get_or tags c.start 0 ≤ 10 = k.small c.start in
    record {
      size = c.order;
      greater = c.greater;
      small = omega (arith, c.block.tag);
      block = ap (λ z. get_or tags z 0) s ∙ c.block.tag;
    }

pub seeking_begins : (tags : List ℕ) → AreBlocks tags → (first order : ℕ) → order ≤ 9 → is_free_run (free_frames tags) order first ≡ true → Seeking tags first order order
seeking_begins tags k first order le run =
    let r : IsRun (free_frames tags) order first = IsRun-from (free_frames tags) order first run in
    record {
      least = omega arith;
      small = le;
      none = λ j a b t. omega arith;
      begins = omega (arith, run_begins (free_frames tags) order first r, length-free_frames tags);
    }

pub seeking_goes_on : (tags : List ℕ) → AreBlocks tags → (first order size : ℕ) → is_free_run (free_frames tags) order first ≡ true → Seeking tags first order size
    → (get_or tags (first - first % 2 ^ size) 0 ≡ size + 1 → ⊥) → Seeking tags first order (size + 1)
seeking_goes_on tags k first order size run s other =
    let h : HasBlock tags first order = has_block tags k first order (omega (arith, s.least, s.small)) run in
    let more = λ (j : ℕ) (a : order ≤ j) (b : j < size + 1) (t : get_or tags (first - first % 2 ^ j) 0 ≡ j + 1).
    ⊎_elim (λ (l : j < size). s.none j a l t)
    (λ (l : size ≤ j). let e : j ≡ size = omega arith in other (subst (λ (z : ℕ). get_or tags (first - first % 2 ^ z) 0 ≡ z + 1) e t))
    (cases_lt j size) in
    record {
      least = omega (arith, s.least);
      small = ⊎_elim (λ (l : h.size < size + 1). absurd (more h.size h.greater l h.block)) (λ (l : size + 1 ≤ h.size). omega (arith, h.small)) (cases_lt h.size (size + 1));
      none = more;
      begins = s.begins;
    }

-- no free run begins below `first`, where one may begin
pub record Searching (tags : List ℕ) (at order first : ℕ) : Type 0 where
  pub aligned : first % 2 ^ order ≡ 0
  pub none : NoRunBelow (free_frames tags) order first
  pub from : at ≤ first
  pub begins : first < length tags

begins_below : (tags : List ℕ) (order first : ℕ) → NoRunBelow (free_frames tags) order first → 0 < free_runs (free_frames tags) order → first < length tags
begins_below tags order first none some =
    let r = some_run (free_frames tags) order some in
    let b : r.0 < length (free_frames tags) = run_begins (free_frames tags) order r.0 (IsRun-from (free_frames tags) order r.0 r.1) in
    ⊎_elim (λ (l : r.0 < first). absurd (none.none r.0 l r.1)) (λ (l : first ≤ r.0). omega (arith, length-free_frames tags)) (cases_lt r.0 first)

pub searching_begins : (tags : List ℕ) (at order : ℕ) → at % 2 ^ order ≡ 0 → NoRunBelow (free_frames tags) order at → 0 < free_runs (free_frames tags) order → Searching tags at order at
searching_begins tags at order h none some = record { aligned = h; none = none; from = omega arith; begins = begins_below tags order at none some }

-- where no block of the order or a greater one begins, no run does
no_run_here : (tags : List ℕ) → AreBlocks tags → (at order first : ℕ) → order ≤ 9 → Searching tags at order first → get_or tags first 0 ≤ order → is_free_run (free_frames tags) order first ≡ true → ⊥
no_run_here tags k at order first le s small run =
    let r : IsRun (free_frames tags) order first = IsRun-from (free_frames tags) order first run in
    let c : RunCovers tags first order = run_covers tags k order first le r.aligned r.frames in
    let pos : 0 < 2 ^ order = pow_pos order in
    let pos2 : 0 < 2 ^ c.order = pow_pos c.order in
    let greater : order ≤ c.order = c.greater in
    let from : c.start ≤ first = c.block.from in
    let m : c.start % 2 ^ order ≡ 0 = multiple_lower c.start order c.order greater (k.aligned c.start c.order c.block.tag) in
    ⊎_elim
    (λ (l : c.start < first).
    let b : InBlock tags c.start c.start c.order = record { tag = c.block.tag; from = omega arith; to = omega arith } in
    s.none.none c.start l (is_free_run-from (free_frames tags) order c.start (block_run tags k c.start c.start c.start c.order order b greater m (omega arith) (omega arith))))
    (λ (l : first ≤ c.start).
    let t : get_or tags first 0 ≡ c.order + 1 = ap (λ z. get_or tags z 0) (omega arith) ∙ c.block.tag in
    omega arith)
    (cases_lt c.start first)

pub searching_goes_on : (tags : List ℕ) → AreBlocks tags → (at order first : ℕ) → order ≤ 9 → 0 < free_runs (free_frames tags) order → Searching tags at order first
    → get_or tags first 0 ≤ order → Searching tags at order (first + 2 ^ order)
searching_goes_on tags k at order first le some s small =
    let next : NoRunBelow (free_frames tags) order (first + 2 ^ order) = record {
      none = λ p l run.
          let r : IsRun (free_frames tags) order p = IsRun-from (free_frames tags) order p run in
          ⊎_elim (λ (a : p < first). s.none.none p a run)
          (λ (a : first ≤ p).
          let e : p ≡ first = omega (arith, multiple_near first p (2 ^ order) s.aligned r.aligned l) in
          no_run_here tags k at order first le s small (subst (λ (z : ℕ). is_free_run (free_frames tags) order z ≡ true) e run))
          (cases_lt p first);
    } in
    record {
      aligned = multiple_sum first (2 ^ order) (2 ^ order) s.aligned (power_multiple order order (omega arith));
      none = next;
      from = omega (arith, s.from);
      begins = begins_below tags order (first + 2 ^ order) next some;
    }

pub searching_finds : (tags : List ℕ) → AreBlocks tags → (at order first : ℕ) → Searching tags at order first → order < get_or tags first 0 → is_free_run (free_frames tags) order first ≡ true
searching_finds tags k at order first s l =
    let t : get_or tags first 0 ≡ get_or tags first 0 - 1 + 1 = omega arith in
    let pos : 0 < 2 ^ (get_or tags first 0 - 1) = pow_pos (get_or tags first 0 - 1) in
    let pos2 : 0 < 2 ^ order = pow_pos order in
    let b : InBlock tags first first (get_or tags first 0 - 1) = record { tag = t; from = omega arith; to = omega arith } in
    is_free_run-from (free_frames tags) order first (block_run tags k first first first (get_or tags first 0 - 1) order b (omega arith) s.aligned (omega arith) (omega arith))

-- the runs of order `size` are counted
pub record Counting (tags : List ℕ) (order size runs : ℕ) : Type 0 where
  pub least : order ≤ size
  pub small : size ≤ 9
  pub counted : runs ≡ free_runs (free_frames tags) size
  pub few : runs < 2 ^ 32

runs_few : (tags : List ℕ) → AreBlocks tags → (o : ℕ) → free_runs (free_frames tags) o < 2 ^ 32
runs_few tags k o = omega (arith, runs_le (free_frames tags) o, length-free_frames tags, k.few)

pub counting_begins : (tags : List ℕ) → AreBlocks tags → (order : ℕ) → order ≤ 9 → Counting tags order 9 (block_count tags 9)
counting_begins tags k order le = record {
  least = le;
  small = omega arith;
  counted = sym (runs_greatest tags k);
  few = omega (arith, runs_greatest tags k, runs_few tags k 9);
}

pub counting_goes_on : (tags : List ℕ) → AreBlocks tags → (order s runs : ℕ) → Counting tags order (s + 1) runs → order ≤ s → Counting tags order s (block_count tags s + 2 * runs)
counting_goes_on tags k order s runs c le =
    let e : runs ≡ free_runs (free_frames tags) (s + 1) = c.counted in
    let m : free_runs (free_frames tags) s ≡ block_count tags s + (free_runs (free_frames tags) (s + 1) + free_runs (free_frames tags) (s + 1)) = runs_more tags k s (omega (arith, c.small)) in
    let few : free_runs (free_frames tags) s < 2 ^ 32 = runs_few tags k s in
    record { least = le; small = omega (arith, c.small); counted = omega arith; few = omega arith }

-- as the code has it: numbers that are equal to these
pub counting_starts : (tags : List ℕ) (order blocks : ℕ) → AreBlocks tags → order ≤ 9 → blocks ≡ block_count tags 9 → Counting tags order 9 blocks
counting_starts tags order blocks k le e = subst (λ (z : ℕ). Counting tags order 9 z) (sym e) (counting_begins tags k order le)

pub counting_steps : (tags : List ℕ) (order s size runs blocks : ℕ) → AreBlocks tags → Counting tags order size runs → size ≡ s + 1 → order ≤ s → blocks ≡ block_count tags s
    → Counting tags order s (blocks + 2 * runs)
counting_steps tags order s size runs blocks k c e le b =
    subst (λ (z : ℕ). Counting tags order s (z + 2 * runs)) (sym b)
    (counting_goes_on tags k order s runs (subst (λ (z : ℕ). Counting tags order z runs) e c) le)

pub seeking_steps : (tags : List ℕ) (first order size start tag : ℕ) → AreBlocks tags → is_free_run (free_frames tags) order first ≡ true → Seeking tags first order size
    → start ≡ first - first % 2 ^ size → tag ≡ get_or tags start 0 → (tag ≡ size + 1 → ⊥) → Seeking tags first order (size + 1)
seeking_steps tags first order size start tag k run s e t other =
    seeking_goes_on tags k first order size run s (λ h. other (t ∙ ap (λ z. get_or tags z 0) e ∙ h))

pub searching_steps : (tags : List ℕ) (at order first len tag : ℕ) → AreBlocks tags → order ≤ 9 → 0 < free_runs (free_frames tags) order → Searching tags at order first
    → tag ≡ get_or tags first 0 → tag ≤ order → len ≡ 2 ^ order → Searching tags at order (first + len)
searching_steps tags at order first len tag k le some s t small l =
    subst (λ (z : ℕ). Searching tags at order (first + z)) (sym l) (searching_goes_on tags k at order first le some s (omega arith))
