-- How many runs are wholly free.
use Rattle.std.proofs.Common.{◌≡◌, ◌≢◌, ◌⊎◌, ℕ, ◌+◌, ◌-◌, ◌^◌, ◌%◌, ◌<◌, ◌≤◌, Bool, true, false, cond, List, length, refl, sym, ◌∙◌, ap, inl, inr, ⊎_elim, arith}
use Rattle.std.proofs.lemmas.Bool.{cases_lt, cases_Bool, false≢true}
use Rattle.std.proofs.lemmas.Nat.{pow_pos}
use Rattle.buddy_pages.specs.FreeFrames.{is_free_run, free_runs, with_frames}
use Rattle.buddy_pages.specs.Blocks.{free_frames, AreBlocks}
use Rattle.buddy_pages.proofs.Powers.{multiple_near, run_within}
use Rattle.buddy_pages.proofs.Frames.{IsRun, IsRun-from, is_free_run-from, free_below, with_frames_in, with_frames_out, length-with_frames, same_bool}
use Rattle.buddy_pages.proofs.Covered.{InBlock, block_free}
use Rattle.buddy_pages.proofs.Totals.{total, total_le, total_one, total_some, sum_range}

-- 1 for a test that passes
unfoldable pub bit : Bool → ℕ
bit b = cond b 1 0

pub bit_true : (b : Bool) → b ≡ true → bit b ≡ 1
unfolding bit
bit_true b h = ap (λ z. cond z 1 0) h

pub bit_false : (b : Bool) → b ≡ false → bit b ≡ 0
unfolding bit
bit_false b h = ap (λ z. cond z 1 0) h

pub bit_le : (b : Bool) → bit b ≤ 1
unfolding bit
bit_le true = omega arith
bit_le false = omega arith

bit_some : (b : Bool) → 0 < bit b → b ≡ true
unfolding bit
bit_some true h = refl
bit_some false h = absurd (omega arith)

pub runs_total : (free : List Bool) (o : ℕ) → free_runs free o ≡ total (λ p. bit (is_free_run free o p)) (length free)
unfolding free_runs bit
runs_total free o = sum_range (λ p. cond (is_free_run free o p) 1 0) (length free)

pub runs_le : (free : List Bool) (o : ℕ) → free_runs free o ≤ length free
runs_le free o =
    let e : free_runs free o ≡ total (λ p. bit (is_free_run free o p)) (length free) = runs_total free o in
    let l : total (λ p. bit (is_free_run free o p)) (length free) ≤ length free = total_le (λ p. bit (is_free_run free o p)) (length free) (λ i. bit_le (is_free_run free o i)) in
    omega arith

pub some_run : (free : List Bool) (o : ℕ) → 0 < free_runs free o → (p : ℕ) × (is_free_run free o p ≡ true)
some_run free o h =
    let e : free_runs free o ≡ total (λ p. bit (is_free_run free o p)) (length free) = runs_total free o in
    let some = total_some (λ p. bit (is_free_run free o p)) (length free) (omega arith) in
    (some.0, bit_some (is_free_run free o some.0) some.1.1)

-- the run lies within the frames
pub run_fits : (free : List Bool) (o p : ℕ) → IsRun free o p → p + 2 ^ o ≤ length free
run_fits free o p r =
    let pos : 0 < 2 ^ o = pow_pos o in
    let last : p + 2 ^ o - 1 < length free = free_below free (p + 2 ^ o - 1) (r.frames.each (p + 2 ^ o - 1) (omega arith) (omega arith)) in
    omega arith

pub run_begins : (free : List Bool) (o p : ℕ) → IsRun free o p → p < length free
run_begins free o p r = let pos : 0 < 2 ^ o = pow_pos o in omega (arith, run_fits free o p r)

-- a frame of a block begins a run of each order that its number and the block allow
pub block_run : (tags : List ℕ) → AreBlocks tags → (p x a o j : ℕ) → InBlock tags x a o → j ≤ o → p % 2 ^ j ≡ 0 → p ≤ x → x < p + 2 ^ j → IsRun (free_frames tags) j p
block_run tags k p x a o j b le h f t =
    let w = run_within a p x j o le (k.aligned a o b.tag) h b.from b.to f t in
    let from : a ≤ p = w.0 in
    let to : p + 2 ^ j ≤ a + 2 ^ o = w.1 in
    record {
      aligned = h;
      frames = record { each = λ q c d. block_free tags k q a o (record { tag = b.tag; from = omega arith; to = omega arith }) };
    }

-- two runs of one order that have a frame in common are one
pub same_run : (p q x s : ℕ) → p % s ≡ 0 → q % s ≡ 0 → p ≤ x → x < p + s → q ≤ x → x < q + s → p ≡ q
same_run p q x s h i a b c d =
    let f : q ≤ p = multiple_near p q s h i (omega arith) in
    let g : p ≤ q = multiple_near q p s i h (omega arith) in
    omega arith

-- another run of the same order is free as before
pub run_kept : (free : List Bool) (o q p : ℕ) → IsRun free o q → p ≢ q → is_free_run (with_frames free q (2 ^ o) false) o p ≡ is_free_run free o p
run_kept free o q p r ne =
    let fits : q + 2 ^ o ≤ length free = run_fits free o q r in
    let out = λ (x : ℕ) (h : p % 2 ^ o ≡ 0) (a : p ≤ x) (b : x < p + 2 ^ o).
    ⊎_elim (λ (l : x < q). let t : (x < q) ⊎ (q + 2 ^ o ≤ x) = inl l in t)
    (λ (l : q ≤ x). ⊎_elim
    (λ (m : x < q + 2 ^ o). absurd (ne (same_run p q x (2 ^ o) h r.aligned a b l m)))
    (λ (m : q + 2 ^ o ≤ x). inr m)
    (cases_lt x (q + 2 ^ o)))
    (cases_lt x q) in
    same_bool (is_free_run (with_frames free q (2 ^ o) false) o p) (is_free_run free o p)
    (λ t.
    let i : IsRun (with_frames free q (2 ^ o) false) o p = IsRun-from (with_frames free q (2 ^ o) false) o p t in
    is_free_run-from free o p (record {
      aligned = i.aligned;
      frames = record { each = λ x a b. sym (with_frames_out free q (2 ^ o) false x fits (out x i.aligned a b)) ∙ i.frames.each x a b };
    }))
    (λ t.
    let i : IsRun free o p = IsRun-from free o p t in
    is_free_run-from (with_frames free q (2 ^ o) false) o p (record {
      aligned = i.aligned;
      frames = record { each = λ x a b. with_frames_out free q (2 ^ o) false x fits (out x i.aligned a b) ∙ i.frames.each x a b };
    }))

pub run_gone : (free : List Bool) (o q : ℕ) → IsRun free o q → is_free_run (with_frames free q (2 ^ o) false) o q ≡ false
run_gone free o q r =
    let fits : q + 2 ^ o ≤ length free = run_fits free o q r in
    let pos : 0 < 2 ^ o = pow_pos o in
    ⊎_elim (λ (t : is_free_run (with_frames free q (2 ^ o) false) o q ≡ true).
    let i : IsRun (with_frames free q (2 ^ o) false) o q = IsRun-from (with_frames free q (2 ^ o) false) o q t in
    absurd (false≢true (sym (with_frames_in free q (2 ^ o) false q fits (omega arith) (omega arith)) ∙ i.frames.each q (omega arith) (omega arith))))
    (λ (f : is_free_run (with_frames free q (2 ^ o) false) o q ≡ false). f)
    (cases_Bool (is_free_run (with_frames free q (2 ^ o) false) o q))

-- one run taken out leaves one less
pub runs_taken : (free : List Bool) (o q : ℕ) → IsRun free o q → free_runs (with_frames free q (2 ^ o) false) o + 1 ≡ free_runs free o
runs_taken free o q r =
    let fits : q + 2 ^ o ≤ length free = run_fits free o q r in
    let len : length (with_frames free q (2 ^ o) false) ≡ length free = length-with_frames free q (2 ^ o) false fits in
    let left : free_runs (with_frames free q (2 ^ o) false) o ≡ total (λ p. bit (is_free_run (with_frames free q (2 ^ o) false) o p)) (length free) =
    runs_total (with_frames free q (2 ^ o) false) o ∙ ap (total (λ p. bit (is_free_run (with_frames free q (2 ^ o) false) o p))) len in
    let right : free_runs free o ≡ total (λ p. bit (is_free_run free o p)) (length free) = runs_total free o in
    let here : bit (is_free_run free o q) ≡ 1 = bit_true (is_free_run free o q) (is_free_run-from free o q r) in
    let gone : bit (is_free_run (with_frames free q (2 ^ o) false) o q) ≡ 0 = bit_false (is_free_run (with_frames free q (2 ^ o) false) o q) (run_gone free o q r) in
    let one : total (λ p. bit (is_free_run free o p)) (length free) ≡ total (λ p. bit (is_free_run (with_frames free q (2 ^ o) false) o p)) (length free) + 1 =
    total_one (λ p. bit (is_free_run free o p)) (λ p. bit (is_free_run (with_frames free q (2 ^ o) false) o p)) q (length free) (run_begins free o q r)
    (λ p ne. ap bit (sym (run_kept free o q p r ne))) (omega arith) in
    omega arith
