-- A run that is taken out of its block, and the rest of the block given back.
use Rattle.std.proofs.Common.{◌≡◌, ℕ, ◌+◌, ◌-◌, ◌^◌, ◌%◌, ◌<◌, ◌≤◌, Bool, true, false, List, length, get_or, set, sym, ◌∙◌, ap, subst, ⊎_elim, arith}
use Rattle.std.specs.Int.Bits.{bit_xor}
use Rattle.std.proofs.lemmas.Bool.{cases_lt}
use Rattle.std.proofs.lemmas.List.{length-set}
use Rattle.std.proofs.lemmas.Nat.{pow_pos}
use Rattle.std.proofs.Math.Nat.{mod-lt, mod-le}
use Rattle.buddy_pages.specs.FreeFrames.{is_free, none_free, with_frames}
use Rattle.buddy_pages.specs.Blocks.{free_frames, AreBlocks}
use Rattle.buddy_pages.proofs.Powers.{double, start_multiple, start_only, multiple_sum, multiple_sub, power_multiple, run_within, buddy_cases}
use Rattle.buddy_pages.proofs.Frames.{AreFree, none_free-from, free_below, with_frames_in}
use Rattle.buddy_pages.proofs.Covered.{Covers, tag_below, length-free_frames, free_covers, block_free}
use Rattle.buddy_pages.proofs.Cleared.{cleared_blocks, cleared_frames}
use Rattle.buddy_pages.proofs.Halved.{AreHalves, buddy_halves, half_within, split_set}

-- frame 0 isn't free
pub first_taken : (tags : List ℕ) → AreBlocks tags → is_free (free_frames tags) 0 ≡ true → ⊥
first_taken tags k t =
    let c : Covers tags 0 = free_covers tags 0 t in
    let z : get_or tags c.start 0 ≡ 0 = ap (λ i. get_or tags i 0) (omega (arith, c.block.from)) ∙ k.first in
    omega (arith, c.block.tag)

-- in the middle of taking the run at `first` of order `order`: from the old free frames, the run of order `size` around it is out
pub record Taking (old tags : List ℕ) (first order size : ℕ) : Type 0 where
  pub was : AreBlocks old
  pub blocks : AreBlocks tags
  pub frames : length tags ≡ length old
  pub small : size ≤ 9
  pub least : order ≤ size
  pub held : AreFree (free_frames old) (first - first % 2 ^ size) (2 ^ size)
  pub left : free_frames tags ≡ with_frames (free_frames old) (first - first % 2 ^ size) (2 ^ size) false

pub taking_begins : (old : List ℕ) (first order size : ℕ) → AreBlocks old → order ≤ size → get_or old (first - first % 2 ^ size) 0 ≡ size + 1
    → Taking old (set old (first - first % 2 ^ size) 0) first order size
taking_begins old first order size k le t =
    let lt : first - first % 2 ^ size < length old = tag_below old (first - first % 2 ^ size) size t in
    let small : get_or old (first - first % 2 ^ size) 0 ≤ 10 = k.small (first - first % 2 ^ size) in
    record {
      was = k;
      blocks = cleared_blocks old k (first - first % 2 ^ size) lt;
      frames = length-set old (first - first % 2 ^ size) 0;
      small = omega arith;
      least = le;
      held = record { each = λ p a b. block_free old k p (first - first % 2 ^ size) size (record { tag = t; from = a; to = b }) };
      left = cleared_frames old k (first - first % 2 ^ size) size t;
    }

-- the run that holds a frame lies in the run one order higher that does, and begins half of it
start_again : (first s : ℕ) → first - first % 2 ^ s - (first - first % 2 ^ s) % 2 ^ (s + 1) ≡ first - first % 2 ^ (s + 1)
start_again first s =
    let pos : 0 < 2 ^ s = pow_pos s in
    let pos2 : 0 < 2 ^ (s + 1) = pow_pos (s + 1) in
    let low : first % 2 ^ s < 2 ^ s = mod-lt first pos in
    let high : first % 2 ^ (s + 1) < 2 ^ (s + 1) = mod-lt first pos2 in
    let le : first % 2 ^ s ≤ first = mod-le first (2 ^ s) in
    let le2 : first % 2 ^ (s + 1) ≤ first = mod-le first (2 ^ (s + 1)) in
    let w = run_within (first - first % 2 ^ (s + 1)) (first - first % 2 ^ s) first s (s + 1) (omega arith) (start_multiple first (2 ^ (s + 1))) (start_multiple first (2 ^ s))
    (omega arith) (omega arith) (omega arith) (omega arith) in
    start_only (first - first % 2 ^ (s + 1)) (first - first % 2 ^ s) (2 ^ (s + 1)) (start_multiple first (2 ^ (s + 1))) w.0 (omega (arith, w.1))

half_of : (first s : ℕ) → AreHalves (first - first % 2 ^ (s + 1)) (2 ^ s) (first - first % 2 ^ s) (bit_xor (first - first % 2 ^ s) (2 ^ s))
half_of first s =
    subst (λ (z : ℕ). AreHalves z (2 ^ s) (first - first % 2 ^ s) (bit_xor (first - first % 2 ^ s) (2 ^ s))) (start_again first s)
    (buddy_halves (first - first % 2 ^ s) s (start_multiple first (2 ^ s)))

-- what giving the other half back needs
pub other_aligned : (q k : ℕ) → q % 2 ^ k ≡ 0 → bit_xor q (2 ^ k) % 2 ^ k ≡ 0
other_aligned q k h =
    ⊎_elim
    (λ (m : (q % 2 ^ (k + 1) ≡ 0) × (bit_xor q (2 ^ k) ≡ q + 2 ^ k)).
    subst (λ (z : ℕ). z % 2 ^ k ≡ 0) (sym m.1) (multiple_sum q (2 ^ k) (2 ^ k) h (power_multiple k k (omega arith))))
    (λ (m : (2 ^ k ≤ q) × ((q - 2 ^ k) % 2 ^ (k + 1) ≡ 0) × (bit_xor q (2 ^ k) ≡ q - 2 ^ k)).
    subst (λ (z : ℕ). z % 2 ^ k ≡ 0) (sym m.2) (multiple_sub q (2 ^ k) (2 ^ k) h (power_multiple k k (omega arith))))
    (buddy_cases q k h)

pub record OtherHalf (tags : List ℕ) (first s : ℕ) : Type 0 where
  pub aligned : bit_xor (first - first % 2 ^ s) (2 ^ s) % 2 ^ s ≡ 0
  pub within : bit_xor (first - first % 2 ^ s) (2 ^ s) + 2 ^ s ≤ length tags
  pub later : 0 < bit_xor (first - first % 2 ^ s) (2 ^ s)
  pub taken : none_free (free_frames tags) (bit_xor (first - first % 2 ^ s) (2 ^ s)) (2 ^ s) ≡ true

free_fits : (free : List Bool) (f c : ℕ) → 0 < c → AreFree free f c → f + c ≤ length free
free_fits free f c pos all =
    let last : f + c - 1 < length free = free_below free (f + c - 1) (all.each (f + c - 1) (omega arith) (omega arith)) in
    omega arith

pub other_half : (old tags : List ℕ) (first order s : ℕ) → Taking old tags first order (s + 1) → OtherHalf tags first s
other_half old tags first order s t =
    let h : AreHalves (first - first % 2 ^ (s + 1)) (2 ^ s) (first - first % 2 ^ s) (bit_xor (first - first % 2 ^ s) (2 ^ s)) = half_of first s in
    let w = half_within (first - first % 2 ^ (s + 1)) (2 ^ s) (first - first % 2 ^ s) (bit_xor (first - first % 2 ^ s) (2 ^ s)) h in
    let two : 2 ^ (s + 1) ≡ 2 ^ s + 2 ^ s = double s in
    let pos : 0 < 2 ^ s = pow_pos s in
    let from : first - first % 2 ^ (s + 1) ≤ bit_xor (first - first % 2 ^ s) (2 ^ s) = w.2 in
    let to : bit_xor (first - first % 2 ^ s) (2 ^ s) + 2 ^ s ≤ first - first % 2 ^ (s + 1) + (2 ^ s + 2 ^ s) = w.3 in
    let fits : first - first % 2 ^ (s + 1) + 2 ^ (s + 1) ≤ length (free_frames old) = free_fits (free_frames old) (first - first % 2 ^ (s + 1)) (2 ^ (s + 1)) (omega arith) t.held in
    let len : length (free_frames old) ≡ length old = length-free_frames old in
    let same : length tags ≡ length old = t.frames in
    record {
      aligned = other_aligned (first - first % 2 ^ s) s (start_multiple first (2 ^ s));
      within = omega arith;
      later = ⊎_elim (λ (l : 0 < bit_xor (first - first % 2 ^ s) (2 ^ s)). l)
          (λ (l : bit_xor (first - first % 2 ^ s) (2 ^ s) ≤ 0).
          let f : is_free (free_frames old) (bit_xor (first - first % 2 ^ s) (2 ^ s)) ≡ true = t.held.each (bit_xor (first - first % 2 ^ s) (2 ^ s)) from (omega arith) in
          absurd (first_taken old t.was (ap (is_free (free_frames old)) (omega arith) ∙ f)))
          (cases_lt 0 (bit_xor (first - first % 2 ^ s) (2 ^ s)));
      taken = none_free-from (free_frames tags) (bit_xor (first - first % 2 ^ s) (2 ^ s)) (2 ^ s) (record {
        each = λ p a b.
            ap (λ z. is_free z p) t.left ∙ with_frames_in (free_frames old) (first - first % 2 ^ (s + 1)) (2 ^ (s + 1)) false p fits (omega arith) (omega arith);
      });
    }

-- one half given back
pub taking_halves : (old tags new : List ℕ) (first order s : ℕ) → Taking old tags first order (s + 1) → order ≤ s → AreBlocks new → length new ≡ length tags
    → free_frames new ≡ with_frames (free_frames tags) (bit_xor (first - first % 2 ^ s) (2 ^ s)) (2 ^ s) true → Taking old new first order s
taking_halves old tags new first order s t le k same is =
    let h : AreHalves (first - first % 2 ^ (s + 1)) (2 ^ s) (first - first % 2 ^ s) (bit_xor (first - first % 2 ^ s) (2 ^ s)) = half_of first s in
    let w = half_within (first - first % 2 ^ (s + 1)) (2 ^ s) (first - first % 2 ^ s) (bit_xor (first - first % 2 ^ s) (2 ^ s)) h in
    let two : 2 ^ (s + 1) ≡ 2 ^ s + 2 ^ s = double s in
    let pos : 0 < 2 ^ s = pow_pos s in
    let fits : first - first % 2 ^ (s + 1) + 2 ^ (s + 1) ≤ length (free_frames old) = free_fits (free_frames old) (first - first % 2 ^ (s + 1)) (2 ^ (s + 1)) (omega arith) t.held in
    record {
      was = t.was;
      blocks = k;
      frames = same ∙ t.frames;
      small = omega (arith, t.small);
      least = le;
      held = record { each = λ p a b. t.held.each p (omega (arith, w.0)) (omega (arith, w.1)) };
      left = is
          ∙ ap (λ z. with_frames z (bit_xor (first - first % 2 ^ s) (2 ^ s)) (2 ^ s) true) t.left
          ∙ split_set (free_frames old) (first - first % 2 ^ (s + 1)) (2 ^ s) (2 ^ (s + 1)) (first - first % 2 ^ s) (bit_xor (first - first % 2 ^ s) (2 ^ s)) two h fits t.held;
    }

-- at the end just the run is out
pub taking_ends : (old tags : List ℕ) (first order size : ℕ) → Taking old tags first order size → size ≤ order → first % 2 ^ order ≡ 0
    → free_frames tags ≡ with_frames (free_frames old) first (2 ^ order) false
taking_ends old tags first order size t le h =
    let e : size ≡ order = omega (arith, t.least) in
    let l : free_frames tags ≡ with_frames (free_frames old) (first - first % 2 ^ order) (2 ^ order) false =
    subst (λ (z : ℕ). free_frames tags ≡ with_frames (free_frames old) (first - first % 2 ^ z) (2 ^ z) false) e t.left in
    l ∙ ap (λ z. with_frames (free_frames old) z (2 ^ order) false) (omega arith)

-- as the code has it: a map and frames that are equal to these
pub taking_starts : (old tags : List ℕ) (first order size start : ℕ) → AreBlocks old → order ≤ size → get_or old (first - first % 2 ^ size) 0 ≡ size + 1
    → start ≡ first - first % 2 ^ size → tags ≡ set old start 0 → Taking old tags first order size
taking_starts old tags first order size start k le t s n =
    let e : tags ≡ set old (first - first % 2 ^ size) 0 = n ∙ ap (λ z. set old z 0) s in
    subst (λ (z : List ℕ). Taking old z first order size) (sym e) (taking_begins old first order size k le t)

pub other_is : (tags : List ℕ) (first order s half other size : ℕ) (old : List ℕ) → Taking old tags first order size → size ≡ s + 1
    → half ≡ first - first % 2 ^ s → other ≡ bit_xor half (2 ^ s) → (other % 2 ^ s ≡ 0) × (other + 2 ^ s ≤ length tags) × (0 < other) × (none_free (free_frames tags) other (2 ^ s) ≡ true)
other_is tags first order s half other size old t e h o =
    let x : OtherHalf tags first s = other_half old tags first order s (subst (λ (z : ℕ). Taking old tags first order z) e t) in
    let i : other ≡ bit_xor (first - first % 2 ^ s) (2 ^ s) = o ∙ ap (λ z. bit_xor z (2 ^ s)) h in
    subst (λ (z : ℕ). (z % 2 ^ s ≡ 0) × (z + 2 ^ s ≤ length tags) × (0 < z) × (none_free (free_frames tags) z (2 ^ s) ≡ true)) (sym i) (x.aligned, x.within, x.later, x.taken)

pub taking_goes_on : (old tags new : List ℕ) (first order s half other size : ℕ) → Taking old tags first order size → size ≡ s + 1 → order ≤ s
    → half ≡ first - first % 2 ^ s → other ≡ bit_xor half (2 ^ s) → AreBlocks new → length new ≡ length tags
    → free_frames new ≡ with_frames (free_frames tags) other (2 ^ s) true → Taking old new first order s
taking_goes_on old tags new first order s half other size t e le h o k same is =
    let i : other ≡ bit_xor (first - first % 2 ^ s) (2 ^ s) = o ∙ ap (λ z. bit_xor z (2 ^ s)) h in
    taking_halves old tags new first order s (subst (λ (z : ℕ). Taking old tags first order z) e t) le k same
    (is ∙ ap (λ z. with_frames (free_frames tags) z (2 ^ s) true) i)
