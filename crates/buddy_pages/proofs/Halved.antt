-- A run of c + c frames and its two halves.
use Rattle.std.proofs.Common.{◌≡◌, ◌⊎◌, ℕ, ◌+◌, ◌-◌, ◌^◌, ◌%◌, ◌<◌, ◌≤◌, Bool, true, false, List, length, sym, ◌∙◌, inl, inr, ⊎_elim, arith}
use Rattle.std.specs.Int.Bits.{bit_xor}
use Rattle.std.proofs.lemmas.Nat.{pow_pos}
use Rattle.buddy_pages.specs.FreeFrames.{is_free, with_frames}
use Rattle.buddy_pages.proofs.Powers.{double, start_only, buddy_cases}
use Rattle.buddy_pages.proofs.Frames.{place, AreFree, AreTaken, same_set, length-with_frames, with_frames_in, with_frames_out}
use Rattle.buddy_pages.proofs.Frames.Place.{inside, outside}

-- x and y begin the two halves of the run at a
pub data AreHalves (a c x y : ℕ) : Type 0 where
  front : x ≡ a → y ≡ a + c → AreHalves a c x y
  back : x ≡ a + c → y ≡ a → AreHalves a c x y

-- a run and its buddy are the halves of the run one order higher
pub buddy_halves : (q k : ℕ) → q % 2 ^ k ≡ 0 → AreHalves (q - q % 2 ^ (k + 1)) (2 ^ k) q (bit_xor q (2 ^ k))
buddy_halves q k h =
    let pos : 0 < 2 ^ k = pow_pos k in
    let two : 2 ^ (k + 1) ≡ 2 ^ k + 2 ^ k = double k in
    ⊎_elim
    (λ (m : (q % 2 ^ (k + 1) ≡ 0) × (bit_xor q (2 ^ k) ≡ q + 2 ^ k)). front (omega (arith, m.0)) (omega (arith, m.0, m.1)))
    (λ (m : (2 ^ k ≤ q) × ((q - 2 ^ k) % 2 ^ (k + 1) ≡ 0) × (bit_xor q (2 ^ k) ≡ q - 2 ^ k)).
    let s : q - q % 2 ^ (k + 1) ≡ q - 2 ^ k = start_only (q - 2 ^ k) q (2 ^ (k + 1)) m.1 (omega arith) (omega (arith, m.0)) in
    back (omega (arith, m.0)) (omega (arith, m.2)))
    (buddy_cases q k h)

-- each frame of the run is in one of the halves
pub in_half : (a c x y p : ℕ) → AreHalves a c x y → a ≤ p → p < a + (c + c) → (p < y) ⊎ (y + c ≤ p) → (x ≤ p) × (p < x + c)
in_half a c x y p (front e f) from to out =
    ⊎_elim (λ (l : p < y). (omega arith, omega arith)) (λ (l : y + c ≤ p). absurd (omega arith)) out
in_half a c x y p (back e f) from to out =
    ⊎_elim (λ (l : p < y). absurd (omega arith)) (λ (l : y + c ≤ p). (omega arith, omega arith)) out

pub half_within : (a c x y : ℕ) → AreHalves a c x y → (a ≤ x) × (x + c ≤ a + (c + c)) × (a ≤ y) × (y + c ≤ a + (c + c))
half_within a c x y (front e f) = (omega arith, omega arith, omega arith, omega arith)
half_within a c x y (back e f) = (omega arith, omega arith, omega arith, omega arith)

-- the halves share no frame
pub halves_apart : (a c x y p : ℕ) → AreHalves a c x y → x ≤ p → p < x + c → (p < y) ⊎ (y + c ≤ p)
halves_apart a c x y p (front e f) from to = inl (omega arith)
halves_apart a c x y p (back e f) from to = inr (omega arith)

pub flip : (a c x y : ℕ) → AreHalves a c x y → AreHalves a c y x
flip a c x y (front e f) = back f e
flip a c x y (back e f) = front f e

-- a frame outside of the run is outside of each half
pub outside_half : (a c x y p : ℕ) → AreHalves a c x y → (p < a) ⊎ (a + (c + c) ≤ p) → (p < x) ⊎ (x + c ≤ p)
outside_half a c x y p h out =
    let w = half_within a c x y h in
    ⊎_elim (λ (l : p < a). inl (omega (arith, w.0))) (λ (l : a + (c + c) ≤ p). inr (omega (arith, w.1))) out

-- x and its free buddy y made free as one run: as x made free
merged_frame : (free : List Bool) (a c d x y p : ℕ) → d ≡ c + c → AreHalves a c x y → a + d ≤ length free → AreFree free y c →
    is_free (with_frames (with_frames free y c false) a d true) p ≡ is_free (with_frames free x c true) p
merged_frame free a c d x y p e h fits all =
    let w = half_within a c x y h in
    let fx : x + c ≤ length free = omega (arith, w.1) in
    let fy : y + c ≤ length free = omega (arith, w.3) in
    let len : length (with_frames free y c false) ≡ length free = length-with_frames free y c false fy in
    let fd : a + d ≤ length (with_frames free y c false) = omega arith in
    elim (place a d p) [
      | inside from to ↦
          with_frames_in (with_frames free y c false) a d true p fd from to
          ∙ sym (elim (place x c p) [
            | inside f t ↦ with_frames_in free x c true p fx f t
            | outside out ↦
                let i = in_half a c y x p (flip a c x y h) from (omega arith) out in
                with_frames_out free x c true p fx out ∙ all.each p i.0 i.1
          ])
      | outside out ↦
          let far : (p < a) ⊎ (a + (c + c) ≤ p) = ⊎_elim (λ (l : p < a). inl l) (λ (l : a + d ≤ p). inr (omega arith)) out in
          with_frames_out (with_frames free y c false) a d true p fd out
          ∙ with_frames_out free y c false p fy (outside_half a c y x p (flip a c x y h) far)
          ∙ sym (with_frames_out free x c true p fx (outside_half a c x y p h far))
    ]

pub merged_set : (free : List Bool) (a c d x y : ℕ) → d ≡ c + c → AreHalves a c x y → a + d ≤ length free → AreFree free y c →
    with_frames (with_frames free y c false) a d true ≡ with_frames free x c true
merged_set free a c d x y e h fits all =
    let w = half_within a c x y h in
    let fx : x + c ≤ length free = omega (arith, w.1) in
    let fy : y + c ≤ length free = omega (arith, w.3) in
    let len : length (with_frames free y c false) ≡ length free = length-with_frames free y c false fy in
    same_set (with_frames (with_frames free y c false) a d true) (with_frames free x c true)
    (length-with_frames (with_frames free y c false) a d true (omega arith) ∙ len ∙ sym (length-with_frames free x c true fx))
    (λ p l. merged_frame free a c d x y p e h fits all)

-- no frame of the whole run is free once the buddy is taken out
pub merged_taken : (free : List Bool) (a c d x y : ℕ) → d ≡ c + c → AreHalves a c x y → a + d ≤ length free → AreTaken free x c → AreTaken (with_frames free y c false) a d
merged_taken free a c d x y e h fits none =
    let w = half_within a c x y h in
    let fy : y + c ≤ length free = omega (arith, w.3) in
    record {
      each = λ p from to.
          elim (place y c p) [
            | inside f t ↦ with_frames_in free y c false p fy f t
            | outside out ↦
                let i = in_half a c x y p h from (omega arith) out in
                with_frames_out free y c false p fy out ∙ none.each p i.0 i.1
          ];
    }

-- the whole run taken out and one half given back: as the other half taken out
split_frame : (free : List Bool) (a c d x y p : ℕ) → d ≡ c + c → AreHalves a c x y → a + d ≤ length free → AreFree free a d →
    is_free (with_frames (with_frames free a d false) y c true) p ≡ is_free (with_frames free x c false) p
split_frame free a c d x y p e h fits all =
    let w = half_within a c x y h in
    let fx : x + c ≤ length free = omega (arith, w.1) in
    let fy : y + c ≤ length free = omega (arith, w.3) in
    let len : length (with_frames free a d false) ≡ length free = length-with_frames free a d false fits in
    let fw : y + c ≤ length (with_frames free a d false) = omega arith in
    elim (place y c p) [
      | inside f t ↦
          with_frames_in (with_frames free a d false) y c true p fw f t
          ∙ sym (with_frames_out free x c false p fx (halves_apart a c y x p (flip a c x y h) f t) ∙ all.each p (omega (arith, w.2)) (omega (arith, w.3)))
      | outside out ↦
          with_frames_out (with_frames free a d false) y c true p fw out
          ∙ elim (place a d p) [
            | inside from to ↦
                let i = in_half a c x y p h from (omega arith) out in
                with_frames_in free a d false p fits from to ∙ sym (with_frames_in free x c false p fx i.0 i.1)
            | outside far ↦
                let far2 : (p < a) ⊎ (a + (c + c) ≤ p) = ⊎_elim (λ (l : p < a). inl l) (λ (l : a + d ≤ p). inr (omega arith)) far in
                with_frames_out free a d false p fits far ∙ sym (with_frames_out free x c false p fx (outside_half a c x y p h far2))
          ]
    ]

pub split_set : (free : List Bool) (a c d x y : ℕ) → d ≡ c + c → AreHalves a c x y → a + d ≤ length free → AreFree free a d →
    with_frames (with_frames free a d false) y c true ≡ with_frames free x c false
split_set free a c d x y e h fits all =
    let w = half_within a c x y h in
    let fx : x + c ≤ length free = omega (arith, w.1) in
    let fy : y + c ≤ length free = omega (arith, w.3) in
    let len : length (with_frames free a d false) ≡ length free = length-with_frames free a d false fits in
    same_set (with_frames (with_frames free a d false) y c true) (with_frames free x c false)
    (length-with_frames (with_frames free a d false) y c true (omega arith) ∙ len ∙ sym (length-with_frames free x c false fx))
    (λ p l. split_frame free a c d x y p e h fits all)
