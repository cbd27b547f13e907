-- What stands in a header, and a header from what stands in it.
use Rattle.std.proofs.Common.{◌≡◌, ℕ, ◌+◌, ◌^◌, ◌<◌, ◌≤◌, List, ◌++◌, length, take, drop, get_or, replicate, refl, sym, ap, ◌∙◌, arith, inl, inr}
use Rattle.std.proofs.Math.Seq.{take-add}
use Rattle.std.proofs.lemmas.Bool.{cases_lt}
use Rattle.std.proofs.lemmas.List.{length-take, length-drop, drop_at, get_or-take, get_or-drop, get_or_past}
use Rattle.std.proofs.lemmas.Nat.{from_le_bytes-to_le_bytes_8, le_bytes_8}
use Rattle.std.specs.Int.{w64, to_le_bytes}
use Rattle.ho_base.specs.Bytes.{u64_at, with_u64_at}
use Rattle.image_file.specs.Image.{header, image_word}

pub header_length : (count entry : ℕ) → length (header count entry) ≡ 32
unfolding header image_word
header_length count entry = refl

-- the word, the numbers, and what follows the header
module _ (count entry : ℕ) (rest : List ℕ) where
  pub word_there : take 8 (header count entry ++ rest) ≡ image_word
  unfolding header image_word
  word_there = refl

  pub count_there : count < 2 ^ 64 → u64_at (header count entry ++ rest) 8 ≡ count
  unfolding header image_word
  count_there fits = from_le_bytes-to_le_bytes_8 count fits

  pub entry_there : entry < 2 ^ 64 → u64_at (header count entry ++ rest) 16 ≡ entry
  unfolding header image_word
  entry_there fits = from_le_bytes-to_le_bytes_8 entry fits

  pub zero_there : u64_at (header count entry ++ rest) 24 ≡ 0
  unfolding header image_word
  zero_there = refl

  pub rest_there : drop 32 (header count entry ++ rest) ≡ rest
  rest_there = drop_at (header count entry) rest 32 (header_length count entry)

-- each number of the list is one of a byte
abbrev pub IsBytes : List ℕ → Type 0
IsBytes bytes = (i : ℕ) → get_or bytes i 0 < 256

IsBytes-part : (at n : ℕ) (bytes : List ℕ) → IsBytes bytes → IsBytes (take n (drop at bytes))
IsBytes-part at n bytes h i =
    elim (cases_lt i n) [
      | inl lt ↦ omega (arith, get_or-take n (drop at bytes) i 0 lt, get_or-drop at bytes i 0, h (at + i))
      | inr le ↦ omega (arith, get_or_past (take n (drop at bytes)) i 0 (omega (arith, length-take n (drop at bytes))))
    ]

-- the number that 8 bytes spell is spelled by these
spelled : (bytes : List ℕ) (at : ℕ) → IsBytes bytes → at + 8 ≤ length bytes → to_le_bytes w64 (u64_at bytes at) ≡ take 8 (drop at bytes)
spelled bytes at small within =
    let size : length (take 8 (drop at bytes)) ≡ 8 = omega (arith, length-take 8 (drop at bytes), length-drop at bytes) in
    le_bytes_8 (take 8 (drop at bytes)) (u64_at bytes at) size (IsBytes-part at 8 bytes small) refl

-- the first 32 bytes are the header of their numbers
pub header_from : (bytes : List ℕ) → IsBytes bytes → 32 ≤ length bytes → take 8 bytes ≡ image_word → u64_at bytes 24 ≡ 0
    → take 32 bytes ≡ header (u64_at bytes 8) (u64_at bytes 16)
unfolding header
header_from bytes small long word last =
    let count : take 8 (drop 8 bytes) ≡ to_le_bytes w64 (u64_at bytes 8) = sym (spelled bytes 8 small (omega arith)) in
    let entry : take 8 (drop 16 bytes) ≡ to_le_bytes w64 (u64_at bytes 16) = sym (spelled bytes 16 small (omega arith)) in
    let zero : take 8 (drop 24 bytes) ≡ to_le_bytes w64 0 = sym (spelled bytes 24 small (omega arith)) ∙ ap (to_le_bytes w64) last in
    take-add 24 8 bytes
    ∙ (λ i. take-add 16 8 bytes i ++ zero i)
    ∙ (λ i. (take-add 8 8 bytes i ++ entry i) ++ to_le_bytes w64 0)
    ∙ (λ i. ((word i ++ count i) ++ to_le_bytes w64 (u64_at bytes 16)) ++ to_le_bytes w64 0)

-- a header is written: the word, and two numbers put into the zeros after it
pub header_written : (first second third : List ℕ) (n e count entry : ℕ) → n ≡ count → e ≡ entry → second ≡ with_u64_at first 8 n → third ≡ with_u64_at second 16 e
    → first ≡ image_word ++ replicate 24 0 → third ≡ header count entry
unfolding header image_word
header_written first second third n e count entry same also f g h =
    g ∙ ap (λ (l : List ℕ). with_u64_at l 16 e) (f ∙ ap (λ (l : List ℕ). with_u64_at l 8 n) h)
    ∙ (λ i. with_u64_at (with_u64_at (image_word ++ replicate 24 0) 8 (same i)) 16 (also i))
