-- What the 8 bytes that were put spell.
use Rattle.std.proofs.Common.{◌≡◌, ℕ, ◌+◌, ◌≤◌, ◌<◌, ◌^◌, List, ◌++◌, length, take, drop, refl, ap, ◌∙◌, arith, append_assoc}
use Rattle.std.proofs.Math.Seq.{take-append_seam, drop-append_seam}
use Rattle.std.proofs.lemmas.Nat.{from_le_bytes-to_le_bytes_8}
use Rattle.std.proofs.lemmas.Grind.{common_steps}
use Rattle.std.specs.Int.{w64, from_le_bytes, to_le_bytes}
use Rattle.ho_base.specs.Bytes.{u64_at, with_u64_at}

-- the middle part of a list of three
pub middle : (front part rest : List ℕ) (at count : ℕ) → at ≡ length front → count ≡ length part
    → take count (drop at ((front ++ part) ++ rest)) ≡ part
middle front part rest at count e f =
    rw (e, f, append_assoc, drop-append_seam front (part ++ rest)) (take-append_seam part rest)

-- the number that was put is the number that is got
pub got_back : (bytes : List ℕ) (at value : ℕ) → at ≤ length bytes → value < 2 ^ 64
    → u64_at (with_u64_at bytes at value) at ≡ value
got_back bytes at value within fits =
    let same : at ≡ length (take at bytes) = grind (arith, common_steps) in
    ap (from_le_bytes w64) (middle (take at bytes) (to_le_bytes w64 value) (drop (at + 8) bytes) at 8 same refl)
    ∙ from_le_bytes-to_le_bytes_8 value fits
