-- The front of a front of some bytes.
use Rattle.std.proofs.Common.{◌≡◌, ℕ, ◌≤◌, List, length, take, take-take, length-take, arith}

pub taken_twice : (n k : ℕ) (bytes : List ℕ) → n ≤ length (take k bytes) → take n (take k bytes) ≡ take n bytes
taken_twice n k bytes h = take-take n k bytes (omega (arith, length-take k bytes, h))
