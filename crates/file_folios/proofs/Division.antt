-- Which piece a byte is in.
use Rattle.std.proofs.Common.{◌≡◌, ℕ, ◌+◌, ◌-◌, ◌*◌, ◌/◌, ◌%◌, ◌<◌, ◌≤◌, arith}
use Rattle.std.proofs.Math.Nat.{div-add-mod, mod-lt, div-lt_iff_lt-mul, le-div_iff_mul-le, div-mul-le_self}
use Rattle.ho_events.specs.Lists.{pieces}

pub place_is : (n p : ℕ) → (n / p) * p + n % p ≡ n
place_is n p = omega (arith, div-add-mod n p)

pub at_within : (n p : ℕ) → 0 < p → n % p < p
at_within n p h = mod-lt n h

pub index_below : (n c p : ℕ) → 0 < p → n < c * p → n / p < c
index_below n c p h lt = (div-lt_iff_lt-mul h).1 lt

pub index_from : (m n p : ℕ) → 0 < p → m ≤ n → m / p ≤ n / p
index_from m n p h le = (le-div_iff_mul-le h).1 (omega (arith, div-mul-le_self m p))

pub index_piece : (n e p : ℕ) → 0 < p → n < e → n / p < pieces e p
index_piece n e p h lt =
    let le : (n / p + 1) * p ≤ e + (p - 1) = omega (arith, div-mul-le_self n p) in
    omega (arith, (le-div_iff_mul-le h).1 le)
