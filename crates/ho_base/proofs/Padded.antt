-- Bytes with zeros behind them are the fields of a name and of a bound record.
use Rattle.std.proofs.Common.{◌≡◌, ℕ, ◌-◌, ◌≤◌, List, ◌++◌, length, take, refl, IsTrue, arith}
use Rattle.std.proofs.Math.ListN.{replicate}
use Rattle.std.proofs.Math.Seq.{take-append_seam}
use Rattle.std.proofs.lemmas.Bool.Decides.{nat_tests}
use Rattle.ho_base.specs.BoundRule.{BoundFits}
use Rattle.ho_base.specs.NameRule.{NameFits, is_name}

-- the front of bytes with something behind them is the bytes
pub front_is : (xs ys zs : List ℕ) → ys ≡ xs → take (length xs) (ys ++ zs) ≡ xs
front_is xs ys zs same = rw same (take-append_seam xs zs)

pub bound_fits : (xs ys zs : List ℕ) → ys ≡ xs → zs ≡ replicate (64 - length xs) 0 → length xs ≤ 64
    → BoundFits (record { len = length xs; bytes = ys ++ zs })
bound_fits xs ys zs same zeros short =
    let front = front_is xs ys zs same in
    record { same = rw (front, same, zeros) refl; valid = rw front (grind (arith, nat_tests)) }

pub name_fits : (xs ys zs : List ℕ) → ys ≡ xs → zs ≡ replicate (63 - length xs) 0 → IsTrue (is_name xs)
    → NameFits (record { len = length xs; bytes = ys ++ zs })
name_fits xs ys zs same zeros valid =
    let front = front_is xs ys zs same in
    record { same = rw (front, same, zeros) refl; valid = rw front valid }
