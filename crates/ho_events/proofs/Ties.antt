-- When the order of numbers finds two alike.
use Rattle.std.proofs.Common.{◌≡◌, ℕ, ◌==◌, arith}
use Rattle.std.specs.Ordering.{nat_cmp, eq_by_cmp}
use Rattle.std.proofs.lemmas.Bool.Decides.{nat_tests}

pub tied_is : (t x : ℕ) → eq_by_cmp nat_cmp t x ≡ (x == t)
tied_is t x = grind (arith, nat_tests)
