-- The pairs of a reservation block.
use Rattle.std.proofs.Common.{◌≡◌, ℕ, suc, ◌+◌, ◌-◌, ◌*◌, ◌<◌, false, List, take, drop, Option, Some, None, refl, ap, arith}
use Rattle.std.specs.Prelude.{nat_eq}
use Rattle.std.specs.Option.{option_map}
use Rattle.std.specs.List.{list_all}
use Rattle.fdt_blob.specs.Blob.{reservations_size}

-- a size and one more pair
sizes : (o : Option ℕ) (done : ℕ) → option_map (λ size. size + 16 * done) (option_map (λ size. size + 16) o) ≡ option_map (λ size. size + 16 * (done + 1)) o
sizes None done = refl
sizes (Some n) done = ap Some (omega arith)

-- a pair that isn't the ending one
pub pairs_more : (count done : ℕ) (rest : List ℕ) → done < count → list_all (nat_eq 0) (take 16 rest) ≡ false → option_map (λ size. size + 16 * done) (reservations_size (count - done) rest) ≡ option_map (λ size. size + 16 * (done + 1)) (reservations_size (count - (done + 1)) (drop 16 rest))
pairs_more count done rest lt other =
    let n = count - (done + 1) in
    let one : count - done ≡ suc n = omega arith in
    rw (one, other) (sizes (reservations_size n (drop 16 rest)) done)
