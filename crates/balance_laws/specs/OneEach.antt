-- Values that stand at places, in rows and columns, and which values there are.
use Rattle.std.specs.Prelude.{◌≡◌, Bool, true, Option, Some}

-- a place where a value stands
pub record Place {K L V : Type 0} (at : K → L → Option V) (v : V) : Type 0 where
  pub row : K
  pub column : L
  pub is : at row column ≡ Some v

-- each value that stands somewhere is there, and each value that is there stands at exactly one place
pub record OneEach {K L V : Type 0} (at : K → L → Option V) (has : V → Bool) : Type 0 where
  pub there : (k : K) (l : L) (v : V) → at k l ≡ Some v → has v ≡ true
  pub found : (v : V) → has v ≡ true → Place at v
  pub once : (k m : K) (l n : L) (v : V) → at k l ≡ Some v → at m n ≡ Some v → (k ≡ m) × (l ≡ n)
