-- For callers: a pass between its turns, and the last pass of a few.
use Rattle.std.proofs.Common.{◌≡◌, ◌≢◌, ℕ, ◌<◌, ap, ◌∙◌, sym, subst, Option, None}
use mathlib.Core.Logic.{dite}
use native.Mathlib.Decide.{ℕ_discrete}
use Rattle.turns_table.specs.Views.{IsMine, merged, agents}
use Rattle.turns_table.specs.declared.rule.Role.{Role}
use Rattle.turns_table.specs.declared.rule.Role.TheVariants.{Spare}
use Rattle.turns_table.proofs.Opens.{agents_is}
use Rattle.turns_table.proofs.Splits.{mine_left, mine_right}

pub near : (a : ℕ) → a < 256 → a < agents
near a h = subst (λ (n : ℕ). a < n) (sym agents_is) h

-- who held nothing, took the object k and let it go holds nothing
pub free_again : {T : Type 0} (k : ℕ) (h0 h1 h2 : ℕ → Option T) → ((j : ℕ) → h0 j ≡ None) → ((j : ℕ) → j ≢ k → h1 j ≡ h0 j) → ((j : ℕ) → j ≢ k → h2 j ≡ h1 j) → h2 k ≡ None → (j : ℕ) → h2 j ≡ None
free_again k h0 h1 h2 none took ended free j = dite (ℕ_discrete j k) (λ e. ap h2 e ∙ free) (λ n. ended j n ∙ (took j n ∙ none j))

-- the pass that gave the numbers i and j away, and took the passes with these numbers in, has all numbers
pub all_back : (r one other : ℕ → Role) (i j : ℕ) → ((a : ℕ) → a < agents → a ≢ i → a ≢ j → r a ≡ Spare) → IsMine (one i) → IsMine (other j) → (a : ℕ) → a < agents → IsMine (merged (merged (r a) (one a)) (other a))
all_back r one other i j spares mine_i mine_j a near_a = dite (ℕ_discrete a j)
    (λ e. mine_right (merged (r a) (one a)) (other a) (subst (λ (k : ℕ). IsMine (other k)) (sym e) mine_j))
    (λ nj. mine_left (merged (r a) (one a)) (other a) (dite (ℕ_discrete a i)
    (λ e. mine_right (r a) (one a) (subst (λ (k : ℕ). IsMine (one k)) (sym e) mine_i))
    (λ ni. mine_left (r a) (one a) (subst IsMine (sym (spares a near_a ni nj)) tt))))
