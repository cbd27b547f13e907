-- A seat owns its slots in any order.
use Rattle.std.proofs.Common.{ℕ, List, [], ◌∷◌, ◌++◌, Bool, true, false, subst, append_assoc, ◌==◌, cond}
use Rattle.std.proofs.lemmas.List.{append-nil}
use seplogic.Ra.Ura.{Ura}
use base.Logic.{SProp, ent, via, id⊢}
use base.Stored.{Coded}
use types.Logic.{Logic, sem}
use denote.RattleType.{RattleType}
use Rattle.atomic_table.specs.Seated.{TableId, mine}
use Rattle.atomic_table.proofs.Moves.{turns}
use Rattle.turns_table.specs.Slots.{pulled}

module _ {M : Type 1} {𝓤 : Ura M} (𝓛 : Logic 𝓤) (R : RattleType) {V : Type 0} (cv : Coded V) (z : TableId) (id : ℕ) (v : V) where
  abbrev Slots : Type 0
  Slots = List (ℕ × R.Denot)

  abbrev owned : Slots → SProp 𝓤
  owned cs = sem 𝓛 (mine R cv.code z id (v, cs))

  either : (P : SProp 𝓤) (b : Bool) (cs ds : Slots) → ent 𝓤 P (owned cs) → ent 𝓤 P (owned ds) → ent 𝓤 P (owned (cond b cs ds))
  either P true cs ds p q = p
  either P false cs ds p q = q

  pulls_on : (k : ℕ) (passed xs : Slots) → ent 𝓤 (owned (xs ++ passed)) (owned (pulled k passed xs))
  pulls_on k passed [] = id⊢ 𝓤 (owned passed)
  pulls_on k passed (x ∷ xs) = either (owned (x ∷ xs ++ passed)) (x.0 == k) (x ∷ xs ++ passed) (pulled k (passed ++ x ∷ []) xs) (id⊢ 𝓤 (owned (x ∷ xs ++ passed)))
      (via 𝓤 (owned (xs ++ (passed ++ x ∷ [])))
      (subst (λ (cs : Slots). ent 𝓤 (owned (x ∷ xs ++ passed)) (owned cs)) (append_assoc xs passed (x ∷ [])) (turns 𝓛 R cv z id v (x ∷ xs ++ passed)))
      (pulls_on k (passed ++ x ∷ []) xs))

  pub pulls : (k : ℕ) (cs : Slots) → ent 𝓤 (owned cs) (owned (pulled k [] cs))
  pulls k cs = subst (λ (ds : Slots). ent 𝓤 (owned ds) (owned (pulled k [] cs))) (append-nil cs) (pulls_on k [] cs)
