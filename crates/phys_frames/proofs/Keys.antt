-- A key has one owner. Assumes `Logic`.
use Rattle.std.proofs.Common.{◌≡◌, ℕ, ◌<◌, ◌≤◌, ◌⊎◌, inl, inr, [], ◌∷◌, subst, arith}
use seplogic.Ra.Ura.{Ura}
use base.Logic.{ent, sep, guard, guard_i, via}
use base.Stored.{coded_ℕ}
use types.Kit.{‵, ◌$◌, ◌∵◌, !, qed, move, fsplit, updating}
use types.Logic.{Logic, sem}
use types.Tokens.{name_set, name_agree}
use Rattle.phys_frames.specs.Ownership.{key_owns}
use Rattle.phys_frames.proofs.Region.{order}

module _ {M : Type 1} {𝓤 : Ura M} (𝓛 : Logic 𝓤) where
  open 𝓛 use {H}

  twice : (k : ℕ) → ent 𝓤 (sep 𝓤 (sem 𝓛 (key_owns k)) (sem 𝓛 (key_owns k))) (H.⇛ (guard 𝓤 (k ≡ k → ⊥) (sep 𝓤 (sem 𝓛 (key_owns k)) (sem 𝓛 (key_owns k)))))
  twice k = qed 𝓛 (‵ (key_owns k) ∷ ‵ (key_owns k) ∷ []) ∵ updating ! $ fsplit ! $ name_set ! tt (coded_ℕ.code 1) $ move ! (2 ∷ []) $ fsplit ! $ move ! (2 ∷ 1 ∷ []) $ name_agree ! coded_ℕ (λ e. absurd (omega (arith, e)))

  by_order : (k l : ℕ) → (k ≤ l) ⊎ (l < k) → (l ≤ k) ⊎ (k < l) → ent 𝓤 (sep 𝓤 (sem 𝓛 (key_owns k)) (sem 𝓛 (key_owns l))) (H.⇛ (guard 𝓤 (k ≡ l → ⊥) (sep 𝓤 (sem 𝓛 (key_owns k)) (sem 𝓛 (key_owns l)))))
  by_order k l (inr lt) q = via 𝓤 _ (guard_i 𝓤 (k ≡ l → ⊥) _ (λ e. absurd (omega (arith, lt, e)))) (𝓛.laws.⇛_intro _)
  by_order k l (inl le) (inr lt) = via 𝓤 _ (guard_i 𝓤 (k ≡ l → ⊥) _ (λ e. absurd (omega (arith, lt, e)))) (𝓛.laws.⇛_intro _)
  by_order k l (inl le) (inl ge) =
      let same : k ≡ l = omega (arith, le, ge) in
      subst (λ (m : ℕ). ent 𝓤 (sep 𝓤 (sem 𝓛 (key_owns k)) (sem 𝓛 (key_owns m))) (H.⇛ (guard 𝓤 (k ≡ m → ⊥) (sep 𝓤 (sem 𝓛 (key_owns k)) (sem 𝓛 (key_owns m)))))) same (twice k)

  pub keys_differ : (k l : ℕ) → ent 𝓤 (sep 𝓤 (sem 𝓛 (key_owns k)) (sem 𝓛 (key_owns l))) (H.⇛ (guard 𝓤 (k ≡ l → ⊥) (sep 𝓤 (sem 𝓛 (key_owns k)) (sem 𝓛 (key_owns l)))))
  keys_differ k l = by_order k l (order k l) (order l k)
