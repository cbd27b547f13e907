-- What the heap answered: a block with the right to free it, or nothing. Assumes `Logic`.
use Rattle.std.proofs.Common.{◌≡◌, ℕ, List, [], ◌∷◌, ◌++◌, ap, ◌∙◌, true, false}
use seplogic.Ra.Ura.{Ura}
use base.Logic.{never, fst∗}
use base.Fml.{Fml, fsep, froom}
use mir.Syntax.{Ty}
use mir.Val.{Val, of_list}
use types.Kit.{Item, Seq, Goal, ‵, ◌$◌, drop, fsplit, fpick, feq_l}
use types.Logic.{Logic, sem}
use types.Match.{live}
use denote.RawPtr.{Ptr, block_ptr, null_ptr, ptr_val, room_for, in_a_block}
use denote.Steps.{only}
use Rattle.std.specs.declared.result.Result.TheVariants.{Ok, Err}
use Rattle.std.proofs.alloc.Calls.{Answer, answer_val}
use Rattle.std.specs.Allocator.{block_if_ok}

module _ {M : Type 1} {𝓤 : Ura M} {𝓛 : Logic 𝓤} {K : Type 0} {Γ : List (Item 𝓤)} {G : Goal 𝓤 𝓛.H} where
  pub granted : K → (holds : Ty → Ptr → Fml) (τ : Ty) (v : Val) (r : Answer.Denot)
      → ((b o : ℕ) → v ≡ answer_val true b o → Seq K 𝓛 (‵ (froom τ b o) ∷ ‵ (holds τ (block_ptr b o)) ∷ Γ) G) → (v ≡ answer_val false 0 0 → Seq K 𝓛 Γ G)
      → Seq K 𝓛 (‵ (Answer.own_val r (v ∷ [])) ∷ ‵ (block_if_ok holds τ r) ∷ Γ) G
  granted t holds τ v (Ok p) ok none =
      fpick t (λ us. fsplit t $ feq_l t (λ tagged. fpick t (λ vss. fsplit t $ feq_l t (λ laid. fsplit t $ feq_l t (λ told. drop t $
      in_a_block t p (λ z. fsep (room_for τ z) (holds τ z)) (fst∗ 𝓤 (never 𝓤) (sem 𝓛 (holds τ null_ptr))) (λ b o at. fsplit t $
      ok b o (ap only tagged ∙ ap (λ (ws : List Val). live 0 (of_list ws)) (laid ∙ ap (λ (ws : List Val). ws ++ []) (told ∙ ap (λ (z : Ptr). ptr_val z ∷ []) at)))))))))
  granted t holds τ v (Err n) ok none =
      fpick t (λ us. fsplit t $ feq_l t (λ tagged. fpick t (λ vss. fsplit t $ feq_l t (λ laid. fsplit t $ fpick t (λ fields. fsplit t $ feq_l t (λ told. drop t $ drop t $ drop t $
      none (ap only tagged ∙ ap (λ (ws : List Val). live 1 (of_list ws)) (laid ∙ ap (λ (ws : List Val). ws ++ []) told))))))))
