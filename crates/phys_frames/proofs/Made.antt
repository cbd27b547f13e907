-- Machine values of the owners, made of what is owned. Assumes `Logic`.
use Rattle.std.proofs.Common.{List, [], ◌∷◌, refl}
use seplogic.Ra.Ura.{Ura}
use base.Logic.{ent, sep, emp}
use mir.Val.{Val, vstruct, vcons, vnil}
use types.Kit.{‵, ◌$◌, ◌∵◌, !, qed, move, fjoin, feq_i, fpack, done}
use types.Logic.{Logic, sem}
use denote.RattleType.{RattleType, Valss}
use denote.RawPtr.{Ptr, ptr_val}
use denote.Shadow.{makes_shadow}
use denote.Steps.{nothing}
use denote.Struct.Declared as declared
use denote.Struct.Owning.{shape}
use denote.Struct.Struct.{Struct, within}
use denote.Struct.Tuple.{Tuple, tuple_type}
use Rattle.std.proofs.RcSteps.{word}
use Rattle.phys_frames.specs.contracts.cells.Base.{the_row as Base}
use Rattle.phys_frames.specs.contracts.cells.Cells as cells
use Rattle.phys_frames.specs.contracts.cells.Deed as deed

-- the fields of an owner that take bytes: none
abbrev pub CellsFields : RattleType
CellsFields = Struct (shape cells.the_type)

abbrev pub DeedFields : RattleType
DeedFields = Struct (shape deed.the_type)

-- an owner's one machine value
abbrev pub mark : Val
mark = vstruct (vcons (vstruct vnil) vnil)

abbrev pub pair_val : Val → Val → Val
pair_val u v = vstruct (vcons u (vcons v vnil))

abbrev pub triple_val : Val → Val → Val → Val
triple_val u v w = vstruct (vcons u (vcons v (vcons w vnil)))

module _ {M : Type 1} {𝓤 : Ura M} (𝓛 : Logic 𝓤) where
  pub base_made : (p : Ptr) → ent 𝓤 (emp 𝓤) (sem 𝓛 (Base.own_val (record { ptr = p }) (word p ∷ [])))
  base_made p = makes_shadow 𝓛 (Base.own_val (record { ptr = p }) (word p ∷ [])) (λ _. (tt, (tt, tt))) ((ptr_val p ∷ [], tt), (refl, (refl, tt)))

  pub cells_mark : ent 𝓤 (emp 𝓤) (sem 𝓛 (CellsFields.own_val (tt, tt) (mark ∷ [])))
  cells_mark = makes_shadow 𝓛 (CellsFields.own_val (tt, tt) (mark ∷ [])) (λ _. (tt, ((λ _. (tt, tt)), tt))) ((vstruct vnil ∷ [], tt), (refl, ((tt, (refl, tt)), tt)))

  pub deed_mark : ent 𝓤 (emp 𝓤) (sem 𝓛 (DeedFields.own_val (tt, tt) (mark ∷ [])))
  deed_mark = makes_shadow 𝓛 (DeedFields.own_val (tt, tt) (mark ∷ [])) (λ _. (tt, ((λ _. (tt, tt)), tt))) ((vstruct vnil ∷ [], tt), (refl, ((tt, (refl, tt)), tt)))

  pub pair_made : (R S : RattleType) (x : R.Denot) (y : S.Denot) (u v : Val)
      → ent 𝓤 (sep 𝓤 (sem 𝓛 (R.own_val x (u ∷ []))) (sem 𝓛 (S.own_val y (v ∷ [])))) (sem 𝓛 ((Tuple (R ∷ S ∷ [])).own_val (x, y) (pair_val u v ∷ [])))
  pair_made R S x y u v =
      qed 𝓛 (‵ (R.own_val x (u ∷ [])) ∷ ‵ (S.own_val y (v ∷ [])) ∷ []) ∵ nothing ! $ move ! (2 ∷ 0 ∷ []) $ fjoin ! $ move ! (1 ∷ 0 ∷ []) $ fjoin ! $
      feq_i ! (List Val) (pair_val u v ∷ []) (pair_val u v ∷ []) refl $ fjoin ! $
      fpack ! (Valss (R ∷ S ∷ [])) (within (declared.shape (tuple_type (R ∷ S ∷ []))) (x, (y, tt)) (pair_val u v ∷ [])) (u ∷ [], (v ∷ [], tt)) $ done !

  pub triple_made : (R S T : RattleType) (x : R.Denot) (y : S.Denot) (z : T.Denot) (u v w : Val)
      → ent 𝓤 (sep 𝓤 (sem 𝓛 (R.own_val x (u ∷ []))) (sep 𝓤 (sem 𝓛 (S.own_val y (v ∷ []))) (sem 𝓛 (T.own_val z (w ∷ []))))) (sem 𝓛 ((Tuple (R ∷ S ∷ T ∷ [])).own_val (x, y, z) (triple_val u v w ∷ [])))
  triple_made R S T x y z u v w =
      qed 𝓛 (‵ (R.own_val x (u ∷ [])) ∷ ‵ (S.own_val y (v ∷ [])) ∷ ‵ (T.own_val z (w ∷ [])) ∷ []) ∵ nothing ! $ move ! (3 ∷ 0 ∷ []) $ fjoin ! $ move ! (2 ∷ 0 ∷ []) $ fjoin ! $ move ! (1 ∷ 0 ∷ []) $ fjoin ! $
      feq_i ! (List Val) (triple_val u v w ∷ []) (triple_val u v w ∷ []) refl $ fjoin ! $
      fpack ! (Valss (R ∷ S ∷ T ∷ [])) (within (declared.shape (tuple_type (R ∷ S ∷ T ∷ []))) (x, (y, (z, tt))) (triple_val u v w ∷ [])) (u ∷ [], (v ∷ [], (w ∷ [], tt))) $ done !
