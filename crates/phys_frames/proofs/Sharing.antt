-- What a reference to the owner of places holds, and that it is made of a borrow. Assumes `Logic`.
use Rattle.std.specs.Prelude.{refl, ℕ, ◌+◌, List, [], ◌∷◌, Option, Some, None}
use seplogic.Ra.Ura.{Ura}
use base.Fml.{Lft, Incl, ftrue, ffalse}
use types.Logic.{Logic}
use denote.Builtin.{u8}
use denote.Param.Laws.{Laws, of_field}
use denote.Param.Shared.{copy_shared}
use denote.RawPtr.{Ptr, block_ptr, null_ptr}
use denote.Shares.{Shares-less}
use denote.Sharing.{ShrLaws, said}
use denote.SharingLaws.{beside_shr_laws, nothing_shr_laws, said_shr_laws}
use denote.Struct.Field.{u8-field}
use denote.Struct.Laws.{u8-laws, u8-copy}
use denote.Struct.Lending.{Lends, Lends-both, Lends-nothing, Lends-said, Lends-false}
use Rattle.phys_frames.specs.Ownership.{place, places, place_lent, places_lent, fit, region_owns, region_lends}

abbrev pub byte : Laws u8
byte = of_field u8-field u8-laws refl (copy_shared u8-field u8-copy)

at_place : (b o : ℕ) (c : Option (Option ℕ)) → ShrLaws (place_lent b o c)
at_place b o (Some (Some x)) = byte.shr_laws x b o
at_place b o (Some None) = nothing_shr_laws
at_place b o None = nothing_shr_laws

at_places : (b o : ℕ) (cs : List (Option (Option ℕ))) → ShrLaws (places_lent b o cs)
at_places b o [] = nothing_shr_laws
at_places b o (c ∷ cs) = beside_shr_laws (place_lent b o c) (places_lent b (o + 1) cs) (at_place b o c) (at_places b (o + 1) cs)

pub at_region : (p : Ptr) (cs : List (Option (Option ℕ))) → ShrLaws (region_lends p cs)
at_region (block_ptr b o) cs = beside_shr_laws (said (fit cs)) (places_lent b o cs) (said_shr_laws (fit cs) tt) (at_places b o cs)
at_region null_ptr cs = said_shr_laws ffalse tt

module _ {M : Type 1} {𝓤 : Ura M} (𝓛 : Logic 𝓤) (l : Lft) (inc : Incl l u8.lives) where
  lends_place : (b o : ℕ) (c : Option (Option ℕ)) → Lends 𝓛 (place b o c) (place_lent b o c) l
  lends_place b o (Some (Some x)) = λ κ ts. Shares-less 𝓛 u8 u8.lives l inc (byte.shares 𝓛) x κ ts b o
  lends_place b o (Some None) = Lends-nothing 𝓛 (place b o (Some None)) l
  lends_place b o None = Lends-nothing 𝓛 ftrue l

  lends_places : (b o : ℕ) (cs : List (Option (Option ℕ))) → Lends 𝓛 (places b o cs) (places_lent b o cs) l
  lends_places b o [] = Lends-nothing 𝓛 ftrue l
  lends_places b o (c ∷ cs) = Lends-both 𝓛 (place b o c) (places b (o + 1) cs) (place_lent b o c) (places_lent b (o + 1) cs) l (lends_place b o c) (lends_places b (o + 1) cs)

  pub lends_region : (p : Ptr) (cs : List (Option (Option ℕ))) → Lends 𝓛 (region_owns p cs) (region_lends p cs) l
  lends_region (block_ptr b o) cs = Lends-both 𝓛 (fit cs) (places b o cs) (said (fit cs)) (places_lent b o cs) l (Lends-said 𝓛 (fit cs) tt l) (lends_places b o cs)
  lends_region null_ptr cs = Lends-false 𝓛 (said ffalse) l
