-- What the owners of places own and lend.
use Rattle.std.specs.Prelude.{ℕ, ◌+◌, ◌^◌, List, [], ◌∷◌, length, Option, Some, None}
use base.Fraction.{full_share}
use base.Fml.{Lft, GName, Fml, ftrue, ffalse, fsep, flt, froom, fobs, fauth}
use base.Stored.{coded_ℕ}
use mir.Syntax.{ty_array, ty_int, w8}
use denote.Builtin.{u8}
use denote.Memory.{part_at, shared_of}
use denote.Sharing.{nothing, said, beside}
use denote.RawPtr.{Ptr, block_ptr, null_ptr}
use Rattle.std.specs.declared.alloc.Global.{Global}
use Rattle.std.specs.contracts.impls.GlobalAllocator.TheImpl.{ghosts}

-- the byte o of the block b, in one of the three states of a place
abbrev pub place : ℕ → ℕ → Option (Option ℕ) → Fml
place b o (Some (Some x)) = part_at u8 full_share x b o
place b o (Some None) = froom (ty_int w8) b o
place b o None = ftrue

-- places side by side
abbrev pub places : ℕ → ℕ → List (Option (Option ℕ)) → Fml
places b o [] = ftrue
places b o (c ∷ cs) = fsep (place b o c) (places b (o + 1) cs)

-- what a reference to a place reaches: a byte where there is one
abbrev pub place_lent : ℕ → ℕ → Option (Option ℕ) → Lft → Fml
place_lent b o (Some (Some x)) = shared_of u8 x b o
place_lent b o (Some None) = nothing
place_lent b o None = nothing

abbrev pub places_lent : ℕ → ℕ → List (Option (Option ℕ)) → Lft → Fml
places_lent b o [] = nothing
places_lent b o (c ∷ cs) = beside (place_lent b o c) (places_lent b (o + 1) cs)

-- the places are fewer than 2 ^ 63
abbrev pub fit : List (Option (Option ℕ)) → Fml
fit cs = flt (length cs) (2 ^ 63)

-- an owner has its places, and knows how many they are at most; places lie in a block
abbrev pub region_owns : Ptr → List (Option (Option ℕ)) → Fml
region_owns (block_ptr b o) cs = fsep (fit cs) (places b o cs)
region_owns null_ptr cs = ffalse

abbrev pub region_lends : Ptr → List (Option (Option ℕ)) → Lft → Fml
region_lends (block_ptr b o) cs = beside (said (fit cs)) (places_lent b o cs)
region_lends null_ptr cs = said ffalse

-- a key is owned once
abbrev pub key_owns : GName → Fml
key_owns key = fsep (fobs key (coded_ℕ.code 0)) (fauth key (coded_ℕ.code 0))

-- the allocator's right to free a block of n bytes
abbrev pub deed_owns : Global → Ptr → ℕ → Fml
deed_owns alloc p n = ghosts.dealloc_token alloc (ty_array (ty_int w8) n) p
