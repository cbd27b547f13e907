-- Exactly a kexec that ends its kernel is answered Ok.
use Rattle.std.proofs.Common.{◌≡◌, ℕ, Bool, true, false, nat_lt, List, take, refl, subst}
use Rattle.std.specs.Prelude.{Option, None, Some, if◌then◌else◌, slice_get}
use Rattle.ho_base.specs.declared.numbers.Blob.{Blob}
use Rattle.ho_base.specs.declared.numbers.Pfn.{Pfn}
use Rattle.ho_world.specs.Acts.{Sequence}
use Rattle.ho_world.specs.Entries.{is_ok}
use Rattle.ho_world.specs.Frozen.{Preserved, frozen, need, preserved_devices, scratch_have, scratch_need}
use Rattle.ho_world.specs.Sequences.Kexecs.{KexecOutcome, TooSmall, NoRoom, NotFrozen, KernelEnds, kexec_acts, fitting_acts, not_frozen_acts}
use Rattle.ho_world.specs.World.{World, pool_at}
use Rattle.kexec_laws.specs.Kexecs.{ends, OnlyEndsAreOk}

-- a sequence, where there is one, is answered Ok or not
abbrev Answers : Bool → Option Sequence → Type 0
Answers ok None = Unit {0}
Answers ok (Some s) = is_ok s.reply ≡ ok

not_frozen_answers : (n : ℕ) (before : List Preserved) (runs : List Pfn) (m : ℕ) (d : Option Preserved) → Answers false (not_frozen_acts n before runs m d)
not_frozen_answers n before runs m None = tt
not_frozen_answers n before runs m (Some d) = refl

fitting_answers : (n : ℕ) (asked : List Preserved) (outcome : KexecOutcome) → Answers (ends outcome) (fitting_acts n asked outcome)
fitting_answers n asked TooSmall = tt
fitting_answers n asked NoRoom = refl
fitting_answers n asked (NotFrozen runs i m) = not_frozen_answers n (take i asked) runs m (slice_get asked i)
fitting_answers n asked (KernelEnds runs) = refl

where_so : (ok b : Bool) (x y : Option Sequence) → Answers ok x → Answers ok y → Answers ok (if b then x else y)
where_so ok true x y h k = h
where_so ok false x y h k = k

answers : (w : World) (blob : Blob) (outcome : KexecOutcome) → Answers (ends outcome) (kexec_acts w blob outcome)
answers w blob TooSmall = where_so false (nat_lt (scratch_have (pool_at w).shape) (scratch_need (pool_at w).shape blob)) _ None refl tt
answers w blob NoRoom = where_so false (nat_lt (scratch_have (pool_at w).shape) (scratch_need (pool_at w).shape blob)) None _ tt (fitting_answers (need (frozen w)) (preserved_devices w) NoRoom)
answers w blob (NotFrozen runs i m) = where_so false (nat_lt (scratch_have (pool_at w).shape) (scratch_need (pool_at w).shape blob)) None _ tt (fitting_answers (need (frozen w)) (preserved_devices w) (NotFrozen runs i m))
answers w blob (KernelEnds runs) = where_so true (nat_lt (scratch_have (pool_at w).shape) (scratch_need (pool_at w).shape blob)) None _ tt (fitting_answers (need (frozen w)) (preserved_devices w) (KernelEnds runs))

pub only_ends_are_ok : OnlyEndsAreOk
only_ends_are_ok w blob outcome s is = subst (Answers (ends outcome)) is (answers w blob outcome)
