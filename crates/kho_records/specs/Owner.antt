-- Who uses a frame, as the program keeps it: nobody, one user, or more than one.
use Rattle.std.specs.Prelude.{ℕ, zero, suc, ◌+◌, ◌-◌, ◌%◌, ◌^◌, Bool, true, false, not, ◌&&◌, ◌==◌, nat_lt, nat_le, nat_eq, if◌then◌else◌, List, [], ◌∷◌, map, filter, get_or}
use Rattle.std.specs.List.{range_with_len}
use Rattle.ho_base.specs.declared.shape.Area.{Area}
use Rattle.folio_bitmaps.specs.Runs.{Run}
use Rattle.folio_bitmaps.specs.Chunks.{Element}
use Rattle.record_frames.specs.Rules.{is_marked}
use Rattle.kho_records.specs.declared.chain.sheet.ChunkSheet.{ChunkSheet}
use Rattle.kho_records.specs.declared.owners.owner.Owner.{Owner}
use Rattle.kho_records.specs.declared.owners.owner.Owner.TheVariants.{Nobody, Run as One, Unmarked, Several}
use Rattle.kho_records.specs.declared.owners.owned.UsedRun.{UsedRun}

-- one user more
abbrev pub joined : Owner → Owner → Owner
joined Nobody more = more
joined (One first order) more = Several
joined Unmarked more = Several
joined Several more = Several

-- who uses frame p, by the table
abbrev pub owner_in : List Owner → ℕ → Owner
owner_in owners p = get_or owners p Nobody

-- who uses frame p, when the frames from `first` up to `end` get one user more
unfoldable pub with_range : ℕ → ℕ → Owner → ℕ → Owner → Owner
with_range first end more p now = if nat_le first p && nat_lt p end then joined now more else now

-- the same for the frames of a run that has to be marked
abbrev pub with_user : UsedRun → ℕ → Owner → Owner
with_user u p now = with_range u.first.0 (u.first.0 + 2 ^ u.order) (One u.first.0 u.order) p now

-- the same for those of a scratch area
abbrev pub with_area : Area → ℕ → Owner → Owner
with_area a p now = with_range a.first.0 (a.first.0 + a.count) Unmarked p now

-- the same for a chunk frame
abbrev pub with_chunk : ChunkSheet → ℕ → Owner → Owner
with_chunk c p now = if nat_eq p c.at then joined now Unmarked else now

-- the same for all of a list
abbrev pub with_each : {A : Type 0} → (A → ℕ → Owner → Owner) → List A → ℕ → Owner → Owner
with_each more [] p now = now
with_each more (x ∷ xs) p now = with_each more xs p (more x p now)

-- who uses frame p, of these runs, scratch areas and chunk frames
unfoldable pub owner_at : List UsedRun → List Area → List ChunkSheet → ℕ → Owner
owner_at users areas chunks p = with_each with_chunk chunks p (with_each with_area areas p (with_each with_user users p Nobody))

-- what the program keeps of the runs that use a frame, and of how many other users it has
abbrev pub owner_of : List Run → ℕ → Owner
owner_of [] zero = Nobody
owner_of [] (suc zero) = Unmarked
owner_of [] (suc (suc n)) = Several
owner_of (r ∷ []) zero = One r.first r.order
owner_of (r ∷ []) (suc n) = Several
owner_of (r ∷ s ∷ runs) n = Several

-- the run of an order that may hold frame p
abbrev pub holder : ℕ → ℕ → Run
holder p o = record { first = p - p % 2 ^ o; order = o }

-- whether the flag of an order is set
abbrev pub flag_in : List Bool → ℕ → Bool
flag_in flags o = get_or flags o false

-- the marked runs below an order that hold frame p
unfoldable pub marked_below : List Element → ℕ → ℕ → List Run
marked_below elements p n = filter (is_marked elements) (map (holder p) (range_with_len 0 n))

-- what the program keeps of the marked runs that hold frame p
abbrev pub marked_owner : List Element → ℕ → Owner
marked_owner elements p = owner_of (marked_below elements p 10) 0

-- The owners' rule by what the program keeps: one user at most, none at frame 0, and just the user's run is marked.
abbrev pub is_right : ℕ → Owner → Owner → Bool
is_right p Nobody Nobody = true
is_right p Unmarked Nobody = not (p == 0)
is_right p (One first order) (One begin size) = not (p == 0) && begin == first && size == order
is_right p owner runs = false
