-- The owner of places and the right to free them may go to another thread, and so may references to them.
use Rattle.std.specs.Prelude.{ℕ, ◌+◌, List, [], ◌∷◌, Option, Some, None}
use base.Fraction.{full_share}
use base.Shift.{Keyless}
use denote.Builtin.{u8}
use denote.Exit.{Exit, unchanged, leaves, hidden, under}
use denote.RawPtr.{Ptr, block_ptr, null_ptr}
use denote.Struct.Struct.{exits_of}
use denote.Struct.Owning.{shape, fields, to}
use denote.Param.Send.{IsSend, IsSync, Quiet, Common, AllSend, part_keyless, owning_send, struct_send, struct_sync, sendable}
use Rattle.std.proofs.Crossing.{frees}
use Rattle.phys_frames.specs.Ownership.{places, places_lent, region_owns, region_lends}
use Rattle.phys_frames.specs.contracts.cells.Cells as Cells
use Rattle.phys_frames.specs.contracts.cells.Deed as Deed

byte_send : IsSend u8
byte_send = search sendable

byte_sync : IsSync u8
byte_sync = search sendable

still : {D X : Type 0} (view : D → X) (e : Exit X) → Quiet e → Quiet (hidden (under view e))
still view unchanged q = λ x w. tt
still view (leaves L l S s r₀) q = λ d. q (view d)

owned : (b o : ℕ) (cs : List (Option (Option ℕ))) → Keyless (places b o cs)
owned b o [] = tt
owned b o (Some (Some x) ∷ cs) = (part_keyless u8 byte_send full_share x b o, owned b (o + 1) cs)
owned b o (Some None ∷ cs) = (tt, owned b (o + 1) cs)
owned b o (None ∷ cs) = (tt, owned b (o + 1) cs)

lent : (b o : ℕ) (cs : List (Option (Option ℕ))) → Common (places_lent b o cs)
lent b o [] κ = tt
lent b o (Some (Some x) ∷ cs) κ = (byte_sync.shared x b o κ, lent b (o + 1) cs κ)
lent b o (Some None ∷ cs) κ = (tt, lent b (o + 1) cs κ)
lent b o (None ∷ cs) κ = (tt, lent b (o + 1) cs κ)

region_owned : (p : Ptr) (cs : List (Option (Option ℕ))) → Keyless (region_owns p cs)
region_owned (block_ptr b o) cs = (tt, owned b o cs)
region_owned null_ptr cs = tt

region_lent : (p : Ptr) (cs : List (Option (Option ℕ))) → Common (region_lends p cs)
region_lent (block_ptr b o) cs κ = (tt, lent b o cs κ)
region_lent null_ptr cs κ = tt

pub Cells-send : IsSend Cells.the_row
Cells-send =
    let O = Cells.the_type in let all : AllSend (fields O) = (search sendable, tt) in
    owning_send O all (λ d. region_owned d.at d.slots) (λ k. still (to O) (exits_of k (fields O)) ((struct_send (shape O) all).leaving k))

pub Cells-sync : IsSync Cells.the_row
Cells-sync = let O = Cells.the_type in record { shared = λ d b o κ. ((struct_sync (shape O) (search sendable, tt)).shared (to O d) b o κ, region_lent d.at d.slots κ) }

pub Deed-send : IsSend Deed.the_row
Deed-send =
    let O = Deed.the_type in let all : AllSend (fields O) = (search sendable, tt) in
    owning_send O all (λ d. (frees.frees d.alloc _ d.at, (tt, tt))) (λ k. still (to O) (exits_of k (fields O)) ((struct_send (shape O) all).leaving k))

pub Deed-sync : IsSync Deed.the_row
Deed-sync = let O = Deed.the_type in record { shared = λ d b o κ. ((struct_sync (shape O) (search sendable, tt)).shared (to O d) b o κ, tt) }
