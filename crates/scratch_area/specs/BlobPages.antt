-- The frames that a program is loaded into.
use Rattle.std.specs.Prelude.{◌≡◌, ℕ, ◌+◌, ◌-◌, ◌<◌, ◌≤◌, ◌⊎◌, List, ◌++◌, length, replicate, Some}
use Rattle.std.specs.Int.{w64, to_le_bytes}
use Rattle.std.specs.List.{AllWithin}
use Rattle.std.specs.Option.{IsSome}
use Rattle.ho_base.specs.declared.limits.TheConstants.{PAGE_BYTES}
use Rattle.ho_base.specs.declared.numbers.Blob.{Blob}
use Rattle.ho_base.specs.declared.numbers.Pfn.{Pfn}
use Rattle.phys_frames.specs.Memory.{Memory, page_at}

-- frame i of a program: its version and i as numbers of 8 bytes, the lowest byte first, then zeros
abbrev pub blob_page : ℕ → ℕ → List ℕ
blob_page version i = to_le_bytes w64 version ++ (to_le_bytes w64 i ++ replicate (PAGE_BYTES - 16) 0)

-- there are frames for the program from a frame on, and each of them is home
abbrev pub BlobHome : Memory → Pfn → Blob → Type 0
BlobHome m at blob = (at.0 + blob.frames ≤ length m.pages) × AllWithin IsSome m.pages at.0 (at.0 + blob.frames)

-- the frames from a frame on hold the program
abbrev pub HoldsBlob : Memory → Pfn → Blob → Type 0
HoldsBlob m at blob = (i : ℕ) → i < blob.frames → page_at m (record { 0 = at.0 + i }) ≡ Some (blob_page blob.version i)

-- every other frame is as it was
abbrev pub OthersStay : Memory → Memory → Pfn → Blob → Type 0
OthersStay old new at blob = (p : Pfn) → (p.0 < at.0) ⊎ (at.0 + blob.frames ≤ p.0) → page_at new p ≡ page_at old p
