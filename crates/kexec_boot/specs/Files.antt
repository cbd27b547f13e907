-- Carried files without what their sessions keep of them, their runs, and what they are held with.
use Rattle.std.specs.Prelude.{◌≡◌, ℕ, ◌+◌, ◌*◌, ◌^◌, ◌≤◌, List, [], ◌∷◌, map, length, take, drop, flat_map, Option, Some}
use Rattle.std.specs.List.{All}
use Rattle.ho_base.specs.declared.limits.TheConstants.{FILE_BYTES, MAX_ORDER, PAGE_BYTES}
use Rattle.ho_base.specs.declared.numbers.Kind.TheVariants.{Memfd}
use Rattle.ho_base.specs.declared.numbers.Pfn.{Pfn}
use Rattle.ho_base.specs.declared.numbers.Order.{Order}
use Rattle.ho_base.specs.declared.numbers.Token.{Token}
use Rattle.ho_base.specs.declared.numbers.FileNo.{FileNo}
use Rattle.ho_events.specs.File.{FileState}
use Rattle.ho_events.specs.Lists.{pieces}
use Rattle.file_folios.specs.HeldFiles.{held_file}
use Rattle.phys_frames.specs.Homes.{HomeId}
use Rattle.phys_frames.specs.Memory.{AreOf, FolioValue}
use Rattle.record_frames.specs.declared.carried.CarriedFile.{CarriedFile}
use Rattle.record_frames.specs.declared.carried.CarriedSession.{CarriedSession}
use Rattle.kexec_boot.specs.declared.files.PlainFile.{PlainFile}

-- a file's order, size and position, and how many runs it has
abbrev pub plain_of : CarriedFile → PlainFile
plain_of f = record { order = f.order; size = f.size; position = f.position; count = length f.runs }

abbrev pub plain_with : CarriedSession → List PlainFile
plain_with s = map plain_of s.files

-- those of all files, session by session
abbrev pub plain_in : List CarriedSession → List PlainFile
plain_in ss = flat_map plain_with ss

-- the runs of a file, each with its order
abbrev pub runs_of : CarriedFile → List (Pfn × Order)
runs_of f = map (λ p. (p, f.order)) f.runs

abbrev pub runs_with : CarriedSession → List (Pfn × Order)
runs_with s = flat_map runs_of s.files

-- those of all files, session by session
abbrev pub runs_in : List CarriedSession → List (Pfn × Order)
runs_in ss = flat_map runs_with ss

-- the bytes of a file that has these folios
abbrev pub bytes_with : PlainFile → List FolioValue → List ℕ
bytes_with p folios = take p.size (flat_map (λ f. f.bytes) folios)

-- A file can be held with these folios: they are of this home and of the file's order, which is one that runs may have,
-- and as many as the file has runs and indexes; its bytes are no more than a file may have, and its position is no place
-- past them.
pub record FitsFolios (home : HomeId) (p : PlainFile) (folios : List FolioValue) : Type 0 where
  pub small : p.order.0 ≤ MAX_ORDER
  pub of_home : AreOf home folios
  pub of_order : All (λ f. f.order ≡ p.order) folios
  pub number : length folios ≡ p.count
  pub count : length folios ≡ pieces (length (bytes_with p folios)) (PAGE_BYTES * 2 ^ p.order.0)
  pub within : length (bytes_with p folios) ≤ FILE_BYTES
  pub position : p.position ≤ length (bytes_with p folios)

-- these are the folios of files, one file after the other, and each file can be held with its own
unfoldable pub FitAll : HomeId → List PlainFile → List FolioValue → Type 0
FitAll home [] folios = folios ≡ []
FitAll home (p ∷ ps) folios = FitsFolios home p (take p.count folios) × FitAll home ps (drop p.count folios)

-- a file as an incoming session has it, with these folios
abbrev pub state_with : PlainFile → List FolioValue → Option FileState
state_with p folios = Some (held_file Memfd p.order.0 p.size p.position folios)

-- files that have these folios, one file after the other
unfoldable pub states_with : List PlainFile → List FolioValue → List (Option FileState)
states_with [] folios = []
states_with (p ∷ ps) folios = state_with p (take p.count folios) ∷ states_with ps (drop p.count folios)

-- a session's files as a slot lists them, with file numbers one after the other, from one on
abbrev pub listed_from : ℕ → List CarriedFile → List (Token × FileNo × ℕ)
listed_from n [] = []
listed_from n (f ∷ fs) = (f.token, record { 0 = n }, f.handle) ∷ listed_from (n + 1) fs
