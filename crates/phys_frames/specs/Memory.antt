-- What contracts see of frames and of the folios taken from them.
use Rattle.std.specs.Prelude.{◌≡◌, ℕ, ◌+◌, ◌^◌, ◌<◌, ◌≤◌, ◌⊎◌, List, [], ◌∷◌, ◌++◌, length, map, take, drop, replicate, slice_index_or, slice_set, Option, Some, None}
use Rattle.std.specs.Option.{IsSome}
use Rattle.std.specs.List.{All, AllWithin}
use Rattle.ho_base.specs.declared.limits.TheConstants.{PAGE_BYTES}
use Rattle.ho_base.specs.declared.numbers.Pfn.{Pfn}
use Rattle.ho_base.specs.declared.numbers.Order.{Order}
use Rattle.phys_frames.specs.Homes.{HomeId}
use Rattle.phys_frames.specs.Pages.{chunks, with_run}

-- the frames of one machine in order, a frame's bytes where it is home and none where it is out; and their home
pub record Memory : Type 0 where
  pub pages : List (Option (List ℕ))
  pub home : HomeId

-- a run of frames that is out: its first frame, its order, its bytes, and the home of the frames that it belongs to
pub record FolioValue : Type 0 where
  pub first : Pfn
  pub order : Order
  pub bytes : List ℕ
  pub home : HomeId

-- how many frames a run has
abbrev pub frames_in : Order → ℕ
frames_in order = 2 ^ order.0

-- the bytes of frame p; none where it is out or there is no such frame
abbrev pub page_at : Memory → Pfn → Option (List ℕ)
page_at m p = slice_index_or m.pages p.0 None

-- no frame is in both runs
abbrev pub ShareNoFrame : FolioValue → FolioValue → Type 0
ShareNoFrame f g = (f.first.0 + frames_in f.order ≤ g.first.0) ⊎ (g.first.0 + frames_in g.order ≤ f.first.0)

-- what page_at has of each frame of a run
abbrev pub run_at : Memory → Pfn → Order → List (Option (List ℕ))
run_at m p order = take (frames_in order) (drop p.0 m.pages)

-- there is a frame p, and it is home
abbrev pub IsHome : Memory → Pfn → Type 0
IsHome m p = IsSome (page_at m p)

-- there is a frame p, and it is out
abbrev pub IsOut : Memory → Pfn → Type 0
IsOut m p = (p.0 < length m.pages) × (page_at m p ≡ None)

-- there is such a run, and each frame of it is home
abbrev pub RunHome : Memory → Pfn → Order → Type 0
RunHome m p order = (p.0 + frames_in order ≤ length m.pages) × AllWithin IsSome m.pages p.0 (p.0 + frames_in order)

-- there is such a run, and each frame of it is out
abbrev pub RunOut : Memory → Pfn → Order → Type 0
RunOut m p order = (p.0 + frames_in order ≤ length m.pages) × AllWithin (λ page. page ≡ None) m.pages p.0 (p.0 + frames_in order)

-- frame q is in the run
abbrev pub InRun : Pfn → Order → Pfn → Type 0
InRun p order q = (p.0 ≤ q.0) × (q.0 < p.0 + frames_in order)

-- every frame is home
abbrev pub AllHome : Memory → Type 0
AllHome m = All IsSome m.pages

-- the pages of a run's bytes
abbrev pub pages_in : Order → List ℕ → List (List ℕ)
pages_in order bytes = chunks PAGE_BYTES (frames_in order) bytes

-- the frames with frame p home and these its bytes
abbrev pub with_page : Memory → Pfn → List ℕ → Memory
with_page m p bytes = record m { pages = slice_set m.pages p.0 (Some bytes) }

-- the frames with frame p out
abbrev pub without_page : Memory → Pfn → Memory
without_page m p = record m { pages = slice_set m.pages p.0 None }

-- the frames with a run home and these its bytes
abbrev pub with_folio : Memory → FolioValue → Memory
with_folio m f = record m { pages = with_run m.pages f.first.0 (frames_in f.order) (map Some (pages_in f.order f.bytes)) }

-- the frames with a run out
abbrev pub without_run : Memory → Pfn → Order → Memory
without_run m p order = record m { pages = with_run m.pages p.0 (frames_in order) (replicate (frames_in order) None) }

-- a page of zeros
unfoldable pub zero_page : List ℕ
zero_page = replicate PAGE_BYTES 0

-- a run with other bytes
abbrev pub with_bytes : FolioValue → List ℕ → FolioValue
with_bytes run bytes = record run { bytes = bytes }

-- the bytes with some of them replaced from a place on
abbrev pub written : List ℕ → ℕ → List ℕ → List ℕ
written bytes at new = take at bytes ++ (new ++ drop (at + length new) bytes)

-- new bytes in place of old ones, as many as there were: where they are as many, just the new ones
abbrev pub over : List ℕ → List ℕ → List ℕ
over old new = take (length old) (new ++ drop (length new) old)

-- the folio of one frame that holds zeros
abbrev pub zeroed : HomeId → Pfn → FolioValue
zeroed home p = record { first = p; order = record { 0 = 0 }; bytes = zero_page; home = home }

-- the frames at which folios begin
abbrev pub first_frames : List FolioValue → List Pfn
first_frames folios = map (λ f. f.first) folios

-- a folio that can fill a hole of a file: one frame of zeros
pub record IsFill (folio : FolioValue) : Type 0 where
  pub zeros : folio.bytes ≡ zero_page
  pub single : folio.order.0 ≡ 0

abbrev pub AreFills : List FolioValue → Type 0
AreFills [] = Unit {0}
AreFills (folio ∷ folios) = IsFill folio × AreFills folios

-- all folios are of this home
abbrev pub AreOf : HomeId → List FolioValue → Type 0
AreOf home [] = Unit {0}
AreOf home (folio ∷ folios) = (folio.home ≡ home) × AreOf home folios
