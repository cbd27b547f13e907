-- Frames with whole pages are what is read from their image.
use Rattle.std.proofs.Common.{◌≡◌, ℕ, ◌^◌, ◌<◌, ◌≤◌, List, [], ◌∷◌, length, suc, sym, arith}
use Rattle.std.specs.Prelude.{Option, None, Some}
use Rattle.std.specs.List.{AllByRecursion}
use Rattle.std.specs.Option.{IsSome}
use Rattle.std.proofs.lemmas.List.Elements.{All-from_recursion, recursion_from_All}
use Rattle.ho_base.specs.declared.limits.TheConstants.{PAGE_BYTES, MIN_FRAMES, MAX_FRAMES}
use Rattle.image_file.specs.Image.{ImageIsRead, IsPage}
use Rattle.phys_frames.specs.Homes.{HomeId}
use Rattle.phys_frames.specs.Memory.{Memory, AllHome}
use Rattle.record_frames.specs.Laws.{Holds}
use Rattle.record_frames.specs.Sheeted.{ram_of}
use Rattle.handover_cli.specs.Images.{IsReadBack}

-- each frame that is home has a page, where each has so many bytes as it is read
whole_pages : (home : HomeId) (pages : List (Option (List ℕ))) → AllByRecursion IsSome pages → ((p : ℕ) → p < length pages → length ((ram_of (record { pages = pages; home = home })).page p) ≡ PAGE_BYTES) → AllByRecursion (IsPage PAGE_BYTES) pages
whole_pages home [] h size = tt
whole_pages home (None ∷ pages) h size = absurd (nothing h.0)
  where
    nothing : IsSome {T = List ℕ} None → ⊥
    nothing e = cc
whole_pages home (Some b ∷ pages) h size = (size 0 (omega arith), whole_pages home pages h.1 (λ p l. size (suc p) (omega (arith, l))))

pub read_back : (m : Memory) (entry : ℕ) → ImageIsRead → MIN_FRAMES ≤ length m.pages → length m.pages ≤ MAX_FRAMES → AllHome m → Holds (ram_of m) → entry < 2 ^ 64 → IsReadBack m entry
read_back m entry law least most home holds small =
    let same = law m.pages entry least most (All-from_recursion (IsPage PAGE_BYTES) m.pages (whole_pages m.home m.pages (recursion_from_All IsSome m.pages home) holds.size)) small in
    record { read = record { whole = same.0; pages = sym same.1 }; entry_is = same.2 }
