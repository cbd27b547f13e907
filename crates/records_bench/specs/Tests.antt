-- What the tests of folios compute.
use Rattle.std.specs.Prelude.{ℕ, ◌+◌, ◌^◌, ◌≤◌, max, ◌&&◌, ◌==◌, if◌then◌else◌, nat_le, List, [], ◌∷◌, Option, Some, None}
use Rattle.ho_base.specs.ShapeRule.{area_end}
use Rattle.ho_base.specs.declared.shape.Area.{Area}
use Rattle.ho_base.specs.declared.numbers.Pfn.{Pfn}
use Rattle.phys_frames.specs.Memory.{FolioValue}
use Rattle.record_frames.specs.Handover.{◌>>=◌}
use Rattle.record_frames.specs.declared.carried.Carried.{Carried}
use Rattle.record_frames.specs.declared.carried.CarriedFile.{CarriedFile}
use Rattle.record_frames.specs.declared.carried.CarriedSession.{CarriedSession}

-- The frame behind the last of runs of an order that begin at these frames, where the first begins at a frame or behind it and
-- each other where the one before it ends or behind it.
unfoldable pub past_runs : ℕ → ℕ → List Pfn → Option ℕ
past_runs order at [] = Some at
past_runs order at (p ∷ ps) = if nat_le at p.0 then past_runs order (p.0 + 2 ^ order) ps else None

-- the same for the runs of files, of sessions, and for folios of one frame
unfoldable pub past_files : ℕ → List CarriedFile → Option ℕ
past_files at [] = Some at
past_files at (f ∷ fs) = past_runs f.order.0 at f.runs >>= λ end. past_files end fs

unfoldable pub past_sessions : ℕ → List CarriedSession → Option ℕ
past_sessions at [] = Some at
past_sessions at (s ∷ ss) = past_files at s.files >>= λ end. past_sessions end ss

unfoldable pub past_folios : ℕ → List FolioValue → Option ℕ
past_folios at [] = Some at
past_folios at (f ∷ fs) = if f.order.0 == 0 && nat_le at f.first.0 then past_folios (f.first.0 + 1) fs else None

-- the frame behind all scratch areas
unfoldable pub scratch_end : List Area → ℕ
scratch_end [] = 1
scratch_end (a ∷ areas) = max (area_end a) (scratch_end areas)

-- the frame behind the last folio, where the files' runs stand in order behind the scratch areas, and the folios behind these
abbrev pub last_end : Carried → List FolioValue → Option ℕ
last_end c folios = past_sessions (scratch_end c.shape.scratch) c.sessions >>= λ end. past_folios end folios

-- there is an end, and it is within n frames
abbrev pub EndsWithin : ℕ → Option ℕ → Type 0
EndsWithin n None = ⊥
EndsWithin n (Some end) = end ≤ n
