-- The answer of the owners' rule for what frames keep.
use Rattle.std.specs.Prelude.{◌≡◌, ℕ, List, map, Option, Some, None}
use Rattle.std.specs.List.{range_with_len}
use Rattle.ho_base.specs.ShapeRule.{Layout}
use Rattle.ho_base.specs.declared.numbers.Pfn.{Pfn}
use Rattle.folio_bitmaps.specs.Runs.{Run}
use Rattle.record_frames.specs.Kept.{Kept}
use Rattle.record_frames.specs.Owners.{users, first_ill}
use Rattle.kho_records.specs.declared.chain.sheet.ChunkSheet.{ChunkSheet}
use Rattle.kho_records.specs.Chunks.{chunk_views}
use Rattle.kho_records.specs.declared.owners.owned.UsedRun.{UsedRun}

-- a run that has to be marked
abbrev pub run_view : UsedRun → Run
run_view u = record { first = u.first.0; order = u.order }

-- a frame as its number
abbrev pub frame_number : Option Pfn → Option ℕ
frame_number None = None
frame_number (Some p) = Some p.0

-- This is the least of n frames that breaks the owners' rule, for all that frames may keep with this shape, this chain and
-- these runs that have to be marked.
abbrev pub IsFirstIll : ℕ → Layout → List UsedRun → List ChunkSheet → Option Pfn → Type 0
IsFirstIll n shape runs chunks r =
    (k : Kept) → k.shape ≡ shape → k.chain ≡ chunk_views chunks → users k ≡ map run_view runs → frame_number r ≡ first_ill k (range_with_len 0 n)
