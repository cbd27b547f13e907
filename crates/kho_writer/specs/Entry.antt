-- What the entry frame says, from what its writer is handed.
use Rattle.std.specs.Prelude.{ℕ, List, map, Option, Some, None}
use Rattle.ho_base.specs.ShapeRule.{Layout}
use Rattle.ho_base.specs.declared.numbers.Pfn.{Pfn}
use Rattle.fdt_blob.specs.Spelling.{spelling}
use Rattle.record_frames.specs.Rules.{version_1}
use Rattle.record_frames.specs.Handover.{Luo}
use Rattle.kho_laws.specs.Tree.{handover_tree}

-- the number of a frame that there may be
abbrev pub number_at : Option Pfn → Option ℕ
number_at None = None
number_at (Some p) = Some p.0

-- what the root's child says: the update number, the session frame, and for each kind the frame of its bound record
abbrev pub luo_with : ℕ → Pfn → List (Option Pfn) → Luo
luo_with number header bounds = record { number = number; header = header.0; bounds = map number_at bounds }

-- the blob of the handover tree
abbrev pub entry_bytes : Layout → ℕ → Pfn → Pfn → List (Option Pfn) → List ℕ
entry_bytes shape number chunk header bounds = spelling (handover_tree version_1 shape chunk.0 (luo_with number header bounds))
