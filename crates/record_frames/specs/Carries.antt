-- Which frames carry what.
use Rattle.std.specs.Prelude.{◌≡◌, ℕ, List, IsTrue, Some}
use Rattle.std.specs.List.{AllByRecursion}
use Rattle.fdt_blob.specs.Trees.{Tree}
use Rattle.fdt_blob.specs.Blob.{Spells}
use Rattle.ho_world.specs.Frozen.{Frozen}
use Rattle.record_frames.specs.Ram.{Ram, Page, Begins, is_frame}
use Rattle.folio_bitmaps.specs.Chunks.{Element}
use Rattle.record_frames.specs.Sheets.{Sheet, SessionRecord, first_of, record_pages, chunk_pages}
use Rattle.record_frames.specs.Rules.{Version, versions}
use Rattle.record_frames.specs.Handover.{root_of, luo_of}
use Rattle.record_frames.specs.Kept.{Kept, are_records, is_chain, are_bounds, all_files, devices, bound_frames, bound_pages, carried}
use Rattle.record_frames.specs.Owners.{all_owned_well}

-- each of these frames begins with its bytes
abbrev pub HavePages : Ram → List Page → Type 0
HavePages ram pages = AllByRecursion (λ p. Begins (ram.page p.at) p.bytes) pages

-- The frames from a number on spell a chain of bitmaps.
pub record SpellChain (ram : Ram) (first : ℕ) (chain : List (Sheet Element)) : Type 0 where
  pub begins : first_of chain ≡ first
  pub rules : IsTrue (is_chain ram.count chain)
  pub pages : HavePages ram (chunk_pages chain)

-- The frames from a session frame on spell sessions, by the rules of a version.
pub record SpellRecords (v : Version) (ram : Ram) (header : ℕ) (records : List (Sheet SessionRecord)) : Type 0 where
  pub begins : first_of records ≡ header
  pub rules : IsTrue (are_records v ram.count records)
  pub pages : HavePages ram (record_pages records)

-- The entry frame's tree, chain, records and bound frames say what is kept, and every frame keeps the owners' rule.
pub record Keep (ram : Ram) (entry : ℕ) (k : Kept) : Type 0 where
  pub tree : Tree
  pub luo : Tree
  pub within : IsTrue (is_frame ram.count entry)
  pub begins : k.entry ≡ entry
  pub spelled : Spells (ram.page entry) tree
  pub root : root_of versions ram.count tree ≡ Some (record { version = k.version; shape = k.shape; chunk = first_of k.chain; luo = luo })
  pub child : luo_of k.version luo ≡ Some (record { number = k.number; header = first_of k.records; bounds = bound_frames k.bounds })
  pub chain : SpellChain ram (first_of k.chain) k.chain
  pub records : SpellRecords k.version ram (first_of k.records) k.records
  pub bounds : IsTrue (are_bounds ram.count (all_files k) devices k.bounds)
  pub bound_bytes : HavePages ram (bound_pages k.bounds)
  pub owners : IsTrue (all_owned_well ram.count k)

-- Frames and an entry carry what a kexec carried.
pub record Carries (ram : Ram) (entry : ℕ) (f : Frozen) : Type 0 where
  pub kept : Kept
  pub keep : Keep ram entry kept
  pub is : carried ram kept ≡ f
