-- What the program keeps of chunk frames.
use Rattle.std.specs.Prelude.{List, map}
use Rattle.folio_bitmaps.specs.Chunks.{Element}
use Rattle.record_frames.specs.Sheets.{Sheet}
use Rattle.kho_records.specs.declared.chain.sheet.ElementRead.{ElementRead}
use Rattle.kho_records.specs.declared.chain.sheet.ChunkSheet.{ChunkSheet}

abbrev pub element_view : ElementRead → Element
element_view e = record { base = e.base; order = e.order; bits = e.bits.items }

abbrev pub elements_view : List ElementRead → List Element
elements_view elements = map element_view elements

abbrev pub chunk_view : ChunkSheet → Sheet Element
chunk_view s = record { at = s.at; items = map element_view s.items.items }

-- chunk frames in order, as contracts see them
abbrev pub chunk_views : List ChunkSheet → List (Sheet Element)
chunk_views sheets = map chunk_view sheets
