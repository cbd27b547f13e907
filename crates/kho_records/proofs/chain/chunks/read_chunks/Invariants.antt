use Rattle.std.proofs.Common.{◌≡◌, ◌-◌, ◌<◌, length}
use Rattle.std.specs.List.{All}
use Rattle.record_frames.specs.Sheeted.{ram_of}
use Rattle.kho_records.proofs.ChunkLoop.{Reads}
use Rattle.kho_records.proofs.chain.chunks.read_chunks.Given as goal

abbrev pub invariant-loop : goal.invariant-loop
invariant-loop l = record {
  reads : Reads (ram_of l.frames) l.first (l.end - l.counter) l.at l.last l.seen.numbers l.sheets.items;
  end : l.end ≡ length l.frames.pages;
  count : l.seen.count ≡ length l.frames.pages;
  within : All (λ s. s.at < length l.frames.pages) l.sheets.items;
}
