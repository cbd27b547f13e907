use Rattle.std.proofs.Common.{◌≡◌, ◌≢◌, ◌-◌, ◌*◌, ◌<◌, length, map, replicate}
use Rattle.ho_base.specs.declared.numbers.Pfn.{Pfn}
use Rattle.ho_base.specs.BitmapCount.{bitmap_count}
use Rattle.folio_bitmaps.proofs.Walked.{IsRead}
use Rattle.folio_bitmaps.proofs.read.read_chain.Given as goal

abbrev pub invariant-loop-number : goal.invariant-loop-number
invariant-loop-number l = record {
  read : IsRead l.frames l.count l.first (map (λ (p : Pfn). p.0) l.chunks.items) l.number l.least (replicate (512 * bitmap_count l.count) 0) l.bytes.items;
  goes_on : 0 < length l.chunks.items → l.number ≢ 0;
  size : length l.bytes.items ≡ 512 * bitmap_count l.count;
}

abbrev pub decreases-loop-number : goal.decreases-loop-number
decreases-loop-number l = bitmap_count l.count - l.least
