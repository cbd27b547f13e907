use Rattle.std.proofs.Common.{◌≡◌, ◌-◌, ◌*◌, ◌≤◌, length}
use Rattle.record_frames.specs.Sheeted.{ram_of}
use Rattle.record_frames.proofs.ListLoop.{Reads}
use Rattle.record_frames.proofs.lists.list_chain.Given as goal

abbrev pub invariant-loop : goal.invariant-loop
invariant-loop l = record {
  reads : Reads (ram_of l.frames) l.order l.folios l.fn.seen.numbers l.first (l.end - l.counter) l.before l.at l.seen.numbers l.sheets.items;
  end : l.end ≡ length l.frames.pages;
  small : l.end ≤ 16384;
  count : l.seen.count ≡ l.fn.seen.count;
  few : l.before ≤ 510 * l.counter;
}
