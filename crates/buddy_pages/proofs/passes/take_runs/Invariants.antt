use Rattle.std.proofs.Common.{◌+◌, ◌≤◌, vec_len, vec_capacity}
use Rattle.buddy_pages.proofs.Collect.{Collects}
use Rattle.buddy_pages.proofs.passes.take_runs.Given as goal

abbrev pub invariant-loop : goal.invariant-loop
invariant-loop l = record {
  collects : Collects l.fn.map l.map l.order l.counter l.at l.fn.out.items l.out.items;
  room : vec_len l.out + l.count ≤ vec_capacity l.out + l.counter;
  capacity : vec_capacity l.fn.out ≤ vec_capacity l.out;
}
