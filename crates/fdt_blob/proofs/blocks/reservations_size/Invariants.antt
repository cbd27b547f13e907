-- The pairs that are left end where all of them end.
use Rattle.std.proofs.Common.{◌≡◌, ◌+◌, ◌-◌, ◌*◌, length}
use Rattle.std.specs.Option.{option_map}
use Rattle.fdt_blob.specs.Blob.{reservations_size}
use Rattle.fdt_blob.proofs.blocks.reservations_size.Given as goal

abbrev pub invariant-loop-done : goal.invariant-loop-done
invariant-loop-done l = (reservations_size l.count l.bytes ≡ option_map (λ size. size + 16 * l.done) (reservations_size (l.count - l.done) l.rest)) × (length l.rest + 16 * l.done ≡ length l.bytes)
