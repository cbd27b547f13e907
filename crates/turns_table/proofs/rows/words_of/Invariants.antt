use Rattle.std.proofs.Common.{◌≡◌, ◌*◌, ◌%◌, ◌^◌, ◌≤◌, length, map, take}
use Rattle.std.specs.Vec.{vec_capacity}
use Rattle.turns_table.proofs.rows.words_of.Given as goal

abbrev pub invariant-loop-object : goal.invariant-loop-object
invariant-loop-object g l = (l.words.items ≡ map (λ x. (2 * length (g.T.Recorded.history x)) % 2 ^ 64) (take l.object-index l.objects)) × (length l.words.items ≡ l.object-index) × (length l.objects ≤ vec_capacity l.words)
