use Rattle.std.proofs.Common.{rules}
use Rattle.std.specs.Prelude.{not}
use Rattle.std.proofs.lemmas.List.Sorted.{answers_always}
use Rattle.fdt_blob.specs.Trees.{same_name}
use Rattle.fdt_blob.proofs.doubles.neighbours_differ.Goals as goal

pub returns : goal.returns
returns c = c.is_sorted_by.ensures.cases (λ x y. not (same_name x.now y.now)) (answers_always _ _ _ (λ f a r q k. search rules))
