use Rattle.std.proofs.Common.{ℕ, ◌+◌, ◌*◌, [], ◌∷◌, get_or, Option, None, ap}
use Rattle.kho_writer.specs.Entry.{number_at}
use Rattle.kho_writer.specs.Layout.{bounds_part}
use Rattle.kho_writer.proofs.Steps.{puts_none, puts_same}
use Rattle.kho_writer.proofs.FourBounds.{four, four_are, one_bound, at_base}
use Rattle.kho_writer.proofs.entry.bounds.put_bounds.Goals as goal

pub returns-clause-put : goal.returns-clause-put
returns-clause-put c =
    let xs = c.args.bounds.now in
    let base = c.args.base in
    let b : ℕ → Option ℕ = λ i. number_at (get_or xs i None) in
    let last = c.put_bound-fourth.new.folio in
    let end = base + 20 * c.put_bound-fourth.result in
    puts_same c.args.folio.now last base end (bounds_part 0 (four xs)) _
    (at_base c.args.folio.now last base end (bounds_part 0 (four xs))
    (one_bound c.args.folio.now c.put_bound-first.new.folio last base 0 c.put_bound-first.result end (b 0) (b 1 ∷ b 2 ∷ b 3 ∷ []) c.requires.size c.put_bound-first.ensures.count c.put_bound-first.ensures.put
    (one_bound c.put_bound-first.new.folio c.put_bound-second.new.folio last base c.put_bound-first.result c.put_bound-second.result end (b 1) (b 2 ∷ b 3 ∷ [])
    c.put_bound-first.ensures.put.size c.put_bound-second.ensures.count c.put_bound-second.ensures.put
    (one_bound c.put_bound-second.new.folio c.put_bound-third.new.folio last base c.put_bound-second.result c.put_bound-third.result end (b 2) (b 3 ∷ [])
    c.put_bound-second.ensures.put.size c.put_bound-third.ensures.count c.put_bound-third.ensures.put
    (one_bound c.put_bound-third.new.folio last last base c.put_bound-third.result c.put_bound-fourth.result end (b 3) []
    c.put_bound-third.ensures.put.size c.put_bound-fourth.ensures.count c.put_bound-fourth.ensures.put
    (puts_none last end c.put_bound-fourth.ensures.put.size c.put_bound-fourth.ensures.put.room))))))
    (ap (bounds_part 0) (four_are xs c.told-bounds))
