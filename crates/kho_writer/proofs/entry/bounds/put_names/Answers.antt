use Rattle.std.proofs.Common.{ℕ, ◌+◌, ◌*◌, [], ◌∷◌, ◌++◌, get_or, Option, None, ap}
use Rattle.std.specs.Prelude.{codes}
use Rattle.fdt_blob.specs.Spelling.{strings_of}
use Rattle.record_frames.specs.Handover.{BOUND_NAMES}
use Rattle.kho_writer.specs.Entry.{number_at}
use Rattle.kho_writer.specs.Layout.{FIXED_NAMES, if_given, names_part, strings_part}
use Rattle.kho_writer.proofs.Steps.{then_puts, puts_none, puts_same}
use Rattle.kho_writer.proofs.FourBounds.{four, four_are, at_base}
use Rattle.kho_writer.proofs.entry.bounds.put_names.Goals as goal

pub returns-clause-put : goal.returns-clause-put
returns-clause-put c =
    let xs = c.args.bounds.now in
    let base = c.put-base.result in
    let b : ℕ → Option ℕ = λ i. number_at (get_or xs i None) in
    let n0 = if_given (codes "bound-dev0" ++ 0 ∷ []) (b 0) in
    let n1 = if_given (codes "bound-dev1" ++ 0 ∷ []) (b 1) in
    let n2 = if_given (codes "bound-dev2" ++ 0 ∷ []) (b 2) in
    let n3 = if_given (codes "bound-dev3" ++ 0 ∷ []) (b 3) in
    let last = c.put_name-fourth.new.folio in
    let end = base + 11 * c.put_name-fourth.result in
    let k1 = base + 11 * c.put_name-first.result in
    let k2 = base + 11 * c.put_name-second.result in
    let k3 = base + 11 * c.put_name-third.result in
    puts_same c.args.folio.now last c.args.at end (strings_part (four xs)) _
    (then_puts c.args.folio.now c.put-base.new.folio last c.args.at base end (strings_of FIXED_NAMES) (names_part BOUND_NAMES (four xs)) c.requires.size c.put-base.ensures.put
    (then_puts c.put-base.new.folio c.put_name-first.new.folio last base k1 end n0 (n1 ++ (n2 ++ (n3 ++ []))) c.put-base.ensures.put.size
    (at_base c.put-base.new.folio c.put_name-first.new.folio base k1 n0 c.put_name-first.ensures.put)
    (then_puts c.put_name-first.new.folio c.put_name-second.new.folio last k1 k2 end n1 (n2 ++ (n3 ++ [])) c.put_name-first.ensures.put.size c.put_name-second.ensures.put
    (then_puts c.put_name-second.new.folio c.put_name-third.new.folio last k2 k3 end n2 (n3 ++ []) c.put_name-second.ensures.put.size c.put_name-third.ensures.put
    (then_puts c.put_name-third.new.folio last last k3 end end n3 [] c.put_name-third.ensures.put.size c.put_name-fourth.ensures.put
    (puts_none last end c.put_name-fourth.ensures.put.size c.put_name-fourth.ensures.put.room))))))
    (ap strings_part (four_are xs c.told-bounds))
