use Rattle.fdt_blob.proofs.reader.Reader.open.Goals as goal

pub returns-in-None-clause-structure : goal.returns-in-None-clause-structure
returns-in-None-clause-structure c = λ e.
    let none = rw c.in-None.is at c.in_ok-items.ensures.found in
    let rules = c.in_default.ensures in
    (rules.0, rules.1, rw (c.strings_of.ensures, c.structure_of.ensures.bytes) at none)
