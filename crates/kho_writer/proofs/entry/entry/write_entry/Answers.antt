use Rattle.std.proofs.Common.{◌≡◌, ◌≤◌, ℕ, List, ◌++◌, length, map, ap, subst, ◌∙◌, arith}
use Rattle.std.proofs.lemmas.List.{length-map}
use Rattle.ho_base.specs.declared.shape.Area.{Area}
use Rattle.record_frames.specs.Writing.{holding}
use Rattle.kho_writer.specs.Entry.{number_at, entry_bytes}
use Rattle.kho_writer.specs.Layout.{Puts, front_part, structure_part, strings_part}
use Rattle.kho_writer.proofs.Steps.{then_puts, puts_at, puts_all}
use Rattle.kho_writer.proofs.Laid.{entry_is}
use Rattle.kho_writer.proofs.entry.entry.write_entry.Goals as goal

abbrev structure : (c : goal.After-put_names) → List ℕ
structure c = structure_part c.args.shape.now.scratch c.args.chunk.0 c.args.number c.args.header.0 (map number_at c.args.bounds.now)

abbrev strings : (c : goal.After-put_names) → List ℕ
strings c = strings_part (map number_at c.args.bounds.now)

abbrev front : (c : goal.After-put_names) → List ℕ
front c = front_part c.structure_bytes.result c.strings_bytes.result

structure_put : (c : goal.After-put_names) → Puts c.put_front.new.folio 56 (structure c) c.put_structure-strings.new.folio c.put_structure-strings.result
structure_put c =
    subst
    (λ (areas : List Area). Puts c.put_front.new.folio 56 (structure_part areas c.args.chunk.0 c.args.number c.args.header.0 (map number_at c.args.bounds.now)) c.put_structure-strings.new.folio c.put_structure-strings.result)
    c.scratch-areas.ensures.same c.put_structure-strings.ensures.put

whole : (c : goal.After-put_names) → Puts c.clear.new.folio 0 (front c ++ (structure c ++ strings c)) c.put_names.new.folio c.put_names.result
whole c =
    let last = c.put_names.new.folio in
    let n = c.put_names.result in
    then_puts c.clear.new.folio c.put_front.new.folio last 0 c.put_front.result n (front c) (structure c ++ strings c) c.clear.ensures.size c.put_front.ensures.put
    (then_puts c.put_front.new.folio c.put_structure-strings.new.folio last c.put_front.result c.put_structure-strings.result n (structure c) (strings c) c.put_front.ensures.put.size
    (puts_at c.put_front.new.folio c.put_structure-strings.new.folio 56 c.put_front.result c.put_structure-strings.result (structure c) c.put_front.ensures.end (structure_put c))
    c.put_names.ensures.put)

spelled : (c : goal.After-put_names) → front c ++ (structure c ++ strings c) ≡ entry_bytes c.args.shape.now c.args.number c.args.chunk c.args.header c.args.bounds.now
spelled c =
    entry_is c.args.shape.now c.args.chunk.0 c.args.number c.args.header.0 (map number_at c.args.bounds.now) c.structure_bytes.result c.strings_bytes.result
    (length-map c.args.bounds.now number_at ∙ c.told-bounds)
    (omega (arith, c.structure_bytes.ensures.value, ap length c.scratch-areas.ensures.same, (structure_put c).end_is, c.put_structure-strings.ensures.end))
    (omega (arith, c.strings_bytes.ensures.value, c.put_names.ensures.put.end_is, c.put_names.ensures.end))

pub returns-clause-blob : goal.returns-clause-blob
returns-clause-blob c =
    puts_all c.args.folio.now c.clear.new.folio c.put_names.new.folio (front c ++ (structure c ++ strings c)) c.put_names.result c.clear.ensures.blank (whole c)
    ∙ ap (holding c.args.folio.now) (spelled c)

pub returns-clause-within : goal.returns-clause-within
returns-clause-within c =
    subst (λ (bytes : List ℕ). length bytes ≤ 457) (spelled c) (omega (arith, (whole c).end_is, c.put_names.ensures.within, c.put_structure-strings.ensures.within))
