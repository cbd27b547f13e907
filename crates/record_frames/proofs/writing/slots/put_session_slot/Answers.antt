use Rattle.std.proofs.Common.{◌≡◌, ◌≤◌, ℕ, List, length, refl, ap, ◌∙◌, arith}
use Rattle.std.proofs.lemmas.Bool.Decides.{nat_tests}
use Rattle.std.specs.Prelude.{IsTrue}
use Rattle.phys_frames.specs.Memory.{with_bytes, written}
use Rattle.ho_base.specs.NameRule.{is_name}
use Rattle.record_frames.specs.Sheets.{session_slot_bytes}
use Rattle.record_frames.specs.Writing.{session_slot_of}
use Rattle.record_frames.proofs.WrittenBytes.{slot_long, folio_size, session_text, session_pairs, session_slot_written}
use Rattle.record_frames.proofs.writing.slots.put_session_slot.Goals as goal

short : (name text : List ℕ) → IsTrue (is_name name) → text ≡ name → length text ≤ 63
short name text h e = let few : length name ≤ 63 = grind (arith, nat_tests) in omega (arith, few, ap length e)

pub put_zeros-requires-clause-size : goal.put_zeros-requires-clause-size
put_zeros-requires-clause-size c =
    let few = short c.args.session.now.name c.as_bytes-name.result.now c.as_bytes-name.ensures.valid c.as_bytes-name.ensures.bytes in
    folio_size c.args.folio.now c.write.new.self c.as_bytes-name.result.now c.args.at c.requires.size (omega (arith, c.requires.room, few)) c.write.ensures

pub put_numbers-requires-clause-size : goal.put_numbers-requires-clause-size
put_numbers-requires-clause-size c =
    let name = c.as_bytes-name.result.now in
    session_text c.args.folio.now c.write.new.self c.put_zeros.new.folio name c.args.at (length name) c.requires.size c.requires.room
    (short c.args.session.now.name name c.as_bytes-name.ensures.valid c.as_bytes-name.ensures.bytes) refl c.write.ensures c.put_zeros.ensures

pub put_zeros-requires-2-clause-size : goal.put_zeros-requires-2-clause-size
put_zeros-requires-2-clause-size c =
    let name = c.as_bytes-name.result.now in
    session_pairs c.args.folio.now c.write.new.self c.put_zeros.new.folio name c.args.at (length name) c.requires.size c.requires.room
    (short c.args.session.now.name name c.as_bytes-name.ensures.valid c.as_bytes-name.ensures.bytes) refl c.write.ensures c.put_zeros.ensures c.put_numbers.new.folio c.len.result c.args.first c.put_numbers.ensures

pub returns-clause-slot : goal.returns-clause-slot
returns-clause-slot c =
    let name = c.as_bytes-name.result.now in
    session_slot_written c.args.folio.now c.write.new.self c.put_zeros.new.folio name c.args.at (length name) c.requires.size c.requires.room
    (short c.args.session.now.name name c.as_bytes-name.ensures.valid c.as_bytes-name.ensures.bytes) refl c.write.ensures c.put_zeros.ensures c.put_numbers.new.folio c.len.result c.args.first c.put_numbers.ensures
    c.put_zeros-2.new.folio c.put_zeros-2.ensures
    ∙ (λ i. with_bytes c.args.folio.now (written c.args.folio.now.bytes c.args.at
    (session_slot_bytes (record { name = c.as_bytes-name.ensures.bytes i; files = c.len.ensures i; first = c.args.first }))))

pub returns-clause-len : goal.returns-clause-len
returns-clause-len c =
    slot_long (session_slot_of c.args.session.now c.args.first) (short c.args.session.now.name c.args.session.now.name c.as_bytes-name.ensures.valid refl)
