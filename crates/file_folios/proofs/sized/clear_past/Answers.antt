use Rattle.std.proofs.Common.{◌≡◌, ◌*◌, ◌<◌, ◌≤◌, length, vec_len, sym, ◌∙◌, arith}
use Rattle.file_folios.proofs.Clearing.{cleared, cleared_none, clear_fits}
use Rattle.file_folios.proofs.sized.clear_past.Goals as goal

pub zero_from-requires-clause-fits : goal.zero_from-requires-clause-fits
zero_from-requires-clause-fits c =
    let long : length c.args.slots.now.items ≡ vec_len c.args.slots.now = omega (arith, c.args.slots.now.ok) in
    let more : c.args.to < length c.args.slots.now.items * c.args.piece = rw (long ∙ sym c.len.ensures) c.if-to-len.true in
    clear_fits c.args.home.now.value c.args.order c.args.piece c.requires.some c.args.slots.now.items c.requires.slots c.args.to (long ∙ c.requires.count) more

pub returns-then-to-len-clause-bytes : goal.returns-then-to-len-clause-bytes
returns-then-to-len-clause-bytes c =
    let long : length c.args.slots.now.items ≡ vec_len c.args.slots.now = omega (arith, c.args.slots.now.ok) in
    let more : c.args.to < length c.args.slots.now.items * c.args.piece = rw (long ∙ sym c.len.ensures) c.if-to-len.true in
    (cleared c.args.home.now.value c.args.order c.args.piece c.requires.some c.args.slots.now.items c.requires.slots c.args.to (long ∙ c.requires.count) more c.zero_from.new.slots.items c.zero_from.ensures.value).0

pub returns-then-to-len-clause-slots : goal.returns-then-to-len-clause-slots
returns-then-to-len-clause-slots c =
    let long : length c.args.slots.now.items ≡ vec_len c.args.slots.now = omega (arith, c.args.slots.now.ok) in
    let more : c.args.to < length c.args.slots.now.items * c.args.piece = rw (long ∙ sym c.len.ensures) c.if-to-len.true in
    (cleared c.args.home.now.value c.args.order c.args.piece c.requires.some c.args.slots.now.items c.requires.slots c.args.to (long ∙ c.requires.count) more c.zero_from.new.slots.items c.zero_from.ensures.value).1

pub returns-then-to-len-clause-runs : goal.returns-then-to-len-clause-runs
returns-then-to-len-clause-runs c =
    let long : length c.args.slots.now.items ≡ vec_len c.args.slots.now = omega (arith, c.args.slots.now.ok) in
    let more : c.args.to < length c.args.slots.now.items * c.args.piece = rw (long ∙ sym c.len.ensures) c.if-to-len.true in
    (cleared c.args.home.now.value c.args.order c.args.piece c.requires.some c.args.slots.now.items c.requires.slots c.args.to (long ∙ c.requires.count) more c.zero_from.new.slots.items c.zero_from.ensures.value).2

pub returns-else-to-len-clause-bytes : goal.returns-else-to-len-clause-bytes
returns-else-to-len-clause-bytes c =
    let long : length c.args.slots.now.items ≡ vec_len c.args.slots.now = omega (arith, c.args.slots.now.ok) in
    let all : length c.args.slots.now.items * c.args.piece ≤ c.args.to = rw (long ∙ sym c.len.ensures) (omega (arith, c.if-to-len.false)) in
    cleared_none c.args.home.now.value c.args.order c.args.piece c.requires.some c.args.slots.now.items c.requires.slots c.args.to (long ∙ c.requires.count) all
