use Rattle.std.proofs.Common.{◌≡◌, ◌-◌, ◌≤◌, ◌++◌, length, vec_len, ap, sym, ◌∙◌, arith}
use Rattle.std.proofs.lemmas.List.{append-nil, take_all}
use Rattle.phys_frames.specs.Memory.{first_frames}
use Rattle.ho_events.specs.Lists.{pieces}
use Rattle.file_folios.specs.Slots.{runs_in}
use Rattle.file_folios.proofs.Cutting.{past_folios}
use Rattle.file_folios.proofs.Extended.{pieces_rise}
use Rattle.file_folios.proofs.Sizes.{more_bytes, more_holds, less_bytes, less_holds, longer_runs}
use Rattle.file_folios.proofs.sized.resize.Goals as goal

pub returns-then-to-size-clause-holds : goal.returns-then-to-size-clause-holds
returns-then-to-size-clause-holds c =
    let was : length c.args.slots.now.items ≡ vec_len c.args.slots.now = omega (arith, c.args.slots.now.ok) in
    more_holds c.args.home.now.value c.args.order c.args.piece c.requires.some c.args.size c.args.slots.now.items c.requires.holds c.args.to c.pieces_of-count.result (c.pieces_of-count.result - vec_len c.args.slots.now)
    (omega arith) c.pieces_of-count.ensures (ap (λ n. c.pieces_of-count.result - n) (sym was)) c.grow.new.slots.items c.grow.ensures.items

pub returns-then-to-size-clause-bytes : goal.returns-then-to-size-clause-bytes
returns-then-to-size-clause-bytes c =
    let was : length c.args.slots.now.items ≡ vec_len c.args.slots.now = omega (arith, c.args.slots.now.ok) in
    more_bytes c.args.home.now.value c.args.order c.args.piece c.requires.some c.args.size c.args.slots.now.items c.requires.holds c.args.to c.pieces_of-count.result (c.pieces_of-count.result - vec_len c.args.slots.now)
    (omega arith) c.pieces_of-count.ensures (ap (λ n. c.pieces_of-count.result - n) (sym was)) c.grow.new.slots.items c.grow.ensures.items

pub returns-then-to-size-clause-left : goal.returns-then-to-size-clause-left
returns-then-to-size-clause-left c =
    let all : length c.args.slots.now.items ≤ pieces c.args.to c.args.piece = omega (arith, c.requires.holds.count, pieces_rise c.args.size c.args.to c.args.piece c.requires.some (omega arith)) in
    ap runs_in c.grow.ensures.items ∙ longer_runs c.args.slots.now.items (c.pieces_of-count.result - vec_len c.args.slots.now)
    ∙ ap runs_in (sym (take_all (pieces c.args.to c.args.piece) c.args.slots.now.items all))

pub returns-then-to-size-clause-runs : goal.returns-then-to-size-clause-runs
returns-then-to-size-clause-runs c =
    let all : length c.args.slots.now.items ≤ pieces c.args.to c.args.piece = omega (arith, c.requires.holds.count, pieces_rise c.args.size c.args.to c.args.piece c.requires.some (omega arith)) in
    sym (append-nil c.args.runs.now.items) ∙ ap (λ fs. c.args.runs.now.items ++ first_frames fs) (sym (past_folios c.args.slots.now.items (pieces c.args.to c.args.piece) all))

pub returns-then-to-size-clause-given : goal.returns-then-to-size-clause-given
returns-then-to-size-clause-given c =
    let all : length c.args.slots.now.items ≤ pieces c.args.to c.args.piece = omega (arith, c.requires.holds.count, pieces_rise c.args.size c.args.to c.args.piece c.requires.some (omega arith)) in
    sym (append-nil c.args.given.now.items) ∙ ap (λ fs. c.args.given.now.items ++ fs) (sym (past_folios c.args.slots.now.items (pieces c.args.to c.args.piece) all))

pub returns-else-to-size-clause-holds : goal.returns-else-to-size-clause-holds
returns-else-to-size-clause-holds c =
    let long : length c.clear_past.new.slots.items ≡ length c.cut.new.slots.items = omega (arith, c.clear_past.new.slots.ok, c.cut.new.slots.ok, c.clear_past.ensures.count) in
    less_holds c.args.home.now.value c.args.order c.args.piece c.requires.some c.args.size c.args.slots.now.items c.requires.holds c.args.to c.pieces_of-count.result
    (omega arith) c.pieces_of-count.ensures c.cut.new.slots.items c.clear_past.new.slots.items c.cut.ensures.slots long c.clear_past.ensures.slots c.clear_past.ensures.bytes

pub returns-else-to-size-clause-bytes : goal.returns-else-to-size-clause-bytes
returns-else-to-size-clause-bytes c =
    let long : length c.clear_past.new.slots.items ≡ length c.cut.new.slots.items = omega (arith, c.clear_past.new.slots.ok, c.cut.new.slots.ok, c.clear_past.ensures.count) in
    less_bytes c.args.home.now.value c.args.order c.args.piece c.requires.some c.args.size c.args.slots.now.items c.requires.holds c.args.to c.pieces_of-count.result
    (omega arith) c.pieces_of-count.ensures c.cut.new.slots.items c.clear_past.new.slots.items c.cut.ensures.slots long c.clear_past.ensures.slots c.clear_past.ensures.bytes
