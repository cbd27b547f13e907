use Rattle.std.proofs.Common.{◌≡◌, ◌*◌, ◌^◌, ◌-◌, ◌≤◌, ◌++◌, max, vec_capacity, length, drop, take, ap, sym, subst, vec_len, ◌∙◌, arith}
use Rattle.ho_base.specs.declared.limits.TheConstants.{PAGE_BYTES}
use Rattle.phys_frames.specs.Memory.{first_frames}
use Rattle.ho_events.specs.Lists.{pieces, firsts}
use Rattle.ho_events.specs.File.{cut_runs, index_bytes, extended}
use Rattle.file_folios.specs.Slots.{folios_in, runs_in}
use Rattle.file_folios.specs.Sized.{bytes_of}
use Rattle.file_folios.specs.FileParts.{state_of, piece_bytes}
use Rattle.file_folios.specs.FileAnswers.{cut_folios, more_indexes}
use Rattle.file_folios.proofs.FileStates.{state_long, piece_some}
use Rattle.file_folios.proofs.Extended.{pieces_rise}
use Rattle.file_folios.proofs.Given.{cut_runs_are, cut_count, cut_folios_are, state_truncated}
use Rattle.file_folios.proofs.file.FileFolios.change_size.Goals as goal

pub resize-requires-clause-runs_room : goal.resize-requires-clause-runs_room
resize-requires-clause-runs_room c =
    let piece : pieces c.args.size (index_bytes c.args.self.now.state) ≡ pieces c.args.size c.piece_of-piece.result = ap (λ v. pieces c.args.size (PAGE_BYTES * 2 ^ v.state.order)) (sym c.self.view_is) ∙ ap (pieces c.args.size) (sym c.piece_of-piece.ensures.value) in
    let count : length (cut_runs c.args.self.now.state c.args.size) ≡ length (folios_in (drop (pieces c.args.size c.piece_of-piece.result) c.self.inside.slots.items)) = cut_count c.args.self.now.state c.self.inside.slots.items c.args.size (pieces c.args.size c.piece_of-piece.result) (ap (λ v. v.state.runs) (sym c.self.view_is)) piece in
    omega (arith, count, c.requires.runs_room, c.args.runs.ok, ap length c.requires.runs_empty)

pub resize-requires-clause-given_room : goal.resize-requires-clause-given_room
resize-requires-clause-given_room c =
    let piece : pieces c.args.size (index_bytes c.args.self.now.state) ≡ pieces c.args.size c.piece_of-piece.result = ap (λ v. pieces c.args.size (PAGE_BYTES * 2 ^ v.state.order)) (sym c.self.view_is) ∙ ap (pieces c.args.size) (sym c.piece_of-piece.ensures.value) in
    let count : length (cut_runs c.args.self.now.state c.args.size) ≡ length (folios_in (drop (pieces c.args.size c.piece_of-piece.result) c.self.inside.slots.items)) = cut_count c.args.self.now.state c.self.inside.slots.items c.args.size (pieces c.args.size c.piece_of-piece.result) (ap (λ v. v.state.runs) (sym c.self.view_is)) piece in
    omega (arith, count, c.requires.given_room)

pub returns-clause-runs : goal.returns-clause-runs
returns-clause-runs c =
    let piece : pieces c.args.size (index_bytes c.args.self.now.state) ≡ pieces c.args.size c.piece_of-piece.result = ap (λ v. pieces c.args.size (PAGE_BYTES * 2 ^ v.state.order)) (sym c.self.view_is) ∙ ap (pieces c.args.size) (sym c.piece_of-piece.ensures.value) in
    ap firsts (c.from_vec.ensures ∙ c.resize.ensures.runs ∙ ap (λ r. r ++ first_frames (folios_in (drop (pieces c.args.size c.piece_of-piece.result) c.self.inside.slots.items))) c.requires.runs_empty)
    ∙ sym (cut_runs_are c.args.self.now.state c.self.inside.slots.items c.args.size (pieces c.args.size c.piece_of-piece.result) (ap (λ v. v.state.runs) (sym c.self.view_is)) piece)

pub returns-clause-given : goal.returns-clause-given
returns-clause-given c =
    let piece : pieces c.args.size (index_bytes c.args.self.now.state) ≡ pieces c.args.size c.piece_of-piece.result = ap (λ v. pieces c.args.size (PAGE_BYTES * 2 ^ v.state.order)) (sym c.self.view_is) ∙ ap (pieces c.args.size) (sym c.piece_of-piece.ensures.value) in
    c.resize.ensures.given
    ∙ ap (λ fs. c.args.given.now.items ++ fs) (cut_folios_are c.self.inside.home.value c.self.inside.order c.self.inside.size c.self.inside.slots.items c.self.invariant c.args.self.now.state
    (ap (λ v. v.state.order) (sym c.self.view_is)) (ap (λ v. v.state.bytes) (sym c.self.view_is)) c.args.size (pieces c.args.size c.piece_of-piece.result) (ap (λ v. v.state.runs) (sym c.self.view_is)) piece)
    ∙ ap (λ h. c.args.given.now.items ++ cut_folios c.args.self.now.state h c.args.size) (ap (λ v. v.home) c.self.view_is)

pub returns-clause-state : goal.returns-clause-state
returns-clause-state c =
    let bytes = subst (λ p. bytes_of p c.args.size c.resize.new.slots.items ≡ take c.args.size (extended c.args.size (bytes_of p c.self.inside.size c.self.inside.slots.items))) c.piece_of-piece.ensures.value c.resize.ensures.bytes in
    let left = subst (λ p. runs_in c.resize.new.slots.items ≡ runs_in (take (pieces c.args.size p) c.self.inside.slots.items)) c.piece_of-piece.ensures.value c.resize.ensures.left in
    ap (λ n. state_of c.self.inside.kind c.self.inside.order c.args.size n c.self.inside.opened c.self.inside.pin c.self.inside.hold c.resize.new.slots.items) c.min-self-inside.ensures
    ∙ state_truncated c.args.self.now.state c.self.inside.kind c.self.inside.order c.self.inside.size c.args.size c.self.inside.position c.self.inside.opened c.self.inside.pin c.self.inside.hold
    c.self.inside.slots.items c.resize.new.slots.items (ap (λ v. v.state) c.self.view_is) bytes left

pub resize-requires-clause-room : goal.resize-requires-clause-room
resize-requires-clause-room c =
    let by_view = subst (λ v. more_indexes v.state c.args.size ≤ v.room) (sym c.self.view_is) c.requires.room in
    let long = state_long c.self.inside.home.value c.self.inside.order c.self.inside.size c.self.inside.slots.items c.self.invariant in
    let by_size : pieces (max c.self.inside.size c.args.size) (piece_bytes c.self.inside.order) - pieces c.self.inside.size (piece_bytes c.self.inside.order) ≤ vec_capacity c.self.inside.slots - vec_len c.self.inside.slots =
    subst (λ n. pieces (max n c.args.size) (piece_bytes c.self.inside.order) - pieces n (piece_bytes c.self.inside.order) ≤ vec_capacity c.self.inside.slots - vec_len c.self.inside.slots) long by_view in
    let rise : pieces c.args.size (piece_bytes c.self.inside.order) ≤ pieces (max c.self.inside.size c.args.size) (piece_bytes c.self.inside.order) = pieces_rise c.args.size (max c.self.inside.size c.args.size) (piece_bytes c.self.inside.order) (piece_some c.self.inside.order) (omega arith) in
    subst (λ p. pieces c.args.size p ≤ vec_capacity c.self.inside.slots) (sym c.piece_of-piece.ensures.value)
    (omega (arith, by_size, rise, c.self.invariant.holds.count, c.self.inside.slots.ok, c.self.inside.slots.small))
