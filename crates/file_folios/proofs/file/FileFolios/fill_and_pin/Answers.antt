use Rattle.std.proofs.Common.{true, ◌≡◌, ◌*◌, ◌^◌, length, ap, sym, subst, refl, vec_len, ◌∙◌, arith}
use Rattle.std.proofs.lemmas.List.{length-map}
use Rattle.ho_base.specs.declared.limits.TheConstants.{PAGE_BYTES}
use Rattle.ho_events.specs.Lists.{pieces, firsts}
use Rattle.ho_events.specs.File.{filled, index_bytes}
use Rattle.file_folios.specs.Slots.{places, holes_in, runs_in, all_bytes, AreBlank}
use Rattle.file_folios.specs.FileParts.{state_of}
use Rattle.file_folios.specs.FileAnswers.{AreFillsOf}
use Rattle.file_folios.proofs.FileStates.{holes_all, state_pinned, state_long}
use Rattle.file_folios.proofs.Given.{runs_few}
use Rattle.file_folios.proofs.file.FileFolios.fill_and_pin.Goals as goal

pub fill_holes-requires-clause-blank : goal.fill_holes-requires-clause-blank
fill_holes-requires-clause-blank c =
    subst (λ p. AreBlank c.self.inside.home.value c.self.inside.order p c.args.fills.now.items) (sym c.piece_of-piece.ensures.value)
    (subst (λ v. AreFillsOf v.home v.state.order c.args.fills.now.items) (sym c.self.view_is) c.requires.fills)

pub fill_holes-requires-clause-holes : goal.fill_holes-requires-clause-holes
fill_holes-requires-clause-holes c =
    let long : length c.self.inside.slots.items ≡ c.len-count.result = omega (arith, c.self.inside.slots.ok, c.len-count.ensures) in
    c.requires.count
    ∙ ap length (holes_all c.args.self.now.state c.self.inside.home.value c.self.inside.order c.self.inside.size c.self.inside.slots.items c.self.invariant
    (ap (λ v. v.state.order) (sym c.self.view_is)) (ap (λ v. v.state.bytes) (sym c.self.view_is)) (ap (λ v. v.state.runs) (sym c.self.view_is)))
    ∙ ap (λ n. length (holes_in c.self.inside.slots.items (places 0 n))) long

pub returns-clause-state : goal.returns-clause-state
returns-clause-state c =
    let long : length c.self.inside.slots.items ≡ c.len-count.result = omega (arith, c.self.inside.slots.ok, c.len-count.ensures) in
    state_pinned c.args.self.now.state c.self.inside.home.value c.self.inside.kind c.self.inside.order c.self.inside.size c.self.inside.position c.self.inside.opened c.self.inside.pin c.self.inside.hold
    c.self.inside.slots.items c.fill_holes.new.slots.items c.fill_holes.new.runs.items c.self.invariant (ap (λ v. v.state) c.self.view_is)
    (subst (λ p. all_bytes p c.fill_holes.new.slots.items ≡ all_bytes p c.self.inside.slots.items) c.piece_of-piece.ensures.value c.fill_holes.ensures.bytes)
    (subst (λ n. runs_in c.fill_holes.new.slots.items ≡ filled (holes_in c.self.inside.slots.items (places 0 n)) (firsts c.fill_holes.new.runs.items) (runs_in c.self.inside.slots.items)) (sym long) c.fill_holes.ensures.runs)

pub returns-clause-used_count : goal.returns-clause-used_count
returns-clause-used_count c =
    let long : length c.args.fills.now.items ≡ vec_len c.args.fills.now = omega (arith, c.args.fills.now.ok) in
    ap length c.fill_holes.ensures.used ∙ length-map c.args.fills.now.items (λ f. f.first) ∙ long ∙ c.requires.count

pub returns-clause-few : goal.returns-clause-few
returns-clause-few c =
    let now : length c.fill_holes.new.slots.items ≡ length c.self.inside.slots.items = omega (arith, c.fill_holes.new.slots.ok, c.self.inside.slots.ok, c.fill_holes.ensures.count) in
    runs_few (state_of c.self.inside.kind c.self.inside.order c.self.inside.size c.self.inside.position c.self.inside.opened true c.self.inside.hold c.fill_holes.new.slots.items) c.fill_holes.new.slots.items (pieces (length c.args.self.now.state.bytes) (index_bytes c.args.self.now.state)) refl
    (now ∙ c.self.invariant.holds.count
    ∙ ap (λ n. pieces n (PAGE_BYTES * 2 ^ c.self.inside.order.0)) (sym (state_long c.self.inside.home.value c.self.inside.order c.self.inside.size c.self.inside.slots.items c.self.invariant))
    ∙ ap (λ v. pieces (length v.state.bytes) (PAGE_BYTES * 2 ^ v.state.order)) c.self.view_is)
