use Rattle.std.proofs.Common.{◌≡◌, length, ap, sym, ◌∙◌, arith}
use Rattle.file_folios.specs.Slots.{places, holes_in}
use Rattle.file_folios.proofs.FileStates.{holes_all, state_long}
use Rattle.file_folios.proofs.file.FileFolios.all_holes.Goals as goal

pub returns-clause-value : goal.returns-clause-value
returns-clause-value c =
    let long : length c.self.inside.slots.items ≡ c.len.result = omega (arith, c.self.inside.slots.ok, c.len.ensures) in
    c.count_holes.ensures
    ∙ ap (λ s. length (holes_in s (places 0 c.len.result))) c.as_slice.ensures.value
    ∙ ap (λ n. length (holes_in c.self.inside.slots.items (places 0 n))) (sym long)
    ∙ sym (ap length (holes_all c.args.self.now.state c.self.inside.home.value c.self.inside.order c.self.inside.size c.self.inside.slots.items c.self.invariant
    (ap (λ v. v.state.order) (sym c.self.view_is)) (ap (λ v. v.state.bytes) (sym c.self.view_is)) (ap (λ v. v.state.runs) (sym c.self.view_is))))

pub returns-clause-size : goal.returns-clause-size
returns-clause-size c =
    let long : c.self.inside.size ≡ length c.args.self.now.state.bytes = sym (state_long c.self.inside.home.value c.self.inside.order c.self.inside.size c.self.inside.slots.items c.self.invariant) ∙ ap (λ v. length v.state.bytes) c.self.view_is in
    omega (arith, long, c.self.invariant.within)
