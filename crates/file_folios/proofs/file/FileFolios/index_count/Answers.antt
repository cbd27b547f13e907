use Rattle.std.proofs.Common.{◌≡◌, ◌*◌, ◌^◌, length, ap, sym, ◌∙◌, arith}
use Rattle.ho_base.specs.declared.limits.TheConstants.{PAGE_BYTES}
use Rattle.ho_events.specs.Lists.{pieces}
use Rattle.file_folios.proofs.FileStates.{state_long}
use Rattle.file_folios.proofs.Given.{runs_few, cut_few}
use Rattle.file_folios.proofs.file.FileFolios.index_count.Goals as goal

pub returns-clause-value : goal.returns-clause-value
returns-clause-value c =
    let long : c.len.result ≡ length c.self.inside.slots.items = omega (arith, c.self.inside.slots.ok, c.len.ensures) in
    long ∙ c.self.invariant.holds.count
    ∙ ap (λ n. pieces n (PAGE_BYTES * 2 ^ c.self.inside.order.0)) (sym (state_long c.self.inside.home.value c.self.inside.order c.self.inside.size c.self.inside.slots.items c.self.invariant))
    ∙ ap (λ v. pieces (length v.state.bytes) (PAGE_BYTES * 2 ^ v.state.order)) c.self.view_is

pub returns-clause-runs : goal.returns-clause-runs
returns-clause-runs c =
    let long : length c.self.inside.slots.items ≡ c.len.result = omega (arith, c.self.inside.slots.ok, c.len.ensures) in
    runs_few c.args.self.now.state c.self.inside.slots.items c.len.result (ap (λ v. v.state.runs) (sym c.self.view_is)) long

pub returns-clause-cut : goal.returns-clause-cut
returns-clause-cut c size =
    let long : length c.self.inside.slots.items ≡ c.len.result = omega (arith, c.self.inside.slots.ok, c.len.ensures) in
    cut_few c.args.self.now.state c.self.inside.slots.items size c.len.result (ap (λ v. v.state.runs) (sym c.self.view_is)) long
