use Rattle.std.proofs.Common.{◌≡◌, ◌++◌, length, ap, sym, ◌∙◌, arith}
use Rattle.std.proofs.lemmas.List.{map-append}
use Rattle.ho_events.specs.File.{runs_of}
use Rattle.ho_events.specs.Lists.{firsts}
use Rattle.phys_frames.specs.Memory.{first_frames}
use Rattle.file_folios.specs.Slots.{folios_in}
use Rattle.file_folios.proofs.Given.{runs_are, runs_count}
use Rattle.file_folios.proofs.file.FileFolios.add_runs.Goals as goal

pub add_runs-requires : goal.add_runs-requires
add_runs-requires c =
    let count : length (runs_of c.args.self.now.state) ≡ length (folios_in c.self.inside.slots.items) = runs_count c.args.self.now.state c.self.inside.slots.items (ap (λ v. v.state.runs) (sym c.self.view_is)) in
    let same : length (folios_in c.as_slice.result.now) ≡ length (folios_in c.self.inside.slots.items) = ap (λ s. length (folios_in s)) c.as_slice.ensures.value in
    omega (arith, count, same, c.requires)

pub returns : goal.returns
returns c =
    ap firsts c.add_runs.ensures
    ∙ map-append (λ r. r.0) c.args.runs.now.items (first_frames (folios_in c.as_slice.result.now))
    ∙ ap (λ s. firsts c.args.runs.now.items ++ firsts (first_frames (folios_in s))) c.as_slice.ensures.value
    ∙ ap (λ r. firsts c.args.runs.now.items ++ r) (sym (runs_are c.args.self.now.state c.self.inside.slots.items (ap (λ v. v.state.runs) (sym c.self.view_is))))
