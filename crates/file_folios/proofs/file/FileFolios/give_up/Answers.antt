use Rattle.std.proofs.Common.{◌≡◌, ◌++◌, length, ap, sym, ◌∙◌, arith}
use Rattle.phys_frames.specs.Memory.{first_frames}
use Rattle.ho_events.specs.Lists.{firsts}
use Rattle.ho_events.specs.File.{runs_of}
use Rattle.file_folios.specs.Slots.{folios_in}
use Rattle.file_folios.specs.FileAnswers.{folios_of}
use Rattle.file_folios.proofs.Given.{folios_are, runs_are, runs_count}
use Rattle.file_folios.proofs.file.FileFolios.give_up.Goals as goal

pub cut-requires-clause-runs_room : goal.cut-requires-clause-runs_room
cut-requires-clause-runs_room c =
    let count : length (runs_of c.args.self.state) ≡ length (folios_in c.self.inside.slots.items) = runs_count c.args.self.state c.self.inside.slots.items (ap (λ v. v.state.runs) (sym c.self.view_is)) in
    omega (arith, count, c.requires.runs_room, c.args.runs.ok, ap length c.requires.empty)

pub cut-requires-clause-given_room : goal.cut-requires-clause-given_room
cut-requires-clause-given_room c =
    let count : length (runs_of c.args.self.state) ≡ length (folios_in c.self.inside.slots.items) = runs_count c.args.self.state c.self.inside.slots.items (ap (λ v. v.state.runs) (sym c.self.view_is)) in
    omega (arith, count, c.requires.given_room)

pub returns-clause-runs : goal.returns-clause-runs
returns-clause-runs c =
    ap firsts (c.from_vec.ensures ∙ c.cut.ensures.runs ∙ ap (λ r. r ++ first_frames (folios_in c.self.inside.slots.items)) c.requires.empty)
    ∙ sym (runs_are c.args.self.state c.self.inside.slots.items (ap (λ v. v.state.runs) (sym c.self.view_is)))

pub returns-clause-given : goal.returns-clause-given
returns-clause-given c =
    c.cut.ensures.given
    ∙ ap (λ fs. c.args.given.now.items ++ fs) (folios_are c.self.inside.home.value c.self.inside.order c.self.inside.size c.self.inside.slots.items c.self.invariant c.args.self.state
    (ap (λ v. v.state.order) (sym c.self.view_is)) (ap (λ v. v.state.bytes) (sym c.self.view_is)) (ap (λ v. v.state.runs) (sym c.self.view_is)))
    ∙ ap (λ h. c.args.given.now.items ++ folios_of c.args.self.state h) (ap (λ v. v.home) c.self.view_is)
