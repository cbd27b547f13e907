use Rattle.std.proofs.Common.{◌≡◌, ◌+◌, ◌*◌, ◌^◌, length, max, ap, sym, subst, ◌∙◌}
use Rattle.ho_base.specs.declared.limits.TheConstants.{PAGE_BYTES}
use Rattle.ho_events.specs.Lists.{firsts}
use Rattle.ho_events.specs.File.{overwritten, filled}
use Rattle.file_folios.specs.Slots.{holes_in, runs_in, AreBlank}
use Rattle.file_folios.specs.Sized.{bytes_of, places_of}
use Rattle.file_folios.specs.FileAnswers.{AreFillsOf}
use Rattle.file_folios.proofs.FileStates.{touched_are, state_written}
use Rattle.file_folios.proofs.file.FileFolios.fill_and_write.Goals as goal

pub overwrite-requires-clause-blank : goal.overwrite-requires-clause-blank
overwrite-requires-clause-blank c =
    subst (λ p. AreBlank c.self.inside.home.value c.self.inside.order p c.args.fills.now.items) (sym c.piece_of-piece.ensures.value)
    (subst (λ v. AreFillsOf v.home v.state.order c.args.fills.now.items) (sym c.self.view_is) c.requires.fills)

pub overwrite-requires-clause-holes : goal.overwrite-requires-clause-holes
overwrite-requires-clause-holes c =
    c.requires.count
    ∙ ap length (touched_are c.args.self.now.state c.self.inside.order c.self.inside.slots.items c.args.off (length c.args.bytes.now) (ap (λ v. v.state.order) (sym c.self.view_is)) (ap (λ v. v.state.runs) (sym c.self.view_is)) c.requires.bytes)
    ∙ ap (λ p. length (holes_in c.self.inside.slots.items (places_of p c.args.off (length c.args.bytes.now)))) (sym c.piece_of-piece.ensures.value)

pub returns-clause-state : goal.returns-clause-state
returns-clause-state c =
    let bytes = subst (λ p. bytes_of p (max c.self.inside.size (c.args.off + length c.args.bytes.now)) c.overwrite.new.slots.items ≡ overwritten c.args.off c.args.bytes.now (bytes_of p c.self.inside.size c.self.inside.slots.items)) c.piece_of-piece.ensures.value c.overwrite.ensures.bytes in
    let runs = subst (λ p. runs_in c.overwrite.new.slots.items ≡ filled (holes_in c.self.inside.slots.items (places_of p c.args.off (length c.args.bytes.now))) (firsts c.overwrite.new.runs.items) (runs_in c.self.inside.slots.items)) c.piece_of-piece.ensures.value c.overwrite.ensures.runs in
    state_written c.args.self.now.state c.self.inside.kind c.self.inside.order c.self.inside.size c.max-self-inside.result c.self.inside.position c.self.inside.opened c.self.inside.pin c.self.inside.hold
    c.self.inside.slots.items c.overwrite.new.slots.items c.args.off c.args.bytes.now c.overwrite.new.runs.items (ap (λ v. v.state) c.self.view_is) c.requires.bytes
    (ap (λ n. bytes_of (PAGE_BYTES * 2 ^ c.self.inside.order.0) n c.overwrite.new.slots.items) c.max-self-inside.ensures ∙ bytes) runs
