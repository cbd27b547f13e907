use Rattle.std.proofs.Common.{◌≡◌, ◌<◌, ◌+◌, ◌*◌, ◌^◌, length, replicate, max, vec_len, ap, sym, subst, ◌∙◌, arith}
use Rattle.std.proofs.lemmas.List.{length-map, length-replicate}
use Rattle.ho_base.specs.declared.limits.TheConstants.{PAGE_BYTES}
use Rattle.ho_events.specs.Lists.{firsts}
use Rattle.ho_events.specs.File.{overwritten, filled}
use Rattle.file_folios.specs.Slots.{holes_in, runs_in, AreBlank}
use Rattle.file_folios.specs.Sized.{bytes_of, places_of}
use Rattle.file_folios.specs.FileAnswers.{AreFillsOf}
use Rattle.file_folios.proofs.FileStates.{touched_are, state_written}
use Rattle.file_folios.proofs.file.FileFolios.fill_and_set.Goals as goal

pub overwrite_same-requires-clause-blank : goal.overwrite_same-requires-clause-blank
overwrite_same-requires-clause-blank c =
    subst (λ p. AreBlank c.self.inside.home.value c.self.inside.order p c.args.fills.now.items) (sym c.piece_of-piece.ensures.value)
    (subst (λ v. AreFillsOf v.home v.state.order c.args.fills.now.items) (sym c.self.view_is) c.requires.fills)

pub overwrite_same-requires-clause-holes : goal.overwrite_same-requires-clause-holes
overwrite_same-requires-clause-holes c =
    c.requires.count
    ∙ ap length (touched_are c.args.self.now.state c.self.inside.order c.self.inside.slots.items c.args.off c.args.len (ap (λ v. v.state.order) (sym c.self.view_is)) (ap (λ v. v.state.runs) (sym c.self.view_is)) c.requires.some)
    ∙ ap (λ p. length (holes_in c.self.inside.slots.items (places_of p c.args.off c.args.len))) (sym c.piece_of-piece.ensures.value)

pub returns-clause-state : goal.returns-clause-state
returns-clause-state c =
    let same : length (replicate c.args.len c.args.byte) ≡ c.args.len = length-replicate c.args.len c.args.byte in
    let some : 0 < length (replicate c.args.len c.args.byte) = omega (arith, same, c.requires.some) in
    let bytes = subst (λ p. bytes_of p (max c.self.inside.size (c.args.off + c.args.len)) c.overwrite_same.new.slots.items ≡ overwritten c.args.off (replicate c.args.len c.args.byte) (bytes_of p c.self.inside.size c.self.inside.slots.items)) c.piece_of-piece.ensures.value c.overwrite_same.ensures.bytes in
    let runs = subst (λ p. runs_in c.overwrite_same.new.slots.items ≡ filled (holes_in c.self.inside.slots.items (places_of p c.args.off c.args.len)) (firsts c.overwrite_same.new.runs.items) (runs_in c.self.inside.slots.items)) c.piece_of-piece.ensures.value c.overwrite_same.ensures.runs in
    let filling = subst (λ n. runs_in c.overwrite_same.new.slots.items ≡ filled (holes_in c.self.inside.slots.items (places_of (PAGE_BYTES * 2 ^ c.self.inside.order.0) c.args.off n)) (firsts c.overwrite_same.new.runs.items) (runs_in c.self.inside.slots.items)) (sym same) runs in
    state_written c.args.self.now.state c.self.inside.kind c.self.inside.order c.self.inside.size c.max-self-inside.result c.self.inside.position c.self.inside.opened c.self.inside.pin c.self.inside.hold
    c.self.inside.slots.items c.overwrite_same.new.slots.items c.args.off (replicate c.args.len c.args.byte) c.overwrite_same.new.runs.items (ap (λ v. v.state) c.self.view_is) some
    (ap (λ n. bytes_of (PAGE_BYTES * 2 ^ c.self.inside.order.0) n c.overwrite_same.new.slots.items) c.max-self-inside.ensures ∙ bytes) filling

pub returns-clause-used_count : goal.returns-clause-used_count
returns-clause-used_count c =
    let long : length c.args.fills.now.items ≡ vec_len c.args.fills.now = omega (arith, c.args.fills.now.ok) in
    ap length c.overwrite_same.ensures.used ∙ length-map c.args.fills.now.items (λ f. f.first) ∙ long ∙ c.requires.count
