-- The steps of a file.
use Rattle.std.proofs.Common.{◌≡◌, ℕ, ◌≤◌, ◌&&◌, ◌==◌, not, true, false, List, length, refl, ap, sym, ◌∙◌, arith}
use Rattle.std.specs.Prelude.{Some}
use Rattle.std.proofs.lemmas.Bool.Decides.{nat_tests}
use Rattle.ho_base.specs.declared.numbers.Pfn.{Pfn}
use Rattle.ho_base.specs.declared.limits.TheConstants.{FILE_BYTES}
use Rattle.ho_events.specs.Lists.{only, same_bytes, firsts}
use Rattle.ho_events.specs.File.{FileState, file_step, is_frozen, is_too_big, cut_runs, holes, indexes, runs_of}
use Rattle.ho_events.specs.declared.event.Event.TheVariants.{FilePin, FileTruncate}
use Rattle.ho_events.specs.declared.reply.Reply.TheVariants.{OkRuns}
use Rattle.file_folios.specs.FileAnswers.{pinned_state, truncated_state}
use Rattle.file_folios.proofs.Ranges.{same_self}

pub pin_done : (s g : FileState) (used runs : List Pfn) → s.hold ≡ false → s.pin ≡ false → length used ≡ length (holes s (indexes s)) → g ≡ pinned_state s used → firsts runs ≡ runs_of g →
    file_step (Some s) (FilePin used) (OkRuns runs) ≡ Some (Some g)
pin_done s g used runs hold pin count is all =
    let counted : (length used == length (holes s (indexes s))) ≡ true = grind (arith, nat_tests) in
    let same : same_bytes (firsts runs) (runs_of (pinned_state s used)) ≡ true = ap (λ r. same_bytes r (runs_of (pinned_state s used))) (all ∙ ap (λ t. runs_of t) is) ∙ same_self (runs_of (pinned_state s used)) in
    let all_hold : (not s.hold && not s.pin && (length used == length (holes s (indexes s))) && same_bytes (firsts runs) (runs_of (pinned_state s used))) ≡ true = rw (hold, pin, counted, same) refl in
    ap (λ b. only b (Some (pinned_state s used))) all_hold ∙ ap (λ t. Some (Some t)) (sym is)

-- a new size
pub truncate_done : (s g : FileState) (size : ℕ) (runs : List Pfn) → size ≤ FILE_BYTES → (is_frozen s && not (size == length s.bytes)) ≡ false → firsts runs ≡ cut_runs s size → g ≡ truncated_state s size →
    file_step (Some s) (FileTruncate size) (OkRuns runs) ≡ Some (Some g)
truncate_done s g size runs within changes cut is =
    let small : is_too_big size ≡ false = grind (arith, nat_tests) in
    let same : same_bytes (firsts runs) (cut_runs s size) ≡ true = ap (λ r. same_bytes r (cut_runs s size)) cut ∙ same_self (cut_runs s size) in
    let all_hold : (not (is_too_big size) && not (is_frozen s && not (size == length s.bytes)) && same_bytes (firsts runs) (cut_runs s size)) ≡ true = rw (small, changes, same) refl in
    ap (λ b. only b (Some (truncated_state s size))) all_hold ∙ ap (λ t. Some (Some t)) (sym is)
