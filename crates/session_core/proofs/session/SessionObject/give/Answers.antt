use Rattle.std.proofs.Common.{◌≡◌, ◌<◌, ℕ, List, IsOk, IfSome, None, ap, sym, subst, length, slice_index_or, ◌∙◌}
use Rattle.ho_base.specs.declared.numbers.Token.{Token}
use Rattle.ho_base.specs.declared.numbers.FileNo.{FileNo}
use Rattle.ho_events.specs.declared.entry.Entry.{Entry}
use Rattle.ho_events.specs.declared.reply.Reply.{Reply}
use Rattle.ho_events.specs.declared.reply.Reply.TheVariants.{OkFile}
use Rattle.session_core.proofs.Sessions.{keeps_run}
use Rattle.session_core.proofs.TakenFiles.{no_file, give_within, mark_within, given_keeps, given_told}
use Rattle.session_core.specs.SessionShown.{before}
use Rattle.session_core.specs.SessionValues.{SessionIs}
use Rattle.session_core.specs.Taking.{found_of, take_answer}
use Rattle.session_core.proofs.session.SessionObject.give.Goals as goal

pub bounds-files-at : goal.bounds-files-at
bounds-files-at c =
    subst (λ n. n < length c.as_slice-files.result.now) (sym c.place_in-at.ensures.place)
    (subst (λ xs. before c.args.token.0 xs < length xs) (sym c.as_slice-files.ensures.value)
    (give_within _ _ _ _ c.args.name c.args.token _ c.self.invariant
    (subst (λ v. SessionIs v (λ s. IsOk (found_of s c.args.name c.args.token.0))) (sym c.self.view_is) c.requires.found)))

pub mark-requires : goal.mark-requires
mark-requires c = record {
  within = subst (λ n. IfSome c.self.inside.incoming (λ i. n < length i.taken.items)) (sym (c.place_in-at.ensures.place ∙ ap (before c.args.token.0) c.as_slice-files.ensures.value))
      (mark_within _ _ _ _ c.args.name c.args.token _ c.self.invariant
      (subst (λ v. SessionIs v (λ s. IsOk (found_of s c.args.name c.args.token.0))) (sym c.self.view_is) c.requires.found));
}

pub invariant_of-self : goal.invariant_of-self
invariant_of-self c =
    rw c.append_plain_turn.ensures.kept
    (given_keeps _ _ _ _ c.args.name c.args.token _ _ _ _ no_file _ c.self.invariant
    (subst (λ v. SessionIs v (λ s. IsOk (found_of s c.args.name c.args.token.0))) (sym c.self.view_is) c.requires.found)
    (c.place_in-at.ensures.place ∙ ap (before c.args.token.0) c.as_slice-files.ensures.value) c.mark.ensures (ap (λ (xs : List (Token × FileNo × ℕ)). (slice_index_or xs c.place_in-at.result no_file).1) c.as_slice-files.ensures.value)
    (ap (λ (e : Entry). e.event) c.append_plain_turn.ensures.told) (ap (λ (e : Entry). e.reply) c.append_plain_turn.ensures.told))

pub returns-clause-value : goal.returns-clause-value
returns-clause-value c =
    subst (λ (r : Reply). SessionIs c.args.self.now (λ s. r ≡ take_answer (found_of s c.args.name c.args.token.0) None)) (sym c.append_plain_turn.ensures.value)
    (subst (λ v. SessionIs v (λ s. OkFile (slice_index_or c.as_slice-files.result.now c.place_in-at.result no_file).1 ≡ take_answer (found_of s c.args.name c.args.token.0) None)) c.self.view_is
    (given_told _ _ _ _ c.args.name c.args.token _ _ no_file _ c.self.invariant
    (subst (λ v. SessionIs v (λ s. IsOk (found_of s c.args.name c.args.token.0))) (sym c.self.view_is) c.requires.found)
    (c.place_in-at.ensures.place ∙ ap (before c.args.token.0) c.as_slice-files.ensures.value)
    (ap (λ (xs : List (Token × FileNo × ℕ)). (slice_index_or xs c.place_in-at.result no_file).1) c.as_slice-files.ensures.value)))

pub returns-clause-run : goal.returns-clause-run
returns-clause-run c =
    rw c.append_plain_turn.ensures.kept
    (keeps_run _ _ _ _ _ (given_keeps _ _ _ _ c.args.name c.args.token _ _ _ _ no_file _ c.self.invariant
    (subst (λ v. SessionIs v (λ s. IsOk (found_of s c.args.name c.args.token.0))) (sym c.self.view_is) c.requires.found)
    (c.place_in-at.ensures.place ∙ ap (before c.args.token.0) c.as_slice-files.ensures.value) c.mark.ensures (ap (λ (xs : List (Token × FileNo × ℕ)). (slice_index_or xs c.place_in-at.result no_file).1) c.as_slice-files.ensures.value)
    (ap (λ (e : Entry). e.event) c.append_plain_turn.ensures.told) (ap (λ (e : Entry). e.reply) c.append_plain_turn.ensures.told)))
