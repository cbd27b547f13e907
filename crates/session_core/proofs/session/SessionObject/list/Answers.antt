use Rattle.std.proofs.Common.{◌≡◌, IsTrue, ap, sym, subst, refl, ◌∙◌}
use Rattle.std.specs.List.{insert}
use Rattle.ho_events.specs.Session.{admits}
use Rattle.ho_events.specs.declared.entry.Entry.{Entry}
use Rattle.session_core.proofs.SessionAdds.{list_keeps}
use Rattle.session_core.proofs.Sessions.{keeps_run}
use Rattle.session_core.specs.SessionShown.{smaller}
use Rattle.session_core.specs.SessionValues.{SessionIs}
use Rattle.session_core.proofs.session.SessionObject.list.Goals as goal

pub invariant_of-self : goal.invariant_of-self
invariant_of-self c =
    let items : c.insert.new.self.items ≡ insert c.self.inside.files.items (smaller c.args.token.0 c.self.inside.files.items) (c.args.token, c.args.file, c.args.handle) =
    c.insert.ensures.items ∙ rw (c.unwrap.ensures, c.place_of-at.ensures.place, c.as_slice.ensures.value) refl in
    rw (items, c.append_plain_turn.ensures.kept)
    (list_keeps _ _ _ _ _ _ c.args.name c.args.token c.args.file c.args.handle c.self.invariant
    (subst (λ v. SessionIs v (λ s. IsTrue (admits s c.args.name c.args.token.0))) (sym c.self.view_is) c.requires.admitted)
    (ap (λ (e : Entry). e.event) c.append_plain_turn.ensures.told) (ap (λ (e : Entry). e.reply) c.append_plain_turn.ensures.told) c.requires.file)

pub returns-clause-run : goal.returns-clause-run
returns-clause-run c =
    rw c.append_plain_turn.ensures.kept
    (keeps_run _ _ _ _ _ (list_keeps _ _ _ _ _ _ c.args.name c.args.token c.args.file c.args.handle c.self.invariant
    (subst (λ v. SessionIs v (λ s. IsTrue (admits s c.args.name c.args.token.0))) (sym c.self.view_is) c.requires.admitted)
    (ap (λ (e : Entry). e.event) c.append_plain_turn.ensures.told) (ap (λ (e : Entry). e.reply) c.append_plain_turn.ensures.told) c.requires.file))
