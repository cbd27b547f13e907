use Rattle.std.proofs.Common.{◌≡◌, ◌↔◌, IsTrue, None, subst, refl, ◌∙◌}
use Rattle.ho_events.specs.Session.{admits}
use Rattle.session_core.proofs.Sessions.{admits_told}
use Rattle.session_core.specs.SessionValues.{SessionIs}
use Rattle.session_core.proofs.session.SessionObject.admits.Goals as goal

pub returns-clause-exact : goal.returns-clause-exact
returns-clause-exact c =
    subst (λ v. SessionIs v (λ s. (c.refusal.result ≡ None) ↔ IsTrue (admits s c.args.name c.args.token.0))) c.self.view_is
    (admits_told _ _ _ _ _ c.args.name c.args.token.0 c.refusal.result c.self.invariant
    (c.refusal.ensures ∙ rw (c.is_name.ensures, c.as_slice.ensures.value) refl))
