-- A file that was made: what a host tells of it when it is shut.
use Rattle.std.proofs.Common.{◌≡◌, ℕ, List, [], refl, ap, ◌∙◌}
use Rattle.std.specs.Prelude.{Option, None, Some}
use Rattle.ho_io.specs.Told.{behind, told_with, with_sink}

told_front : (out : Option (List ℕ)) (bytes : List ℕ) → behind (told_with out []) bytes ≡ told_with out bytes
unfolding behind told_with
told_front None bytes = refl
told_front (Some told) bytes = refl

pub file_made : (made before first_made : Option (List (List ℕ × List ℕ))) (out sink_name first last : Option (List ℕ)) (name bytes : List ℕ)
    → made ≡ with_sink before sink_name last → before ≡ first_made → sink_name ≡ told_with out name → first ≡ told_with out [] → last ≡ behind first bytes
    → made ≡ with_sink first_made (told_with out name) (told_with out bytes)
file_made made before first_made out sink_name first last name bytes m b n f l =
    m ∙ ap (λ x. with_sink x sink_name last) b ∙ ap (λ x. with_sink first_made x last) n
    ∙ ap (λ x. with_sink first_made (told_with out name) x) (l ∙ ap (λ x. behind x bytes) f ∙ told_front out bytes)
