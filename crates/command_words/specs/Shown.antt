-- What contracts see of the values that the program keeps while it reads words.
use Rattle.std.specs.Prelude.{ℕ, List, [], ◌∷◌, Option, option_map}
use Rattle.std.specs.Borrow.{Bor}
use Rattle.command_words.specs.Reading.{Given}
use Rattle.command_words.specs.Requests.{RequestValue, to_run, to_resume, to_audit, to_inspect, to_gen}
use Rattle.command_words.specs.declared.words.Request.{Request}
use Rattle.command_words.specs.declared.words.Request.TheVariants.{Run, Resume, Audit, Inspect, Gen}
use Rattle.command_words.specs.declared.given.Given.{Given as Kept}
use Rattle.command_words.specs.declared.given.Names.{Names}
use Rattle.command_words.specs.declared.given.Names.TheVariants.{Zero, One, Two}

-- the bytes of a word, where there is one
abbrev pub text_shown : Option (Bor (List ℕ)) → Option (List ℕ)
text_shown text = option_map (λ t. t.now) text

abbrev pub request_shown : Request → RequestValue
request_shown (Run script images summary) = to_run script.now (text_shown images) (text_shown summary)
request_shown (Resume image script images summary) = to_resume image.now script.now (text_shown images) (text_shown summary)
request_shown (Audit script history) = to_audit script.now history.now
request_shown (Inspect image) = to_inspect image.now
request_shown (Gen number) = to_gen number

-- names in their order
abbrev pub names_shown : Names → List (List ℕ)
names_shown Zero = []
names_shown (One first) = first.now ∷ []
names_shown (Two first second) = first.now ∷ second.now ∷ []

abbrev pub given_shown : Kept → Given
given_shown g = record { names = names_shown g.names; images = text_shown g.images; summary = text_shown g.summary; next = g.next }
