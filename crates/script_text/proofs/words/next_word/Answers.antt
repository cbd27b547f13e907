-- The first word begins after the first blanks and ends at the next one, or with the line.
use Rattle.std.proofs.Common.{sym}
use Rattle.script_text.proofs.Cuts.{no_word, word_in, word_last, rest_is}
use Rattle.script_text.proofs.words.next_word.Goals as goal

pub returns-in_err-rest : goal.returns-in_err-rest
returns-in_err-rest c = rw c.from_residual.ensures (no_word _ (sym c.in_err-rest.ensures))

pub returns-in-Some : goal.returns-in-Some
returns-in-Some c = rw rest_is (rw rest_is (word_in _ _ _ (sym c.in_ok-rest.ensures) (rw rest_is at (sym c.in-Some.ensures))))

pub returns-in-None : goal.returns-in-None
returns-in-None c = rw rest_is (rw rest_is (word_last _ _ (sym c.in_ok-rest.ensures) (rw rest_is at (sym c.in-None.ensures))))
