-- Where no word is left.
use Rattle.std.proofs.Common.{string_bytes}
use Rattle.command_words.specs.Shown.{given_shown}
use Rattle.command_words.proofs.OneByOne.{no_word_left}
use Rattle.command_words.proofs.given.Given.+with_words.Goals as goal

pub returns-in-None : goal.returns-in-None
returns-in-None t c = no_word_left (given_shown c.args.self) string_bytes c.args.words.now c.in-None.ensures.cases
