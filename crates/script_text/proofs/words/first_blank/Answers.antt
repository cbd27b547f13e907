-- The first such byte is where `memchr2` finds it.
use Rattle.std.proofs.Common.{refl}
use Rattle.ho_events.specs.Script.Words.{is_blank}
use Rattle.script_text.proofs.Finds.{first_is}
use Rattle.script_text.proofs.words.first_blank.Goals as goal

pub returns : goal.returns
returns c = first_is is_blank c.args.bytes.now _ _ refl c.memchr2.ensures
