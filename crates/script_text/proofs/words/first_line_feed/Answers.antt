-- The first such byte is where `memchr` finds it.
use Rattle.std.proofs.Common.{refl}
use Rattle.ho_events.specs.Script.Words.{is_line_feed}
use Rattle.script_text.proofs.Finds.{first_is}
use Rattle.script_text.proofs.words.first_line_feed.Goals as goal

pub returns : goal.returns
returns c = first_is is_line_feed c.args.bytes.now _ _ refl c.memchr.ensures
