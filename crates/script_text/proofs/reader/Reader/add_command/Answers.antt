-- One count grows, and so does their bound; the section stays that of its agent.
use Rattle.std.proofs.Common.{◌≡◌, ◌∙◌, sym, ap, arith, Some}
use Rattle.ho_events.specs.Script.SoFar.{Reading}
use Rattle.script_text.proofs.Counts.{counts_more}
use Rattle.script_text.proofs.reader.Reader.add_command.Goals as goal

pub invariant_of-self-2 : goal.invariant_of-self-2
invariant_of-self-2 c =
    let same : c.self.inside.commands ≡ c.args.self.now.commands = ap (λ (r : Reading). r.commands) c.self.view_is in
    let was : c.self.inside.section ≡ Some c.in-Some.section = sym c.take.ensures.value ∙ c.in-Some.is in
    record {
      counted = counts_more _ _ _ c.self.invariant.counted;
      few = omega (arith, same, c.requires.room);
      named = c.self.invariant.named;
      within = rw was at c.self.invariant.within;
    }
