-- Every script that is read has agents that work one after another.
use Rattle.std.proofs.Common.{◌≡◌, ℕ, ◌+◌, ◌<◌, ◌≤◌, Bool, true, false, cond, ◌&&◌, List, [], ◌∷◌, ◌++◌, length, refl, arith, Option, Some, None, Ok}
use Rattle.std.specs.List.{list_all}
use Rattle.std.specs.Prelude.{IsTrue, option_to_list, nat_le, unwrap_or}
use Rattle.std.specs.Result.{result_ok}
use Rattle.std.proofs.lemmas.Bool.Decides.{nat_tests}
use Rattle.ho_base.specs.declared.limits.TheConstants.{AGENTS}
use Rattle.ho_events.specs.Script.{placed, passes_limit, is_full, finished, outcome_of}
use Rattle.ho_events.specs.Script.Lines.{line_of_words}
use Rattle.ho_events.specs.Script.Rules.{is_said, is_agent_section, is_single_block, is_single_script}
use Rattle.ho_events.specs.Script.SoFar.{Reading, sections, blocks_so_far, place_of, with_agent, with_command, with_line, nothing_read}
use Rattle.ho_events.specs.Script.Unbuilt.{is_unbuilt, is_unbuilt_verb, has_any_section}
use Rattle.ho_events.specs.declared.command.Command.{Command}
use Rattle.ho_events.specs.declared.line.Line.{Line}
use Rattle.ho_events.specs.declared.line.Line.TheVariants.{Machine, Scratch, Fail, Round, Agent, Kexec, Command as Act}
use Rattle.ho_events.specs.declared.line.Verb.{Verb}
use Rattle.ho_events.specs.declared.line.Verb.TheVariants as verb
use Rattle.ho_events.specs.declared.script.AgentWork.{AgentWork}
use Rattle.ho_events.specs.declared.script.Block.{Block}
use Rattle.ho_events.specs.declared.script.Block.TheVariants as block
use Rattle.ho_events.specs.declared.script.Fail as plan
use Rattle.ho_events.specs.declared.script.Script.{Script}
use Rattle.script_text.proofs.Kept.{all_push}
use Rattle.script_text.proofs.Numbered.{place_below, agents_few}
use Rattle.script_text.proofs.Said.{said}
use Rattle.script_text.proofs.Small.{none_yet}
use Rattle.script_text.proofs.Taken.{pick, ok_is, ok_of, taken_is, keeps_all}

-- each block so far is a kexec or a round of one section at most, and the open round is such a round; their agents are
-- ones that were named, and no more were named than there may be
abbrev section_within : Option AgentWork → Bool
section_within None = true
section_within (Some work) = is_agent_section work

record IsSingle (r : Reading) : Type 0 where
  unplanned : r.fails ≡ []
  few : length r.agents ≤ AGENTS
  blocks : list_all is_single_block r.blocks ≡ true
  works : r.works ≡ []
  section : section_within r.section ≡ true

-- a line of a planned failure isn't taken
no_fail : {P : Type 0} (v : Verb) (fail : plan.Fail) → is_unbuilt_verb v ≡ false → is_said v (Fail fail) ≡ true → P
no_fail verb.Fail fail built h = absurd (cc)
no_fail v fail built h = absurd (cc)

-- the blocks once the open round is over
single_works : (works : List AgentWork) (section : Option AgentWork) → works ≡ [] → section_within section ≡ true
    → is_single_block (block.Round (works ++ option_to_list section)) ≡ true
single_works works None none within = rw none refl
single_works works (Some work) none within = rw (none, within) refl

single_blocks : (b : Bool) (blocks : List Block) (works : List AgentWork) → list_all is_single_block blocks ≡ true → is_single_block (block.Round works) ≡ true
    → list_all is_single_block (cond b (blocks ++ block.Round works ∷ []) blocks) ≡ true
single_blocks true blocks works h g = all_push is_single_block blocks (block.Round works) h g
single_blocks false blocks works h g = h

single_closed : (r : Reading) → IsSingle r → list_all is_single_block (blocks_so_far r) ≡ true
single_closed r h = single_blocks r.open_round r.blocks (sections r) h.blocks (single_works r.works r.section h.works h.section)

-- an agent's number is one more than its place
number_within : (i : ℕ) → i < AGENTS → (nat_le 1 (i + 1) && nat_le (i + 1) AGENTS) ≡ true
number_within i below = grind (arith, nat_tests)

single_agent : (r : Reading) (name : List ℕ) → IsSingle r → is_full (place_of r.agents name) r.agents ≡ false → has_any_section r ≡ false
    → IsSingle (with_agent (record r { works = sections r; section = None }) name)
single_agent r name h room first = record {
  unplanned = h.unplanned;
  few = agents_few r.agents name (place_of r.agents name) h.few room;
  blocks = h.blocks;
  works = none_yet r.works r.section h.works first;
  section = number_within (unwrap_or (place_of r.agents name) (length r.agents)) (place_below r.agents name (place_of r.agents name) refl h.few room);
}

single_command : (r : Reading) (section : Option AgentWork) (command : Command) → r.section ≡ section → IsSingle r
    → IsSingle (with_command r section command)
single_command r None command last h = h
single_command r (Some w) command last h =
    let before : is_agent_section w ≡ true = rw last at h.section in
    record { unplanned = h.unplanned; few = h.few; blocks = h.blocks; works = h.works; section = before }

single_with : (r : Reading) (v : Verb) (l : Line) → IsSingle r → is_unbuilt_verb v ≡ false → is_said v l ≡ true → passes_limit r l ≡ false
    → is_unbuilt r l ≡ false → IsSingle (with_line r l)
unfolding with_line
single_with r v (Machine n) h built says room rest = record { unplanned = h.unplanned; few = h.few; blocks = h.blocks; works = h.works; section = h.section }
single_with r v (Scratch area) h built says room rest = record { unplanned = h.unplanned; few = h.few; blocks = h.blocks; works = h.works; section = h.section }
single_with r v (Fail fail) h built says room rest = no_fail v fail built says
single_with r v Round h built says room rest = record { unplanned = h.unplanned; few = h.few; blocks = single_closed r h; works = refl; section = refl }
single_with r v (Agent name) h built says room rest = single_agent r name h room rest
single_with r v (Kexec blob) h built says room rest =
    let blocks : list_all is_single_block (blocks_so_far r ++ block.Kexec blob ∷ []) ≡ true =
    all_push is_single_block (blocks_so_far r) (block.Kexec blob) (single_closed r h) refl in
    record { unplanned = h.unplanned; few = h.few; blocks = blocks; works = refl; section = refl }
single_with r v (Act command) h built says room rest = single_command r r.section command refl h

single_line : (r next : Reading) (ws : List (List ℕ)) (l : Line) → IsSingle r → line_of_words ws ≡ Ok l → placed r l ≡ Ok next → IsSingle next
single_line r next ws l h is taken =
    let spelled = said ws l is in
    let last = taken_is r next l taken in
    rw (last.becomes) at (single_with r spelled.0 l h (spelled.1).0 (spelled.1).1 last.fits last.built)

single_end : (r : Reading) (script : Script) → IsSingle r → finished r ≡ Ok script → IsTrue (is_single_script script)
unfolding finished
single_end r script h read =
    let rest = pick _ _ _ _ read in
    let built : Script = record { shape = r.shape; fails = r.fails; agents = r.agents; blocks = blocks_so_far r } in
    let same = ok_is built script rest.1 in
    rw (← same, h.unplanned) (single_closed r h)

pub single_script : (fresh : Bool) (bytes : List ℕ) (script : Script) → result_ok (outcome_of fresh bytes) ≡ Some script → IsTrue (is_single_script script)
unfolding outcome_of
single_script fresh bytes script read =
    let single : IsSingle (nothing_read fresh) = record { unplanned = refl; few = omega arith; blocks = refl; works = refl; section = refl } in
    let end = keeps_all IsSingle single_line 1 (nothing_read fresh) _ script single (ok_of _ script read) in
    single_end end.0 script (end.1).0 (end.1).1
