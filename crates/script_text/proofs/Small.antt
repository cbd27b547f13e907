-- Every script that is read is small enough.
use Rattle.std.proofs.Common.{◌≡◌, ℕ, ◌+◌, ◌≤◌, Bool, true, false, not, cond, ◌&&◌, ◌||◌, List, [], ◌∷◌, ◌++◌, append-nil, length, refl, sym, ◌∙◌, ap, arith, append_assoc, Option, Some, None, Ok}
use Rattle.std.specs.List.{list_all}
use Rattle.std.specs.Prelude.{IsTrue, option_to_list, nat_le, unwrap_or, is_some}
use Rattle.std.proofs.lemmas.Bool.Decides.{nat_tests}
use Rattle.std.proofs.lemmas.List.{length-append}
use Rattle.ho_base.specs.declared.limits.TheConstants.{KEXECS, COMMANDS}
use Rattle.std.specs.Result.{result_ok}
use Rattle.ho_events.specs.Script.{placed, is_misplaced, passes_limit, finished, outcome_of}
use Rattle.ho_events.specs.Script.Lines.{line_of_words}
use Rattle.ho_events.specs.Script.Rules.{sections_of, total_commands, kexecs_in, is_alone, is_small_script}
use Rattle.ho_events.specs.Script.SoFar.{Reading, sections, blocks_so_far, begun, place_of, with_agent, with_command, with_line, nothing_read}
use Rattle.ho_events.specs.Script.Unbuilt.{is_unbuilt, has_any_section}
use Rattle.ho_events.specs.declared.command.Command.{Command}
use Rattle.ho_events.specs.declared.line.Line.{Line}
use Rattle.ho_events.specs.declared.line.Line.TheVariants.{Machine, Scratch, Fail, Round, Agent, Kexec, Command as Act}
use Rattle.ho_events.specs.declared.script.AgentWork.{AgentWork}
use Rattle.ho_events.specs.declared.script.Block.{Block}
use Rattle.ho_events.specs.declared.script.Block.TheVariants as block
use Rattle.ho_events.specs.declared.script.Script.{Script}
use Rattle.script_text.proofs.Kept.{all_push}
use Rattle.script_text.proofs.Numbered.{over_is, sections-append}
use Rattle.script_text.proofs.Taken.{pick, ok_is, ok_of, taken_is, keeps_all}

both : (a b : Bool) → a ≡ true → b ≡ true → (a && b) ≡ true
both true b h g = g
both false b h g = absurd (cc)

total-append : (xs ys : List AgentWork) → total_commands (xs ++ ys) ≡ total_commands xs + total_commands ys
total-append [] ys = omega arith
total-append (x ∷ xs) ys = omega (arith, total-append xs ys)

kexecs-append : (xs ys : List Block) → kexecs_in (xs ++ ys) ≡ kexecs_in xs + kexecs_in ys
kexecs-append [] ys = omega arith
kexecs-append (block.Round works ∷ xs) ys = kexecs-append xs ys
kexecs-append (block.Kexec blob ∷ xs) ys = omega (arith, kexecs-append xs ys)

-- a round that ends is no kexec
kexecs_so_far : (opened : Bool) (blocks : List Block) (works : List AgentWork) → kexecs_in (cond opened (blocks ++ block.Round works ∷ []) blocks) ≡ kexecs_in blocks
kexecs_so_far true blocks works = omega (arith, kexecs-append blocks (block.Round works ∷ []))
kexecs_so_far false blocks works = refl

-- all sections so far
abbrev all_of : Reading → List AgentWork
all_of r = sections_of r.blocks ++ (r.works ++ option_to_list r.section)

record IsSmall (r : Reading) : Type 0 where
  total : total_commands (all_of r) ≡ r.commands
  few : r.commands ≤ COMMANDS
  alone : list_all is_alone r.blocks ≡ true
  kexecs : kexecs_in r.blocks ≡ r.kexecs
  boots : r.kexecs ≤ KEXECS
  works : r.works ≡ []
  over : r.open_round ≡ false → (r.works ≡ []) × (r.section ≡ None)

alone_sections : (works : List AgentWork) (section : Option AgentWork) → works ≡ [] → nat_le (length (works ++ option_to_list section)) 1 ≡ true
alone_sections works None none = rw none refl
alone_sections works (Some work) none = rw none refl

alone_blocks : (b : Bool) (blocks : List Block) (works : List AgentWork) → list_all is_alone blocks ≡ true → nat_le (length works) 1 ≡ true
    → list_all is_alone (cond b (blocks ++ block.Round works ∷ []) blocks) ≡ true
alone_blocks true blocks works h g = all_push is_alone blocks (block.Round works) h g
alone_blocks false blocks works h g = h

alone_closed : (r : Reading) → IsSmall r → list_all is_alone (blocks_so_far r) ≡ true
alone_closed r h = alone_blocks r.open_round r.blocks (sections r) h.alone (alone_sections r.works r.section h.works)

more_commands : (before : List AgentWork) (w : AgentWork) (command : Command)
    → total_commands (before ++ record w { commands = w.commands ++ command ∷ [] } ∷ []) ≡ total_commands (before ++ w ∷ []) + 1
more_commands before w command =
    let one : length (w.commands ++ command ∷ []) ≡ length w.commands + 1 = length-append w.commands (command ∷ []) in
    omega (arith, one, total-append before (w ∷ []), total-append before (record w { commands = w.commands ++ command ∷ [] } ∷ []))

none_some : {P : Type 0} (o : Option AgentWork) (w : AgentWork) → o ≡ None → o ≡ Some w → P
none_some o w none some = absurd (cc)

small_command : (r : Reading) (section : Option AgentWork) (command : Command) → r.section ≡ section → nat_le COMMANDS r.commands ≡ false → IsSmall r
    → IsSmall (with_command r section command)
small_command r None command last room h = h
small_command r (Some w) command last room h =
    let v : AgentWork = record w { commands = w.commands ++ command ∷ [] } in
    let before : List AgentWork = sections_of r.blocks ++ r.works in
    let was : all_of r ≡ before ++ w ∷ [] = ap (λ s. sections_of r.blocks ++ (r.works ++ option_to_list s)) last ∙ sym (append_assoc (sections_of r.blocks) r.works (w ∷ [])) in
    let now : sections_of r.blocks ++ (r.works ++ v ∷ []) ≡ before ++ v ∷ [] = sym (append_assoc (sections_of r.blocks) r.works (v ∷ [])) in
    let few : r.commands + 1 ≤ COMMANDS = grind (arith, nat_tests) in
    let total : total_commands (before ++ w ∷ []) ≡ r.commands = rw was at h.total in
    record {
      total = rw now (more_commands before w command ∙ ap (λ n. n + 1) total);
      few = few;
      alone = h.alone;
      kexecs = h.kexecs;
      boots = h.boots;
      works = h.works;
      over = λ shut. none_some r.section w (h.over shut).1 last;
    }

is_open : (b c : Bool) → (not b || c) ≡ false → b ≡ true
is_open true c h = refl
is_open false c h = absurd (cc)

nothing_more : (xs ys : List AgentWork) (w : AgentWork) (n : ℕ) → w.commands ≡ [] → total_commands (xs ++ ys) ≡ n → total_commands (xs ++ (ys ++ w ∷ [])) ≡ n
nothing_more xs ys w n none h =
    let empty : length w.commands ≡ 0 = rw none refl in
    omega (arith, h, empty, total-append xs ys, total-append xs (ys ++ w ∷ []), total-append ys (w ∷ []))

-- no section is there yet where an agent's line is taken
pub none_yet : (works : List AgentWork) (section : Option AgentWork) → works ≡ [] → is_some section ≡ false → works ++ option_to_list section ≡ []
none_yet works None none first = rw none refl
none_yet works (Some w) none first = absurd (cc)

small_agent : (r : Reading) (name : List ℕ) → IsSmall r → has_any_section r ≡ false → r.open_round ≡ true
    → IsSmall (with_agent (record r { works = sections r; section = None }) name)
small_agent r name h first opened =
    let none : sections r ≡ [] = none_yet r.works r.section h.works first in
    let total : total_commands (sections_of r.blocks ++ sections r) ≡ r.commands = h.total in
    record {
      total = nothing_more (sections_of r.blocks) (sections r) (begun r.counts (unwrap_or (place_of r.agents name) (length r.agents))) r.commands refl total;
      few = h.few;
      alone = h.alone;
      kexecs = h.kexecs;
      boots = h.boots;
      works = none;
      over = λ shut. absurd (cc);
    }

-- a kexec line that is taken is at most the last one that may be
more_boots : (n : ℕ) → nat_le KEXECS n ≡ false → n + 1 ≤ KEXECS
more_boots n room = grind (arith, nat_tests)

small_with : (r : Reading) (l : Line) → IsSmall r → is_misplaced r l ≡ false → passes_limit r l ≡ false → is_unbuilt r l ≡ false → IsSmall (with_line r l)
unfolding with_line
small_with r (Machine n) h place limit built = record { total = h.total; few = h.few; alone = h.alone; kexecs = h.kexecs; boots = h.boots; works = h.works; over = h.over }
small_with r (Scratch area) h place limit built = record { total = h.total; few = h.few; alone = h.alone; kexecs = h.kexecs; boots = h.boots; works = h.works; over = h.over }
small_with r (Fail fail) h place limit built = record { total = h.total; few = h.few; alone = h.alone; kexecs = h.kexecs; boots = h.boots; works = h.works; over = h.over }
small_with r Round h place limit built =
    let same : sections_of (blocks_so_far r) ++ [] ≡ all_of r = append-nil _ ∙ over_is r.open_round r.blocks r.works r.section h.over in
    record {
      total = rw same h.total;
      few = h.few;
      alone = alone_closed r h;
      kexecs = kexecs_so_far r.open_round r.blocks (sections r) ∙ h.kexecs;
      boots = h.boots;
      works = refl;
      over = λ shut. absurd (cc);
    }
small_with r (Kexec blob) h place limit built =
    let same : sections_of (blocks_so_far r ++ block.Kexec blob ∷ []) ++ [] ≡ all_of r =
    append-nil _ ∙ sections-append (blocks_so_far r) (block.Kexec blob ∷ []) ∙ append-nil _ ∙ over_is r.open_round r.blocks r.works r.section h.over in
    let before : kexecs_in (blocks_so_far r) ≡ r.kexecs = kexecs_so_far r.open_round r.blocks (sections r) ∙ h.kexecs in
    let one_more : kexecs_in (blocks_so_far r ++ block.Kexec blob ∷ []) ≡ r.kexecs + 1 =
    omega (arith, kexecs-append (blocks_so_far r) (block.Kexec blob ∷ []), before) in
    record {
      total = rw same h.total;
      few = h.few;
      alone = all_push is_alone (blocks_so_far r) (block.Kexec blob) (alone_closed r h) refl;
      kexecs = one_more;
      boots = more_boots r.kexecs limit;
      works = refl;
      over = λ _. (refl, refl);
    }
small_with r (Agent name) h place limit built = small_agent r name h built (is_open r.open_round _ place)
small_with r (Act command) h place limit built = small_command r r.section command refl limit h

small_line : (r next : Reading) (ws : List (List ℕ)) (l : Line) → IsSmall r → line_of_words ws ≡ Ok l → placed r l ≡ Ok next → IsSmall next
small_line r next ws l h is taken =
    let last = taken_is r next l taken in
    rw (last.becomes) at (small_with r l h last.stands last.fits last.built)

small_end : (r : Reading) (script : Script) → IsSmall r → finished r ≡ Ok script → IsTrue (is_small_script script)
unfolding finished
small_end r script h read =
    let rest = pick _ _ _ _ read in
    let built : Script = record { shape = r.shape; fails = r.fails; agents = r.agents; blocks = blocks_so_far r } in
    let same = ok_is built script rest.1 in
    let total : total_commands (sections_of (blocks_so_far r)) ≡ r.commands = ap total_commands (over_is r.open_round r.blocks r.works r.section h.over) ∙ h.total in
    let few : nat_le (total_commands (sections_of (blocks_so_far r))) COMMANDS ≡ true = few_is _ r.commands total h.few in
    let kexecs : kexecs_in (blocks_so_far r) ≡ r.kexecs = kexecs_so_far r.open_round r.blocks (sections r) ∙ h.kexecs in
    let boots : nat_le (kexecs_in (blocks_so_far r)) KEXECS ≡ true = few_boots _ r.kexecs kexecs h.boots in
    rw (← same) (both _ _ few (both _ _ (alone_closed r h) boots))
  where
    few_is : (n m : ℕ) → n ≡ m → m ≤ COMMANDS → nat_le n COMMANDS ≡ true
    few_is n m same few = grind (arith, nat_tests)

    few_boots : (n m : ℕ) → n ≡ m → m ≤ KEXECS → nat_le n KEXECS ≡ true
    few_boots n m same few = grind (arith, nat_tests)

pub small_script : (fresh : Bool) (bytes : List ℕ) (script : Script) → result_ok (outcome_of fresh bytes) ≡ Some script → IsTrue (is_small_script script)
unfolding outcome_of
small_script fresh bytes script read =
    let small : IsSmall (nothing_read fresh) = record { total = refl; few = omega arith; alone = refl; kexecs = refl; boots = omega arith; works = refl; over = λ _. (refl, refl) } in
    let end = keeps_all IsSmall small_line 1 (nothing_read fresh) _ script small (ok_of _ script read) in
    small_end end.0 script (end.1).0 (end.1).1
