-- Every script that is read has built commands alone.
use Rattle.std.proofs.Common.{◌≡◌, ℕ, Bool, true, false, not, cond, ◌&&◌, List, [], ◌∷◌, ◌++◌, append-nil, refl, Option, Some, None, Ok}
use Rattle.std.specs.List.{list_all}
use Rattle.std.specs.Prelude.{IsTrue, option_to_list}
use Rattle.std.specs.Result.{result_ok}
use Rattle.ho_events.specs.Script.{placed, finished, outcome_of}
use Rattle.ho_events.specs.Script.Lines.{line_of_words}
use Rattle.ho_events.specs.Script.Rules.{is_said, is_built, is_built_work, is_built_block, is_built_script, word_of}
use Rattle.ho_events.specs.Script.SoFar.{Reading, sections, blocks_so_far, with_command, with_line, nothing_read}
use Rattle.ho_events.specs.Script.Unbuilt.{is_unbuilt, is_unbuilt_verb}
use Rattle.ho_events.specs.declared.command.Command.{Command}
use Rattle.ho_base.specs.declared.numbers.Blob.{Blob}
use Rattle.ho_events.specs.declared.line.Line.{Line}
use Rattle.ho_events.specs.declared.line.Line.TheVariants.{Machine, Scratch, Fail, Round, Agent, Kexec, Command as Act}
use Rattle.ho_events.specs.declared.line.Verb.{Verb}
use Rattle.ho_events.specs.declared.line.Verb.TheVariants as verb
use Rattle.ho_events.specs.declared.script.AgentWork.{AgentWork}
use Rattle.ho_events.specs.declared.script.Block.{Block}
use Rattle.ho_events.specs.declared.script.Block.TheVariants as block
use Rattle.ho_events.specs.declared.script.Script.{Script}
use Rattle.script_text.proofs.Taken.{pick, ok_is, ok_of, taken_is, keeps_all}
use Rattle.script_text.proofs.Said.{said, said_word}

both : (a b : Bool) → a ≡ true → b ≡ true → (a && b) ≡ true
both true b h g = g
both false b h g = absurd (cc)

and_true : (a b : Bool) → (a && b) ≡ true → (a ≡ true) × (b ≡ true)
and_true true b h = (refl, h)
and_true false b h = absurd (cc)

not_is : (b : Bool) → b ≡ false → not b ≡ true
not_is true h = absurd (cc)
not_is false h = refl

pub all_push : {A : Type 0} (p : A → Bool) (xs : List A) (x : A) → list_all p xs ≡ true → p x ≡ true → list_all p (xs ++ x ∷ []) ≡ true
all_push p [] x h g = both _ _ g refl
all_push p (y ∷ xs) x h g = let parts = and_true _ _ h in both _ _ parts.0 (all_push p xs x parts.1 g)

-- what a line that is taken says
abbrev is_taken : Line → Bool
is_taken (Act command) = is_built command
is_taken (Kexec blob) = is_said verb.Kexec (Kexec blob)
is_taken other = true

-- the blocks so far, the sections of the open round, and the last one have built commands alone
abbrev built_section : Option AgentWork → Bool
built_section None = true
built_section (Some work) = is_built_work work

record IsKept (r : Reading) : Type 0 where
  blocks : list_all is_built_block r.blocks ≡ true
  works : list_all is_built_work r.works ≡ true
  section : built_section r.section ≡ true

kept_sections : (works : List AgentWork) (section : Option AgentWork) → list_all is_built_work works ≡ true → built_section section ≡ true
    → list_all is_built_work (works ++ option_to_list section) ≡ true
kept_sections works None h g = rw append-nil h
kept_sections works (Some work) h g = all_push is_built_work works work h g

kept_blocks : (b : Bool) (blocks : List Block) (works : List AgentWork) → list_all is_built_block blocks ≡ true → list_all is_built_work works ≡ true
    → list_all is_built_block (cond b (blocks ++ block.Round works ∷ []) blocks) ≡ true
kept_blocks true blocks works h g = all_push is_built_block blocks (block.Round works) h g
kept_blocks false blocks works h g = h

kept_closed : (r : Reading) → IsKept r → list_all is_built_block (blocks_so_far r) ≡ true
kept_closed r h = kept_blocks r.open_round r.blocks (sections r) h.blocks (kept_sections r.works r.section h.works h.section)

kept_command : (r : Reading) (section : Option AgentWork) (command : Command) → r.section ≡ section → is_built command ≡ true → IsKept r
    → IsKept (with_command r section command)
kept_command r None command last built h = h
kept_command r (Some work) command last built h =
    let before : is_built_work work ≡ true = rw last at h.section in
    record { blocks = h.blocks; works = h.works; section = all_push is_built work.commands command before built }

kept_with : (r : Reading) (l : Line) → IsKept r → is_taken l ≡ true → IsKept (with_line r l)
unfolding with_line
kept_with r (Machine n) h taken = record { blocks = h.blocks; works = h.works; section = h.section }
kept_with r (Scratch area) h taken = record { blocks = h.blocks; works = h.works; section = h.section }
kept_with r (Fail fail) h taken = record { blocks = h.blocks; works = h.works; section = h.section }
kept_with r Round h taken = record { blocks = kept_closed r h; works = refl; section = refl }
kept_with r (Agent name) h taken =
    record { blocks = h.blocks; works = kept_sections r.works r.section h.works h.section; section = refl }
kept_with r (Kexec blob) h taken =
    record { blocks = all_push is_built_block (blocks_so_far r) (block.Kexec blob) (kept_closed r h) taken; works = refl; section = refl }
kept_with r (Act command) h taken = kept_command r r.section command refl taken h

-- a line that is spelled and taken where it stands says what is built
kexec_said : (v : Verb) (blob : Blob) → is_said v (Kexec blob) ≡ true → is_said verb.Kexec (Kexec blob) ≡ true
kexec_said verb.Kexec blob h = h
kexec_said v blob h = absurd (cc)

is_taken_line : (r : Reading) (v : Verb) (l : Line) → is_unbuilt_verb v ≡ false → is_said v l ≡ true → is_unbuilt r l ≡ false → is_taken l ≡ true
is_taken_line r v (Act command) built h g =
    let word : v ≡ word_of command = said_word v command h in
    both _ _ (rw word at h) (not_is _ (rw word at built))
is_taken_line r v (Kexec blob) built h g = kexec_said v blob h
is_taken_line r v other built h g = refl

kept_line : (r next : Reading) (ws : List (List ℕ)) (l : Line) → IsKept r → line_of_words ws ≡ Ok l → placed r l ≡ Ok next → IsKept next
kept_line r next ws l h is taken =
    let spelled = said ws l is in
    let last = taken_is r next l taken in
    rw (last.becomes) at (kept_with r l h (is_taken_line r spelled.0 l (spelled.1).0 (spelled.1).1 last.built))

kept_end : (r : Reading) (script : Script) → IsKept r → finished r ≡ Ok script → IsTrue (is_built_script script)
unfolding finished
kept_end r script h read =
    let rest = pick _ _ _ _ read in
    let built : Script = record { shape = r.shape; fails = r.fails; agents = r.agents; blocks = blocks_so_far r } in
    let same = ok_is built script rest.1 in
    rw (← same) (kept_closed r h)

pub built_script : (fresh : Bool) (bytes : List ℕ) (script : Script) → result_ok (outcome_of fresh bytes) ≡ Some script → IsTrue (is_built_script script)
unfolding outcome_of
built_script fresh bytes script read =
    let kept : IsKept (nothing_read fresh) = record { blocks = refl; works = refl; section = refl } in
    let end = keeps_all IsKept kept_line 1 (nothing_read fresh) _ script kept (ok_of _ script read) in
    kept_end end.0 script (end.1).0 (end.1).1
