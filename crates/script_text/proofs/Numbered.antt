-- Every script that is read is numbered.
use Rattle.std.proofs.Common.{◌≡◌, ℕ, ◌+◌, ◌-◌, ◌<◌, ◌≤◌, ◌≢◌, Bool, true, false, not, cond, ◌&&◌, ◌||◌, ◌==◌, List, [], ◌∷◌, ◌++◌, length, zero, suc, get_or, set, replicate, refl, sym, ◌∙◌, ap, arith, append_assoc, append-nil, get_or-set_same, get_or-set_other, inl, inr, Option, Some, None, Ok}
use Rattle.std.specs.Result.{result_ok}
use Rattle.std.specs.Prelude.{IsTrue, option_to_list, unwrap_or, is_none, nat_le}
use Rattle.std.proofs.lemmas.Bool.Decides.{nat_tests}
use Rattle.std.proofs.lemmas.Bool.{cases_eq}
use Rattle.std.proofs.lemmas.List.Quantifiers.{position-Some}
use Rattle.std.proofs.lemmas.List.{length-append, length-set}
use Rattle.ho_events.specs.Lists.{same_bytes}
use Rattle.ho_base.specs.declared.limits.TheConstants.{AGENTS}
use Rattle.ho_events.specs.Script.{placed, has_section, is_full, is_misplaced, passes_limit, finished, outcome_of}
use Rattle.ho_events.specs.Script.SoFar.{Reading, sections, blocks_so_far, closed, place_of, agents_with, with_agent, with_command, with_line, nothing_read}
use Rattle.ho_events.specs.Script.Lines.{line_of_words}
use Rattle.ho_events.specs.Script.Rules.{sections_of, commands_of, are_numbered, is_numbered}
use Rattle.ho_events.specs.declared.script.Script.{Script}
use Rattle.ho_events.specs.declared.command.Command.{Command}
use Rattle.ho_events.specs.declared.line.Line.{Line}
use Rattle.ho_events.specs.declared.line.Line.TheVariants.{Machine, Scratch, Fail, Round, Agent, Kexec, Command as Act}
use Rattle.ho_events.specs.declared.script.AgentWork.{AgentWork}
use Rattle.ho_events.specs.declared.script.Block.{Block}
use Rattle.ho_events.specs.declared.script.Block.TheVariants as block
use Rattle.script_text.proofs.Taken.{pick, ok_is, ok_of, taken_is, keeps_all}

pub sections-append : (bs cs : List Block) → sections_of (bs ++ cs) ≡ sections_of bs ++ sections_of cs
sections-append [] cs = refl
sections-append (block.Round works ∷ bs) cs = rw (sections-append bs cs) (sym (append_assoc works (sections_of bs) (sections_of cs)))
sections-append (block.Kexec blob ∷ bs) cs = sections-append bs cs

pub commands-append : (k : ℕ) (xs ys : List AgentWork) → commands_of k (xs ++ ys) ≡ commands_of k xs + commands_of k ys
commands-append k [] ys = omega arith
commands-append k (w ∷ xs) ys = omega (arith, commands-append k xs ys)

and_true : (a b : Bool) → (a && b) ≡ true → (a ≡ true) × (b ≡ true)
and_true true b h = (refl, h)
and_true false b h = absurd (cc)

both : (a b : Bool) → a ≡ true → b ≡ true → (a && b) ≡ true
both true b h g = g
both false b h g = absurd (cc)

same_number : (a b : ℕ) → a ≡ b → (a == b) ≡ true
same_number a b h = grind (arith, nat_tests)

-- one section more, with the next number of its agent
pub numbered_more : (earlier works : List AgentWork) (w : AgentWork) → are_numbered earlier works ≡ true
    → w.first ≡ commands_of w.agent.0 (earlier ++ works) + 1 → are_numbered earlier (works ++ w ∷ []) ≡ true
numbered_more earlier [] w h first =
    let first' : w.first ≡ commands_of w.agent.0 earlier + 1 = rw append-nil at first in
    both _ _ (same_number _ _ first') refl
numbered_more earlier (x ∷ works) w h first =
    let parts = and_true _ _ h in
    both _ _ parts.0 (numbered_more (earlier ++ x ∷ []) works w parts.1 (rw append_assoc first))

-- the last section grows
pub numbered_grows : (earlier works : List AgentWork) (w v : AgentWork) → w.agent ≡ v.agent → w.first ≡ v.first
    → are_numbered earlier (works ++ w ∷ []) ≡ true → are_numbered earlier (works ++ v ∷ []) ≡ true
numbered_grows earlier [] w v agent first h =
    let parts = and_true _ _ h in
    both _ _ (rw (← agent, ← first) parts.0) refl
numbered_grows earlier (x ∷ works) w v agent first h =
    let parts = and_true _ _ h in
    both _ _ parts.0 (numbered_grows (earlier ++ x ∷ []) works w v agent first parts.1)

-- all sections so far
abbrev total : Reading → List AgentWork
total r = sections_of r.blocks ++ (r.works ++ option_to_list r.section)

-- what holds of what has been read
pub record IsSound (r : Reading) : Type 0 where
  pub numbered : are_numbered [] (total r) ≡ true
  pub counted : (k : ℕ) → k < AGENTS → get_or r.counts k 0 ≡ commands_of (k + 1) (total r)
  pub long : length r.counts ≡ AGENTS
  pub few : length r.agents ≤ AGENTS
  pub within : (w : AgentWork) → r.section ≡ Some w → (1 ≤ w.agent.0) × (w.agent.0 ≤ AGENTS)
  pub over : r.open_round ≡ false → (r.works ≡ []) × (r.section ≡ None)

-- the sections stay where a round is over
pub over_is : (b : Bool) (blocks : List Block) (works : List AgentWork) (section : Option AgentWork)
    → (b ≡ false → (works ≡ []) × (section ≡ None))
    → sections_of (cond b (blocks ++ block.Round (works ++ option_to_list section) ∷ []) blocks) ≡ sections_of blocks ++ (works ++ option_to_list section)
over_is true blocks works section over = rw (sections-append, append-nil) refl
over_is false blocks works section over =
    let none = over refl in
    rw (none.0, none.1) (sym (append-nil (sections_of blocks)))

no_section : {P : Type 0} (w : AgentWork) → ◌≡◌ {A = Option AgentWork} None (Some w) → P
no_section w h = absurd (cc)

sound_round : (r : Reading) → IsSound r → IsSound (record (closed r) { open_round = true; rounds = r.rounds + 1 })
sound_round r h =
    let same : sections_of (blocks_so_far r) ++ [] ≡ total r = append-nil _ ∙ over_is r.open_round r.blocks r.works r.section h.over in
    record {
      numbered = rw same h.numbered;
      counted = λ k below. rw same (h.counted k below);
      long = h.long;
      few = h.few;
      within = λ w none. no_section w none;
      over = λ opened. absurd (cc);
    }

sound_kexec : (r : Reading) (b : Block) → sections_of (b ∷ []) ≡ [] → IsSound r
    → IsSound (record (closed r) { blocks = blocks_so_far r ++ b ∷ []; kexecs = r.kexecs + 1 })
sound_kexec r b none h =
    let same : sections_of (blocks_so_far r ++ b ∷ []) ++ [] ≡ total r =
    append-nil _ ∙ sections-append (blocks_so_far r) (b ∷ []) ∙ ap (λ s. sections_of (blocks_so_far r) ++ s) none ∙ append-nil _
    ∙ over_is r.open_round r.blocks r.works r.section h.over in
    record {
      numbered = rw same h.numbered;
      counted = λ k below. rw same (h.counted k below);
      long = h.long;
      few = h.few;
      within = λ w none. no_section w none;
      over = λ _. (refl, refl);
    }

-- a section without commands adds none
adds_none : (k : ℕ) (ws : List AgentWork) (w : AgentWork) → w.commands ≡ [] → commands_of k (ws ++ w ∷ []) ≡ commands_of k ws
adds_none k ws w none =
    let zero_more : commands_of k (w ∷ []) ≡ 0 = rw none (none_of (w.agent.0 == k)) in
    omega (arith, commands-append k ws (w ∷ []), zero_more)
  where
    none_of : (b : Bool) → cond b 0 0 + 0 ≡ 0
    none_of true = refl
    none_of false = refl

-- a section begins with the next number of its agent
pub sound_begun : (r s : Reading) (w : AgentWork) (i : ℕ) → IsSound r → i < AGENTS → w.agent.0 ≡ i + 1 → w.first ≡ get_or r.counts i 0 + 1
    → w.commands ≡ [] → total s ≡ total r ++ w ∷ [] → s.counts ≡ r.counts → length s.agents ≤ AGENTS → s.section ≡ Some w
    → s.open_round ≡ true → IsSound s
sound_begun r s w i h below number first none more counts few section opened =
    let next : w.first ≡ commands_of w.agent.0 (total r) + 1 = first ∙ ap (λ n. n + 1) (h.counted i below) ∙ ap (λ k. commands_of k (total r) + 1) (sym number) in
    record {
      numbered = rw more (numbered_more [] (total r) w h.numbered next);
      counted = λ k inside. rw (more, counts) (h.counted k inside ∙ sym (adds_none (k + 1) (total r) w none));
      long = rw counts h.long;
      few = few;
      within = λ v last. let same : w ≡ v = some_is w v (sym section ∙ last) in rw (← same) (omega (arith, number), omega (arith, number, below));
      over = λ shut. absurd (cc);
    }
  where
    some_is : (a b : AgentWork) → Some a ≡ Some b → a ≡ b
    some_is a b same = cc

-- the place of an agent, new or not, is one of those that there are
pub place_below : (agents : List (List ℕ)) (name : List ℕ) (place : Option ℕ) → place_of agents name ≡ place → length agents ≤ AGENTS
    → (is_none place && nat_le AGENTS (length agents)) ≡ false → unwrap_or place (length agents) < AGENTS
place_below agents name None at few full = grind (arith, nat_tests)
place_below agents name (Some i) at few full =
    let inside = position-Some (same_bytes name) agents i [] at in
    omega (arith, inside.0)

pub agents_few : (agents : List (List ℕ)) (name : List ℕ) (place : Option ℕ) → length agents ≤ AGENTS
    → (is_none place && nat_le AGENTS (length agents)) ≡ false → length (agents_with agents name place) ≤ AGENTS
agents_few agents name None few full =
    let more = length-append agents (name ∷ []) in
    grind (arith, nat_tests)
agents_few agents name (Some i) few full = few

is_open : (b c : Bool) → (not b || c) ≡ false → b ≡ true
is_open true c h = refl
is_open false c h = absurd (cc)

sound_agent : (r : Reading) (name : List ℕ) → IsSound r → (not r.open_round || has_section r (place_of r.agents name)) ≡ false
    → is_full (place_of r.agents name) r.agents ≡ false → IsSound (with_agent (record r { works = sections r; section = None }) name)
sound_agent r name h stands full =
    sound_begun r _ _ (unwrap_or (place_of r.agents name) (length r.agents)) h
    (place_below r.agents name (place_of r.agents name) refl h.few full) refl refl refl
    (sym (append_assoc (sections_of r.blocks) (sections r) _)) refl
    (agents_few r.agents name (place_of r.agents name) h.few full) refl (is_open r.open_round _ stands)

-- a command more of the last section
grows_by_one : (k : ℕ) (w : AgentWork) (command : Command) → w.agent.0 ≡ k
    → commands_of k (record w { commands = w.commands ++ command ∷ [] } ∷ []) ≡ commands_of k (w ∷ []) + 1
grows_by_one k w command same =
    let test : (w.agent.0 == k) ≡ true = same_number _ _ same in
    rw (test, length-append) (omega arith)

other_number : (a b : ℕ) → a ≢ b → (a == b) ≡ false
other_number a b h = grind (arith, nat_tests)

stays_other : (k : ℕ) (w : AgentWork) (command : Command) → w.agent.0 ≢ k
    → commands_of k (record w { commands = w.commands ++ command ∷ [] } ∷ []) ≡ commands_of k (w ∷ [])
stays_other k w command other =
    let test : (w.agent.0 == k) ≡ false = other_number _ _ other in
    rw test refl

sound_command : (r : Reading) (section : Option AgentWork) (command : Command) → r.section ≡ section → IsSound r
    → IsSound (with_command r section command)
sound_command r None command last h = h
sound_command r (Some w) command last h =
    let v : AgentWork = record w { commands = w.commands ++ command ∷ [] } in
    let before : List AgentWork = sections_of r.blocks ++ r.works in
    let was : total r ≡ before ++ w ∷ [] = ap (λ s. sections_of r.blocks ++ (r.works ++ option_to_list s)) last ∙ sym (append_assoc (sections_of r.blocks) r.works (w ∷ [])) in
    let now : sections_of r.blocks ++ (r.works ++ v ∷ []) ≡ before ++ v ∷ [] = sym (append_assoc (sections_of r.blocks) r.works (v ∷ [])) in
    let within : (1 ≤ w.agent.0) × (w.agent.0 ≤ AGENTS) = h.within w last in
    record {
      numbered = rw now (numbered_grows [] before w v refl refl (rw was at h.numbered));
      counted = λ k below. rw now (counted_more r.counts (w.agent.0 - 1) k before w command
          (λ j inside. rw was at (h.counted j inside)) below h.long (omega (arith, within.0)));
      long = simp length-set h.long;
      few = h.few;
      within = λ u same. let is : v ≡ u = some_is v u same in rw (← is) within;
      over = λ shut. absurd (no_section w (sym ((h.over shut).1) ∙ last));
    }
  where
    some_is : (a b : AgentWork) → Some a ≡ Some b → a ≡ b
    some_is a b same = cc

    counted_more : (counts : List ℕ) (i k : ℕ) (before : List AgentWork) (w : AgentWork) (command : Command)
        → ((j : ℕ) → j < AGENTS → get_or counts j 0 ≡ commands_of (j + 1) (before ++ w ∷ [])) → k < AGENTS → length counts ≡ AGENTS
        → w.agent.0 ≡ i + 1
        → get_or (set counts i (get_or counts i 0 + 1)) k 0 ≡ commands_of (k + 1) (before ++ record w { commands = w.commands ++ command ∷ [] } ∷ [])
    counted_more counts i k before w command counted below long number =
        elim (cases_eq k i) [
          | inl same ↦
              let inside : k < length counts = omega (arith, long, below) in
              rw (← same, get_or-set_same counts k (get_or counts k 0 + 1) 0 inside)
              (omega (arith, counted k below, commands-append (k + 1) before (w ∷ []), commands-append (k + 1) before (record w { commands = w.commands ++ command ∷ [] } ∷ []), grows_by_one (k + 1) w command (omega (arith, same, number))))
          | inr other ↦
              rw (get_or-set_other counts i k (get_or counts i 0 + 1) 0 other)
              (omega (arith, counted k below, commands-append (k + 1) before (w ∷ []), commands-append (k + 1) before (record w { commands = w.commands ++ command ∷ [] } ∷ []), stays_other (k + 1) w command (omega (arith, other, number))))
        ]

sound_with : (r : Reading) (line : Line) → IsSound r → is_misplaced r line ≡ false → passes_limit r line ≡ false → IsSound (with_line r line)
unfolding with_line
sound_with r (Machine n) h stands fits =
    record { numbered = h.numbered; counted = h.counted; long = h.long; few = h.few; within = h.within; over = h.over }
sound_with r (Scratch area) h stands fits =
    record { numbered = h.numbered; counted = h.counted; long = h.long; few = h.few; within = h.within; over = h.over }
sound_with r (Fail fail) h stands fits =
    record { numbered = h.numbered; counted = h.counted; long = h.long; few = h.few; within = h.within; over = h.over }
sound_with r Round h stands fits = sound_round r h
sound_with r (Agent name) h stands fits = sound_agent r name h stands fits
sound_with r (Kexec blob) h stands fits = sound_kexec r (block.Kexec blob) refl h
sound_with r (Act command) h stands fits = sound_command r r.section command refl h

sound_end : (r : Reading) (script : Script) → IsSound r → finished r ≡ Ok script → IsTrue (is_numbered script)
unfolding finished
sound_end r script h read =
    let rest = pick _ _ _ _ read in
    let built : Script = record { shape = r.shape; fails = r.fails; agents = r.agents; blocks = blocks_so_far r } in
    let same = ok_is built script rest.1 in
    rw (← same, over_is r.open_round r.blocks r.works r.section h.over) h.numbered

sound_line : (r next : Reading) (ws : List (List ℕ)) (l : Line) → IsSound r → line_of_words ws ≡ Ok l → placed r l ≡ Ok next → IsSound next
sound_line r next ws l h spelled taken =
    let parts = taken_is r next l taken in
    rw (parts.becomes) at (sound_with r l h parts.stands parts.fits)

zeros : (n k : ℕ) → ◌≡◌ {A = ℕ} (get_or (replicate n 0) k 0) 0
zeros zero k = refl
zeros (suc n) zero = refl
zeros (suc n) (suc k) = zeros n k

sound_nothing : (fresh : Bool) → IsSound (nothing_read fresh)
sound_nothing fresh = record {
  numbered = refl;
  counted = λ k below. zeros 15 k;
  long = refl;
  few = omega arith;
  within = λ w none. no_section w none;
  over = λ _. (refl, refl);
}

pub numbered_script : (fresh : Bool) (bytes : List ℕ) (script : Script) → result_ok (outcome_of fresh bytes) ≡ Some script → IsTrue (is_numbered script)
unfolding outcome_of
numbered_script fresh bytes script read =
    let end = keeps_all IsSound sound_line 1 (nothing_read fresh) _ script (sound_nothing fresh) (ok_of _ script read) in
    sound_end end.0 script (end.1).0 (end.1).1
