-- Every script that is read binds each label of an agent by one command at most.
use Rattle.std.proofs.Common.{◌≡◌, ℕ, ◌+◌, Bool, true, false, not, cond, ◌&&◌, ◌||◌, List, [], ◌∷◌, ◌++◌, refl, sym, ◌∙◌, ap, subst, append_assoc, append-nil, Option, Some, None, Result, Ok, Err, IsTrue}
use Rattle.std.specs.Prelude.{option_to_list}
use Rattle.ho_events.specs.Script.{placed, has_section, is_misplaced, breaks_shape, binds_again, finished, outcome_of}
use Rattle.ho_events.specs.Script.Lines.{line_of_words}
use Rattle.ho_events.specs.Script.Rules.{sections_of}
use Rattle.ho_events.specs.Script.SoFar.{Reading, sections, blocks_so_far, closed, place_of, label_of, is_bound, is_bound_by, with_label, with_agent, with_command, with_line, nothing_read}
use Rattle.ho_events.specs.declared.command.Command.{Command}
use Rattle.ho_events.specs.declared.line.Line.{Line}
use Rattle.ho_events.specs.declared.line.Line.TheVariants.{Machine, Scratch, Fail, Round, Agent, Kexec, Command as Act}
use Rattle.ho_events.specs.declared.line.Reason.{Reason}
use Rattle.ho_events.specs.declared.line.Reason.TheVariants as reason
use Rattle.ho_events.specs.declared.script.AgentWork.{AgentWork}
use Rattle.ho_events.specs.declared.script.Block.{Block}
use Rattle.ho_events.specs.declared.script.Block.TheVariants as block
use Rattle.ho_events.specs.declared.script.Script.{Script}
use Rattle.script_text.proofs.Numbered.{sections-append, over_is}
use Rattle.script_text.proofs.Taken.{IsTaken, pick, ok_is, ok_of, taken_is, keeps_all}
use Rattle.sound_histories.specs.Binding.{bound_with, bind_once, bound_in, sections_bind_once, binds_once, ReadBindsOnce}

abbrev Bound : Type 0
Bound = List (ℕ × List ℕ)

pub both : (a b : Bool) → a ≡ true → b ≡ true → (a && b) ≡ true
both true b h g = g
both false b h g = absurd cc

pub each_one : (a b : Bool) → (a && b) ≡ true → (a ≡ true) × (b ≡ true)
each_one true b h = (refl, h)
each_one false b h = absurd cc

grouped : (a b c : Bool) → (a && (b && c)) ≡ ((a && b) && c)
grouped true b c = refl
grouped false b c = refl

-- commands in two parts
pub with_parts : (bound : Bound) (a : ℕ) (cs ds : List Command) → bound_with bound a (cs ++ ds) ≡ bound_with (bound_with bound a cs) a ds
with_parts bound a [] ds = refl
with_parts bound a (c ∷ cs) ds = with_parts (with_label bound a (label_of c)) a cs ds

once_parts : (bound : Bound) (a : ℕ) (cs ds : List Command) → bind_once bound a (cs ++ ds) ≡ (bind_once bound a cs && bind_once (bound_with bound a cs) a ds)
once_parts bound a [] ds = refl
once_parts bound a (c ∷ cs) ds =
    ap (λ b. not (is_bound bound a (label_of c)) && b) (once_parts (with_label bound a (label_of c)) a cs ds)
    ∙ grouped (not (is_bound bound a (label_of c))) (bind_once (with_label bound a (label_of c)) a cs) (bind_once (bound_with (with_label bound a (label_of c)) a cs) a ds)

-- sections in two parts
pub bound_parts : (bound : Bound) (ws vs : List AgentWork) → bound_in bound (ws ++ vs) ≡ bound_in (bound_in bound ws) vs
bound_parts bound [] vs = refl
bound_parts bound (w ∷ ws) vs = bound_parts (bound_with bound w.agent.0 w.commands) ws vs

pub section_parts : (bound : Bound) (ws vs : List AgentWork) → sections_bind_once bound (ws ++ vs) ≡ (sections_bind_once bound ws && sections_bind_once (bound_in bound ws) vs)
section_parts bound [] vs = refl
section_parts bound (w ∷ ws) vs =
    ap (λ b. bind_once bound w.agent.0 w.commands && b) (section_parts (bound_with bound w.agent.0 w.commands) ws vs)
    ∙ grouped (bind_once bound w.agent.0 w.commands) (sections_bind_once (bound_with bound w.agent.0 w.commands) ws) (sections_bind_once (bound_in (bound_with bound w.agent.0 w.commands) ws) vs)

-- all sections so far
abbrev total : Reading → List AgentWork
total r = sections_of r.blocks ++ (r.works ++ option_to_list r.section)

-- what holds of what has been read
record IsOnce (r : Reading) : Type 0 where
  once : sections_bind_once [] (total r) ≡ true
  bound : r.labels ≡ bound_in [] (total r)
  over : r.open_round ≡ false → (r.works ≡ []) × (r.section ≡ None)

none_there : {P : Type 0} (w : AgentWork) → ◌≡◌ {A = Option AgentWork} None (Some w) → P
none_there w h = absurd cc

-- the sections stay where a round is over
once_round : (r : Reading) → IsOnce r → IsOnce (record (closed r) { open_round = true; rounds = r.rounds + 1 })
once_round r h =
    let same : sections_of (blocks_so_far r) ++ [] ≡ total r = append-nil _ ∙ over_is r.open_round r.blocks r.works r.section h.over in
    record {
      once = ap (sections_bind_once []) same ∙ h.once;
      bound = h.bound ∙ ap (bound_in []) (sym same);
      over = λ opened. absurd cc;
    }

once_kexec : (r : Reading) (b : Block) → sections_of (b ∷ []) ≡ [] → IsOnce r → IsOnce (record (closed r) { blocks = blocks_so_far r ++ b ∷ []; kexecs = r.kexecs + 1 })
once_kexec r b none h =
    let same : sections_of (blocks_so_far r ++ b ∷ []) ++ [] ≡ total r =
    append-nil _ ∙ sections-append (blocks_so_far r) (b ∷ []) ∙ ap (λ s. sections_of (blocks_so_far r) ++ s) none ∙ append-nil _
    ∙ over_is r.open_round r.blocks r.works r.section h.over in
    record {
      once = ap (sections_bind_once []) same ∙ h.once;
      bound = h.bound ∙ ap (bound_in []) (sym same);
      over = λ _. (refl, refl);
    }

-- a section begins without a command
begins_once : (ws : List AgentWork) (w : AgentWork) → w.commands ≡ [] → sections_bind_once [] ws ≡ true → sections_bind_once [] (ws ++ w ∷ []) ≡ true
begins_once ws w none h =
    section_parts [] ws (w ∷ []) ∙ both _ _ h (ap (λ cs. bind_once (bound_in [] ws) w.agent.0 cs && true) none)

begins_bound : (ws : List AgentWork) (w : AgentWork) → w.commands ≡ [] → bound_in [] (ws ++ w ∷ []) ≡ bound_in [] ws
begins_bound ws w none = bound_parts [] ws (w ∷ []) ∙ ap (λ cs. bound_with (bound_in [] ws) w.agent.0 cs) none

is_open : (b c : Bool) → (not b || c) ≡ false → b ≡ true
is_open true c h = refl
is_open false c h = absurd cc

once_agent : (r : Reading) (name : List ℕ) → IsOnce r → (not r.open_round || has_section r (place_of r.agents name)) ≡ false → IsOnce (with_agent (record r { works = sections r; section = None }) name)
once_agent r name h stands = record {
  once = ap (sections_bind_once []) (sym (append_assoc (sections_of r.blocks) (sections r) _)) ∙ begins_once (total r) _ refl h.once;
  bound = h.bound ∙ sym (begins_bound (total r) _ refl) ∙ ap (bound_in []) (append_assoc (sections_of r.blocks) (sections r) _);
  over = λ shut. absurd (shut_open r.open_round (is_open r.open_round _ stands) shut);
}
  where
    shut_open : (b : Bool) → b ≡ true → b ≡ false → ⊥
    shut_open b h g = cc

-- the last section grows
abbrev longer : AgentWork → Command → AgentWork
longer w c = record w { commands = w.commands ++ c ∷ [] }

grows_once : (ws : List AgentWork) (w : AgentWork) (c : Command) → sections_bind_once [] (ws ++ w ∷ []) ≡ true → is_bound (bound_in [] (ws ++ w ∷ [])) w.agent.0 (label_of c) ≡ false
    → sections_bind_once [] (ws ++ longer w c ∷ []) ≡ true
grows_once ws w c h free =
    let old = each_one (sections_bind_once [] ws) _ (sym (section_parts [] ws (w ∷ [])) ∙ h) in
    let own = each_one (bind_once (bound_in [] ws) w.agent.0 w.commands) true old.1 in
    let new : is_bound (bound_with (bound_in [] ws) w.agent.0 w.commands) w.agent.0 (label_of c) ≡ false = ap (λ b. is_bound b w.agent.0 (label_of c)) (sym (bound_parts [] ws (w ∷ []))) ∙ free in
    section_parts [] ws (longer w c ∷ [])
    ∙ both _ _ old.0 (both _ true (once_parts (bound_in [] ws) w.agent.0 w.commands (c ∷ []) ∙ both _ _ own.0 (ap (λ b. not b && true) new)) refl)

grows_bound : (ws : List AgentWork) (w : AgentWork) (c : Command) → bound_in [] (ws ++ longer w c ∷ []) ≡ with_label (bound_in [] (ws ++ w ∷ [])) w.agent.0 (label_of c)
grows_bound ws w c =
    bound_parts [] ws (longer w c ∷ []) ∙ with_parts (bound_in [] ws) w.agent.0 w.commands (c ∷ [])
    ∙ ap (λ b. with_label b w.agent.0 (label_of c)) (sym (bound_parts [] ws (w ∷ [])))

once_command : (r : Reading) (section : Option AgentWork) (c : Command) → r.section ≡ section → is_bound_by r.labels section (label_of c) ≡ false → IsOnce r → IsOnce (with_command r section c)
once_command r None c last free h = h
once_command r (Some w) c last free h =
    let before : List AgentWork = sections_of r.blocks ++ r.works in
    let was : total r ≡ before ++ w ∷ [] = ap (λ s. sections_of r.blocks ++ (r.works ++ option_to_list s)) last ∙ sym (append_assoc (sections_of r.blocks) r.works (w ∷ [])) in
    let now : sections_of r.blocks ++ (r.works ++ longer w c ∷ []) ≡ before ++ longer w c ∷ [] = sym (append_assoc (sections_of r.blocks) r.works (longer w c ∷ [])) in
    let labels : r.labels ≡ bound_in [] (before ++ w ∷ []) = h.bound ∙ ap (bound_in []) was in
    record {
      once = ap (sections_bind_once []) now
          ∙ grows_once before w c (ap (sections_bind_once []) (sym was) ∙ h.once) (ap (λ b. is_bound b w.agent.0 (label_of c)) (sym labels) ∙ free);
      bound = ap (λ b. with_label b w.agent.0 (label_of c)) labels ∙ sym (grows_bound before w c) ∙ ap (bound_in []) (sym now);
      over = λ shut. none_there w (sym ((h.over shut).1) ∙ last);
    }

once_with : (r : Reading) (line : Line) → IsOnce r → is_misplaced r line ≡ false → binds_again r line ≡ false → IsOnce (with_line r line)
unfolding with_line
once_with r (Machine n) h stands free = record { once = h.once; bound = h.bound; over = h.over }
once_with r (Scratch area) h stands free = record { once = h.once; bound = h.bound; over = h.over }
once_with r (Fail fail) h stands free = record { once = h.once; bound = h.bound; over = h.over }
once_with r Round h stands free = once_round r h
once_with r (Agent name) h stands free = once_agent r name h stands
once_with r (Kexec blob) h stands free = once_kexec r (block.Kexec blob) refl h
once_with r (Act command) h stands free = once_command r r.section command refl free h

third_test : (a b c : Bool) (p q s : Reason) (rest : Result Reading Reason) (y : Reading) → cond a (Err p) (cond b (Err q) (cond c (Err s) rest)) ≡ Ok y → c ≡ false
third_test a b c p q s rest y h =
    let place = pick a p (cond b (Err q) (cond c (Err s) rest)) y h in
    let shape = pick b q (cond c (Err s) rest) y place.1 in
    (pick c s rest y shape.1).0

label_free : (r next : Reading) (l : Line) → placed r l ≡ Ok next → binds_again r l ≡ false
unfolding placed
label_free r next l taken = third_test (is_misplaced r l) (breaks_shape r l) (binds_again r l) reason.Place reason.Shape reason.Label _ next taken

once_line : (r next : Reading) (ws : List (List ℕ)) (l : Line) → IsOnce r → line_of_words ws ≡ Ok l → placed r l ≡ Ok next → IsOnce next
once_line r next ws l h spelled taken =
    let parts : IsTaken r next l = taken_is r next l taken in
    subst IsOnce parts.becomes (once_with r l h parts.stands (label_free r next l taken))

once_end : (r : Reading) (script : Script) → IsOnce r → finished r ≡ Ok script → IsTrue (binds_once script)
unfolding finished
once_end r script h read =
    let rest = pick _ _ _ _ read in
    let built : Script = record { shape = r.shape; fails = r.fails; agents = r.agents; blocks = blocks_so_far r } in
    let same : built ≡ script = ok_is built script rest.1 in
    subst (λ (s : Script). IsTrue (binds_once s)) same (ap (sections_bind_once []) (over_is r.open_round r.blocks r.works r.section h.over) ∙ h.once)

once_nothing : (fresh : Bool) → IsOnce (nothing_read fresh)
once_nothing fresh = record { once = refl; bound = refl; over = λ _. (refl, refl) }

pub read_binds_once : ReadBindsOnce
unfolding outcome_of
read_binds_once fresh bytes script read =
    let end = keeps_all IsOnce once_line 1 (nothing_read fresh) _ script (once_nothing fresh) (ok_of _ script read) in
    once_end end.0 script (end.1).0 (end.1).1
