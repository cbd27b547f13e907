-- A fresh script that is read has a shape, and one that resumes an image has none.
use Rattle.std.proofs.Common.{◌≡◌, ℕ, Bool, true, false, not, ◌&&◌, ◌||◌, List, refl, ◌∙◌, Option, Some, None, is_some, is_none, Ok}
use Rattle.std.specs.Result.{result_ok}
use Rattle.ho_events.specs.Script.{placed, is_misplaced, finished, outcome_of}
use Rattle.ho_events.specs.Script.Lines.{line_of_words}
use Rattle.ho_events.specs.Script.SoFar.{Reading, blocks_so_far, with_command, with_line, nothing_read}
use Rattle.ho_events.specs.declared.command.Command.{Command}
use Rattle.ho_events.specs.declared.line.Line.{Line}
use Rattle.ho_events.specs.declared.line.Line.TheVariants.{Machine, Scratch, Fail, Round, Agent, Kexec, Command as Act}
use Rattle.ho_events.specs.declared.script.AgentWork.{AgentWork}
use Rattle.ho_events.specs.declared.script.Script.{Script}
use Rattle.script_text.proofs.Taken.{pick, ok_is, ok_of, taken_is, keeps_all}

record IsShaped (fresh : Bool) (r : Reading) : Type 0 where
  same : r.fresh ≡ fresh
  bare : fresh ≡ false → (r.frames ≡ None) × (r.shape ≡ None)

fresh_is : {P : Type 0} (a b : Bool) → (not a || b) ≡ false → a ≡ false → P
fresh_is true b stands bare = absurd (cc)
fresh_is false b stands bare = absurd (cc)

some_is : {A P : Type 0} (o : Option A) (b c d : Bool) → (is_none o || b || c || d) ≡ false → o ≡ None → P
some_is None b c d stands none = absurd (cc)
some_is (Some x) b c d stands none = absurd (cc)

shaped_command : (fresh : Bool) (r : Reading) (section : Option AgentWork) (command : Command) → IsShaped fresh r → IsShaped fresh (with_command r section command)
shaped_command fresh r None command h = h
shaped_command fresh r (Some w) command h = record { same = h.same; bare = h.bare }

shaped_with : (fresh : Bool) (r : Reading) (l : Line) → IsShaped fresh r → is_misplaced r l ≡ false → IsShaped fresh (with_line r l)
unfolding with_line
shaped_with fresh r (Machine n) h stands = record { same = h.same; bare = λ bare. fresh_is r.fresh _ stands (h.same ∙ bare) }
shaped_with fresh r (Scratch area) h stands = record { same = h.same; bare = λ bare. some_is r.frames _ _ _ stands (h.bare bare).0 }
shaped_with fresh r (Fail fail) h stands = record { same = h.same; bare = h.bare }
shaped_with fresh r Round h stands = record { same = h.same; bare = h.bare }
shaped_with fresh r (Agent name) h stands = record { same = h.same; bare = h.bare }
shaped_with fresh r (Kexec blob) h stands = record { same = h.same; bare = h.bare }
shaped_with fresh r (Act command) h stands = shaped_command fresh r r.section command h

shaped_line : (fresh : Bool) (r next : Reading) (ws : List (List ℕ)) (l : Line) → IsShaped fresh r → line_of_words ws ≡ Ok l → placed r l ≡ Ok next
    → IsShaped fresh next
shaped_line fresh r next ws l h is taken =
    let last = taken_is r next l taken in
    rw (last.becomes) at (shaped_with fresh r l h last.stands)

has_shape : {A : Type 0} (fresh was : Bool) (shape : Option A) → was ≡ fresh → (fresh ≡ false → shape ≡ None) → (was && is_none shape) ≡ false
    → is_some shape ≡ fresh
has_shape true true None same bare head = absurd (cc)
has_shape true true (Some s) same bare head = refl
has_shape true false shape same bare head = absurd (cc)
has_shape false was shape same bare head = rw (bare refl) refl

shaped_end : (fresh : Bool) (r : Reading) (script : Script) → IsShaped fresh r → finished r ≡ Ok script → is_some script.shape ≡ fresh
unfolding finished
shaped_end fresh r script h read =
    let rest = pick _ _ _ _ read in
    let built : Script = record { shape = r.shape; fails = r.fails; agents = r.agents; blocks = blocks_so_far r } in
    let same = ok_is built script rest.1 in
    rw (← same) (has_shape fresh r.fresh r.shape h.same (λ bare. (h.bare bare).1) rest.0)

pub shaped_script : (fresh : Bool) (bytes : List ℕ) (script : Script) → result_ok (outcome_of fresh bytes) ≡ Some script → is_some script.shape ≡ fresh
unfolding outcome_of
shaped_script fresh bytes script read =
    let shaped : IsShaped fresh (nothing_read fresh) = record { same = refl; bare = λ _. (refl, refl) } in
    let end = keeps_all (IsShaped fresh) (shaped_line fresh) 1 (nothing_read fresh) _ script shaped (ok_of _ script read) in
    shaped_end fresh end.0 script (end.1).0 (end.1).1
