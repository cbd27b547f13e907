-- What it takes for a line to be taken, and what all taken lines keep.
use Rattle.std.proofs.Common.{◌≡◌, ℕ, ◌+◌, Bool, true, false, cond, List, [], ◌∷◌, refl, subst, ap, Some, Result, Ok, Err}
use Rattle.std.specs.Result.{result_ok}
use Rattle.ho_events.specs.Script.{Refusal, placed, is_misplaced, breaks_shape, binds_again, passes_limit, after_line, finished, ended, or_refusal, script_from}
use Rattle.ho_events.specs.Script.Forms.{◌>>=◌}
use Rattle.ho_events.specs.Script.Lines.{line_of_words}
use Rattle.ho_events.specs.Script.SoFar.{Reading, with_line}
use Rattle.ho_events.specs.Script.Unbuilt.{is_unbuilt}
use Rattle.ho_events.specs.Script.Words.{words}
use Rattle.ho_events.specs.declared.line.Line.{Line}
use Rattle.ho_events.specs.declared.line.Reason.{Reason}
use Rattle.ho_events.specs.declared.line.Reason.TheVariants as reason
use Rattle.ho_events.specs.declared.script.Script.{Script}

pub ok_is : {A E : Type 0} (a b : A) → ◌≡◌ {A = Result A E} (Ok a) (Ok b) → a ≡ b
ok_is a b same = cc

pub ok_of : (m : Result Script Refusal) (script : Script) → result_ok m ≡ Some script → m ≡ Ok script
ok_of (Ok s) script h = let same : s ≡ script = cc in ap Ok same
ok_of (Err e) script h = absurd (cc)

ended_ok : (n : ℕ) (m : Result Script Reason) (script : Script) → ended n m ≡ Ok script → m ≡ Ok script
ended_ok n (Ok s) script h = let same : s ≡ script = ok_is s script h in ap Ok same
ended_ok n (Err why) script h = absurd (cc)

-- no test applies where a line is taken
pub pick : {A : Type 0} (b : Bool) (why : Reason) (rest : Result A Reason) (y : A) → cond b (Err why) rest ≡ Ok y → (b ≡ false) × (rest ≡ Ok y)
pick true why rest y h = absurd (cc)
pick false why rest y h = (refl, h)

pub record IsTaken (r next : Reading) (l : Line) : Type 0 where
  pub stands : is_misplaced r l ≡ false
  pub fits : passes_limit r l ≡ false
  pub built : is_unbuilt r l ≡ false
  pub becomes : with_line r l ≡ next

none_applies : (a b c d e : Bool) (p q s t u : Reason) (x y : Reading)
    → cond a (Err p) (cond b (Err q) (cond c (Err s) (cond d (Err t) (cond e (Err u) (Ok x))))) ≡ Ok y
    → (a ≡ false) × (d ≡ false) × (e ≡ false) × (x ≡ y)
none_applies a b c d e p q s t u x y h =
    let place = pick a p (cond b (Err q) (cond c (Err s) (cond d (Err t) (cond e (Err u) (Ok x))))) y h in
    let shape = pick b q (cond c (Err s) (cond d (Err t) (cond e (Err u) (Ok x)))) y place.1 in
    let label = pick c s (cond d (Err t) (cond e (Err u) (Ok x))) y shape.1 in
    let limit = pick d t (cond e (Err u) (Ok x)) y label.1 in
    let later = pick e u (Ok x) y limit.1 in
    (place.0, limit.0, later.0, ok_is x y later.1)

pub taken_is : (r next : Reading) (l : Line) → placed r l ≡ Ok next → IsTaken r next l
unfolding placed
taken_is r next l taken =
    let none = none_applies (is_misplaced r l) (breaks_shape r l) (binds_again r l) (passes_limit r l) (is_unbuilt r l)
    reason.Place reason.Shape reason.Label reason.Limit reason.Later (with_line r l) next taken in
    record { stands = none.0; fits = none.1; built = none.2; becomes = none.3 }

module _ (I : Reading → Type 0)
    (step : (r next : Reading) (ws : List (List ℕ)) (l : Line) → I r → line_of_words ws ≡ Ok l → placed r l ≡ Ok next → I next) where
  keeps_bound : (r next : Reading) (ws : List (List ℕ)) (m : Result Line Reason) → line_of_words ws ≡ m → I r → (m >>= λ l. placed r l) ≡ Ok next → I next
  keeps_bound r next ws (Ok l) is h taken = step r next ws l h is taken
  keeps_bound r next ws (Err why) is h taken = absurd (cc)

  keeps_chosen : (b : Bool) (r next : Reading) (ws : List (List ℕ)) → I r → cond b (Ok r) (line_of_words ws >>= λ l. placed r l) ≡ Ok next → I next
  keeps_chosen true r next ws h taken = let same : r ≡ next = ok_is r next taken in subst I same h
  keeps_chosen false r next ws h taken = keeps_bound r next ws (line_of_words ws) refl h taken

  keeps_after : (r next : Reading) (bytes : List ℕ) → I r → after_line r bytes ≡ Ok next → I next
  unfolding after_line
  keeps_after r next bytes h taken = let rest = pick _ _ _ _ taken in keeps_chosen _ r next (words bytes) h rest.1

  -- what each line that is taken keeps holds after the last one
  pub keeps_all : (n : ℕ) (r : Reading) (more : List (List ℕ)) (script : Script) → I r → script_from n r more ≡ Ok script
      → (end : Reading) × (I end × (finished end ≡ Ok script))
  unfolding script_from
  keeps_all n r [] script h read = (r, (h, ended_ok n (finished r) script read))
  keeps_all n r (l ∷ more) script h read =
      (elim (after_line r l) as (λ m. after_line r l ≡ m → or_refusal n m (λ next. script_from (n + 1) next more) ≡ Ok script → (end : Reading) × (I end × (finished end ≡ Ok script))) [
        | Ok next ↦ λ taken told. keeps_all (n + 1) next more script (keeps_after r next l h taken) told
        | Err why ↦ λ taken told. absurd (cc)
      ]) refl read
