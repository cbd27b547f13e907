-- What a finished run over a host in memory shows of its script and its output.
use Rattle.std.proofs.Common.{◌≡◌, ◌∷◌, [], List, ℕ, Bool, true, false, nat_eq, IsTrue, codes, refl, sym, subst, ap, ◌∙◌}
use Rattle.std.specs.Prelude.{Option, None, Some, unwrap_or}
use Rattle.std.specs.Cmp.Lexicographic.{pointwise, told_text}
use Rattle.ho_io.specs.Memory.{held_by}
use Rattle.ho_io.specs.Told.{behind}
use Rattle.ho_events.specs.Text.{text_of}
use Rattle.command_words.specs.Reading.{after, with_any, rest_after, with_name}
use Rattle.command_words.specs.Requests.{asked_by}
use Rattle.handover_cli.specs.Images.{Seen}
use Rattle.handover_cli.specs.Words.{RunWords, run_asked, run_words}
use Rattle.handover_cli.specs.Run.{WritesLegal, RanLegally, origin_of, with_opened, with_all_opened}
use Rattle.handover_cli.specs.Shown.{IsHistoryOf}

abbrev the_words : List (List ℕ)
the_words = codes "run" ∷ codes "s" ∷ []

-- what the words ask for
abbrev the_script : RunWords
the_script = run_asked (codes "s") None None

words_fit : run_words the_words ≡ Some the_script
unfolding after with_any rest_after with_name asked_by
words_fit = refl

pub shown : (script text : List ℕ) (words : List (List ℕ)) (holds : List ℕ → Option (List ℕ)) (before now : Seen) → words ≡ the_words → holds (codes "s") ≡ Some script → before.out ≡ Some [] → now.out ≡ Some text → RanLegally words holds before now → IsHistoryOf script text
unfolding behind
shown script text words holds before now words_are held empty is ran =
    let asked_is : Some ran.asked ≡ Some the_script = sym ran.fits ∙ ap run_words words_are ∙ words_fit in
    let same : ran.asked ≡ the_script = ap (λ (o : Option RunWords). unwrap_or o the_script) asked_is in
    let wrote : WritesLegal None (holds (codes "s")) None (with_opened before (codes "s")) now =
    subst (λ (a : RunWords). WritesLegal (origin_of holds a) (holds a.script) a.images (with_all_opened before a) now) same ran.wrote
    in
    let of : WritesLegal None (Some script) None (with_opened before (codes "s")) now = subst (λ told. WritesLegal None told None (with_opened before (codes "s")) now) held wrote in
    record {
      script = of.script;
      read = of.read;
      holds = record {
        start = of.holds.start;
        begins = of.holds.begins;
        holds = record {
          entries = of.holds.holds.entries;
          legal = of.holds.holds.legal;
          is = ap (λ (o : Option (List ℕ)). unwrap_or o []) (sym is ∙ of.holds.holds.written ∙ ap (λ o. behind o (text_of of.holds.holds.entries)) empty);
        };
      };
    }

-- what was written is the expected text
same_as : (xs ys : List ℕ) (r : Bool) → r ≡ pointwise nat_eq xs ys → IsTrue r → xs ≡ ys
same_as xs ys true is has = told_text xs ys true is
same_as xs ys false is has = absurd cc

pub shown_if : (script text history : List ℕ) (words : List (List ℕ)) (held : List (List ℕ × List ℕ)) (before now : Seen) (r : Bool) → words ≡ the_words → held ≡ (codes "s", script) ∷ [] → before.out ≡ Some [] → now.out ≡ Some text
    → RanLegally words (λ name. held_by name held) before now → r ≡ pointwise nat_eq text history → IsTrue r → IsHistoryOf script history
unfolding held_by
shown_if script text history words held before now r words_are held_is empty is ran same has =
    subst (λ t. IsHistoryOf script t) (same_as text history r same has)
    (shown script text words (λ name. held_by name ((codes "s", script) ∷ [])) before now words_are refl empty is
    (subst (λ h. RanLegally words (λ name. held_by name h) before now) held_is ran))
