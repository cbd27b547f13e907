-- What an agent that works alone did, as parts of the list of entries: one part a command, each after those before it.
use Rattle.std.proofs.Common.{◌≡◌, ℕ, ◌+◌, List, [], ◌∷◌, ◌++◌, refl, sym, ap, subst, ◌∙◌, get_or, append_assoc, zero, suc}
use Rattle.std.specs.Prelude.{Option, Some, slice_get}
use Rattle.std.proofs.lemmas.List.{append-nil}
use Rattle.ho_events.specs.declared.command.Command.{Command}
use Rattle.ho_events.specs.declared.entry.Entry.{Entry}
use Rattle.ho_events.specs.declared.slip.At.{At}
use Rattle.ho_world.specs.World.{State}
use Rattle.ho_world.specs.Acts.{Sequence}
use Rattle.ho_world.specs.Sequences.{Labels, Outcome, command_acts}
use Rattle.ho_world.specs.Logs.{Paired, AreDone, deeds_of, labels_after, HasDone, before_at, known_all, paired_on}

-- one command more: its entries are `chunk`, after those before it
pub record WentOn (Earlier : Labels → List Entry → At → Type 0) (begun : ℕ → Option State) (f : ℕ → List Entry) (c : Option Command) (labels : Labels) (es : List Entry) (at : At) : Type 0 where
  pub labels_before : Labels
  pub front : List Entry
  pub at_before : At
  pub before : Earlier labels_before front at_before
  pub command : Command
  pub command_is : c ≡ Some command
  pub outcome : Outcome
  pub acts : Sequence
  pub is_one : command_acts labels_before command outcome ≡ Some acts
  pub chunk : List Entry
  pub parts : es ≡ front ++ chunk
  pub done : AreDone begun at_before at_before.last (deeds_of acts) (paired_on begun f front chunk) at.last
  pub at_is : at ≡ record at_before { command = at_before.command + 1; last = at.last }
  pub labels_are : labels ≡ labels_after labels_before command acts

unfoldable pub Went : (ℕ → Option State) → (ℕ → List Entry) → List Command → Labels → At → ℕ → Labels → List Entry → At → Type 0
Went begun f commands labels_first first zero labels es at = (labels ≡ labels_first) × (es ≡ []) × (at ≡ first)
Went begun f commands labels_first first (suc m) labels es at =
    WentOn (Went begun f commands labels_first first m) begun f (slice_get commands m) labels es at

-- paired entries that fall into two parts are those of two parts
record Split (begun : ℕ → Option State) (f : ℕ → List Entry) (seen es : List Entry) (ps qs : List Paired) : Type 0 where
  xs : List Entry
  ys : List Entry
  parts : es ≡ xs ++ ys
  first : ps ≡ paired_on begun f seen xs
  rest : qs ≡ paired_on begun f (seen ++ xs) ys

first_same : (x y : Paired) (xs ys : List Paired) → x ∷ xs ≡ y ∷ ys → x ≡ y
first_same x y xs ys e = ap (λ zs. get_or zs 0 x) e

rest_same : (x y : Paired) (xs ys : List Paired) → x ∷ xs ≡ y ∷ ys → xs ≡ ys
rest_same x y xs ys e = ap tail e
  where
    tail : List Paired → List Paired
    tail [] = []
    tail (z ∷ zs) = zs

module _ (begun : ℕ → Option State) (f : ℕ → List Entry) where
  abbrev pair : List Entry → Entry → Paired
  pair seen e = record { before = before_at f seen e.object; known = known_all begun f seen; entry = e }

  split : (seen es : List Entry) (ps qs : List Paired) → paired_on begun f seen es ≡ ps ++ qs → Split begun f seen es ps qs
  unfolding paired_on
  split seen es [] qs is = record {
    xs = [];
    ys = es;
    parts = refl;
    first = refl;
    rest = sym is ∙ ap (λ s. paired_on begun f s es) (sym (append-nil seen));
  }
  split seen [] (p ∷ ps) qs is = absurd cc
  split seen (e ∷ es) (p ∷ ps) qs is =
      let more : Split begun f (seen ++ e ∷ []) es ps qs = split (seen ++ e ∷ []) es ps qs (rest_same (pair seen e) p (paired_on begun f (seen ++ e ∷ []) es) (ps ++ qs) is) in
      record {
        xs = e ∷ more.xs;
        ys = more.ys;
        parts = ap (λ zs. e ∷ zs) more.parts;
        first = ap (λ q. q ∷ ps) (sym (first_same (pair seen e) p (paired_on begun f (seen ++ e ∷ []) es) (ps ++ qs) is)) ∙ ap (λ zs. pair seen e ∷ zs) more.first;
        rest = more.rest ∙ ap (λ s. paired_on begun f s more.ys) (append_assoc seen (e ∷ []) more.xs);
      }

  none_paired : (es : List Entry) → paired_on begun f [] es ≡ [] → es ≡ []
  unfolding paired_on
  none_paired [] is = refl
  none_paired (e ∷ es) is = absurd cc

  pub went : (commands : List Command) (labels_first : Labels) (first : At) (m : ℕ) (labels : Labels) (es : List Entry) (at : At)
      → HasDone begun commands labels_first first m labels (paired_on begun f [] es) at → Went begun f commands labels_first first m labels es at
  unfolding HasDone Went
  went commands labels_first first zero labels es at h = (h.0, none_paired es h.1, h.2)
  went commands labels_first first (suc m) labels es at h =
      let s : Split begun f [] es h.earlier h.made = split [] es h.earlier h.made h.log_is in
      record {
        labels_before = h.labels_before;
        front = s.xs;
        at_before = h.at_before;
        before = went commands labels_first first m h.labels_before s.xs h.at_before (subst (λ ps. HasDone begun commands labels_first first m h.labels_before ps h.at_before) s.first h.before);
        command = h.command;
        command_is = h.command_is;
        outcome = h.outcome;
        acts = h.acts;
        is_one = h.is_one;
        chunk = s.ys;
        parts = s.parts;
        done = subst (λ ps. AreDone begun h.at_before h.at_before.last (deeds_of h.acts) ps at.last) s.rest h.done;
        at_is = h.at_is;
        labels_are = h.labels_are;
      }
