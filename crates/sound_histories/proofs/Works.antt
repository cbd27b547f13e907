-- Commands that one agent does alone keep a world sound.
use Rattle.std.proofs.Common.{◌≡◌, ℕ, Bool, true, false, cond, ◌==◌, List, [], ◌∷◌, ◌++◌, drop, zero, suc, refl, sym, ap, subst}
use Rattle.std.specs.Prelude.{Option, Some, slice_get}
use Rattle.std.proofs.lemmas.Bool.{eq-eqb}
use Rattle.std.proofs.lemmas.List.{append-nil}
use Rattle.ho_events.specs.History.{on}
use Rattle.ho_events.specs.declared.command.Command.{Command}
use Rattle.ho_events.specs.declared.entry.Entry.{Entry}
use Rattle.ho_events.specs.declared.slip.At.{At}
use Rattle.ho_world.specs.Acts.{Sequence}
use Rattle.ho_world.specs.Logs.{began, grown, labels_after}
use Rattle.ho_world.specs.Sequences.{Labels, Outcome, command_acts}
use Rattle.ho_world.specs.World.{State, World}
use Rattle.ho_world.proofs.Went.{Went, went}
use Rattle.balance_laws.specs.Acted.{Acted}
use Rattle.balance_laws.specs.Keeps.{MayCome, relabeled}
use Rattle.balance_laws.specs.Sound.{Sound}
use Rattle.balance_laws.proofs.Base.{same_value, not_some}
use Rattle.balance_laws.proofs.EachCommand.{each_keeps}
use Rattle.balance_laws.proofs.Steps.{relabel_same}
use Rattle.sound_histories.specs.Kept.{AllMayCome, WorkKeeps}
use Rattle.sound_histories.specs.Worlds.{world_on, BeganIn, AreRuns}
use Rattle.sound_histories.proofs.Chains.{entries_are_acts, runs_front}

-- histories with no entry after them
pub grown_none : (f : ℕ → List Entry) → grown f [] ≡ f
unfolding on
grown_none f = λ i o. append-nil (f o) i

-- an item of a list is the first one of those from its place on
first_from : {T : Type 0} (xs : List T) (m : ℕ) (x : T) → slice_get xs m ≡ Some x → drop m xs ≡ x ∷ drop (suc m) xs
first_from [] m x is = absurd (not_some x is)
first_from (y ∷ ys) zero x is = ap (λ z. z ∷ ys) (same_value y x is)
first_from (y ∷ ys) (suc m) x is = first_from ys m x is

-- the labels of an agent that were put there;  labels that are put twice
pub own_labels : (labels : ℕ → Labels) (a : ℕ) (l : Labels) → relabeled labels a l a ≡ l
own_labels labels a l = ap (λ b. cond b l (labels a)) (eq-eqb a a refl)

pub relabeled_twice : (labels : ℕ → Labels) (a : ℕ) (l k : Labels) → relabeled (relabeled labels a l) a k ≡ relabeled labels a k
relabeled_twice labels a l k = λ i b. again (b == a) (labels b) i
  where
    again : (t : Bool) (x : Labels) → cond t k (cond t l x) ≡ cond t k x
    again true x = refl
    again false x = refl

-- a command of an agent that has these labels
command_keeps : (begun : ℕ → State) (own : ℕ → Labels) (a : ℕ) (x v : World) (c : Command) (outcome : Outcome) (s : Sequence) (l : Labels) → own a ≡ l → Sound x own → MayCome l c
    → command_acts l c outcome ≡ Some s → Acted begun x s.acts v → Sound v (relabeled own a (labels_after l c s))
command_keeps begun own a x v c outcome s l is sound may one acted =
    subst (λ k. MayCome k c → command_acts k c outcome ≡ Some s → Sound v (relabeled own a (labels_after k c s))) is
    (λ may one. each_keeps own a c may begun x v outcome s sound one acted) may one

-- what holds after some commands
record Kept (w : World) (f : ℕ → List Entry) (labels : ℕ → Labels) (a : ℕ) (later : Labels) (es : List Entry) (rest : List Command) : Type 0 where
  sound : Sound (world_on w (grown f es)) (relabeled labels a later)
  may : AllMayCome later rest

module _ (w : World) (begun : ℕ → Option State) (began_in : BeganIn w begun) (f : ℕ → List Entry) (labels : ℕ → Labels) (a : ℕ) (commands : List Command) (first : At)
    (sound : Sound (world_on w f) labels) (may : AllMayCome (labels a) commands) where
  none_done : Kept w f labels a (labels a) [] commands
  none_done = record {
    sound = subst (λ l. Sound (world_on w (grown f [])) l) (sym (relabel_same labels a)) (subst (λ g. Sound (world_on w g) labels) (sym (grown_none f)) sound);
    may = may;
  }

  one_more : (before later : Labels) (front chunk es : List Entry) (c : Command) (outcome : Outcome) (s : Sequence) (rest : List Command) → Kept w f labels a before front (c ∷ rest)
      → command_acts before c outcome ≡ Some s → Acted (began begun) (world_on w (grown f front)) s.acts (world_on w (grown f (front ++ chunk)))
      → es ≡ front ++ chunk → later ≡ labels_after before c s → Kept w f labels a later es rest
  unfolding AllMayCome
  one_more before later front chunk es c outcome s rest old one acted parts now =
      let done : Kept w f labels a (labels_after before c s) (front ++ chunk) rest = record {
        sound =
            subst (λ l. Sound (world_on w (grown f (front ++ chunk))) l) (relabeled_twice labels a before (labels_after before c s))
            (command_keeps (began begun) (relabeled labels a before) a _ _ c outcome s before (own_labels labels a before) old.sound old.may.0 one acted);
        may = old.may.1 outcome s one;
      } in
      subst (λ l. Kept w f labels a l es rest) (sym now) (subst (λ xs. Kept w f labels a (labels_after before c s) xs rest) (sym parts) done)

  kept : (m : ℕ) (later : Labels) (es : List Entry) (at : At) → AreRuns w (grown f es) → Went begun f commands (labels a) first m later es at → Kept w f labels a later es (drop m commands)
  unfolding Went
  kept zero later es at runs h = subst (λ l. Kept w f labels a l es commands) (sym h.0) (subst (λ xs. Kept w f labels a (labels a) xs commands) (sym h.1) none_done)
  kept (suc m) later es at runs h =
      let all : AreRuns w (grown f (h.front ++ h.chunk)) = subst (λ xs. AreRuns w (grown f xs)) h.parts runs in
      let old : Kept w f labels a h.labels_before h.front (drop m commands) = kept m h.labels_before h.front h.at_before (runs_front w begun began_in f h.front h.chunk all) h.before in
      one_more h.labels_before later h.front h.chunk es h.command h.outcome h.acts (drop (suc m) commands)
      (subst (λ cs. Kept w f labels a h.labels_before h.front cs) (first_from commands m h.command h.command_is) old) h.is_one
      (entries_are_acts w begun f h.at_before h.at_before.last at.last h.acts h.front h.chunk began_in all h.done) h.parts h.labels_are

pub work_keeps : WorkKeeps
work_keeps w begun f labels a commands first last m later new began_in runs sound may done =
    (kept w begun began_in f labels a commands first sound may m later new last runs (went begun f commands (labels a) first m later new last done)).sound
