-- How an agent's work grows by a command.
use Rattle.std.proofs.Common.{◌≡◌, ℕ, ◌+◌, ◌<◌, ◌≤◌, max, nat_le, List, [], ◌∷◌, ◌++◌, length, map, get_or, append_assoc, refl, ap, sym, ◌∙◌, subst, arith, IsTrue, zero, suc}
use Rattle.std.specs.Prelude.{Option, None, Some, slice_get}
use Rattle.std.specs.List.{list_all}
use Rattle.std.proofs.lemmas.Bool.Decides.{nat_tests}
use Rattle.std.proofs.lemmas.List.{append-nil, map-append}
use Rattle.ho_events.specs.History.{on, last_stamp}
use Rattle.ho_events.specs.declared.entry.Entry.{Entry}
use Rattle.ho_events.specs.Script.Rules.{is_built}
use Rattle.ho_events.specs.declared.command.Command.{Command}
use Rattle.ho_events.specs.declared.command.Command.TheVariants.{Open, Retrieve, Finish}
use Rattle.ho_events.specs.declared.reply.Reply.{Reply}
use Rattle.ho_events.specs.declared.slip.At.{At}
use Rattle.ho_world.specs.World.{State}
use Rattle.ho_world.specs.Logs.{Deed, Paired, AreDone, HasDone, deeds_of}
use Rattle.ho_world.specs.Sequences.{Labels}
use Rattle.ho_world.proofs.Fronts.{and_both, all_append, all_follow}
use Rattle.ho_world.proofs.Rises.{on_parts}
use Rattle.luo_incoming.specs.Done.{is_done}
use Rattle.machine_core.specs.Agents.{Agent, begun, state_in}
use Rattle.machine_core.specs.Commands.{Comes}
use Rattle.machine_core.specs.Objects.{Start}
use Rattle.machine_core.specs.Turns.{IsReady, TellsMore}
use Rattle.handover_cli.specs.Rounds.{SameAgent}

le_test : (x y : ℕ) → x ≤ y → IsTrue (nat_le x y)
le_test x y h = grind (arith, nat_tests)

le_true : (x y : ℕ) → IsTrue (nat_le x y) → x ≤ y
le_true x y h = grind (arith, nat_tests)

-- the last stamp rises with each deed
last_rises : (begun : ℕ → Option State) (at : At) (last : ℕ) (ds : List Deed) (ps : List Paired) (last' : ℕ) → AreDone begun at last ds ps last' → last ≤ last'
unfolding AreDone
last_rises begun at last [] [] last' h = omega (arith, h)
last_rises begun at last [] (p ∷ ps) last' h = absurd h
last_rises begun at last (d ∷ ds) [] last' h = absurd h
last_rises begun at last (d ∷ ds) (p ∷ ps) last' h =
    let stamp : p.entry.stamp ≡ 1 + max last (last_stamp p.before) = ap (λ e. e.stamp) h.0 in
    omega (arith, stamp, last_rises begun at p.entry.stamp ds ps last' h.4)

-- no deed is stamped after the last one
none_after : (begun : ℕ → Option State) (at : At) (last : ℕ) (ds : List Deed) (ps : List Paired) (last' : ℕ) → AreDone begun at last ds ps last' → IsTrue (list_all (λ p. nat_le p.entry.stamp last') ps)
unfolding AreDone
none_after begun at last [] [] last' h = refl
none_after begun at last [] (p ∷ ps) last' h = absurd h
none_after begun at last (d ∷ ds) [] last' h = absurd h
none_after begun at last (d ∷ ds) (p ∷ ps) last' h =
    and_both (nat_le p.entry.stamp last') _ (le_test p.entry.stamp last' (last_rises begun at p.entry.stamp ds ps last' h.4)) (none_after begun at p.entry.stamp ds ps last' h.4)

up_to : (last last' : ℕ) (ps : List Paired) → last ≤ last' → IsTrue (list_all (λ p. nat_le p.entry.stamp last) ps) → IsTrue (list_all (λ p. nat_le p.entry.stamp last') ps)
up_to last last' ps up h = all_follow (λ p. nat_le p.entry.stamp last) (λ p. nat_le p.entry.stamp last') ps (λ p t. further p.entry.stamp t) h
  where
    further : (x : ℕ) → IsTrue (nat_le x last) → IsTrue (nat_le x last')
    further x t = le_test x last' (omega (arith, up, le_true x last t))

-- where the next command begins
abbrev pub next_at : At → ℕ → At
next_at at last = record at { command = at.command + 1; last = last }

append_twice : (xs ys zs : List Paired) → (xs ++ ys) ++ zs ≡ xs ++ (ys ++ zs)
append_twice [] ys zs = refl
append_twice (x ∷ xs) ys zs = ap (λ ws. x ∷ ws) (append_twice xs ys zs)

-- the agent is ready for the next command
pub still_ready : (labels labels' : Labels) (command : Command) (reply : Reply) (at : At) (last : ℕ) (a a' : Agent)
    → IsReady at a → Comes labels labels' command reply at (record at { last = last }) a a' → IsReady (next_at at last) a'
still_ready labels labels' command reply at last a a' ready came =
    let g = came.goes in
    let up : at.last ≤ last = last_rises (begun a) at at.last (deeds_of came.sequence) g.made last g.done in
    let old : IsTrue (list_all (λ p. nat_le p.entry.stamp last) (a.earlier ++ a.log)) = up_to at.last last (a.earlier ++ a.log) up ready.last in
    let new : IsTrue (list_all (λ p. nat_le p.entry.stamp last) g.made) = none_after (begun a) at at.last (deeds_of came.sequence) g.made last g.done in
    let whole : a'.earlier ++ a'.log ≡ (a.earlier ++ a.log) ++ g.made = ap (λ es. es ++ a'.log) g.earlier ∙ ap (λ ps. a.earlier ++ ps) g.log ∙ sym (append_twice a.earlier a.log g.made) in
    record {
      agent = ready.agent ∙ sym g.number;
      kernel = ready.kernel ∙ sym (ap (λ c. c.kernel) g.anchor);
      last = subst (λ ps. IsTrue (list_all (λ p. nat_le p.entry.stamp last) ps)) (sym whole) (all_append (λ p. nat_le p.entry.stamp last) (a.earlier ++ a.log) g.made old new);
    }

pub still_same : (labels labels' : Labels) (command : Command) (reply : Reply) (at at' : At) (first a a' : Agent)
    → SameAgent first a → Comes labels labels' command reply at at' a a' → SameAgent first a'
still_same labels labels' command reply at at' first a a' same came = record {
  number = came.goes.number ∙ same.number;
  anchor = came.goes.anchor ∙ same.anchor;
  starts = came.goes.starts ∙ same.starts;
  earlier = came.goes.earlier ∙ same.earlier;
}

-- states follow from starts
pub begun_same : (a a' : Agent) → a'.starts ≡ a.starts → begun a' ≡ begun a
begun_same a a' same =
    let states : (ℕ → Option Start) → ℕ → Option State = λ s o. state_in (s o) in
    ap states same

-- what is told grows by what is done
pub tells_none : (log : List Paired) (t : Option (ℕ → List Entry)) → log ≡ [] → TellsMore log t t
unfolding on
tells_none log None none = tt
tells_none log (Some f) none = λ n. sym (append-nil (f n)) ∙ ap (λ ps. f n ++ on n (map (λ p. p.entry) ps)) (sym none)

tells_parts : (first made : List Paired) (t u v : Option (ℕ → List Entry)) → TellsMore first t u → TellsMore made u v → TellsMore (first ++ made) t v
tells_parts first made None None None h k = tt
tells_parts first made None None (Some g) h k = absurd k
tells_parts first made None (Some f) v h k = absurd h
tells_parts first made (Some f) None v h k = absurd h
tells_parts first made (Some f) (Some g) None h k = absurd k
tells_parts first made (Some f) (Some g) (Some e) h k = λ n.
    k n ∙ ap (λ es. es ++ on n (entries made)) (h n) ∙ append_assoc (f n) (on n (entries first)) (on n (entries made))
    ∙ ap (λ es. f n ++ es) (sym (on_parts n (entries first) (entries made)) ∙ ap (on n) (sym (map-append (λ (p : Paired). p.entry) first made)))
  where
    entries : List Paired → List Entry
    entries ps = map (λ p. p.entry) ps

pub still_told : (labels labels' : Labels) (command : Command) (reply : Reply) (at at' : At) (t : Option (ℕ → List Entry)) (a a' : Agent)
    → TellsMore a.log t a.told → Comes labels labels' command reply at at' a a' → TellsMore a'.log t a'.told
still_told labels labels' command reply at at' t a a' told came =
    subst (λ ps. TellsMore ps t a'.told) (sym came.goes.log) (tells_parts a.log came.goes.made t a.told a'.told told came.goes.told)

-- one more command
pub one_command : (commands : List Command) (labels_first : Labels) (at_first : At) (m : ℕ) (labels labels' : Labels) (command : Command) (reply : Reply) (at : At) (last : ℕ) (first a a' : Agent)
    → SameAgent first a → slice_get commands m ≡ Some command → HasDone (begun first) commands labels_first at_first m labels a.log at
    → Comes labels labels' command reply at (record at { last = last }) a a'
    → HasDone (begun first) commands labels_first at_first (m + 1) labels' a'.log (next_at at last)
unfolding HasDone
one_command commands labels_first at_first m labels labels' command reply at last first a a' same is before came =
    subst (λ n. HasDone (begun first) commands labels_first at_first n labels' a'.log (next_at at last)) more longer
  where
    more : suc m ≡ m + 1
    more = omega arith

    same_begun : begun a ≡ begun first
    same_begun = begun_same first a same.starts

    longer : HasDone (begun first) commands labels_first at_first (suc m) labels' a'.log (next_at at last)
    longer = record {
      labels_before = labels;
      earlier = a.log;
      at_before = at;
      before = before;
      command = command;
      command_is = is;
      outcome = came.outcome;
      acts = came.sequence;
      is_one = came.is_one;
      made = came.goes.made;
      log_is = came.goes.log;
      done = subst (λ (b : ℕ → Option State). AreDone b at at.last (deeds_of came.sequence) came.goes.made last) same_begun came.goes.done;
      at_is = refl;
      labels_are = came.labels_are;
    }

-- nothing is done yet
pub none_done : (begun : ℕ → Option State) (commands : List Command) (labels : Labels) (at : At) (log : List Paired) → log ≡ [] → HasDone begun commands labels at 0 labels log at
unfolding HasDone
none_done begun commands labels at log h = (refl, h, refl)

-- an item of a list
pub item_at : {T : Type 0} (xs : List T) (i : ℕ) (x : T) → i < length xs → x ≡ get_or xs i x → slice_get xs i ≡ Some x
item_at [] i x below is = absurd omega (arith, below)
item_at (y ∷ ys) zero x below is = ap (λ z. Some z) (sym is)
item_at (y ∷ ys) (suc i) x below is = item_at ys i x (omega (arith, below)) is

-- a built command is one that is done
pub built_is_done : (c : Command) → IsTrue (is_built c) → IsTrue (is_done c)
built_is_done (Open name) h = refl
built_is_done (Retrieve name t label) h = refl
built_is_done (Finish name) h = refl
built_is_done c h = h
