-- The entries of each command of an agent that works alone, among all that it did.
use Rattle.std.proofs.Common.{◌≡◌, ℕ, ◌+◌, ◌<◌, Bool, true, false, not, ◌&&◌, ◌==◌, nat_lt, nat_le, List, [], ◌++◌, filter, refl, sym, ap, subst, ◌∙◌, arith, IsTrue, append_assoc, zero, suc}
use Rattle.std.specs.Prelude.{Option, Some, slice_get}
use Rattle.std.specs.List.{list_all}
use Rattle.std.proofs.lemmas.Bool.Decides.{nat_tests}
use Rattle.std.proofs.lemmas.List.{append-nil}
use Rattle.ho_events.specs.declared.command.Command.{Command}
use Rattle.ho_events.specs.declared.entry.Entry.{Entry}
use Rattle.ho_events.specs.declared.slip.At.{At}
use Rattle.ho_world.specs.World.{State}
use Rattle.ho_world.specs.Acts.{Sequence}
use Rattle.ho_world.specs.Entries.{is_of, Line, lines, lines_from, lines_of}
use Rattle.ho_world.specs.Sequences.{Labels, Outcome, command_acts}
use Rattle.ho_world.specs.Logs.{AreDone, deeds_of, paired_on}
use Rattle.ho_world.proofs.AloneActs.{all_pass}
use Rattle.ho_world.proofs.AloneStamps.{is_of_at, is_mine, IsNextAt, chunk_of, went_at, went_mine}
use Rattle.ho_world.proofs.Fronts.{and_right, all_append, all_follow, filter_front, filter_parts, all_line, lines_parts}
use Rattle.ho_world.proofs.Went.{Went}

-- of a command after number n
abbrev pub is_later : ℕ → Entry → Bool
is_later n e = nat_lt n e.command

-- the entries of command i, with those before and after it
pub record Chunk (begun : ℕ → Option State) (f : ℕ → List Entry) (commands : List Command) (labels_first : Labels) (first : At) (es : List Entry) (i : ℕ) : Type 0 where
  pub labels : Labels
  pub front : List Entry
  pub at : At
  pub before : Went begun f commands labels_first first i labels front at
  pub command : Command
  pub command_is : slice_get commands i ≡ Some command
  pub outcome : Outcome
  pub acts : Sequence
  pub is_one : command_acts labels command outcome ≡ Some acts
  pub chunk : List Entry
  pub last : ℕ
  pub done : AreDone begun at at.last (deeds_of acts) (paired_on begun f front chunk) last
  pub back : List Entry
  pub parts : es ≡ front ++ (chunk ++ back)
  pub later : IsTrue (list_all (is_later (first.command + i)) back)

module _ (begun : ℕ → Option State) (f : ℕ → List Entry) (commands : List Command) (labels_first : Labels) (first : At) where
  pub went_chunk : (m i : ℕ) → i < m → (labels : Labels) (es : List Entry) (at : At) → Went begun f commands labels_first first m labels es at → Chunk begun f commands labels_first first es i
  unfolding Went
  went_chunk zero i less labels es at h = absurd (omega (arith, less))
  went_chunk (suc m) i less labels es at h = by_order (λ l. went_chunk m i l h.labels_before h.front h.at_before h.before) (nat_lt i m) refl
    where
      is_less : (x y : ℕ) → nat_lt x y ≡ true → x < y
      is_less x y h = grind (arith, nat_tests)

      is_same : (x y : ℕ) → nat_lt x y ≡ false → x < suc y → y ≡ x
      is_same x y h g = grind (arith, nat_tests)

      above : (q : At) (e : Entry) → q.command ≡ first.command + m → i < m → IsTrue (is_of_at q e) → IsTrue (nat_lt (first.command + i) e.command)
      above q e is l own = up e.command q.command first.command is (and_right (e.kernel == q.kernel && e.agent.0 == q.agent.0) _ own)
        where
          up : (c n g : ℕ) → n ≡ g + m → IsTrue (c == n) → IsTrue (nat_lt (g + i) c)
          up c n g is own = grind (arith, nat_tests)

      by_order : (i < m → Chunk begun f commands labels_first first h.front i) → (t : Bool) → nat_lt i m ≡ t → Chunk begun f commands labels_first first es i
      by_order more true t =
          let c : Chunk begun f commands labels_first first h.front i = more (is_less i m t) in
          let before : IsNextAt first m h.at_before = went_at begun f commands labels_first first m h.labels_before h.front h.at_before h.before in
          record {
            labels = c.labels;
            front = c.front;
            at = c.at;
            before = c.before;
            command = c.command;
            command_is = c.command_is;
            outcome = c.outcome;
            acts = c.acts;
            is_one = c.is_one;
            chunk = c.chunk;
            last = c.last;
            done = c.done;
            back = c.back ++ h.chunk;
            parts = h.parts ∙ ap (λ xs. xs ++ h.chunk) c.parts ∙ append_assoc c.front (c.chunk ++ c.back) h.chunk ∙ ap (λ xs. c.front ++ xs) (append_assoc c.chunk c.back h.chunk);
            later = all_append (is_later (first.command + i)) c.back h.chunk c.later
                (all_follow (is_of_at h.at_before) (is_later (first.command + i)) h.chunk (λ e own. above h.at_before e before.command (is_less i m t) own)
                (chunk_of begun f h.at_before h.at_before.last (deeds_of h.acts) h.front h.chunk at.last h.done));
          }
      by_order more false t =
          let same : m ≡ i = is_same i m t less in
          subst (Chunk begun f commands labels_first first es) same (record {
            labels = h.labels_before;
            front = h.front;
            at = h.at_before;
            before = h.before;
            command = h.command;
            command_is = h.command_is;
            outcome = h.outcome;
            acts = h.acts;
            is_one = h.is_one;
            chunk = h.chunk;
            last = at.last;
            done = h.done;
            back = [];
            parts = h.parts ∙ ap (λ xs. h.front ++ xs) (sym (append-nil h.chunk));
            later = refl;
          })

  module _ (new : List Entry) (i : ℕ) (c : Chunk begun f commands labels_first first new i) where
    pub chunk_at : IsNextAt first i c.at
    chunk_at = went_at begun f commands labels_first first i c.labels c.front c.at c.before

    pub chunk_own : IsTrue (list_all (is_of_at c.at) c.chunk)
    chunk_own = chunk_of begun f c.at c.at.last (deeds_of c.acts) c.front c.chunk c.last c.done

    pub front_mine : IsTrue (list_all (is_mine first i) c.front)
    front_mine = went_mine begun f commands labels_first first i c.labels c.front c.at c.before

    -- the lines of the command, after entries that are none of its own
    pub told : (es : List Entry) (a n : ℕ) → a ≡ first.agent.0 → n ≡ first.command + i → IsTrue (list_all (λ e. not (is_of a n e)) es) → lines_of a n (lines (es ++ new)) ≡ lines_from (es ++ c.front) c.chunk
    unfolding lines_of
    told es a n agent number none =
        ap (λ xs. filter own (lines (es ++ xs))) c.parts
        ∙ ap (filter own) (lines_parts [] es (c.front ++ (c.chunk ++ c.back)) ∙ ap (λ ls. lines es ++ ls) (lines_parts es c.front (c.chunk ++ c.back) ∙ ap (λ ls. lines_from es c.front ++ ls) (lines_parts (es ++ c.front) c.chunk c.back)))
        ∙ filter_parts own (lines es) (lines_from es c.front ++ (lines_from (es ++ c.front) c.chunk ++ lines_from ((es ++ c.front) ++ c.chunk) c.back))
        ∙ ap (λ ls. ls ++ filter own (lines_from es c.front ++ (lines_from (es ++ c.front) c.chunk ++ lines_from ((es ++ c.front) ++ c.chunk) c.back))) (no_line [] es none)
        ∙ filter_parts own (lines_from es c.front) (lines_from (es ++ c.front) c.chunk ++ lines_from ((es ++ c.front) ++ c.chunk) c.back)
        ∙ ap (λ ls. ls ++ filter own (lines_from (es ++ c.front) c.chunk ++ lines_from ((es ++ c.front) ++ c.chunk) c.back))
        (no_line es c.front (all_follow (is_mine first i) (λ e. not (is_of a n e)) c.front (λ e h. not_yet e h) front_mine))
        ∙ filter_front own (lines_from (es ++ c.front) c.chunk) (lines_from ((es ++ c.front) ++ c.chunk) c.back)
        (all_line (λ e. not (is_of a n e)) ((es ++ c.front) ++ c.chunk) c.back ∙ all_follow (is_later (first.command + i)) (λ e. not (is_of a n e)) c.back (λ e h. no_more e h) c.later)
        ∙ all_pass own (lines_from (es ++ c.front) c.chunk) (all_line (is_of a n) (es ++ c.front) c.chunk ∙ all_follow (is_of_at c.at) (is_of a n) c.chunk (λ e h. its_own e h) chunk_own)
      where
        own : Line → Bool
        own l = is_of a n l.entry

        no_line : (seen xs : List Entry) → IsTrue (list_all (λ e. not (is_of a n e)) xs) → filter own (lines_from seen xs) ≡ []
        no_line seen xs h = filter_front own [] (lines_from seen xs) (all_line (λ e. not (is_of a n e)) seen xs ∙ h)

        not_yet : (e : Entry) → IsTrue (is_mine first i e) → IsTrue (not (is_of a n e))
        not_yet e h = test (e.agent.0 == a) e.command n first.command number (and_right (e.kernel == first.kernel && e.agent.0 == first.agent.0) _ h)
          where
            test : (t : Bool) (m n g : ℕ) → n ≡ g + i → IsTrue (nat_le g m && nat_lt m (g + i)) → IsTrue (not (t && m == n))
            test false m n g is h = refl
            test true m n g is h = grind (arith, nat_tests)

        no_more : (e : Entry) → IsTrue (is_later (first.command + i) e) → IsTrue (not (is_of a n e))
        no_more e h = test (e.agent.0 == a) e.command n first.command number h
          where
            test : (t : Bool) (m n g : ℕ) → n ≡ g + i → IsTrue (nat_lt (g + i) m) → IsTrue (not (t && m == n))
            test false m n g is h = refl
            test true m n g is h = grind (arith, nat_tests)

        its_own : (e : Entry) → IsTrue (is_of_at c.at e) → IsTrue (is_of a n e)
        its_own e h =
            test e.kernel c.at.kernel e.agent.0 c.at.agent.0 first.agent.0 a e.command c.at.command (first.command + i) n chunk_at.agent agent chunk_at.command number h
          where
            test : (k j x y z a m p q n : ℕ) → y ≡ z → a ≡ z → p ≡ q → n ≡ q → IsTrue (k == j && x == y && m == p) → IsTrue (x == a && m == n)
            test k j x y z a m p q n r s t u h = grind (arith, nat_tests)
