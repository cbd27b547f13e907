-- What agent 0 did of a kexec, entry by entry: the last one is the command's own end, all before it are on objects.
use Rattle.std.proofs.Common.{◌≡◌, ℕ, ◌+◌, true, not, max, List, [], ◌∷◌, ◌++◌, map, refl, sym, ap, subst, ◌∙◌, IsTrue, append_assoc}
use Rattle.std.specs.Prelude.{Option}
use Rattle.std.specs.List.{list_all}
use Rattle.std.proofs.lemmas.List.{append-nil}
use Rattle.ho_events.specs.declared.entry.Entry.{Entry}
use Rattle.ho_events.specs.declared.reply.Reply.{Reply}
use Rattle.ho_events.specs.declared.script.Block.{Block}
use Rattle.ho_events.specs.declared.slip.At.{At}
use Rattle.ho_events.specs.History.{last_stamp}
use Rattle.ho_world.specs.World.{State}
use Rattle.ho_world.specs.Acts.{Act}
use Rattle.ho_world.specs.Entries.{is_own}
use Rattle.ho_world.specs.Legal.{is_stamped}
use Rattle.ho_world.specs.Logs.{AreDone, deed_of, end_with, entry_of, before_at, paired_on}
use Rattle.ho_world.specs.Readings.{are_stamped}
use Rattle.ho_world.proofs.AloneStamps.{Stamps}
use Rattle.ho_world.proofs.Fronts.{and_both, and_left, and_right}

-- The entries of a whole sequence: those of its acts, and the one that ends the command. With another reply at the end
-- they have the same stamps.
pub record Ended (f : ℕ → List Entry) (at : At) (last : ℕ) (reply : Reply) (seen es : List Entry) (last' : ℕ) : Type 0 where
  pub front : List Entry
  pub stamp : ℕ
  pub parts : es ≡ front ++ entry_of at (end_with reply) stamp ∷ []
  pub objects : IsTrue (list_all (λ e. not (is_own e.object)) front)
  pub again : (other : Reply) → Stamps f last seen (front ++ entry_of at (end_with other) stamp ∷ []) last'

pub ended : (begun : ℕ → Option State) (f : ℕ → List Entry) (at : At) (acts : List Act) (reply : Reply) (last : ℕ) (seen es : List Entry) (last' : ℕ)
    → AreDone begun at last (map deed_of acts ++ end_with reply ∷ []) (paired_on begun f seen es) last' → Ended f at last reply seen es last'
unfolding AreDone paired_on Stamps
ended begun f at [] reply last seen [] last' h = absurd h
ended begun f at [] reply last seen (e ∷ []) last' h = record {
  front = [];
  stamp = 1 + max last (last_stamp (before_at f seen e.object));
  parts = ap (λ x. x ∷ []) h.0;
  objects = refl;
  again = λ other. (
    ap (λ x. 1 + max last (last_stamp (before_at f seen x))) (ap (λ (x : Entry). x.object) h.0),
    h.4 ∙ ap (λ (x : Entry). x.stamp) h.0,
  );
}
ended begun f at [] reply last seen (e ∷ d ∷ es) last' h = absurd h.4
ended begun f at (act ∷ acts) reply last seen [] last' h = absurd h
ended begun f at (act ∷ acts) reply last seen (e ∷ es) last' h =
    let more : Ended f at e.stamp reply (seen ++ e ∷ []) es last' = ended begun f at acts reply e.stamp (seen ++ e ∷ []) es last' h.4 in
    record {
      front = e ∷ more.front;
      stamp = more.stamp;
      parts = ap (λ xs. e ∷ xs) more.parts;
      objects = and_both (not (is_own e.object)) _ (ap (λ (x : Entry). not (is_own x.object)) h.0) more.objects;
      again = λ other. (ap (λ (x : Entry). x.stamp) h.0, more.again other);
    }

-- a stamp doesn't depend on the reply
pub same_stamped : (blocks : List Block) (seen : List Entry) (at : At) (reply other : Reply) (stamp : ℕ) → is_stamped blocks seen (entry_of at (end_with reply) stamp) ≡ is_stamped blocks seen (entry_of at (end_with other) stamp)
unfolding is_stamped
same_stamped blocks seen at reply other stamp = refl

-- stamped entries in two parts
pub stamped_parts : (blocks : List Block) (seen xs ys : List Entry) → IsTrue (are_stamped blocks seen xs) → IsTrue (are_stamped blocks (seen ++ xs) ys) → IsTrue (are_stamped blocks seen (xs ++ ys))
unfolding are_stamped
stamped_parts blocks seen [] ys h k = subst (λ s. IsTrue (are_stamped blocks s ys)) (append-nil seen) k
stamped_parts blocks seen (x ∷ xs) ys h k =
    and_both (is_stamped blocks seen x) _ (and_left (is_stamped blocks seen x) _ h)
    (stamped_parts blocks (seen ++ x ∷ []) xs ys (and_right (is_stamped blocks seen x) _ h) (subst (λ s. IsTrue (are_stamped blocks s ys)) (sym (append_assoc seen (x ∷ []) xs)) k))

pub stamped_front : (blocks : List Block) (seen xs ys : List Entry) → IsTrue (are_stamped blocks seen (xs ++ ys)) → IsTrue (are_stamped blocks seen xs)
unfolding are_stamped
stamped_front blocks seen [] ys h = refl
stamped_front blocks seen (x ∷ xs) ys h =
    and_both (is_stamped blocks seen x) _ (and_left (is_stamped blocks seen x) _ h) (stamped_front blocks (seen ++ x ∷ []) xs ys (and_right (is_stamped blocks seen x) _ h))

pub stamped_rest : (blocks : List Block) (seen xs ys : List Entry) → IsTrue (are_stamped blocks seen (xs ++ ys)) → IsTrue (are_stamped blocks (seen ++ xs) ys)
unfolding are_stamped
stamped_rest blocks seen [] ys h = subst (λ s. IsTrue (are_stamped blocks s ys)) (sym (append-nil seen)) h
stamped_rest blocks seen (x ∷ xs) ys h =
    subst (λ s. IsTrue (are_stamped blocks s ys)) (append_assoc seen (x ∷ []) xs) (stamped_rest blocks (seen ++ x ∷ []) xs ys (and_right (is_stamped blocks seen x) _ h))

pub stamped_one : (blocks : List Block) (seen : List Entry) (e : Entry) → IsTrue (is_stamped blocks seen e) → IsTrue (are_stamped blocks seen (e ∷ []))
unfolding are_stamped
stamped_one blocks seen e h = and_both (is_stamped blocks seen e) true h refl

pub one_stamped : (blocks : List Block) (seen : List Entry) (e : Entry) → IsTrue (are_stamped blocks seen (e ∷ [])) → IsTrue (is_stamped blocks seen e)
unfolding are_stamped
one_stamped blocks seen e h = and_left (is_stamped blocks seen e) true h
