-- A history through some blocks is legal so far.
use Rattle.std.proofs.Common.{◌≡◌, ℕ, ◌+◌, ◌<◌, ◌≤◌, ◌&&◌, ◌||◌, ◌==◌, nat_lt, List, [], ◌∷◌, ◌++◌, refl, subst, ◌∙◌, arith, IsTrue, is_some}
use Rattle.std.specs.Prelude.{Option, None, Some}
use Rattle.std.proofs.lemmas.Bool.Decides.{nat_tests}
use Rattle.ho_events.specs.declared.entry.Entry.{Entry}
use Rattle.ho_events.specs.declared.script.Block.{Block}
use Rattle.ho_world.specs.World.{World}
use Rattle.ho_world.specs.Tasks.{Due, due_of}
use Rattle.ho_world.specs.Legal.{block_of, block_in, is_below}
use Rattle.ho_world.specs.Readings.{IsDoneAt}
use Rattle.ho_world.specs.Through.{IsThrough, HasRisingNumbers, ThroughIsLegal}
use Rattle.ho_world.proofs.Fronts.{and_left, all_rest}
use Rattle.ho_world.proofs.Law.{Judged, all_may_come}

is_less : (b : ℕ) (d : Due) → IsTrue (is_below b (block_in (Some d))) → d.block < b
is_less b d h = test d.block b h
  where
    test : (x y : ℕ) → IsTrue (nat_lt x y) → x < y
    test x y h = grind (arith, nat_tests)

is_there : (b : ℕ) (o : Option Due) → IsTrue (is_below b (block_in o)) → IsTrue (is_some o)
is_there b None h = absurd cc
is_there b (Some d) h = refl

module _ (start : World) (blocks : List Block) (b k : ℕ) (numbers : HasRisingNumbers blocks) (before : List Entry) (e : Entry) (rest : List Entry) (t : IsThrough start blocks (before ++ e ∷ rest) b k) where
  below_own : IsTrue (is_below b (block_of blocks e))
  below_own = and_left (is_below b (block_of blocks e)) _ (all_rest (λ d. is_below b (block_of blocks d)) before (e ∷ rest) t.below)

  done_at : (a n : ℕ) (o : Option Due) → due_of blocks a n ≡ o → ((d : Due) → o ≡ Some d → d.block < b) → IsDoneAt start blocks (before ++ e ∷ rest) a n o
  done_at a n None is low = tt
  done_at a n (Some d) is low = (t.agents a n d is (low d refl)).is_done

  low_at : (o : Option Due) → due_of blocks e.agent.0 e.command ≡ o → IsTrue (is_below b (block_in o)) → (d : Due) → o ≡ Some d → d.block < b
  low_at o is h d same = is_less b d (subst (λ x. IsTrue (is_below b (block_in x))) same h)

  lower_at : (m : ℕ) → m < e.command → (o : Option Due) → due_of blocks e.agent.0 e.command ≡ o → IsTrue (is_below b (block_in o)) → (c : Due) → due_of blocks e.agent.0 m ≡ Some c → c.block < b
  lower_at m less None is h c due = absurd cc
  lower_at m less (Some d) is h c due =
      let up : c.block ≤ d.block = numbers e.agent.0 m e.command c d less due is in
      let low : d.block < b = is_less b d h in
      omega (arith, up, low)

  pub judged_through : Judged start blocks (before ++ e ∷ rest) e
  judged_through = record {
    stamped = t.stamped;
    in_order = t.in_order;
    known = is_there b (due_of blocks e.agent.0 e.command) below_own;
    objects = t.objects e.kernel;
    own = done_at e.agent.0 e.command (due_of blocks e.agent.0 e.command) refl (low_at (due_of blocks e.agent.0 e.command) refl below_own);
    lower = λ m less. done_at e.agent.0 m (due_of blocks e.agent.0 m) refl (λ c due. lower_at m less (due_of blocks e.agent.0 e.command) refl below_own c due);
    sooner = λ d is a m c due less.
        let low : d.block < b = low_at (due_of blocks e.agent.0 e.command) refl below_own d is in
        (t.agents a m c due (omega (arith, less, low))).is_done;
  }

pub through_is_legal : ThroughIsLegal
through_is_legal start blocks es b k numbers t =
    all_may_come start blocks [] es (λ before e rest is. judged_through start blocks b k numbers before e rest (subst (λ l. IsThrough start blocks l b k) is t))
