-- Which block is due, from the tasks that are done.
use Rattle.std.proofs.Common.{◌≡◌, ◌≢◌, ℕ, ◌+◌, ◌-◌, ◌<◌, ◌≤◌, Bool, true, false, ◌&&◌, ◌||◌, ◌==◌, nat_le, List, [], ◌∷◌, ◌++◌, length, refl, sym, ap, subst, ◌∙◌, arith, zero, suc, unwrap_or}
use Rattle.std.specs.Prelude.{Option, None, Some, slice_get, if◌then◌else◌}
use Rattle.std.specs.List.{list_all}
use Rattle.std.proofs.lemmas.Bool.Decides.{nat_tests}
use Rattle.ho_events.specs.declared.command.Command.{Command}
use Rattle.ho_events.specs.declared.entry.Entry.{Entry}
use Rattle.ho_events.specs.declared.script.AgentWork.{AgentWork}
use Rattle.ho_events.specs.declared.script.Block.{Block}
use Rattle.ho_events.specs.declared.script.Block.TheVariants.{Round, Kexec}
use Rattle.ho_world.specs.Entries.{has_done}
use Rattle.ho_world.specs.Tasks.{Ask, Reboot, Due, due_from, or_else, command_in, command_among, asked_in}
use Rattle.ho_world.specs.Legal.{are_done, is_work_done, due_block_from}
use Rattle.ho_world.proofs.Fronts.{and_both, and_left, and_right, eq_true, eq_same, le_true}

same_value : {T : Type 0} (x y : T) → Some x ≡ Some y → x ≡ y
same_value x y e = ap (λ o. unwrap_or o x) e

not_some : {T : Type 0} (t : T) → ◌≡◌ {A = Option T} None (Some t) → ⊥
not_some t e = cc

and_false_left : (b c : Bool) → b ≡ false → (b && c) ≡ false
and_false_left b c e = ap (λ x. x && c) e

and_false_right : (b c : Bool) → c ≡ false → (b && c) ≡ false
and_false_right true c e = e
and_false_right false c e = refl

-- the block of a task is not below where the search begins
pub at_least : (b k : ℕ) (blocks : List Block) (a n : ℕ) (d : Due) → due_from b k blocks a n ≡ Some d → b ≤ d.block
unfolding due_from
at_least b k [] a n d is = absurd (not_some d is)
at_least b k (Round works ∷ blocks) a n d is = round (command_among works a n) (at_least (b + 1) k blocks a n d) is
  where
    round : (o : Option Command) → (due_from (b + 1) k blocks a n ≡ Some d → b + 1 ≤ d.block) → or_else (asked_in b o) (due_from (b + 1) k blocks a n) ≡ Some d → b ≤ d.block
    round None next is = let more : b + 1 ≤ d.block = next is in omega (arith, more)
    round (Some c) next is = let same : b ≡ d.block = ap (λ x. x.block) (same_value (record { block = b; task = Ask c }) d is) in omega (arith, same)
at_least b k (Kexec blob ∷ blocks) a n d is = kexec (a == 0 && n == k) (at_least (b + 1) (k + 1) blocks a n d) is
  where
    kexec : (t : Bool) → (due_from (b + 1) (k + 1) blocks a n ≡ Some d → b + 1 ≤ d.block) → (if t then Some (record { block = b; task = Reboot blob }) else due_from (b + 1) (k + 1) blocks a n) ≡ Some d → b ≤ d.block
    kexec false next is = let more : b + 1 ≤ d.block = next is in omega (arith, more)
    kexec true next is = let same : b ≡ d.block = ap (λ x. x.block) (same_value (record { block = b; task = Reboot blob }) d is) in omega (arith, same)

module _ (es : List Entry) where
  -- a command that isn't done leaves its work undone
  undone_at : (a n i : ℕ) (cs : List Command) (c : Command) → slice_get cs i ≡ Some c → has_done a (n + i) es ≡ false → are_done es a n cs ≡ false
  undone_at a n i [] c is h = absurd (not_some c is)
  undone_at a n zero (x ∷ cs) c is h =
      let same : n + 0 ≡ n = omega arith in
      and_false_left (has_done a n es) _ (ap (λ m. has_done a m es) (sym same) ∙ h)
  undone_at a n (suc i) (x ∷ cs) c is h =
      let same : (n + 1) + i ≡ n + suc i = omega arith in
      and_false_right (has_done a n es) _ (undone_at a (n + 1) i cs c is (ap (λ m. has_done a m es) same ∙ h))

  undone_in : (n : ℕ) (work : AgentWork) (c : Command) (t : Bool) → nat_le work.first n ≡ t → (if t then slice_get work.commands (n - work.first) else None) ≡ Some c → has_done work.agent.0 n es ≡ false → is_work_done es work ≡ false
  undone_in n work c false e is h = absurd (not_some c is)
  undone_in n work c true e is h =
      let below : work.first ≤ n = le_true work.first n e in
      let same : work.first + (n - work.first) ≡ n = omega (arith, below) in
      undone_at work.agent.0 work.first (n - work.first) work.commands c is (ap (λ m. has_done work.agent.0 m es) same ∙ h)

  undone_work : (a n : ℕ) (work : AgentWork) (works : List AgentWork) (c : Command) (t : Bool) → (work.agent.0 == a) ≡ t → (rest : or_else (if t then command_in work n else None) (command_among works a n) ≡ Some c)
      → has_done a n es ≡ false → (command_among works a n ≡ Some c → list_all (is_work_done es) works ≡ false) → list_all (is_work_done es) (work ∷ works) ≡ false
  undone_work a n work works c false e is h more = and_false_right (is_work_done es work) _ (more is)
  undone_work a n work works c true e is h more = here (command_in work n) refl is
    where
      here : (o : Option Command) → command_in work n ≡ o → or_else o (command_among works a n) ≡ Some c → list_all (is_work_done es) (work ∷ works) ≡ false
      here None o is = and_false_right (is_work_done es work) _ (more is)
      here (Some x) o is = and_false_left (is_work_done es work) _ (undone_in n work x (nat_le work.first n) refl o (ap (λ i. has_done i n es) (eq_true work.agent.0 a e) ∙ h))

  undone : (a n : ℕ) (works : List AgentWork) (c : Command) → command_among works a n ≡ Some c → has_done a n es ≡ false → list_all (is_work_done es) works ≡ false
  undone a n [] c is h = absurd (not_some c is)
  undone a n (work ∷ works) c is h = undone_work a n work works c (work.agent.0 == a) refl is h (λ more. undone a n works c more h)

  -- commands that are all done
  abbrev Done : ℕ → ℕ → Option Command → Type 0
  Done a n None = Unit {0}
  Done a n (Some c) = has_done a n es ≡ true

  done_at : (a n : ℕ) (cs : List Command) → ((i : ℕ) → Done a (n + i) (slice_get cs i)) → are_done es a n cs ≡ true
  done_at a n [] h = refl
  done_at a n (c ∷ cs) h =
      let same : n + 0 ≡ n = omega arith in
      and_both (has_done a n es) _ (ap (λ m. has_done a m es) (sym same) ∙ h 0)
      (done_at a (n + 1) cs (λ i. subst (λ m. Done a m (slice_get cs i)) (shift i) (h (suc i))))
    where
      shift : (i : ℕ) → n + suc i ≡ (n + 1) + i
      shift i = omega arith

  from_first : (f i : ℕ) → nat_le f (f + i) ≡ true
  from_first f i = grind (arith, nat_tests)

  in_place : (work : AgentWork) (i : ℕ) → command_in work (work.first + i) ≡ slice_get work.commands i
  in_place work i =
      let same : (work.first + i) - work.first ≡ i = omega arith in
      ap (λ t. if t then slice_get work.commands ((work.first + i) - work.first) else None) (from_first work.first i) ∙ ap (slice_get work.commands) same

  Done-first : (a n : ℕ) (o p : Option Command) → Done a n (or_else o p) → Done a n o
  Done-first a n None p h = tt
  Done-first a n (Some c) p h = h

  works_done : (works : List AgentWork) → ((a n : ℕ) → Done a n (command_among works a n)) → list_all (is_work_done es) works ≡ true
  works_done [] h = refl
  works_done (work ∷ works) h =
      and_both (is_work_done es work) _
      (done_at work.agent.0 work.first work.commands
      (λ i. subst (λ o. Done work.agent.0 (work.first + i) o) (in_place work i)
      (subst (λ t. Done work.agent.0 (work.first + i) (if t then command_in work (work.first + i) else None)) (eq_same work.agent.0)
      (Done-first work.agent.0 (work.first + i) (if work.agent.0 == work.agent.0 then command_in work (work.first + i) else None) (command_among works work.agent.0 (work.first + i)) (h work.agent.0 (work.first + i))))))
      (works_done works (λ a n. rest a n (if work.agent.0 == a then command_in work n else None) (command_among works a n) refl (h a n)))
    where
      rest : (a n : ℕ) (o p : Option Command) → command_among works a n ≡ p → Done a n (or_else o p) → Done a n p
      rest a n None p is h = h
      rest a n (Some c) None is h = tt
      rest a n (Some c) (Some d) is h = h

  -- every task of a block before block c is done
  abbrev AllBelow : ℕ → ℕ → ℕ → List Block → Type 0
  AllBelow c b k blocks = (a n : ℕ) (d : Due) → due_from b k blocks a n ≡ Some d → d.block < c → has_done a n es ≡ true

  round_below : (c b k : ℕ) (works : List AgentWork) (blocks : List Block) → AllBelow c b k (Round works ∷ blocks) → b < c → (a n : ℕ) → Done a n (command_among works a n)
  unfolding due_from
  round_below c b k works blocks all less a n = each (command_among works a n) refl
    where
      each : (o : Option Command) → command_among works a n ≡ o → Done a n o
      each None is = tt
      each (Some x) is = all a n (record { block = b; task = Ask x }) (ap (λ o. or_else (asked_in b o) (due_from (b + 1) k blocks a n)) is) less

  round_rest : (c b k : ℕ) (works : List AgentWork) (blocks : List Block) → AllBelow c b k (Round works ∷ blocks) → b < c → AllBelow c (b + 1) k blocks
  unfolding due_from
  round_rest c b k works blocks all less a n d is below = each (command_among works a n) refl
    where
      each : (o : Option Command) → command_among works a n ≡ o → has_done a n es ≡ true
      each None o = all a n d (ap (λ x. or_else (asked_in b x) (due_from (b + 1) k blocks a n)) o ∙ is) below
      each (Some x) o = all a n (record { block = b; task = Ask x }) (ap (λ y. or_else (asked_in b y) (due_from (b + 1) k blocks a n)) o) less

  kexec_below : (c b k : ℕ) (blob : _) (blocks : List Block) → AllBelow c b k (Kexec blob ∷ blocks) → b < c → has_done 0 k es ≡ true
  unfolding due_from
  kexec_below c b k blob blocks all less =
      all 0 k (record { block = b; task = Reboot blob }) (ap (λ t. if t then Some (record { block = b; task = Reboot blob }) else due_from (b + 1) (k + 1) blocks 0 k) (and_both (0 == 0) (k == k) refl (eq_same k))) less

  kexec_rest : (c b k : ℕ) (blob : _) (blocks : List Block) → AllBelow c b k (Kexec blob ∷ blocks) → b < c → AllBelow c (b + 1) (k + 1) blocks
  unfolding due_from
  kexec_rest c b k blob blocks all less a n d is below = each (a == 0 && n == k) refl
    where
      each : (t : Bool) → (a == 0 && n == k) ≡ t → has_done a n es ≡ true
      each false o = all a n d (ap (λ t. if t then Some (record { block = b; task = Reboot blob }) else due_from (b + 1) (k + 1) blocks a n) o ∙ is) below
      each true o = all a n (record { block = b; task = Reboot blob }) (ap (λ t. if t then Some (record { block = b; task = Reboot blob }) else due_from (b + 1) (k + 1) blocks a n) o) less

  -- the block of a task that isn't done, where all earlier blocks' tasks are, is due
  pub due_block_is : (a n : ℕ) (d : Due) (b k : ℕ) (blocks : List Block) → due_from b k blocks a n ≡ Some d → has_done a n es ≡ false → AllBelow d.block b k blocks → due_block_from b k blocks es ≡ d.block
  unfolding due_from due_block_from
  due_block_is a n d b k [] is undone_now all = absurd (not_some d is)
  due_block_is a n d b k (Round works ∷ blocks) is undone_now all = round (command_among works a n) refl (due_block_is a n d (b + 1) k blocks) is
    where
      round : (o : Option Command) → command_among works a n ≡ o → (due_from (b + 1) k blocks a n ≡ Some d → has_done a n es ≡ false → AllBelow d.block (b + 1) k blocks → due_block_from (b + 1) k blocks es ≡ d.block) → or_else (asked_in b o) (due_from (b + 1) k blocks a n) ≡ Some d → (if list_all (is_work_done es) works then due_block_from (b + 1) k blocks es else b) ≡ d.block
      round None o next is =
          let above : b + 1 ≤ d.block = at_least (b + 1) k blocks a n d is in
          let less : b < d.block = omega (arith, above) in
          ap (λ t. if t then due_block_from (b + 1) k blocks es else b) (works_done works (round_below d.block b k works blocks all less))
          ∙ next is undone_now (round_rest d.block b k works blocks all less)
      round (Some c) o next is =
          ap (λ t. if t then due_block_from (b + 1) k blocks es else b) (undone a n works c o undone_now) ∙ ap (λ x. x.block) (same_value (record { block = b; task = Ask c }) d is)
  due_block_is a n d b k (Kexec blob ∷ blocks) is undone_now all = kexec (a == 0 && n == k) refl (due_block_is a n d (b + 1) (k + 1) blocks) is
    where
      kexec : (t : Bool) → (a == 0 && n == k) ≡ t → (due_from (b + 1) (k + 1) blocks a n ≡ Some d → has_done a n es ≡ false → AllBelow d.block (b + 1) (k + 1) blocks → due_block_from (b + 1) (k + 1) blocks es ≡ d.block) → (if t then Some (record { block = b; task = Reboot blob }) else due_from (b + 1) (k + 1) blocks a n) ≡ Some d
          → (if has_done 0 k es then due_block_from (b + 1) (k + 1) blocks es else b) ≡ d.block
      kexec false o next is =
          let above : b + 1 ≤ d.block = at_least (b + 1) (k + 1) blocks a n d is in
          let less : b < d.block = omega (arith, above) in
          ap (λ t. if t then due_block_from (b + 1) (k + 1) blocks es else b) (kexec_below d.block b k blob blocks all less)
          ∙ next is undone_now (kexec_rest d.block b k blob blocks all less)
      kexec true o next is =
          let agent : a ≡ 0 = eq_true a 0 (and_left (a == 0) (n == k) o) in
          let number : n ≡ k = eq_true n k (and_right (a == 0) (n == k) o) in
          let undone_here : has_done 0 k es ≡ false = ap (λ x. has_done x k es) (sym agent) ∙ ap (λ x. has_done a x es) (sym number) ∙ undone_now in
          ap (λ t. if t then due_block_from (b + 1) (k + 1) blocks es else b) undone_here ∙ ap (λ x. x.block) (same_value (record { block = b; task = Reboot blob }) d is)

  -- where all tasks are done, no block is due
  pub ended_is : (b k : ℕ) (blocks : List Block) → ((a n : ℕ) (d : Due) → due_from b k blocks a n ≡ Some d → has_done a n es ≡ true) → due_block_from b k blocks es ≡ b + length blocks
  unfolding due_from due_block_from
  ended_is b k [] all = omega arith
  ended_is b k (Round works ∷ blocks) all =
      let below : (c : ℕ) → AllBelow c b k (Round works ∷ blocks) = λ c a n d is less. all a n d is in
      let rest : due_block_from (b + 1) k blocks es ≡ (b + 1) + length blocks =
      ended_is (b + 1) k blocks (λ a n d is. round_rest (d.block + b + 1) b k works blocks (below (d.block + b + 1)) (omega arith) a n d is (omega arith)) in
      let same : (b + 1) + length blocks ≡ b + length (Round works ∷ blocks) = omega arith in
      ap (λ t. if t then due_block_from (b + 1) k blocks es else b) (works_done works (round_below (b + 1) b k works blocks (below (b + 1)) (omega arith))) ∙ rest ∙ same
  ended_is b k (Kexec blob ∷ blocks) all =
      let below : (c : ℕ) → AllBelow c b k (Kexec blob ∷ blocks) = λ c a n d is less. all a n d is in
      let rest : due_block_from (b + 1) (k + 1) blocks es ≡ (b + 1) + length blocks =
      ended_is (b + 1) (k + 1) blocks (λ a n d is. kexec_rest (d.block + b + 1) b k blob blocks (below (d.block + b + 1)) (omega arith) a n d is (omega arith)) in
      let same : (b + 1) + length blocks ≡ b + length (Kexec blob ∷ blocks) = omega arith in
      ap (λ t. if t then due_block_from (b + 1) (k + 1) blocks es else b) (kexec_below (b + 1) b k blob blocks (below (b + 1)) (omega arith)) ∙ rest ∙ same
