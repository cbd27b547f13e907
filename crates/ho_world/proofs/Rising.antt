-- Where the commands of each agent are numbered in order, an agent's later command is in no earlier block.
use Rattle.std.proofs.Common.{◌≡◌, ℕ, ◌+◌, ◌-◌, ◌<◌, ◌≤◌, Bool, true, false, ◌&&◌, ◌==◌, nat_le, nat_lt, List, [], ◌∷◌, ◌++◌, length, refl, sym, ap, subst, ◌∙◌, arith, zero, suc, unwrap_or, is_some, IsTrue, append_assoc}
use Rattle.std.specs.Prelude.{Option, None, Some, slice_get, if◌then◌else◌}
use Rattle.std.proofs.lemmas.Bool.Decides.{nat_tests}
use Rattle.std.proofs.lemmas.Option.{slice_get_within}
use Rattle.ho_events.specs.Script.Rules.{sections_of, commands_of, are_numbered}
use Rattle.ho_events.specs.declared.command.Command.{Command}
use Rattle.ho_events.specs.declared.script.AgentWork.{AgentWork}
use Rattle.ho_events.specs.declared.script.Block.{Block}
use Rattle.ho_events.specs.declared.script.Block.TheVariants.{Round, Kexec}
use Rattle.ho_world.specs.Tasks.{Ask, Reboot, Due, due_from, or_else, command_in, command_among, asked_in}
use Rattle.ho_world.specs.Through.{HasRisingNumbers, NumberedRises}
use Rattle.ho_world.proofs.DueBlock.{at_least}
use Rattle.ho_world.proofs.Fronts.{and_both, and_left, and_right, eq_true, eq_test}

same_value : {T : Type 0} (x y : T) → Some x ≡ Some y → x ≡ y
same_value x y e = ap (λ o. unwrap_or o x) e

not_some : {T : Type 0} (t : T) → ◌≡◌ {A = Option T} None (Some t) → ⊥
not_some t e = cc

-- how many commands an agent has in one section
abbrev own : ℕ → AgentWork → ℕ
own a work = (if work.agent.0 == a then length work.commands else 0)

pub counted : (a : ℕ) (xs ys : List AgentWork) → commands_of a (xs ++ ys) ≡ commands_of a xs + commands_of a ys
counted a [] ys = omega arith
counted a (w ∷ xs) ys = omega (arith, counted a xs ys)

counted_push : (a : ℕ) (xs : List AgentWork) (w : AgentWork) → commands_of a (xs ++ w ∷ []) ≡ commands_of a xs + own a w
counted_push a xs w = counted a xs (w ∷ []) ∙ ap (λ n. commands_of a xs + n) (no_more (own a w))
  where
    no_more : (n : ℕ) → n + 0 ≡ n
    no_more n = omega arith

-- the sections of two parts are numbered, each after those before it
pub front : (earlier xs ys : List AgentWork) → IsTrue (are_numbered earlier (xs ++ ys)) → IsTrue (are_numbered earlier xs)
front earlier [] ys h = refl
front earlier (x ∷ xs) ys h = and_both (x.first == commands_of x.agent.0 earlier + 1) _ (and_left (x.first == commands_of x.agent.0 earlier + 1) _ h) (front (earlier ++ x ∷ []) xs ys (and_right (x.first == commands_of x.agent.0 earlier + 1) _ h))

pub rest : (earlier xs ys : List AgentWork) → IsTrue (are_numbered earlier (xs ++ ys)) → IsTrue (are_numbered (earlier ++ xs) ys)
rest earlier [] ys h = subst (λ es. IsTrue (are_numbered es ys)) (nil earlier) h
  where
    nil : (es : List AgentWork) → es ≡ es ++ []
    nil [] = refl
    nil (x ∷ es) = ap (λ more. x ∷ more) (nil es)
rest earlier (x ∷ xs) ys h =
    subst (λ es. IsTrue (are_numbered es ys)) (append_assoc earlier (x ∷ []) xs) (rest (earlier ++ x ∷ []) xs ys (and_right (x.first == commands_of x.agent.0 earlier + 1) _ h))

-- a command of a section, where the section's first is number e + 1;  a number of one that it doesn't have
inside : (w : AgentWork) (n e : ℕ) (c : Command) (t : Bool) → nat_le w.first n ≡ t → w.first ≡ e + 1 → (if t then slice_get w.commands (n - w.first) else None) ≡ Some c → (e < n) × (n ≤ e + length w.commands)
inside w n e c false t first is = absurd (not_some c is)
inside w n e c true t first is =
    let less : n - w.first < length w.commands = slice_get_within w.commands (n - w.first) c is in
    let above : w.first ≤ n = at_most w.first n t in
    (omega (arith, above, first), omega (arith, less, above, first))
  where
    at_most : (x y : ℕ) → nat_le x y ≡ true → x ≤ y
    at_most x y h = grind (arith, nat_tests)

outside : (w : AgentWork) (n e : ℕ) (t : Bool) → nat_le w.first n ≡ t → w.first ≡ e + 1 → (if t then slice_get w.commands (n - w.first) else None) ≡ None → e < n → e + length w.commands < n
outside w n e false t first is below = absurd (not_at_most w.first n t (omega (arith, first, below)))
  where
    not_at_most : (x y : ℕ) → nat_le x y ≡ false → x ≤ y → ⊥
    not_at_most x y h g = grind (arith, nat_tests)
outside w n e true t first is below = past (nat_lt (n - w.first) (length w.commands)) refl
  where
    there : (cs : List Command) (i : ℕ) → i < length cs → IsTrue (is_some (slice_get cs i))
    there [] i less = absurd (omega (arith, less))
    there (c ∷ cs) zero less = refl
    there (c ∷ cs) (suc i) less = there cs i (omega (arith, less))

    nothing : (o : Option Command) → o ≡ None → IsTrue (is_some o) → ⊥
    nothing None e h = cc
    nothing (Some c) e h = cc

    at_most : (x y : ℕ) → nat_le x y ≡ true → x ≤ y
    at_most x y h = grind (arith, nat_tests)

    less_than : (x y : ℕ) → nat_lt x y ≡ true → x < y
    less_than x y h = grind (arith, nat_tests)

    not_less : (x y : ℕ) → nat_lt x y ≡ false → y ≤ x
    not_less x y h = grind (arith, nat_tests)

    past : (b : Bool) → nat_lt (n - w.first) (length w.commands) ≡ b → e + length w.commands < n
    past true h = absurd (nothing (slice_get w.commands (n - w.first)) is (there w.commands (n - w.first) (less_than (n - w.first) (length w.commands) h)))
    past false h =
        let long : length w.commands ≤ n - w.first = not_less (n - w.first) (length w.commands) h in
        let above : w.first ≤ n = at_most w.first n t in
        omega (arith, long, above, first, below)

-- where a section's first stands
pub first_at : (earlier : List AgentWork) (w : AgentWork) (works : List AgentWork) (a : ℕ) → IsTrue (w.agent.0 == a) → IsTrue (are_numbered earlier (w ∷ works)) → w.first ≡ commands_of a earlier + 1
first_at earlier w works a same h =
    subst (λ x. w.first ≡ commands_of x earlier + 1) (eq_true w.agent.0 a same) (eq_true w.first (commands_of w.agent.0 earlier + 1) (and_left (w.first == commands_of w.agent.0 earlier + 1) _ h))

later : (earlier : List AgentWork) (w : AgentWork) (works : List AgentWork) → IsTrue (are_numbered earlier (w ∷ works)) → IsTrue (are_numbered (earlier ++ w ∷ []) works)
later earlier w works h = and_right (w.first == commands_of w.agent.0 earlier + 1) _ h

-- a number that some sections have lies among theirs
pub found : (earlier works : List AgentWork) (a n : ℕ) (c : Command) → IsTrue (are_numbered earlier works) → command_among works a n ≡ Some c → (commands_of a earlier < n) × (n ≤ commands_of a earlier + commands_of a works)
found earlier [] a n c h is = absurd (not_some c is)
found earlier (w ∷ works) a n c h is = at (λ is. more (found (earlier ++ w ∷ []) works a n c (later earlier w works h) is)) (w.agent.0 == a) refl is
  where
    more : (commands_of a (earlier ++ w ∷ []) < n) × (n ≤ commands_of a (earlier ++ w ∷ []) + commands_of a works) → (commands_of a earlier < n) × (n ≤ commands_of a earlier + commands_of a (w ∷ works))
    more both =
        let low : commands_of a (earlier ++ w ∷ []) < n = both.0 in
        let high : n ≤ commands_of a (earlier ++ w ∷ []) + commands_of a works = both.1 in
        (omega (arith, low, counted_push a earlier w), omega (arith, high, counted_push a earlier w))

    here : (command_among works a n ≡ Some c → (commands_of a earlier < n) × (n ≤ commands_of a earlier + commands_of a (w ∷ works))) → (o : Option Command) → command_in w n ≡ o → IsTrue (w.agent.0 == a) → or_else o (command_among works a n) ≡ Some c → (commands_of a earlier < n) × (n ≤ commands_of a earlier + commands_of a (w ∷ works))
    here next None o same is = next is
    here next (Some x) o same is =
        let both = inside w n (commands_of a earlier) x (nat_le w.first n) refl (first_at earlier w works a same h) o in
        let high : n ≤ commands_of a earlier + length w.commands = both.1 in
        let all : own a w ≡ length w.commands = ap (λ b. if b then length w.commands else 0) same in
        (both.0, omega (arith, high, all))

    at : (command_among works a n ≡ Some c → (commands_of a earlier < n) × (n ≤ commands_of a earlier + commands_of a (w ∷ works))) → (t : Bool) → (w.agent.0 == a) ≡ t → or_else (if t then command_in w n else None) (command_among works a n) ≡ Some c → (commands_of a earlier < n) × (n ≤ commands_of a earlier + commands_of a (w ∷ works))
    at next false same is = next is
    at next true same is = here next (command_in w n) refl same is

-- a number that they don't have, and that no section before them has, lies after theirs
not_found : (earlier works : List AgentWork) (a n : ℕ) → IsTrue (are_numbered earlier works) → command_among works a n ≡ None → commands_of a earlier < n → commands_of a earlier + commands_of a works < n
not_found earlier [] a n h is below = omega (arith, below)
not_found earlier (w ∷ works) a n h is below = at (λ is less. more (not_found (earlier ++ w ∷ []) works a n (later earlier w works h) is (omega (arith, less, counted_push a earlier w)))) (w.agent.0 == a) refl is
  where
    more : commands_of a (earlier ++ w ∷ []) + commands_of a works < n → commands_of a earlier + commands_of a (w ∷ works) < n
    more high = omega (arith, high, counted_push a earlier w)

    here : (command_among works a n ≡ None → commands_of a earlier + own a w < n → commands_of a earlier + commands_of a (w ∷ works) < n) → (o : Option Command) → command_in w n ≡ o → IsTrue (w.agent.0 == a) → or_else o (command_among works a n) ≡ None → commands_of a earlier + commands_of a (w ∷ works) < n
    here next (Some x) o same is = absurd (not_some x (sym is))
    here next None o same is =
        let high : commands_of a earlier + length w.commands < n = outside w n (commands_of a earlier) (nat_le w.first n) refl (first_at earlier w works a same h) o below in
        let all : own a w ≡ length w.commands = ap (λ b. if b then length w.commands else 0) same in
        next is (omega (arith, high, all))

    at : (command_among works a n ≡ None → commands_of a earlier + own a w < n → commands_of a earlier + commands_of a (w ∷ works) < n) → (t : Bool) → (w.agent.0 == a) ≡ t → or_else (if t then command_in w n else None) (command_among works a n) ≡ None → commands_of a earlier + commands_of a (w ∷ works) < n
    at next false same is =
        let none : own a w ≡ 0 = ap (λ b. if b then length w.commands else 0) same in
        next is (omega (arith, below, none))
    at next true same is = here next (command_in w n) refl same is

-- a task of a round;  of a later block
asked_is : (b : ℕ) (x : Command) (o : Option Due) (d : Due) → or_else (asked_in b (Some x)) o ≡ Some d → b ≡ d.block
asked_is b x o d is = ap (λ e. e.block) (same_value (record { block = b; task = Ask x }) d is)

-- no agent has a command 0
no_zeroth : (b k : ℕ) (blocks : List Block) (earlier : List AgentWork) (a : ℕ) (d : Due) → IsTrue (are_numbered earlier (sections_of blocks)) → due_from b (suc k) blocks a 0 ≡ Some d → ⊥
unfolding due_from
no_zeroth b k [] earlier a d h is = not_some d is
no_zeroth b k (Round works ∷ blocks) earlier a d h is = at (λ is. no_zeroth (b + 1) k blocks (earlier ++ works) a d (rest earlier works (sections_of blocks) h) is) (command_among works a 0) refl is
  where
    at : (due_from (b + 1) (suc k) blocks a 0 ≡ Some d → ⊥) → (o : Option Command) → command_among works a 0 ≡ o → or_else (asked_in b o) (due_from (b + 1) (suc k) blocks a 0) ≡ Some d → ⊥
    at next None o is = next is
    at next (Some c) o is =
        let both = found earlier works a 0 c (front earlier works (sections_of blocks) h) o in
        let low : commands_of a earlier < 0 = both.0 in
        omega (arith, low)
no_zeroth b k (Kexec blob ∷ blocks) earlier a d h is = at (λ is. no_zeroth (b + 1) (suc k) blocks earlier a d h (subst (λ j. due_from (b + 1) j blocks a 0 ≡ Some d) next_number is)) (a == 0 && 0 == suc k) refl is
  where
    never : 0 ≡ suc k → ⊥
    never e = omega (arith, e)

    next_number : suc k + 1 ≡ suc (suc k)
    next_number = omega arith

    at : (due_from (b + 1) (suc k + 1) blocks a 0 ≡ Some d → ⊥) → (t : Bool) → (a == 0 && 0 == suc k) ≡ t → (if t then Some (record { block = b; task = Reboot blob }) else due_from (b + 1) (suc k + 1) blocks a 0) ≡ Some d → ⊥
    at next true e is = never (eq_true 0 (suc k) (and_right (a == 0) (0 == suc k) e))
    at next false e is = next is

-- the blocks from some place on, where number m is of none before it
rises : (b k : ℕ) (blocks : List Block) (earlier : List AgentWork) (a m n : ℕ) (c d : Due) → IsTrue (are_numbered earlier (sections_of blocks)) → m < n → commands_of a earlier < m → (a ≡ 0 → k ≤ m)
    → due_from b k blocks a m ≡ Some c → due_from b k blocks a n ≡ Some d → c.block ≤ d.block
unfolding due_from
rises b k [] earlier a m n c d h less past kexecs is_m is_n = absurd (not_some c is_m)
rises b k (Round works ∷ blocks) earlier a m n c d h less past kexecs is_m is_n =
    at (λ above is_m is_n. rises (b + 1) k blocks (earlier ++ works) a m n c d (rest earlier works (sections_of blocks) h) less above kexecs is_m is_n) (command_among works a m) refl is_m
  where
    least : b ≤ d.block
    least = at_least b k (Round works ∷ blocks) a n d is_n

    both_later : (commands_of a (earlier ++ works) < m → due_from (b + 1) k blocks a m ≡ Some c → due_from (b + 1) k blocks a n ≡ Some d → c.block ≤ d.block) → command_among works a m ≡ None → due_from (b + 1) k blocks a m ≡ Some c → (o : Option Command) → command_among works a n ≡ o → or_else (asked_in b o) (due_from (b + 1) k blocks a n) ≡ Some d → c.block ≤ d.block
    both_later next none is_m None o is_n =
        let above : commands_of a earlier + commands_of a works < m = not_found earlier works a m (front earlier works (sections_of blocks) h) none past in
        next (omega (arith, above, counted a earlier works)) is_m is_n
    both_later next none is_m (Some x) o is_n =
        let above : commands_of a earlier + commands_of a works < m = not_found earlier works a m (front earlier works (sections_of blocks) h) none past in
        let both = found earlier works a n x (front earlier works (sections_of blocks) h) o in
        let high : n ≤ commands_of a earlier + commands_of a works = both.1 in
        absurd (omega (arith, above, high, less))

    at : (commands_of a (earlier ++ works) < m → due_from (b + 1) k blocks a m ≡ Some c → due_from (b + 1) k blocks a n ≡ Some d → c.block ≤ d.block) → (o : Option Command) → command_among works a m ≡ o → or_else (asked_in b o) (due_from (b + 1) k blocks a m) ≡ Some c → c.block ≤ d.block
    at next (Some x) o is =
        let same : b ≡ c.block = asked_is b x (due_from (b + 1) k blocks a m) c is in
        omega (arith, same, least)
    at next None o is = both_later next o is (command_among works a n) refl is_n
rises b k (Kexec blob ∷ blocks) earlier a m n c d h less past kexecs is_m is_n =
    at (λ later_kexecs is_m is_n. rises (b + 1) (k + 1) blocks earlier a m n c d h less past later_kexecs is_m is_n) (a == 0 && m == k) refl is_m
  where
    least : b ≤ d.block
    least = at_least b k (Kexec blob ∷ blocks) a n d is_n

    clash : (t : Bool) → t ≡ false → IsTrue t → ⊥
    clash t e h = cc

    strict : (x y : ℕ) → (x == y) ≡ false → y ≤ x → y + 1 ≤ x
    strict x y e h = grind (arith, nat_tests)

    higher : (a == 0 && m == k) ≡ false → a ≡ 0 → k + 1 ≤ m
    higher none zeroth =
        elim (m == k) as (λ q. (m == k) ≡ q → k + 1 ≤ m) [
          | true ↦ λ q. absurd (clash (a == 0 && m == k) none (and_both (a == 0) (m == k) (eq_test a 0 zeroth) q))
          | false ↦ λ q. strict m k q (kexecs zeroth)
        ] refl

    both_later : ((a ≡ 0 → k + 1 ≤ m) → due_from (b + 1) (k + 1) blocks a m ≡ Some c → due_from (b + 1) (k + 1) blocks a n ≡ Some d → c.block ≤ d.block) → (a == 0 && m == k) ≡ false → due_from (b + 1) (k + 1) blocks a m ≡ Some c → (t : Bool) → (a == 0 && n == k) ≡ t → (if t then Some (record { block = b; task = Reboot blob }) else due_from (b + 1) (k + 1) blocks a n) ≡ Some d → c.block ≤ d.block
    both_later next none is_m false e is_n = next (higher none) is_m is_n
    both_later next none is_m true e is_n =
        let zeroth : a ≡ 0 = eq_true a 0 (and_left (a == 0) (n == k) e) in
        let same : n ≡ k = eq_true n k (and_right (a == 0) (n == k) e) in
        let below : k ≤ m = kexecs zeroth in
        absurd (omega (arith, same, below, less))

    at : ((a ≡ 0 → k + 1 ≤ m) → due_from (b + 1) (k + 1) blocks a m ≡ Some c → due_from (b + 1) (k + 1) blocks a n ≡ Some d → c.block ≤ d.block) → (t : Bool) → (a == 0 && m == k) ≡ t → (if t then Some (record { block = b; task = Reboot blob }) else due_from (b + 1) (k + 1) blocks a m) ≡ Some c → c.block ≤ d.block
    at next true e is =
        let same : b ≡ c.block = ap (λ x. x.block) (same_value (record { block = b; task = Reboot blob }) c is) in
        omega (arith, same, least)
    at next false e is = both_later next e is (a == 0 && n == k) refl is_n

rising : (blocks : List Block) → IsTrue (are_numbered [] (sections_of blocks)) → HasRisingNumbers blocks
rising blocks h a zero n c d less is_m is_n = absurd (no_zeroth 0 0 blocks [] a c h is_m)
rising blocks h a (suc m) n c d less is_m is_n = rises 0 1 blocks [] a (suc m) n c d h less (omega arith) (λ e. omega arith) is_m is_n

pub numbered_rises : NumberedRises
numbered_rises script h = rising script.blocks h
