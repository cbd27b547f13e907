-- Which task of agent 0 each kexec is.
use Rattle.std.proofs.Common.{◌≡◌, ℕ, ◌+◌, ◌≤◌, Bool, true, false, ◌&&◌, ◌==◌, nat_le, List, [], ◌∷◌, refl, sym, ap, ◌∙◌, arith, IsTrue, zero, suc, take}
use Rattle.std.specs.Prelude.{Option, None, Some, slice_get, if◌then◌else◌}
use Rattle.std.specs.List.{list_all}
use Rattle.std.proofs.lemmas.Bool.Decides.{nat_tests}
use Rattle.ho_base.specs.declared.numbers.Blob.{Blob}
use Rattle.ho_events.specs.declared.command.Command.{Command}
use Rattle.ho_events.specs.declared.script.AgentWork.{AgentWork}
use Rattle.ho_events.specs.declared.script.Block.{Block}
use Rattle.ho_events.specs.declared.script.Block.TheVariants.{Round, Kexec}
use Rattle.ho_events.specs.Script.Rules.{kexecs_in}
use Rattle.ho_world.specs.Tasks.{Ask, Reboot, Due, due_from, or_else, command_in, command_among, asked_in}
use Rattle.ho_world.proofs.DueBlock.{at_least}
use Rattle.ho_world.proofs.Fronts.{and_both, and_left, and_right, eq_true, eq_test}
use Rattle.kexec_laws.specs.Kexecs.{is_agent, has_agents, NumberedKexecs, KexecsAreCounted}

not_some : {T : Type 0} (t : T) → ◌≡◌ {A = Option T} None (Some t) → ⊥
not_some t e = cc

no_kexec : (works : List AgentWork) (blob : Blob) → ◌≡◌ {A = Option Block} (Some (Round works)) (Some (Kexec blob)) → ⊥
no_kexec works blob e = cc

same_blob : (x y : Blob) → ◌≡◌ {A = Option Block} (Some (Kexec x)) (Some (Kexec y)) → x ≡ y
same_blob x y e = cc

same_due : (x y : Due) → ◌≡◌ {A = Option Due} (Some x) (Some y) → x ≡ y
same_due x y e = cc

-- agent 0 has no command in a round
none_asked : (works : List AgentWork) (n : ℕ) → IsTrue (list_all is_agent works) → command_among works 0 n ≡ None
none_asked [] n h = refl
none_asked (w ∷ works) n h =
    ap (λ t. or_else (if t then command_in w n else None) (command_among works 0 n)) (above w.agent.0 (and_left (is_agent w) _ h))
    ∙ none_asked works n (and_right (is_agent w) _ h)
  where
    above : (x : ℕ) → IsTrue (nat_le 1 x) → (x == 0) ≡ false
    above x h = grind (arith, nat_tests)

-- a kexec is a task of agent 0
due_kexec : (b k i : ℕ) (blocks : List Block) (blob : Blob) → IsTrue (list_all has_agents blocks) → slice_get blocks i ≡ Some (Kexec blob)
    → due_from b k blocks 0 (k + kexecs_in (take i blocks)) ≡ Some (record { block = b + i; task = Reboot blob })
unfolding due_from
due_kexec b k i [] blob h is = absurd (not_some (Kexec blob) is)
due_kexec b k zero (Round works ∷ blocks) blob h is = absurd (no_kexec works blob is)
due_kexec b k (suc i) (Round works ∷ blocks) blob h is =
    ap (λ o. or_else (asked_in b o) (due_from (b + 1) k blocks 0 (k + kexecs_in (take i blocks)))) (none_asked works (k + kexecs_in (take i blocks)) (and_left (has_agents (Round works)) _ h))
    ∙ due_kexec (b + 1) k i blocks blob (and_right (has_agents (Round works)) _ h) is
    ∙ ap (λ x. Some (record { block = x; task = Reboot blob })) last
  where
    last : (b + 1) + i ≡ b + suc i
    last = omega arith
due_kexec b k zero (Kexec other ∷ blocks) blob h is =
    ap (λ t. if t then Some (record { block = b; task = Reboot other }) else due_from (b + 1) (k + 1) blocks 0 (k + 0)) (and_both (0 == 0) (k + 0 == k) refl (eq_test (k + 0) k same))
    ∙ ap (λ x. Some (record { block = b; task = Reboot x })) (same_blob other blob is)
    ∙ ap (λ x. Some (record { block = x; task = Reboot blob })) last
  where
    same : k + 0 ≡ k
    same = omega arith

    last : b ≡ b + 0
    last = omega arith
due_kexec b k (suc i) (Kexec other ∷ blocks) blob h is =
    ap (λ t. if t then Some (record { block = b; task = Reboot other }) else due_from (b + 1) (k + 1) blocks 0 (k + (1 + kexecs_in (take i blocks)))) (not_first k (kexecs_in (take i blocks)))
    ∙ ap (λ n. due_from (b + 1) (k + 1) blocks 0 n) number
    ∙ due_kexec (b + 1) (k + 1) i blocks blob (and_right (has_agents (Kexec other)) _ h) is
    ∙ ap (λ x. Some (record { block = x; task = Reboot blob })) last
  where
    not_first : (j m : ℕ) → (0 == 0 && j + (1 + m) == j) ≡ false
    not_first j m = grind (arith, nat_tests)

    number : k + (1 + kexecs_in (take i blocks)) ≡ (k + 1) + kexecs_in (take i blocks)
    number = omega arith

    last : (b + 1) + i ≡ b + suc i
    last = omega arith

-- no other task is of its block
only_kexec : (b k i : ℕ) (blocks : List Block) (blob : Blob) (a n : ℕ) (d : Due) → slice_get blocks i ≡ Some (Kexec blob) → due_from b k blocks a n ≡ Some d → d.block ≡ b + i
    → (a ≡ 0) × (n ≡ k + kexecs_in (take i blocks))
unfolding due_from
only_kexec b k i [] blob a n d there is block = absurd (not_some (Kexec blob) there)
only_kexec b k zero (Round works ∷ blocks) blob a n d there is block = absurd (no_kexec works blob there)
only_kexec b k (suc i) (Round works ∷ blocks) blob a n d there is block =
    by (λ rest. only_kexec (b + 1) k i blocks blob a n d there rest (let same : b + suc i ≡ (b + 1) + i = omega arith in block ∙ same)) (command_among works a n) is
  where
    by : (due_from (b + 1) k blocks a n ≡ Some d → (a ≡ 0) × (n ≡ k + kexecs_in (take i blocks))) → (o : Option Command) → or_else (asked_in b o) (due_from (b + 1) k blocks a n) ≡ Some d → (a ≡ 0) × (n ≡ k + kexecs_in (take i blocks))
    by more None is = more is
    by more (Some c) is = let same : b ≡ d.block = ap (λ x. x.block) (same_due (record { block = b; task = Ask c }) d is) in absurd (omega (arith, same, block))
only_kexec b k zero (Kexec other ∷ blocks) blob a n d there is block = by (a == 0 && n == k) refl is
  where
    by : (t : Bool) → (a == 0 && n == k) ≡ t → (if t then Some (record { block = b; task = Reboot other }) else due_from (b + 1) (k + 1) blocks a n) ≡ Some d → (a ≡ 0) × (n ≡ k + 0)
    by true e is =
        let number : n ≡ k = eq_true n k (and_right (a == 0) (n == k) e) in
        (eq_true a 0 (and_left (a == 0) (n == k) e), omega (arith, number))
    by false e is = let up : b + 1 ≤ d.block = at_least (b + 1) (k + 1) blocks a n d is in absurd (omega (arith, up, block))
only_kexec b k (suc i) (Kexec other ∷ blocks) blob a n d there is block =
    by (λ rest. only_kexec (b + 1) (k + 1) i blocks blob a n d there rest (let same : b + suc i ≡ (b + 1) + i = omega arith in block ∙ same)) (a == 0 && n == k) is
  where
    by : (due_from (b + 1) (k + 1) blocks a n ≡ Some d → (a ≡ 0) × (n ≡ (k + 1) + kexecs_in (take i blocks))) → (t : Bool) → (if t then Some (record { block = b; task = Reboot other }) else due_from (b + 1) (k + 1) blocks a n) ≡ Some d
        → (a ≡ 0) × (n ≡ k + (1 + kexecs_in (take i blocks)))
    by more true is = let same : b ≡ d.block = ap (λ x. x.block) (same_due (record { block = b; task = Reboot other }) d is) in absurd (omega (arith, same, block))
    by more false is =
        let both = more is in
        let number : n ≡ (k + 1) + kexecs_in (take i blocks) = both.1 in
        (both.0, omega (arith, number))

pub numbered_kexecs : NumberedKexecs
numbered_kexecs blocks b blob h is = record {
  is_there = is;
  due = due_kexec 0 1 b blocks blob h is ∙ ap (λ x. Some (record { block = x; task = Reboot blob })) none_before;
  alone = λ a n d due block. only_kexec 0 1 b blocks blob a n d is due (block ∙ sym none_before);
}
  where
    none_before : 0 + b ≡ b
    none_before = omega arith

-- one block more
counted_more : (blocks : List Block) (b : ℕ) (block : Block) → slice_get blocks b ≡ Some block → kexecs_in (take (suc b) blocks) ≡ kexecs_in (take b blocks) + kexecs_in (block ∷ [])
counted_more [] b block is = absurd (not_some block is)
counted_more (x ∷ blocks) zero block is = ap (λ y. kexecs_in (y ∷ [])) (same_block x block is) ∙ none_before (kexecs_in (block ∷ []))
  where
    none_before : (n : ℕ) → n ≡ 0 + n
    none_before n = omega arith

    same_block : (x y : Block) → ◌≡◌ {A = Option Block} (Some x) (Some y) → x ≡ y
    same_block x y e = cc
counted_more (Round works ∷ blocks) (suc b) block is = counted_more blocks b block is
counted_more (Kexec blob ∷ blocks) (suc b) block is = let more : kexecs_in (take (suc b) blocks) ≡ kexecs_in (take b blocks) + kexecs_in (block ∷ []) = counted_more blocks b block is in omega (arith, more)

counted_most : (blocks : List Block) (b : ℕ) → kexecs_in (take b blocks) ≤ kexecs_in blocks
counted_most blocks zero = omega arith
counted_most [] (suc b) = omega arith
counted_most (Round works ∷ blocks) (suc b) = counted_most blocks b
counted_most (Kexec blob ∷ blocks) (suc b) = omega (arith, counted_most blocks b)

pub kexecs_counted : KexecsAreCounted
kexecs_counted blocks b block is =
    let same : suc b ≡ b + 1 = omega arith in
    (ap (λ n. kexecs_in (take n blocks)) (sym same) ∙ counted_more blocks b block is, counted_most blocks (b + 1))
