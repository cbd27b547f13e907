-- The tasks of a round: in a numbered script, those of its sections and no others.
use Rattle.std.proofs.Common.{◌≡◌, ℕ, ◌+◌, ◌-◌, ◌<◌, ◌≤◌, Bool, true, false, ◌&&◌, ◌==◌, nat_le, List, [], ◌∷◌, ◌++◌, length, refl, sym, ap, subst, ◌∙◌, arith, zero, suc, unwrap_or, is_some, IsTrue}
use Rattle.std.specs.Prelude.{Option, None, Some, slice_get, if◌then◌else◌}
use Rattle.std.specs.List.{list_all}
use Rattle.std.proofs.lemmas.Bool.Decides.{nat_tests}
use Rattle.std.proofs.lemmas.List.{append-nil}
use Rattle.std.proofs.lemmas.Option.{slice_get_within}
use Rattle.ho_events.specs.History.{on}
use Rattle.ho_events.specs.Script.Rules.{sections_of, commands_of, are_numbered}
use Rattle.ho_events.specs.declared.command.Command.{Command}
use Rattle.ho_events.specs.declared.entry.Entry.{Entry}
use Rattle.ho_events.specs.declared.script.AgentWork.{AgentWork}
use Rattle.ho_events.specs.declared.script.Block.{Block}
use Rattle.ho_events.specs.declared.script.Block.TheVariants.{Round, Kexec}
use Rattle.ho_world.specs.Alone.{IdleIsNext, NumberedRounds}
use Rattle.ho_world.specs.Entries.{in_kernel, beginning, all_pairs}
use Rattle.ho_world.specs.Readings.{are_stamped, stands_before}
use Rattle.ho_world.specs.Tasks.{Ask, Reboot, Due, due_from, due_of, or_else, command_in, command_among, asked_in}
use Rattle.ho_world.specs.World.{run}
use Rattle.ho_world.proofs.DueBlock.{at_least}
use Rattle.ho_world.proofs.Fronts.{eq_true, eq_same, le_true}
use Rattle.ho_world.proofs.Rising.{counted, rest, front, first_at, found}

same_value : {T : Type 0} (x y : T) → Some x ≡ Some y → x ≡ y
same_value x y e = ap (λ o. unwrap_or o x) e

not_some : {T : Type 0} (t : T) → ◌≡◌ {A = Option T} None (Some t) → ⊥
not_some t e = cc

abbrev sections : Block → List AgentWork
sections (Round works) = works
sections (Kexec blob) = []

same_sections : (works others : List AgentWork) → ◌≡◌ {A = Option Block} (Some (Round works)) (Some (Round others)) → works ≡ others
same_sections works others e = ap sections (same_value (Round works) (Round others) e)

no_round : (blob : _) (works : List AgentWork) → ◌≡◌ {A = Option Block} (Some (Kexec blob)) (Some (Round works)) → ⊥
no_round blob works e = cc

-- a task of a round's block is one of its sections'
in_round : (b k i : ℕ) (blocks : List Block) (works : List AgentWork) (a n : ℕ) (d : Due) → slice_get blocks i ≡ Some (Round works) → due_from b k blocks a n ≡ Some d → d.block ≡ b + i → (c : Command) × (command_among works a n ≡ Some c)
unfolding due_from
in_round b k i [] works a n d there is block = absurd (not_some (Round works) there)
in_round b k zero (Round others ∷ blocks) works a n d there is block = by (command_among others a n) refl is
  where
    by : (o : Option Command) → command_among others a n ≡ o → or_else (asked_in b o) (due_from (b + 1) k blocks a n) ≡ Some d → (c : Command) × (command_among works a n ≡ Some c)
    by None o is = let up : b + 1 ≤ d.block = at_least (b + 1) k blocks a n d is in absurd (omega (arith, up, block))
    by (Some c) o is = (c, ap (λ ws. command_among ws a n) (sym (same_sections others works there)) ∙ o)
in_round b k (suc i) (Round others ∷ blocks) works a n d there is block =
    by (λ rest. in_round (b + 1) k i blocks works a n d there rest (let same : b + suc i ≡ (b + 1) + i = omega arith in block ∙ same)) (command_among others a n) is
  where
    by : (due_from (b + 1) k blocks a n ≡ Some d → (c : Command) × (command_among works a n ≡ Some c)) → (o : Option Command) → or_else (asked_in b o) (due_from (b + 1) k blocks a n) ≡ Some d → (c : Command) × (command_among works a n ≡ Some c)
    by more None is = more is
    by more (Some c) is = let same : b ≡ d.block = ap (λ x. x.block) (same_value (record { block = b; task = Ask c }) d is) in absurd (omega (arith, same, block))
in_round b k zero (Kexec blob ∷ blocks) works a n d there is block = absurd (no_round blob works there)
in_round b k (suc i) (Kexec blob ∷ blocks) works a n d there is block =
    by (λ rest. in_round (b + 1) (k + 1) i blocks works a n d there rest (let same : b + suc i ≡ (b + 1) + i = omega arith in block ∙ same)) (a == 0 && n == k) is
  where
    by : (due_from (b + 1) (k + 1) blocks a n ≡ Some d → (c : Command) × (command_among works a n ≡ Some c)) → (t : Bool) → (if t then Some (record { block = b; task = Reboot blob }) else due_from (b + 1) (k + 1) blocks a n) ≡ Some d → (c : Command) × (command_among works a n ≡ Some c)
    by more false is = more is
    by more true is = let same : b ≡ d.block = ap (λ x. x.block) (same_value (record { block = b; task = Reboot blob }) d is) in absurd (omega (arith, same, block))

-- a command of one section alone
abbrev IsPlace : AgentWork → ℕ → ℕ → Type 0
IsPlace work a n = (a ≡ work.agent.0) × ((i : ℕ) × (n ≡ work.first + i) × (i < length work.commands))

one_section : (work : AgentWork) (a n : ℕ) (c : Command) → command_among (work ∷ []) a n ≡ Some c → IsPlace work a n
one_section work a n c is = by_agent (work.agent.0 == a) refl is
  where
    no_more : (o : Option Command) → or_else o None ≡ Some c → o ≡ Some c
    no_more None e = e
    no_more (Some x) e = e

    by_number : (t : Bool) → nat_le work.first n ≡ t → (if t then slice_get work.commands (n - work.first) else None) ≡ Some c → (i : ℕ) × (n ≡ work.first + i) × (i < length work.commands)
    by_number false t e = absurd (not_some c e)
    by_number true t e =
        let low : work.first ≤ n = le_true work.first n t in
        let less : n - work.first < length work.commands = slice_get_within work.commands (n - work.first) c e in
        let same : n ≡ work.first + (n - work.first) = omega (arith, low) in
        (n - work.first, same, less)

    by_agent : (t : Bool) → (work.agent.0 == a) ≡ t → or_else (if t then command_in work n else None) None ≡ Some c → IsPlace work a n
    by_agent false t e = absurd (not_some c e)
    by_agent true t e = (sym (eq_true work.agent.0 a t), by_number (nat_le work.first n) refl (no_more (command_in work n) e))

-- a section begins after all commands of its agent in the sections before it
begins_after : (blocks : List Block) (earlier : List AgentWork) (j : ℕ) (work : AgentWork) → IsTrue (are_numbered earlier (sections_of blocks)) → slice_get blocks j ≡ Some (Round (work ∷ [])) → commands_of work.agent.0 earlier < work.first
begins_after [] earlier j work h is = absurd (not_some (Round (work ∷ [])) is)
begins_after (Round works ∷ blocks) earlier zero work h is =
    let first : work.first ≡ commands_of work.agent.0 earlier + 1 =
    first_at earlier work [] work.agent.0 (eq_same work.agent.0) (subst (λ ws. IsTrue (are_numbered earlier ws)) (same_sections works (work ∷ []) is) (front earlier works (sections_of blocks) h)) in
    omega (arith, first)
begins_after (Round works ∷ blocks) earlier (suc j) work h is =
    let more : commands_of work.agent.0 (earlier ++ works) < work.first = begins_after blocks (earlier ++ works) j work (rest earlier works (sections_of blocks) h) is in
    omega (arith, more, counted work.agent.0 earlier works)
begins_after (Kexec blob ∷ blocks) earlier zero work h is = absurd (no_round blob (work ∷ []) is)
begins_after (Kexec blob ∷ blocks) earlier (suc j) work h is = begins_after blocks earlier j work h is

-- the section's commands are due in its block
due_in : (b k : ℕ) (blocks : List Block) (earlier : List AgentWork) (j : ℕ) (work : AgentWork) (i : ℕ) (c : Command) → IsTrue (are_numbered earlier (sections_of blocks)) → 0 < work.agent.0 → slice_get blocks j ≡ Some (Round (work ∷ []))
    → slice_get work.commands i ≡ Some c → due_from b k blocks work.agent.0 (work.first + i) ≡ Some (record { block = b + j; task = Ask c })
unfolding due_from
due_in b k [] earlier j work i c h above is command = absurd (not_some (Round (work ∷ [])) is)
due_in b k (Round works ∷ blocks) earlier zero work i c h above is command =
    ap (λ o. or_else (asked_in b o) (due_from (b + 1) k blocks work.agent.0 (work.first + i))) (ap (λ ws. command_among ws work.agent.0 (work.first + i)) (same_sections works (work ∷ []) is) ∙ own)
    ∙ ap (λ x. Some (record { block = x; task = Ask c })) last
  where
    last : b ≡ b + 0
    last = omega arith

    low : (f i : ℕ) → nat_le f (f + i) ≡ true
    low f i = grind (arith, nat_tests)

    place : (work.first + i) - work.first ≡ i
    place = omega arith

    own : command_among (work ∷ []) work.agent.0 (work.first + i) ≡ Some c
    own =
        ap (λ t. or_else (if t then command_in work (work.first + i) else None) None) (eq_same work.agent.0)
        ∙ ap (λ t. or_else (if t then slice_get work.commands ((work.first + i) - work.first) else None) None) (low work.first i)
        ∙ ap (λ n. or_else (slice_get work.commands n) None) place ∙ ap (λ o. or_else o None) command
due_in b k (Round works ∷ blocks) earlier (suc j) work i c h above is command =
    ap (λ o. or_else (asked_in b o) (due_from (b + 1) k blocks work.agent.0 (work.first + i))) (none (command_among works work.agent.0 (work.first + i)) refl)
    ∙ due_in (b + 1) k blocks (earlier ++ works) j work i c (rest earlier works (sections_of blocks) h) above is command
    ∙ ap (λ x. Some (record { block = x; task = Ask c })) last
  where
    last : (b + 1) + j ≡ b + suc j
    last = omega arith

    none : (o : Option Command) → command_among works work.agent.0 (work.first + i) ≡ o → o ≡ None
    none None o = refl
    none (Some x) o =
        let both = found earlier works work.agent.0 (work.first + i) x (front earlier works (sections_of blocks) h) o in
        let high : work.first + i ≤ commands_of work.agent.0 earlier + commands_of work.agent.0 works = both.1 in
        let low : commands_of work.agent.0 (earlier ++ works) < work.first = begins_after blocks (earlier ++ works) j work (rest earlier works (sections_of blocks) h) is in
        absurd (omega (arith, high, low, counted work.agent.0 earlier works))
due_in b k (Kexec blob ∷ blocks) earlier zero work i c h above is command = absurd (no_round blob (work ∷ []) is)
due_in b k (Kexec blob ∷ blocks) earlier (suc j) work i c h above is command =
    ap (λ t. if t && work.first + i == k then Some (record { block = b; task = Reboot blob }) else due_from (b + 1) (k + 1) blocks work.agent.0 (work.first + i)) (not_zero work.agent.0 above)
    ∙ due_in (b + 1) (k + 1) blocks earlier j work i c h above is command
    ∙ ap (λ x. Some (record { block = x; task = Ask c })) last
  where
    last : (b + 1) + j ≡ b + suc j
    last = omega arith

    not_zero : (x : ℕ) → 0 < x → (x == 0) ≡ false
    not_zero x up = grind (arith, nat_tests)

pub numbered_rounds : NumberedRounds
numbered_rounds script b work h above is = record {
  is_there = is;
  due = λ i c command. due_in 0 1 script.blocks [] b work i c h above is command ∙ ap (λ x. Some (record { block = x; task = Ask c })) (none_before b);
  alone = λ a n d due block. (place a n d due block).0;
  place = λ a n d due block. (place a n d due block).1;
}
  where
    none_before : (x : ℕ) → 0 + x ≡ x
    none_before x = omega arith

    place : (a n : ℕ) (d : Due) → due_of script.blocks a n ≡ Some d → d.block ≡ b → IsPlace work a n
    place a n d due block =
        let c = in_round 0 1 b script.blocks (work ∷ []) a n d is due (block ∙ sym (none_before b)) in
        one_section work a n c.0 c.1

-- a round without an agent
nothing_follows : (blocks : List Block) (es : List Entry) → IsTrue (list_all (λ d. list_all (stands_before blocks d) []) es)
nothing_follows blocks [] = refl
nothing_follows blocks (e ∷ es) = nothing_follows blocks es

nothing_stamped : (blocks : List Block) (es : List Entry) → IsTrue (are_stamped blocks es [])
unfolding are_stamped
nothing_stamped blocks es = refl

nothing_ordered : (blocks : List Block) → IsTrue (all_pairs (stands_before blocks) [])
unfolding all_pairs
nothing_ordered blocks = refl

pub idle_is_next : IdleIsNext
idle_is_next start blocks es b k is t = record {
  here = refl;
  stamped = nothing_stamped blocks es;
  in_order = nothing_ordered blocks;
  following = nothing_follows blocks es;
  objects = λ o. subst (λ xs. IsTrue (is_some (run ((beginning start es k).at o) (on o xs)))) (sym (append-nil (in_kernel k es))) (t.objects k o);
  agents = λ a n d due block.
      let c = in_round 0 1 b blocks [] a n d is due (block ∙ sym (none_before b)) in
      absurd (not_some c.0 c.1);
  later = λ a n d due below. refl;
}
  where
    none_before : (x : ℕ) → 0 + x ≡ x
    none_before x = omega arith
