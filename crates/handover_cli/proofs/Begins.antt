-- How the blocks of a script that was read begin: on a cold kernel, and with their numbers in order.
use Rattle.std.proofs.Common.{◌≡◌, ℕ, ◌+◌, ◌<◌, ◌≤◌, ◌^◌, Bool, true, false, ◌==◌, nat_le, List, [], ◌∷◌, ◌++◌, length, replicate, slice_index_or, refl, sym, ap, subst, ◌∙◌, arith, append_assoc, IsTrue, zero, suc}
use Rattle.std.specs.Prelude.{Option, Some, slice_get, if◌then◌else◌}
use Rattle.std.specs.FinMap as finmap
use Rattle.std.specs.List.{list_all}
use Rattle.std.proofs.lemmas.Bool.Decides.{nat_tests}
use Rattle.ho_base.specs.ShapeRule.{Layout}
use Rattle.ho_base.specs.declared.limits.TheConstants.{AGENTS, COMMANDS, KEXECS, MAX_FRAMES}
use Rattle.ho_events.specs.History.{on, greatest_stamp}
use Rattle.ho_events.specs.Script.Rules.{sections_of, commands_of, are_numbered, is_numbered, is_built_script, is_built, is_built_block, is_single_script, is_single_block, is_alone, kexecs_in, is_agent_section, is_small_script, total_commands}
use Rattle.ho_events.specs.declared.script.AgentWork.{AgentWork}
use Rattle.ho_events.specs.declared.script.Block.{Block}
use Rattle.ho_events.specs.declared.script.Block.TheVariants.{Round, Kexec}
use Rattle.ho_events.specs.declared.script.Script.{Script}
use Rattle.ho_world.specs.Frozen.{next}
use Rattle.ho_world.specs.World.{State, World, cold, handler_at}
use Rattle.ho_world.specs.Entries.{in_kernel, beginning}
use Rattle.ho_world.specs.Legal.{labels_now, labeling_from}
use Rattle.ho_world.proofs.Fronts.{and_left, and_right, all_follow, eq_true}
use Rattle.ho_world.proofs.Rising.{rest, numbered_rises}
use Rattle.ho_world.proofs.Rounds.{numbered_rounds}
use Rattle.machine_core.specs.Kernels.{KernelValue, cold_begun, begun_in, histories_in, if_built}
use Rattle.machine_core.specs.LabelsShown.{agent_count}
use Rattle.machine_core.specs.Objects.{spot_at}
use Rattle.handover_cli.specs.Rounds.{IsAfter}
use Rattle.handover_cli.specs.Resumes.{BeginsWith}
use Rattle.handover_cli.specs.Stops.{BeginsBlocks}
use Rattle.sound_histories.specs.Scripts.{AreSoundBlocks}
use Rattle.sound_histories.proofs.Standing.{begun_stands, cold_stands}
use Rattle.handover_cli.specs.Works.{CanDo, CanRun}
use Rattle.handover_cli.proofs.KernelWorlds.{built_is, cold_quiet, next_quiet, no_handler, all_same, how_many}
use Rattle.kexec_laws.specs.Kexecs.{is_agent, has_agents}
use Rattle.kexec_laws.proofs.KexecNumbers.{numbered_kexecs}
use Rattle.ho_base.specs.Objects.{handler_no}

none_on : (o k : ℕ) → on o (in_kernel k []) ≡ []
unfolding on in_kernel
none_on o k = refl

none_stamped : (k : ℕ) → greatest_stamp (in_kernel k []) ≡ 0
unfolding greatest_stamp in_kernel
none_stamped k = refl

none_bound : (blocks : List Block) (k a : ℕ) → labels_now blocks k a [] ≡ finmap.empty
unfolding labels_now labeling_from
none_bound blocks k a = refl

first_begins : (start : World) → beginning start [] 0 ≡ start
unfolding beginning
first_begins start = refl

-- a kernel that begins with a world is as no entries say
begun_after : (start : World) (blocks : List Block) (kernel : KernelValue) → kernel.number ≡ 0 → kernel.updates ≡ start.number → ((n : ℕ) → begun_in kernel.objects n ≡ if_built (spot_at n) (start.at n)) → ((n : ℕ) → histories_in kernel.objects n ≡ [])
    → kernel.labels ≡ replicate agent_count finmap.empty → kernel.base ≡ 0 → ((n : ℕ) → n < 4 → (handler_at start n).outgoing.files ≡ 0) → IsAfter start blocks [] 0 kernel
begun_after start blocks kernel number updates begun histories labels base quiet = record {
  number = number;
  updates = updates ∙ ap (λ (w : World). w.number) (sym (first_begins start));
  due = refl;
  begun = λ o s is. ap (λ (w : World). w.at o) (first_begins start) ∙ built_is (spot_at o) (start.at o) s (sym (begun o) ∙ is);
  histories = λ i o. point o i;
  base = base ∙ sym (none_stamped 0);
  labels = λ a. ap (λ ls. slice_index_or ls a finmap.empty) labels ∙ all_same agent_count a finmap.empty ∙ sym (none_bound blocks 0 a);
  lists = ap length labels ∙ how_many agent_count finmap.empty;
  handlers = λ n less. ap (λ (w : World). (handler_at w n).outgoing.files) (first_begins start) ∙ quiet n less;
  unbuilt = λ n less. begun (handler_no n) ∙ no_handler n less (start.at (handler_no n));
}
  where
    point : (o : ℕ) → histories_in kernel.objects o ≡ on o (in_kernel 0 [])
    point o = histories o ∙ sym (none_on o 0)

-- a cold kernel begins blocks in the cold world of its shape
pub cold_begins : (shape : Layout) (blocks : List Block) (kernel : KernelValue) → kernel.number ≡ 0 → begun_in kernel.objects ≡ cold_begun shape → ((n : ℕ) → histories_in kernel.objects n ≡ [])
    → kernel.labels ≡ replicate agent_count finmap.empty → kernel.base ≡ 0 → kernel.updates ≡ 0 → BeginsBlocks (cold shape) blocks kernel
cold_begins shape blocks kernel number begun histories labels base updates = record {
  after = begun_after (cold shape) blocks kernel number updates (λ n. ap (λ (f : ℕ → Option State). f n) begun) histories labels base (cold_quiet shape);
  sound = cold_stands shape blocks;
}

-- a kernel that begins with what an image carries begins blocks in the world that follows
pub image_begins : (told : Option (List ℕ)) (blocks : List Block) (kernel : KernelValue) (with : BeginsWith told kernel) → BeginsBlocks (next with.state) blocks kernel
image_begins told blocks kernel with =
    let made = with.begins in
    record {
      after = begun_after (next with.state) blocks kernel made.number made.updates made.begun made.histories made.labels made.base (next_quiet with.state);
      sound = begun_stands (next with.state) blocks with.sound;
    }

-- a test of all blocks at one of them
all_at : (p : Block → Bool) (blocks : List Block) (b : ℕ) (block : Block) → slice_get blocks b ≡ Some block → IsTrue (list_all p blocks) → IsTrue (p block)
all_at p [] b block is h = absurd cc
all_at p (x ∷ blocks) zero block is h = subst (λ y. IsTrue (p y)) (same x block is) (and_left (p x) _ h)
  where
    same : (x y : Block) → Some x ≡ Some y → x ≡ y
    same x y e = cc
all_at p (x ∷ blocks) (suc b) block is h = all_at p blocks b block is (and_right (p x) _ h)

-- the sections before and after that of a round
record Among (blocks : List Block) (work : AgentWork) : Type 0 where
  earlier : List AgentWork
  later : List AgentWork
  all : sections_of blocks ≡ earlier ++ work ∷ later

among : (blocks : List Block) (b : ℕ) (work : AgentWork) → slice_get blocks b ≡ Some (Round (work ∷ [])) → Among blocks work
among [] b work is = absurd cc
among (x ∷ blocks) zero work is = subst (λ y. Among (y ∷ blocks) work) (sym (same x (Round (work ∷ [])) is)) (record { earlier = []; later = sections_of blocks; all = refl })
  where
    same : (x y : Block) → Some x ≡ Some y → x ≡ y
    same x y e = cc
among (Round works ∷ blocks) (suc b) work is =
    let more : Among blocks work = among blocks b work is in
    record { earlier = works ++ more.earlier; later = more.later; all = ap (λ ws. works ++ ws) more.all ∙ sym (append_assoc works more.earlier (work ∷ more.later)) }
among (Kexec blob ∷ blocks) (suc b) work is =
    let more : Among blocks work = among blocks b work is in
    record { earlier = more.earlier; later = more.later; all = more.all }

own_or_none : (c : Bool) (n : ℕ) → (if c then n else 0) ≤ n
own_or_none true n = omega arith
own_or_none false n = omega arith

some_of_all : (a : ℕ) (works : List AgentWork) → commands_of a works ≤ total_commands works
some_of_all a [] = omega arith
some_of_all a (w ∷ works) = omega (arith, own_or_none (w.agent.0 == a) (length w.commands), some_of_all a works)

total_parts : (xs ys : List AgentWork) → total_commands (xs ++ ys) ≡ total_commands xs + total_commands ys
total_parts [] ys = omega arith
total_parts (x ∷ xs) ys = omega (arith, total_parts xs ys)

-- the numbers of a round's commands are no greater than there are commands
small_numbers : (blocks : List Block) (b : ℕ) (work : AgentWork) → IsTrue (are_numbered [] (sections_of blocks)) → total_commands (sections_of blocks) ≤ COMMANDS → slice_get blocks b ≡ Some (Round (work ∷ [])) → work.first + length work.commands < 2 ^ 32
small_numbers blocks b work numbered small is =
    let m : Among blocks work = among blocks b work is in
    let after : IsTrue (are_numbered m.earlier (work ∷ m.later)) = rest [] m.earlier (work ∷ m.later) (subst (λ ws. IsTrue (are_numbered [] ws)) m.all numbered) in
    let first : work.first ≡ commands_of work.agent.0 m.earlier + 1 = eq_true work.first (commands_of work.agent.0 m.earlier + 1) (and_left (work.first == commands_of work.agent.0 m.earlier + 1) _ after) in
    let whole : total_commands (sections_of blocks) ≡ total_commands m.earlier + (length work.commands + total_commands m.later) = ap total_commands m.all ∙ total_parts m.earlier (work ∷ m.later) in
    omega (arith, first, whole, small, some_of_all work.agent.0 m.earlier)

le_true : (x y : ℕ) → IsTrue (nat_le x y) → x ≤ y
le_true x y h = grind (arith, nat_tests)

-- a kexec, and a round of at most one section, of an agent that there may be, can be done
can_do : (block : Block) → ((work : AgentWork) → block ≡ Round (work ∷ []) → work.first + length work.commands < 2 ^ 32) → IsTrue (is_single_block block) → IsTrue (is_built_block block) → CanDo block
can_do (Round []) numbers single built = tt
can_do (Round (work ∷ [])) numbers single built =
    let within : IsTrue (is_agent_section work) = and_left (is_agent_section work) true single in
    let least : 1 ≤ work.agent.0 = le_true 1 work.agent.0 (and_left (nat_le 1 work.agent.0) _ within) in
    let greatest : work.agent.0 ≤ AGENTS = le_true work.agent.0 AGENTS (and_right (nat_le 1 work.agent.0) _ within) in
    record {
      above = omega (arith, least);
      agent = omega (arith, greatest);
      built = and_left (list_all is_built work.commands) true built;
      numbers = numbers work refl;
    }
can_do (Round (work ∷ more ∷ works)) numbers single built =
    absurd omega (arith, le_true (length (work ∷ more ∷ works)) 1 (and_left (nat_le (length (work ∷ more ∷ works)) 1) _ single))
can_do (Kexec blob) numbers single built = record {
  least = le_true 1 blob.frames (and_left (nat_le 1 blob.frames) _ built);
  most = le_true blob.frames MAX_FRAMES (and_right (nat_le 1 blob.frames) _ built);
}

-- no round has an agent 0
with_agents : (block : Block) → IsTrue (is_single_block block) → IsTrue (has_agents block)
with_agents (Round works) single = all_follow is_agent_section is_agent works (λ w h. and_left (nat_le 1 w.agent.0) _ h) (and_right (nat_le (length works) 1) _ single)
with_agents (Kexec blob) single = refl

-- the blocks of a script that was read can be run
pub can_run : (script : Script) → IsTrue (is_built_script script) → IsTrue (is_numbered script) → IsTrue (is_single_script script) → IsTrue (is_small_script script) → AreSoundBlocks script.blocks → CanRun script.blocks
can_run script built numbered single small sound = record {
  sound = sound;
  rising = numbered_rises script numbered;
  rounds = λ b work above is. numbered_rounds script b work numbered above is;
  kexecs = λ b blob is. numbered_kexecs script.blocks b blob (all_follow is_single_block has_agents script.blocks with_agents singles) is;
  few = le_true (kexecs_in script.blocks) KEXECS (and_right (list_all is_alone script.blocks) _ (and_right (nat_le (total_commands (sections_of script.blocks)) COMMANDS) _ small));
  each = λ b block is. can_do block
      (λ work same. small_numbers script.blocks b work numbered (le_true (total_commands (sections_of script.blocks)) COMMANDS (and_left (nat_le (total_commands (sections_of script.blocks)) COMMANDS) _ small)) (is ∙ ap (λ x. Some x) same))
      (all_at is_single_block script.blocks b block is singles)
      (all_at is_built_block script.blocks b block is built);
}
  where
    singles : IsTrue (list_all is_single_block script.blocks)
    singles = and_right (length script.fails == 0) _ single
