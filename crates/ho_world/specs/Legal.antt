-- Legal histories. Each entry is judged by the entries that stand before it, in three clauses: it is due (its
-- kernel, stamp, place in the order and block), its object can make it, and its command's entries begin one of the
-- command's sequences. An audit reports these as clauses 2, 3 and 4; a line that is no entry breaks clause 1, and
-- a history that ends too early clause 5.
use Rattle.std.specs.Prelude.{◌≡◌, ℕ, ◌+◌, Bool, true, false, ◌&&◌, ◌||◌, ◌==◌, nat_lt, max, if◌then◌else◌, List, [], ◌∷◌, ◌++◌, filter, length, count_by, is_some, is_none, IsTrue, suc, Option, None, Some}
use Rattle.std.specs.List.{list_all}
use Rattle.std.specs.FinMap as finmap
use Rattle.ho_base.specs.declared.numbers.FileNo.{FileNo}
use Rattle.ho_events.specs.Lists.{upto}
use Rattle.ho_events.specs.declared.entry.Entry.{Entry}
use Rattle.ho_events.specs.declared.entry.Place.{Place}
use Rattle.ho_events.specs.declared.entry.Place.TheVariants.{Object, Own}
use Rattle.ho_events.specs.declared.event.Event.{Event}
use Rattle.ho_events.specs.declared.event.Event.TheVariants.{RegNewFile, SessionTake, SelfDone}
use Rattle.ho_events.specs.declared.reply.Reply.{Reply}
use Rattle.ho_events.specs.declared.reply.Reply.TheVariants.{OkFile}
use Rattle.ho_events.specs.declared.command.Command.{Command}
use Rattle.ho_events.specs.declared.script.AgentWork.{AgentWork}
use Rattle.ho_events.specs.declared.script.Block.{Block}
use Rattle.ho_events.specs.declared.script.Block.TheVariants.{Round, Kexec}
use Rattle.ho_events.specs.History.{on, by, greatest_stamp, at_place}
use Rattle.ho_events.specs.declared.command.Command.TheVariants as command
use Rattle.ho_world.specs.World.{State, World, run, after}
use Rattle.ho_world.specs.Entries.{in_kernel, is_own, has_done, comes_before, ends_kernel, is_ok, beginning, world_of, Line, lines, lines_of}
use Rattle.ho_world.specs.Acts.{AllHold, Act, Sequence}
use Rattle.ho_world.specs.Sequences.{Labels, Outcome, sequence}
use Rattle.ho_world.specs.Tasks.{Task, Ask, Due, due_of}

-- the commands of this work from number n on are done
abbrev pub are_done : List Entry → ℕ → ℕ → List Command → Bool
are_done es a n [] = true
are_done es a n (c ∷ cs) = has_done a n es && are_done es a (n + 1) cs

abbrev pub is_work_done : List Entry → AgentWork → Bool
is_work_done es work = are_done es work.agent.0 work.first work.commands

-- the number of the first block that isn't done, and where all are done how many there are
unfoldable pub due_block_from : ℕ → ℕ → List Block → List Entry → ℕ
due_block_from b k [] es = b
due_block_from b k (Round works ∷ blocks) es = (if list_all (is_work_done es) works then due_block_from (b + 1) k blocks es else b)
due_block_from b k (Kexec blob ∷ blocks) es = (if has_done 0 k es then due_block_from (b + 1) (k + 1) blocks es else b)

abbrev pub due_block : List Block → List Entry → ℕ
due_block blocks es = due_block_from 0 1 blocks es

-- the block of an entry's command
abbrev pub block_in : Option Due → Option ℕ
block_in None = None
block_in (Some d) = Some d.block

abbrev pub block_of : List Block → Entry → Option ℕ
block_of blocks e = block_in (due_of blocks e.agent.0 e.command)

-- an entry of a block before block b
abbrev pub is_below : ℕ → Option ℕ → Bool
is_below b None = false
is_below b (Some c) = nat_lt c b

-- the entries of kernel k and of blocks before block b
unfoldable pub earlier_here : List Block → ℕ → ℕ → List Entry → List Entry
earlier_here blocks k b es = filter (λ d. d.kernel == k && is_below b (block_of blocks d)) es

-- the last block that has an entry
abbrev pub last_block : List Block → List Entry → ℕ
last_block blocks [] = 0
last_block blocks (e ∷ es) = max (number_of (block_of blocks e)) (last_block blocks es)
  where
    number_of : Option ℕ → ℕ
    number_of None = 0
    number_of (Some b) = b

-- the block to which an entry is counted: the entry of a command that the script doesn't have is counted to the
-- block that is due, and where all blocks are done to the last one that has an entry
abbrev pub counted_to : List Block → List Entry → Option ℕ → ℕ
counted_to blocks before (Some b) = b
counted_to blocks before None =
    if nat_lt (due_block blocks before) (length blocks) then due_block blocks before else last_block blocks before

-- the number of the kernel that runs: one more with each kexec answered Ok
abbrev pub kernel_due : List Entry → ℕ
kernel_due before = count_by ends_kernel before

-- the stamp that is due: one more than the last stamps of the agent and of the object. As a block begins, an
-- agent's last stamp is the greatest one of this kernel in the blocks before
abbrev pub stamp_due : List Block → List Entry → Entry → ℕ
stamp_due blocks before e =
    let b = counted_to blocks before (block_of blocks e) in
    let here = in_kernel e.kernel before in
    1 + max (max (greatest_stamp (earlier_here blocks e.kernel b before)) (greatest_stamp (by e.agent.0 here)))
    (greatest_stamp (at_place e.object here))

abbrev pub is_block_due : ℕ → Option ℕ → Bool
is_block_due due None = true
is_block_due due (Some b) = b == due

-- the entry has the kernel and the stamp that are due
unfoldable pub is_stamped : List Block → List Entry → Entry → Bool
is_stamped blocks before e = e.kernel == kernel_due before && e.stamp == stamp_due blocks before e

unfoldable pub is_due : List Block → List Entry → Entry → Bool
is_due blocks before e =
    is_stamped blocks before e && list_all (λ d. comes_before d e) before && is_block_due (due_block blocks before) (block_of blocks e)

abbrev pub can_come : World → List Entry → Place → Entry → Bool
can_come w here Own e = true
can_come w here (Object n) e = is_some (run (w.at n.0) (on n.0 here ++ e ∷ []))

unfoldable pub is_possible : World → List Entry → Entry → Bool
is_possible start before e = can_come (beginning start before e.kernel) (in_kernel e.kernel before) e.object e

-- what an agent's entries say of its labels, and the file that they named last
pub record Labeling : Type 0 where
  pub labels : Labels
  pub found : Option FileNo

abbrev pub nothing_bound : Labeling
nothing_bound = record { labels = finmap.empty; found = None }

abbrev pub bound_to : Labels → List ℕ → Option FileNo → Labels
bound_to labels label None = labels
bound_to labels label (Some f) = finmap.insert labels label f

-- a command that was answered Ok binds or unbinds its label
abbrev pub after_task : Labeling → Option Due → Labels
after_task l None = l.labels
after_task l (Some d) = by_task d.task
  where
    by_task : Task → Labels
    by_task (Ask (command.Memfd label o)) = bound_to l.labels label l.found
    by_task (Ask (command.Device label kind size)) = bound_to l.labels label l.found
    by_task (Ask (command.Retrieve name t label)) = bound_to l.labels label l.found
    by_task (Ask (command.CloseFd label)) = finmap.remove l.labels label
    by_task task = l.labels

abbrev pub found_in : Option FileNo → Event → Reply → Option FileNo
found_in found RegNewFile (OkFile f) = Some f
found_in found (SessionTake name t) (OkFile f) = Some f
found_in found event reply = found

abbrev pub label_entry : List Block → Labeling → Entry → Labeling
label_entry blocks l e = record {
  labels = (if is_own e.object && is_ok e.reply then after_task l (due_of blocks e.agent.0 e.command) else l.labels);
  found = found_in l.found e.event e.reply;
}

unfoldable pub labeling_from : List Block → Labeling → List Entry → Labeling
labeling_from blocks l [] = l
labeling_from blocks l (e ∷ es) = labeling_from blocks (label_entry blocks l e) es

-- an agent's labels before its command n: what its earlier entries of this kernel say
abbrev pub is_earlier_of : ℕ → ℕ → ℕ → Entry → Bool
is_earlier_of k a n d = d.kernel == k && d.agent.0 == a && nat_lt d.command n

unfoldable pub labels_before : List Block → ℕ → ℕ → ℕ → List Entry → Labels
labels_before blocks k a n es = (labeling_from blocks nothing_bound (filter (is_earlier_of k a n) es)).labels

-- an agent's labels after all its entries of kernel k
unfoldable pub labels_now : List Block → ℕ → ℕ → List Entry → Labels
labels_now blocks k a es = (labeling_from blocks nothing_bound (filter (λ d. d.kernel == k && d.agent.0 == a) es)).labels

-- the world of kernel k before block b
abbrev pub world_before : World → List Block → ℕ → ℕ → List Entry → World
world_before start blocks k b es = after (beginning start es k) (earlier_here blocks k b es)

-- the states of all objects at a line, before its entry
abbrev pub seen_at : World → Line → ℕ → State
seen_at start l = (world_of start l.before l.entry.kernel).at

-- the states in which its kernel began
abbrev pub begun_at : World → Line → ℕ → State
begun_at start l = (beginning start l.before l.entry.kernel).at

-- a line is an act;  it is the end of the command
pub record IsAct (start : World) (l : Line) (act : Act) : Type 0 where
  pub object : l.entry.object ≡ Object (record { 0 = act.object })
  pub event : l.entry.event ≡ act.event
  pub reply : l.entry.reply ≡ act.reply
  pub claims : AllHold (begun_at start l) (seen_at start l) act.claims

pub record IsEnd (l : Line) (reply : Reply) : Type 0 where
  pub object : l.entry.object ≡ Own
  pub event : l.entry.event ≡ SelfDone
  pub replied : l.entry.reply ≡ reply

-- the lines are the first of these acts, in order, and after all of them the end
abbrev pub Fits : World → List Line → List Act → Reply → Type 0
Fits start [] acts reply = Unit {0}
Fits start (l ∷ ls) [] reply = IsEnd l reply × (ls ≡ [])
Fits start (l ∷ ls) (act ∷ acts) reply = IsAct start l act × Fits start ls acts reply

-- the lines begin a sequence of the task;  they are a whole one
pub record Begins (start : World) (labels : Labels) (w : World) (task : Task) (ls : List Line) : Type 0 where
  pub outcome : Outcome
  pub acts : Sequence
  pub is_one : sequence labels w task outcome ≡ Some acts
  pub fits : Fits start ls acts.acts acts.reply

pub record IsWhole (start : World) (labels : Labels) (w : World) (task : Task) (ls : List Line) : Type 0 where
  pub outcome : Outcome
  pub acts : Sequence
  pub is_one : sequence labels w task outcome ≡ Some acts
  pub fits : Fits start ls acts.acts acts.reply
  pub all : length ls ≡ suc (length acts.acts)

-- every task of this agent with a smaller number is done
abbrev pub are_earlier_done : List Block → ℕ → ℕ → List Entry → Bool
are_earlier_done blocks a n before = list_all (λ m. is_none (due_of blocks a m) || has_done a m before) (upto n)

abbrev pub KeepsSequenceAt : World → List Block → List Entry → Entry → Option Due → Type 0
KeepsSequenceAt start blocks before e None = ⊥
KeepsSequenceAt start blocks before e (Some d) =
    IsTrue (are_earlier_done blocks e.agent.0 e.command before)
    × Begins start (labels_before blocks e.kernel e.agent.0 e.command before)
    (world_before start blocks e.kernel d.block before) d.task
    (lines_of e.agent.0 e.command (lines (before ++ e ∷ [])))

abbrev pub KeepsSequence : World → List Block → List Entry → Entry → Type 0
KeepsSequence start blocks before e = KeepsSequenceAt start blocks before e (due_of blocks e.agent.0 e.command)

-- the entry may come here
pub record MayCome (start : World) (blocks : List Block) (before : List Entry) (e : Entry) : Type 0 where
  pub is_due : IsTrue (is_due blocks before e)
  pub is_possible : IsTrue (is_possible start before e)
  pub keeps_sequence : KeepsSequence start blocks before e

-- the first clause that the entry breaks here is that it is due;  that its object can make it;  that its
-- command's entries begin a sequence
abbrev pub BreaksOrder : World → List Block → List Entry → Entry → Type 0
BreaksOrder start blocks before e = is_due blocks before e ≡ false

abbrev pub BreaksObject : World → List Block → List Entry → Entry → Type 0
BreaksObject start blocks before e = (is_due blocks before e ≡ true) × (is_possible start before e ≡ false)

abbrev pub BreaksSequence : World → List Block → List Entry → Entry → Type 0
BreaksSequence start blocks before e =
    (is_due blocks before e ≡ true) × (is_possible start before e ≡ true) × (¬ (KeepsSequence start blocks before e))

-- each of these entries, after those seen, may come where it stands
unfoldable pub AllMayCome : World → List Block → List Entry → List Entry → Type 0
AllMayCome start blocks seen [] = Unit {0}
AllMayCome start blocks seen (e ∷ es) = MayCome start blocks seen e × AllMayCome start blocks (seen ++ e ∷ []) es

abbrev pub IsLegalSoFar : World → List Block → List Entry → Type 0
IsLegalSoFar start blocks es = AllMayCome start blocks [] es

-- a legal history of the blocks, from a world on: legal so far, and every block is done
pub record IsLegal (start : World) (blocks : List Block) (es : List Entry) : Type 0 where
  pub so_far : IsLegalSoFar start blocks es
  pub ended : due_block blocks es ≡ length blocks
