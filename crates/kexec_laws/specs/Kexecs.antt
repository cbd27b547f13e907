-- A kexec block, what agent 0 did of it, and what this makes of a history.
use Rattle.std.specs.Prelude.{◌≡◌, ℕ, ◌+◌, ◌≤◌, Bool, true, false, nat_le, max, List, [], ◌∷◌, ◌++◌, take, is_some, slice_get, IsTrue, Option, Some}
use Rattle.std.specs.List.{list_all}
use Rattle.std.specs.FinMap as finmap
use Rattle.ho_base.specs.declared.numbers.Blob.{Blob}
use Rattle.ho_events.specs.declared.entry.Entry.{Entry}
use Rattle.ho_events.specs.declared.script.AgentWork.{AgentWork}
use Rattle.ho_events.specs.declared.script.Block.{Block}
use Rattle.ho_events.specs.declared.script.Block.TheVariants.{Round, Kexec}
use Rattle.ho_events.specs.declared.slip.At.{At}
use Rattle.ho_events.specs.History.{on, greatest_stamp, last_stamp}
use Rattle.ho_events.specs.Script.Rules.{kexecs_in}
use Rattle.ho_world.specs.World.{State, World, run, after}
use Rattle.ho_world.specs.Frozen.{frozen, next}
use Rattle.ho_world.specs.Entries.{in_kernel, beginning, world_of, is_ok}
use Rattle.ho_world.specs.Acts.{Sequence}
use Rattle.ho_world.specs.Tasks.{Reboot, Due, due_of}
use Rattle.ho_world.specs.Legal.{kernel_due, labels_now}
use Rattle.ho_world.specs.Logs.{AreDone, deeds_of, paired_on}
use Rattle.ho_world.specs.Sequences.Kexecs.{KexecOutcome, KernelEnds, kexec_acts}
use Rattle.ho_world.specs.Through.{IsThrough, IsNext, HasRisingNumbers}

-- block b is a kexec into this blob, it is agent 0's command of number c, and no other task is of this block
pub record IsKexecOf (blocks : List Block) (b : ℕ) (blob : Blob) (c : ℕ) : Type 0 where
  pub is_there : slice_get blocks b ≡ Some (Kexec blob)
  pub due : due_of blocks 0 c ≡ Some (record { block = b; task = Reboot blob })
  pub alone : (a n : ℕ) (d : Due) → due_of blocks a n ≡ Some d → d.block ≡ b → (a ≡ 0) × (n ≡ c)

-- The entries `new` are all that agent 0 did, where `at` says, of a kexec into `blob` on kernel k after the entries
-- `es`: a whole sequence of it in the world that these entries left, and a run of each object's steps. `begun` has the
-- states in which the kernel's objects began.
pub record IsKexeced (start : World) (es new : List Entry) (k : ℕ) (blob : Blob) (at : At) (begun : ℕ → Option State) : Type 0 where
  pub kernel : kernel_due es ≡ k
  pub of_kernel : at.kernel ≡ k
  pub of_agent : at.agent.0 ≡ 0
  pub begins_at : at.last ≡ greatest_stamp (in_kernel k es)
  pub begun_is : (o : ℕ) (s : State) → begun o ≡ Some s → (beginning start es k).at o ≡ s
  pub outcome : KexecOutcome
  pub acts : Sequence
  pub is_one : kexec_acts (world_of start es k) blob outcome ≡ Some acts
  pub last : ℕ
  pub done : AreDone begun at at.last (deeds_of acts) (paired_on begun (λ o. on o (in_kernel k es)) [] new) last
  pub objects : (o : ℕ) → IsTrue (is_some (run ((beginning start es k).at o) (on o (in_kernel k es ++ new))))

-- What such a kexec gives: the history goes through one block more, no agent's labels change, the last stamp is the
-- greatest of the kernel, the kernel began as before, and its entries are the longer ones.
pub record GivesKexec (start : World) (blocks : List Block) (es new : List Entry) (b k last : ℕ) : Type 0 where
  pub next : IsNext start blocks es new b k
  pub labels : (a : ℕ) → labels_now blocks k a (es ++ new) ≡ labels_now blocks k a es
  pub stamp : last ≡ greatest_stamp (in_kernel k (es ++ new))
  pub base : greatest_stamp (in_kernel k (es ++ new)) ≡ max (greatest_stamp (in_kernel k es)) (last_stamp new)
  pub begins : beginning start (es ++ new) k ≡ beginning start es k
  pub here : in_kernel k (es ++ new) ≡ in_kernel k es ++ new

abbrev pub KexecIsNext : Type 0
KexecIsNext =
    (start : World) (blocks : List Block) (es new : List Entry) (b k : ℕ) (blob : Blob) (at : At) (begun : ℕ → Option State)
    → HasRisingNumbers blocks → IsKexecOf blocks b blob at.command → IsThrough start blocks es b k
    → (did : IsKexeced start es new k blob at begun)
    → GivesKexec start blocks es new b k did.last

-- A kexec that is refused: the same kernel runs on.
pub record RunsOn (start : World) (blocks : List Block) (es new : List Entry) (b k : ℕ) : Type 0 where
  pub due : kernel_due (es ++ new) ≡ k
  pub through : IsThrough start blocks (es ++ new) (b + 1) k

-- A kexec that is answered Ok: the next kernel runs, in the world that was frozen, and there is no entry of it yet.
pub record BeginsNext (start : World) (blocks : List Block) (es new : List Entry) (b k : ℕ) : Type 0 where
  pub due : kernel_due (es ++ new) ≡ k + 1
  pub through : IsThrough start blocks (es ++ new) (b + 1) (k + 1)
  pub begins : beginning start (es ++ new) (k + 1) ≡ next (frozen (after (beginning start es k) (in_kernel k es ++ new)))
  pub none : in_kernel (k + 1) (es ++ new) ≡ []
  pub labels : (a : ℕ) → labels_now blocks (k + 1) a (es ++ new) ≡ finmap.empty

abbrev pub RefusedKexecRunsOn : Type 0
RefusedKexecRunsOn =
    (start : World) (blocks : List Block) (es new : List Entry) (b k : ℕ) (blob : Blob) (at : At) (begun : ℕ → Option State)
    → HasRisingNumbers blocks → IsKexecOf blocks b blob at.command → IsThrough start blocks es b k
    → (did : IsKexeced start es new k blob at begun) → is_ok did.acts.reply ≡ false
    → RunsOn start blocks es new b k

abbrev pub KexecBeginsNext : Type 0
KexecBeginsNext =
    (start : World) (blocks : List Block) (es new : List Entry) (b k : ℕ) (blob : Blob) (at : At) (begun : ℕ → Option State)
    → HasRisingNumbers blocks → IsKexecOf blocks b blob at.command → IsThrough start blocks es b k
    → (did : IsKexeced start es new k blob at begun) → IsTrue (is_ok did.acts.reply)
    → BeginsNext start blocks es new b k

-- no agent of a round has number 0: this is the number of the one who does the kexecs
abbrev pub is_agent : AgentWork → Bool
is_agent work = nat_le 1 work.agent.0

abbrev pub has_agents : Block → Bool
has_agents (Round works) = list_all is_agent works
has_agents (Kexec blob) = true

-- the number of the kexec that is block b: one more than there are kexecs before it
abbrev pub kexec_number : List Block → ℕ → ℕ
kexec_number blocks b = 1 + kexecs_in (take b blocks)

-- where no round has an agent 0, each kexec is a block of one task of agent 0
abbrev pub NumberedKexecs : Type 0
NumberedKexecs =
    (blocks : List Block) (b : ℕ) (blob : Blob) → IsTrue (list_all has_agents blocks) → slice_get blocks b ≡ Some (Kexec blob)
    → IsKexecOf blocks b blob (kexec_number blocks b)

-- whether a kexec that comes out so ends its kernel
abbrev pub ends : KexecOutcome → Bool
ends (KernelEnds runs) = true
ends outcome = false

-- exactly a kexec that ends its kernel is answered Ok
abbrev pub OnlyEndsAreOk : Type 0
OnlyEndsAreOk = (w : World) (blob : Blob) (outcome : KexecOutcome) (s : Sequence) → kexec_acts w blob outcome ≡ Some s → is_ok s.reply ≡ ends outcome

-- one more block: how many kexecs stand before it
abbrev pub KexecsAreCounted : Type 0
KexecsAreCounted =
    (blocks : List Block) (b : ℕ) (block : Block) → slice_get blocks b ≡ Some block
    → (kexecs_in (take (b + 1) blocks) ≡ kexecs_in (take b blocks) + kexecs_in (block ∷ [])) × (kexecs_in (take (b + 1) blocks) ≤ kexecs_in blocks)
