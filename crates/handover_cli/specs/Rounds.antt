-- What an agent does that has a kernel for itself, and what a kernel is after entries.
use Rattle.std.specs.Prelude.{◌≡◌, ◌≢◌, ℕ, ◌<◌, max, List, [], length, slice_index_or, Option, None, Some}
use Rattle.std.specs.FinMap as finmap
use Rattle.ho_base.specs.Objects.{handler_no}
use Rattle.ho_events.specs.History.{on, greatest_stamp, last_stamp}
use Rattle.ho_events.specs.declared.command.Command.{Command}
use Rattle.ho_events.specs.declared.entry.Entry.{Entry}
use Rattle.ho_events.specs.declared.script.AgentWork.{AgentWork}
use Rattle.ho_events.specs.declared.script.Block.{Block}
use Rattle.ho_events.specs.declared.slip.At.{At}
use Rattle.ho_world.specs.World.{State, World, handler_at}
use Rattle.ho_world.specs.Entries.{in_kernel, beginning}
use Rattle.ho_world.specs.Legal.{kernel_due, labels_now}
use Rattle.ho_world.specs.Logs.{Paired, HasDone, grown, paired_on}
use Rattle.ho_world.specs.Sequences.{Labels}
use Rattle.machine_core.specs.Agents.{Agent}
use Rattle.machine_core.specs.LabelsShown.{agent_count}
use Rattle.machine_core.specs.Kernels.{KernelValue, IsRunAt, starts_in, begun_in, histories_in}

-- an agent is the same as before, but for its log and its room, and for what is told of the objects
pub record SameAgent (a a' : Agent) : Type 0 where
  pub number : a'.number ≡ a.number
  pub anchor : a'.anchor ≡ a.anchor
  pub starts : a'.starts ≡ a.starts
  pub earlier : a'.earlier ≡ a.earlier

-- An agent has done all these commands, one after another, from where `first` says: its log has whole sequences of
-- them, in order, and nothing else. Its labels were `labels`, and are `later` now.
pub record DidAll (begun : ℕ → Option State) (commands : List Command) (labels : Labels) (first : At) (later : Labels) (log : List Paired) : Type 0 where
  pub last : At
  pub done : HasDone begun commands labels first (length commands) later log last

-- the labels of an agent in a kernel at rest
abbrev pub labels_at : KernelValue → ℕ → Labels
labels_at kernel a = slice_index_or kernel.labels a finmap.empty

-- where an agent's work on a kernel begins: after the greatest stamp
abbrev pub begins_at : KernelValue → AgentWork → At
begins_at kernel work = record { kernel = kernel.number; agent = work.agent; command = work.first; last = kernel.base }

-- An agent has done all its work on a kernel, alone, and these are its entries. Each object's history is longer by
-- the entries on it and still a run of its steps, and of the labels only the agent's own have changed.
pub record WorkedAlone (kernel : KernelValue) (work : AgentWork) (kernel' : KernelValue) (entries : List Entry) : Type 0 where
  pub number : kernel'.number ≡ kernel.number
  pub updates : kernel'.updates ≡ kernel.updates
  pub starts : starts_in kernel'.objects ≡ starts_in kernel.objects
  pub histories : histories_in kernel'.objects ≡ grown (histories_in kernel.objects) entries
  pub runs : (n : ℕ) → IsRunAt (starts_in kernel'.objects n) (histories_in kernel'.objects n)
  pub base : kernel'.base ≡ max kernel.base (last_stamp entries)
  pub others : (a : ℕ) → a ≢ work.agent.0 → labels_at kernel' a ≡ labels_at kernel a
  pub lists : length kernel'.labels ≡ length kernel.labels
  pub did : DidAll (begun_in kernel.objects) work.commands (labels_at kernel work.agent.0) (begins_at kernel work)
      (labels_at kernel' work.agent.0) (paired_on (begun_in kernel.objects) (histories_in kernel.objects) [] entries)

-- A kernel is as the entries `es` say: it is kernel k, its objects began as that kernel does, and their histories, the
-- greatest stamp and each agent's labels are those of the entries. It has no handlers so far: none is built, and none of
-- its world has an outgoing file.
pub record IsAfter (start : World) (blocks : List Block) (es : List Entry) (k : ℕ) (kernel : KernelValue) : Type 0 where
  pub number : kernel.number ≡ k
  pub updates : kernel.updates ≡ (beginning start es k).number
  pub due : kernel_due es ≡ k
  pub begun : (o : ℕ) (s : State) → begun_in kernel.objects o ≡ Some s → (beginning start es k).at o ≡ s
  pub histories : histories_in kernel.objects ≡ (λ o. on o (in_kernel k es))
  pub base : kernel.base ≡ greatest_stamp (in_kernel k es)
  pub labels : (a : ℕ) → labels_at kernel a ≡ labels_now blocks k a es
  pub lists : length kernel.labels ≡ agent_count
  pub handlers : (n : ℕ) → n < 4 → (handler_at (beginning start es k) n).outgoing.files ≡ 0
  pub unbuilt : (n : ℕ) → n < 4 → begun_in kernel.objects (handler_no n) ≡ None
