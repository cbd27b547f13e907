-- A command keeps a world sound.
use Rattle.std.specs.Prelude.{◌≡◌, ℕ, ◌≤◌, ◌==◌, if◌then◌else◌, List, None, Some}
use Rattle.std.specs.FinMap as finmap
use Rattle.ho_base.specs.ShapeRule.{Layout}
use Rattle.ho_base.specs.declared.limits.TheConstants.{MAX_ORDER}
use Rattle.ho_base.specs.declared.numbers.Order.{Order}
use Rattle.ho_base.specs.declared.numbers.Token.{Token}
use Rattle.ho_events.specs.declared.command.Command.{Command}
use Rattle.ho_events.specs.declared.command.Command.TheVariants as command
use Rattle.ho_world.specs.Acts.{Sequence}
use Rattle.ho_world.specs.Logs.{labels_after}
use Rattle.ho_world.specs.Sequences.{Labels, Outcome, command_acts}
use Rattle.ho_world.specs.World.{State, World, cold}
use Rattle.balance_laws.specs.Acted.{Acted}
use Rattle.balance_laws.specs.Sound.{Sound}

-- no agent has a label
abbrev pub no_labels : ℕ → Labels
no_labels a = finmap.empty

-- the labels of all agents, with others for one agent
abbrev pub relabeled : (ℕ → Labels) → ℕ → Labels → ℕ → Labels
relabeled labels a own b = (if b == a then own else labels b)

-- a machine that is switched on is sound
abbrev pub ColdIsSound : Type 0
ColdIsSound = (shape : Layout) → Sound (cold shape) no_labels

-- from a sound world a whole sequence of an agent's command leads to a sound world, with the labels that it leaves
abbrev pub Keeps : (ℕ → Labels) → ℕ → Command → Type 0
Keeps labels a c =
    (begun : ℕ → State) (w v : World) (outcome : Outcome) (s : Sequence) → Sound w labels → command_acts (labels a) c outcome ≡ Some s
    → Acted begun w s.acts v → Sound v (relabeled labels a (labels_after (labels a) c s))

-- a new file comes under a label that the agent doesn't have yet, and is of an order that there is
abbrev pub MemfdKeeps : Type 0
MemfdKeeps =
    (labels : ℕ → Labels) (a : ℕ) (label : List ℕ) (o : Order) → finmap.get (labels a) label ≡ None → o.0 ≤ MAX_ORDER → Keeps labels a (command.Memfd label o)

abbrev pub CreateKeeps : Type 0
CreateKeeps = (labels : ℕ → Labels) (a : ℕ) (name : List ℕ) → Keeps labels a (command.Create name)

abbrev pub WriteKeeps : Type 0
WriteKeeps = (labels : ℕ → Labels) (a : ℕ) (label : List ℕ) (off : ℕ) (bytes : List ℕ) → Keeps labels a (command.Write label off bytes)

abbrev pub FillKeeps : Type 0
FillKeeps = (labels : ℕ → Labels) (a : ℕ) (label : List ℕ) (off len byte : ℕ) → Keeps labels a (command.Fill label off len byte)

abbrev pub ReadKeeps : Type 0
ReadKeeps = (labels : ℕ → Labels) (a : ℕ) (label : List ℕ) (off len : ℕ) → Keeps labels a (command.Read label off len)

abbrev pub SeekKeeps : Type 0
SeekKeeps = (labels : ℕ → Labels) (a : ℕ) (label : List ℕ) (to : ℕ) → Keeps labels a (command.Seek label to)

abbrev pub TellKeeps : Type 0
TellKeeps = (labels : ℕ → Labels) (a : ℕ) (label : List ℕ) → Keeps labels a (command.Tell label)

abbrev pub TruncateKeeps : Type 0
TruncateKeeps = (labels : ℕ → Labels) (a : ℕ) (label : List ℕ) (size : ℕ) → Keeps labels a (command.Truncate label size)

abbrev pub CloseFdKeeps : Type 0
CloseFdKeeps = (labels : ℕ → Labels) (a : ℕ) (label : List ℕ) → Keeps labels a (command.CloseFd label)

abbrev pub PreserveKeeps : Type 0
PreserveKeeps = (labels : ℕ → Labels) (a : ℕ) (name : List ℕ) (t : Token) (label : List ℕ) → Keeps labels a (command.Preserve name t label)

abbrev pub CloseKeeps : Type 0
CloseKeeps = (labels : ℕ → Labels) (a : ℕ) (name : List ℕ) → Keeps labels a (command.Close name)

abbrev pub OpenKeeps : Type 0
OpenKeeps = (labels : ℕ → Labels) (a : ℕ) (name : List ℕ) → Keeps labels a (command.Open name)

-- a file is retrieved under a label that the agent doesn't have yet
abbrev pub RetrieveKeeps : Type 0
RetrieveKeeps =
    (labels : ℕ → Labels) (a : ℕ) (name : List ℕ) (t : Token) (label : List ℕ) → finmap.get (labels a) label ≡ None → Keeps labels a (command.Retrieve name t label)

abbrev pub FinishKeeps : Type 0
FinishKeeps = (labels : ℕ → Labels) (a : ℕ) (name : List ℕ) → Keeps labels a (command.Finish name)

-- what a command asks of its agent's labels: a new label isn't bound yet. There are no device files
abbrev pub MayCome : Labels → Command → Type 0
MayCome labels (command.Memfd label o) = (finmap.get labels label ≡ None) × (o.0 ≤ MAX_ORDER)
MayCome labels (command.Device label kind size) = ⊥
MayCome labels (command.Retrieve name t label) = finmap.get labels label ≡ None
MayCome labels c = Unit {0}

-- each command keeps a world sound
abbrev pub EachKeeps : Type 0
EachKeeps = (labels : ℕ → Labels) (a : ℕ) (c : Command) → MayCome (labels a) c → Keeps labels a c
