-- What a refused preserve or kexec leaves as it was: sessions, files, pinned frames and owned runs.
use Rattle.std.specs.Prelude.{◌≡◌, ◌≢◌, ◌⊎◌, ℕ, Bool, true, false, not, List, [], ◌∷◌, filter, IsTrue, Some}
use Rattle.ho_base.specs.declared.numbers.Blob.{Blob}
use Rattle.ho_base.specs.declared.numbers.Order.{Order}
use Rattle.ho_base.specs.declared.numbers.Pfn.{Pfn}
use Rattle.ho_base.specs.declared.numbers.Token.{Token}
use Rattle.ho_events.specs.declared.command.Command.TheVariants.{Preserve}
use Rattle.ho_events.specs.declared.event.Event.{Event}
use Rattle.ho_events.specs.declared.event.Event.TheVariants.{PoolTake, PoolGive, RegFindOut, SessionAdd, FilePin, HandlerPreserve, HandlerFreeze, HandlerUnfreeze}
use Rattle.ho_events.specs.declared.reply.Reply.{Reply}
use Rattle.ho_events.specs.declared.reply.Reply.TheVariants.{Ok, OkRuns, OkHandle, Got, NoFrames}
use Rattle.ho_world.specs.World.{State, HandlerIn, World, step}
use Rattle.ho_world.specs.Acts.{Act, Sequence}
use Rattle.ho_world.specs.Entries.{is_ok}
use Rattle.ho_world.specs.Sequences.{Labels, Outcome, sequence}
use Rattle.ho_world.specs.Tasks.{Task, Ask, Reboot}

-- the state but for a handler's last failure number
abbrev pub settled : State → State
settled (HandlerIn s) = HandlerIn (record s { failures = 0 })
settled s = s

-- an event with this reply changes nothing but that number
abbrev pub is_quiet : Event → Reply → Bool
is_quiet (PoolTake o count) NoFrames = true
is_quiet (RegFindOut name) reply = true
is_quiet (SessionAdd name t f handle) Ok = false
is_quiet (SessionAdd name t f handle) reply = true
is_quiet (FilePin fills) (OkRuns runs) = false
is_quiet (FilePin fills) reply = true
is_quiet (HandlerPreserve f frame) (OkHandle handle bound) = false
is_quiet (HandlerPreserve f frame) reply = true
is_quiet (HandlerFreeze f handle) reply = true
is_quiet (HandlerUnfreeze f handle) reply = true
is_quiet event reply = false

abbrev pub QuietIsQuiet : Type 0
QuietIsQuiet = (event : Event) (reply : Reply) → IsTrue (is_quiet event reply) → (s t : State) → step s event reply ≡ Some t → settled s ≡ settled t

-- the acts that change something
abbrev pub changing : List Act → List Act
changing acts = filter (λ a. not (is_quiet a.event a.reply)) acts

-- runs are taken and the same runs given back
pub record IsTakenBack (acts : List Act) : Type 0 where
  pub order : Order
  pub count : ℕ
  pub runs : List Pfn
  pub take : Act
  pub give : Act
  pub both : acts ≡ take ∷ give ∷ []
  pub taken : (take.event ≡ PoolTake order count) × (take.reply ≡ Got runs)
  pub given : (give.event ≡ PoolGive order runs) × (give.reply ≡ Ok)

-- the tasks that preserve: the command, and a kexec
pub data Preserves : Task → Type 0 where
  ByCommand : (name : List ℕ) → (t : Token) → (label : List ℕ) → Preserves (Ask (Preserve name t label))
  ByKexec : (blob : Blob) → Preserves (Reboot blob)

-- a refused one changes nothing, or takes runs and gives back exactly these
abbrev pub RefusedChangesNothing : Type 0
RefusedChangesNothing =
    (labels : Labels) (w : World) (task : Task) (outcome : Outcome) (s : Sequence) → Preserves task → sequence labels w task outcome ≡ Some s
    → is_ok s.reply ≡ false → (changing s.acts ≡ []) ⊎ IsTakenBack (changing s.acts)
