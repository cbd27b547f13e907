-- How far a `close` is with the files of its session.
use Rattle.std.specs.Prelude.{◌≡◌, ℕ, ◌<◌, ◌==◌, Bool, List, [], ◌∷◌, ◌++◌, map, flat_map, None}
use Rattle.std.specs.List.{list_any}
use Rattle.ho_base.specs.Objects.{pool_no, registry_no, file_no, session_no}
use Rattle.ho_base.specs.declared.limits.TheConstants.{FILES}
use Rattle.ho_base.specs.declared.numbers.FileNo.{FileNo}
use Rattle.ho_base.specs.declared.numbers.Order.{Order}
use Rattle.ho_base.specs.declared.numbers.Pfn.{Pfn}
use Rattle.ho_base.specs.declared.numbers.SlotNo.{SlotNo}
use Rattle.ho_base.specs.declared.numbers.Token.{Token}
use Rattle.ho_events.specs.Lists.{are_distinct}
use Rattle.ho_events.specs.declared.event.Event.TheVariants.{PoolGive, PoolUnmark, RegDropName, RegFindOut, RegFreeFile, SessionClose}
use Rattle.ho_events.specs.declared.reply.Reply.{Reply}
use Rattle.ho_events.specs.declared.reply.Reply.TheVariants.{Ok, OkSlot, KeptRuns, Gone}
use Rattle.ho_events.specs.declared.slip.At.{At}
use Rattle.ho_world.specs.Acts.{Act, Claim, Reference, pool, registry, unless_empty, ending}
use Rattle.ho_world.specs.Logs.{Deed, deed_at, deed_of, end_with}
use Rattle.ho_world.specs.Sequences.Parts.{Part, part_reference, close_part, CloseOutcome, close_acts}
use Rattle.machine_core.specs.Agents.{Agent}
use Rattle.machine_core.specs.Turns.{Goes}

-- a file as its session keeps it: its token, its number and its handle
abbrev pub Kept : Type 0
Kept = Token × FileNo × ℕ

abbrev pub kept_reference : Kept → Reference
kept_reference f = record { file = f.1.0; handle = f.2 }

-- no file stands twice;  a file has this number
unfoldable pub have_own_numbers : List Kept → Bool
have_own_numbers files = are_distinct (map (λ f. f.1.0) files)

unfoldable pub has_number : ℕ → List Kept → Bool
has_number n files = list_any (λ f. f.1.0 == n) files

-- the pool, the registry and the files may be taken: none of them is in hand
pub record HasFree (a : Agent) : Type 0 where
  pub pool : a.hands pool_no ≡ None
  pub registry : a.hands registry_no ≡ None
  pub files : (n : ℕ) → n < FILES → a.hands (file_no n) ≡ None

-- the deeds of acts
abbrev pub deeds : List Act → List Deed
deeds acts = map deed_of acts

-- the pins of a file's runs end, where it has some;  they are given back
abbrev pub unmarked : Order → List Pfn → List Act
unmarked o runs = unless_empty runs (pool [] (PoolUnmark o runs) Ok)

abbrev pub given_back : Order → List Pfn → List Act
given_back o runs = unless_empty runs (pool [] (PoolGive o runs) Ok)

-- what follows the end of a file's pin that was answered so
abbrev pub after_unpin : FileNo → Order → Reply → List Act
after_unpin f o (KeptRuns runs) = unmarked o runs
after_unpin f o (Gone runs) = unmarked o runs ++ (given_back o runs ++ registry (RegFreeFile f) Ok ∷ [])
after_unpin f o reply = []

-- the parts of these files are done, one after another
pub record HasClosed (files : List Kept) (at at' : At) (a a' : Agent) : Type 0 where
  pub parts : List Part
  pub listed : map part_reference parts ≡ map kept_reference files
  pub goes : Goes (deeds (flat_map close_part parts)) at at' a a'

-- these are the deeds of the parts of these files, in whichever way each comes out
pub record ArePartsOf (files : List Kept) (ds : List Deed) : Type 0 where
  pub parts : List Part
  pub listed : map part_reference parts ≡ map kept_reference files
  pub deeds_are : ds ≡ deeds (flat_map close_part parts)

-- the end of a session whose files' parts are done, its name's, and the command's
abbrev pub session_ends : SlotNo → List ℕ → List Claim → List Deed
session_ends slot name claims =
    deed_at (session_no slot.0) claims (SessionClose name) Ok ∷ deed_at registry_no [] (RegDropName name) Ok ∷ end_with Ok ∷ []

-- a `close` came to its end with this reply, from the question for the slot on
pub record ClosesSlot (name : List ℕ) (slot : SlotNo) (reply : Reply) (at at' : At) (a a' : Agent) : Type 0 where
  pub outcome : CloseOutcome
  pub acts : List Act
  pub is_one : close_acts name outcome ≡ ending (registry (RegFindOut name) (OkSlot slot) ∷ acts) reply
  pub goes : Goes (deeds acts ++ end_with reply ∷ []) at at' a a'
