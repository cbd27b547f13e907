-- What a run writes.
use Rattle.std.specs.Prelude.{◌≡◌, ℕ, ◌+◌, ◌<◌, ◌≤◌, ◌⊎◌, Bool, true, false, List, ◌∷◌, ◌++◌, length, take, Option, Some, None, option_map}
use Rattle.ho_base.specs.ShapeRule.{Layout}
use Rattle.ho_events.specs.Script.{script_of}
use Rattle.ho_events.specs.Text.{line_of, text_of}
use Rattle.ho_events.specs.declared.script.Block.{Block}
use Rattle.ho_events.specs.declared.script.Script.{Script}
use Rattle.ho_events.specs.declared.entry.Entry.{Entry}
use Rattle.ho_io.specs.Told.{behind, with_item, IsOneOf}
use Rattle.ho_io.specs.declared.host.Way.TheVariants.{Open}
use Rattle.ho_world.specs.Frozen.{Frozen, next}
use Rattle.ho_world.specs.World.{World, cold}
use Rattle.ho_world.specs.Legal.{IsLegal, IsLegalSoFar, MayCome, kernel_due}
use Rattle.ho_world.specs.Through.{IsThrough}
use Rattle.handover_cli.specs.Refusals.{IsAccepted, IsRefusal}
use Rattle.handover_cli.specs.ImageRefusals.{IsImageRefusal}
use Rattle.handover_cli.specs.Images.{Seen, ReadsState, Made, MadeLess}
use Rattle.handover_cli.specs.Words.{RunWords, run_words}

-- the output became longer by the text of a legal history of these blocks, from a world on, and by nothing else; the
-- images of all kernels that ended were made, where they are asked for
pub record WroteAll (start : World) (blocks : List Block) (images : Option (List ℕ)) (before now : Seen) : Type 0 where
  pub entries : List Entry
  pub legal : IsLegal start blocks entries
  pub written : now.out ≡ behind before.out (text_of entries)
  pub made : Made start entries (kernel_due entries) images before now

-- The output became longer by the text of the entries of the first blocks, all whole, and by nothing else. The images of
-- the kernels that ended in them were made, or also that of one that ended in the next block, whose entries weren't written.
pub record WroteBlocks (start : World) (blocks : List Block) (images : Option (List ℕ)) (before now : Seen) : Type 0 where
  pub entries : List Entry
  pub done : ℕ
  pub kernel : ℕ
  pub through : IsThrough start blocks entries done kernel
  pub written : now.out ≡ behind before.out (text_of entries)
  pub unwritten : List Entry
  pub reached : ℕ
  pub soon : reached ≤ done + 1
  pub ended : ℕ
  pub through_all : IsThrough start blocks (entries ++ unwritten) reached ended
  pub made : Made start (entries ++ unwritten) ended images before now

-- The output became longer by whole lines, whose entries are legal so far, and by a front part of the line of an entry
-- that may come next, and not by all of it. With the entries that follow these in their block, the images of the kernels
-- that ended were made, or the last of them not whole.
pub record WroteSoFar (start : World) (blocks : List Block) (images : Option (List ℕ)) (before now : Seen) : Type 0 where
  pub entries : List Entry
  pub legal : IsLegalSoFar start blocks entries
  pub next : Entry
  pub may_come : MayCome start blocks entries next
  pub count : ℕ
  pub less : count < length (line_of next)
  pub written : now.out ≡ behind before.out (text_of entries ++ take count (line_of next))
  pub rest : List Entry
  pub reached : ℕ
  pub ended : ℕ
  pub through : IsThrough start blocks (entries ++ next ∷ rest) reached ended
  pub made : Made start (entries ++ next ∷ rest) ended images before now ⊎ ((n : ℕ) × (ended ≡ n + 1) × MadeLess start (entries ++ next ∷ rest) n images before now)

-- Where a script begins: on a machine that is switched on, or from an image, of whose bytes this is told.
abbrev pub Origin : Type 0
Origin = Option (Option (List ℕ))

-- a script that begins on a machine that is switched on is fresh: it says the machine's shape
abbrev pub is_fresh : Origin → Bool
is_fresh None = true
is_fresh (Some image) = false

-- the frames that are read from bytes, where these are told, carry a state
abbrev pub TellsState : Option (List ℕ) → Frozen → Type 0
TellsState None f = Unit {0}
TellsState (Some bytes) f = ReadsState f bytes

-- a world is the one in which a script begins: cold, with the script's shape;  or the one that follows what an image carries
abbrev pub BeginsIn : Origin → Script → World → Type 0
BeginsIn None script start = (shape : Layout) × (script.shape ≡ Some shape) × (start ≡ cold shape)
BeginsIn (Some image) script start = (f : Frozen) × TellsState image f × (start ≡ next f)

-- something is true of a script's blocks from the world on in which it begins
pub record OnStart (from : Origin) (Holds : World → List Block → Type 0) (script : Script) : Type 0 where
  pub start : World
  pub begins : BeginsIn from script start
  pub holds : Holds start script.blocks

-- these bytes, where they are told, spell the script
abbrev pub Spells : Bool → Option (List ℕ) → Script → Type 0
Spells fresh None script = Unit {0}
Spells fresh (Some script_bytes) script = script_of fresh script_bytes ≡ Some script

-- what is told spells a script of which this is true
pub record OfScript (fresh : Bool) (told : Option (List ℕ)) (Holds : Script → Type 0) : Type 0 where
  pub script : Script
  pub read : Spells fresh told script
  pub holds : Holds script

-- where a run is done
abbrev pub WritesLegal : Origin → Option (List ℕ) → Option (List ℕ) → Seen → Seen → Type 0
WritesLegal from told images before now =
    OfScript (is_fresh from) told (OnStart from (λ start blocks. WroteAll start blocks images before now))

-- where memory was wanted: the text of whole blocks
abbrev pub WritesBlocks : Origin → Option (List ℕ) → Option (List ℕ) → Seen → Seen → Type 0
WritesBlocks from told images before now =
    OfScript (is_fresh from) told (OnStart from (λ start blocks. WroteBlocks start blocks images before now))

-- what is seen after a file of this name was asked for
abbrev pub with_opened : Seen → List ℕ → Seen
with_opened s name = record s { asked = with_item s.asked (Open, name) }

-- what is seen after the script was opened, and after it the image where there is one
abbrev pub with_image_opened : Seen → Option (List ℕ) → Seen
with_image_opened s None = s
with_image_opened s (Some name) = with_opened s name

abbrev pub with_all_opened : Seen → RunWords → Seen
with_all_opened s asked = with_image_opened (with_opened s asked.script) asked.image

-- what a host that holds these bytes tells of where a run begins
abbrev pub origin_of : (List ℕ → Option (List ℕ)) → RunWords → Origin
origin_of holds asked = option_map holds asked.image

-- the words ask to run a script that isn't refused, which was opened, and the output became longer by the text of a legal
-- history of what the host holds under its name
pub record RanLegally (words : List (List ℕ)) (holds : List ℕ → Option (List ℕ)) (before now : Seen) : Type 0 where
  pub asked : RunWords
  pub fits : run_words words ≡ Some asked
  pub accepted : IsAccepted (is_fresh (origin_of holds asked)) (holds asked.script)
  pub wrote : WritesLegal (origin_of holds asked) (holds asked.script) asked.images (with_all_opened before asked) now

-- the words ask to run a script, and the output became longer by the text of whole blocks of what the host holds under
-- its name, or nothing was done but to ask for the script, and for the image where there is one
pub record RanShort (words : List (List ℕ)) (holds : List ℕ → Option (List ℕ)) (before now : Seen) : Type 0 where
  pub asked : RunWords
  pub fits : run_words words ≡ Some asked
  pub wrote : IsOneOf (with_opened before asked.script) (with_all_opened before asked) now
      ⊎ WritesBlocks (origin_of holds asked) (holds asked.script) asked.images (with_all_opened before asked) now

-- the output became longer by the line of a script's refusal, and by nothing else
pub record WroteRefusal (fresh : Bool) (script_bytes out_old out_new : Option (List ℕ)) : Type 0 where
  pub line : List ℕ
  pub due : IsRefusal fresh script_bytes line
  pub written : out_new ≡ behind out_old line

-- the words ask to run a script, and the output became longer by the line of the refusal of what the host holds
-- under its name
pub record RanRefused (words : List (List ℕ)) (holds : List ℕ → Option (List ℕ)) (out_old out_new : Option (List ℕ)) : Type 0 where
  pub asked : RunWords
  pub fits : run_words words ≡ Some asked
  pub wrote : WroteRefusal (is_fresh (origin_of holds asked)) (holds asked.script) out_old out_new

-- the output became longer by the line of an image's refusal, and by nothing else
pub record WroteImageRefusal (image_bytes out_old out_new : Option (List ℕ)) : Type 0 where
  pub line : List ℕ
  pub due : IsImageRefusal image_bytes line
  pub written : out_new ≡ behind out_old line

-- a script that isn't refused was to go on from an image, and the output became longer by the line of the image's refusal
pub record IsFromNone (holds : List ℕ → Option (List ℕ)) (asked : RunWords) (out_old out_new : Option (List ℕ)) : Type 0 where
  pub image : List ℕ
  pub from : asked.image ≡ Some image
  pub accepted : IsAccepted false (holds asked.script)
  pub wrote : WroteImageRefusal (holds image) out_old out_new

-- the words ask for such a run
pub record RanFromNone (words : List (List ℕ)) (holds : List ℕ → Option (List ℕ)) (out_old out_new : Option (List ℕ)) : Type 0 where
  pub asked : RunWords
  pub fits : run_words words ≡ Some asked
  pub none : IsFromNone holds asked out_old out_new
