-- What the turns of a `write` or a `fill` did.
use Rattle.std.specs.Prelude.{◌≡◌, ℕ, ◌<◌, List, [], ◌∷◌, length, IsTrue}
use Rattle.ho_base.specs.Objects.{pool_no, file_no}
use Rattle.ho_base.specs.declared.numbers.FileNo.{FileNo}
use Rattle.ho_base.specs.declared.numbers.Kind.TheVariants.{Memfd}
use Rattle.ho_base.specs.declared.numbers.Order.{Order}
use Rattle.ho_base.specs.declared.numbers.Pfn.{Pfn}
use Rattle.ho_events.specs.declared.event.Event.{Event}
use Rattle.ho_events.specs.declared.event.Event.TheVariants.{PoolTake}
use Rattle.ho_events.specs.declared.reply.Reply.{Reply}
use Rattle.ho_events.specs.declared.reply.Reply.TheVariants.{Got, NoFrames, NoFramesOf, Ok, SizeFrozen, TooBig}
use Rattle.ho_world.specs.Acts.{IsFile}
use Rattle.ho_world.specs.Logs.{Deed, deed_at}
use Rattle.ho_world.specs.Sequences.Files.{fits_range}
use Rattle.luo_calls.specs.Memfds.{IsPlainReply}
use Rattle.luo_calls.specs.declared.turns.write.Wrote.{Wrote}
use Rattle.luo_calls.specs.declared.turns.write.Wrote.TheVariants.{Plain, Starved, Filled}

-- the deeds of a write that came out so: the take of runs for the holes, where there are some, and the write, whose event
-- has the runs
abbrev pub write_deeds : FileNo → (List Pfn → Event) → Wrote → List Deed
write_deeds f event (Plain reply) = deed_at (file_no f.0) [] (event []) reply ∷ []
write_deeds f event (Starved o h) =
    deed_at pool_no (IsFile f Memfd o ∷ []) (PoolTake o h) NoFrames
    ∷ deed_at (file_no f.0) (IsFile f Memfd o ∷ []) (event []) (NoFramesOf h) ∷ []
write_deeds f event (Filled o runs) =
    deed_at pool_no (IsFile f Memfd o ∷ []) (PoolTake o (length runs.value)) (Got runs.value)
    ∷ deed_at (file_no f.0) (IsFile f Memfd o ∷ []) (event runs.value) Ok ∷ []

-- runs of this order were wanted for so many holes
abbrev pub IsTaking : Order → ℕ → Wrote → Type 0
IsTaking order holes (Plain reply) = ⊥
IsTaking order holes (Starved o h) = (o ≡ order) × (h ≡ holes)
IsTaking order holes (Filled o runs) = (o ≡ order) × (length runs.value ≡ holes)

-- a write of so many bytes at an offset came out so: a memfd of that order may touch so many holes
abbrev pub IsWrote : ℕ → ℕ → Wrote → Type 0
IsWrote off len (Plain reply) = IsPlainReply reply
IsWrote off len (Starved o h) = IsTrue (fits_range o off len h)
IsWrote off len (Filled o runs) = IsTrue (fits_range o off len (length runs.value))

-- what the command is answered whose turns came out so
abbrev pub answer_of : Wrote → Reply
answer_of (Plain TooBig) = TooBig
answer_of (Plain SizeFrozen) = SizeFrozen
answer_of (Plain reply) = Ok
answer_of (Starved o h) = NoFrames
answer_of (Filled o runs) = Ok
