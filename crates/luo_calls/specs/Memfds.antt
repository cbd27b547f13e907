-- What is told of a file that a command uses.
use Rattle.std.specs.Prelude.{◌≡◌, ◌<◌, ◌≤◌, ◌+◌, ℕ, length, Bool, ◌&&◌, nat_lt, nat_le, true, false, not, ◌||◌, if◌then◌else◌, Option, Some, None, MatchOption}
use Rattle.ho_base.specs.declared.limits.TheConstants.{FILE_BYTES, MAX_ORDER}
use Rattle.ho_base.specs.declared.numbers.Kind.TheVariants.{Memfd}
use Rattle.ho_base.specs.declared.numbers.Order.{Order}
use Rattle.ho_events.specs.File.{FileState, grows_frozen, is_device, is_too_big, touched_holes}
use Rattle.ho_events.specs.declared.reply.Reply.{Reply}
use Rattle.ho_events.specs.declared.reply.Reply.TheVariants.{Ok, SizeFrozen, TooBig}
use Rattle.file_folios.specs.declared.facts.Facts.{Facts}

-- a file that is there, by what is told of it, is no memfd of an order that runs may have
abbrev pub IsOtherFile : Option Facts → Type 0
IsOtherFile None = Unit {0}
IsOtherFile (Some facts) = (is_device facts.kind || not (nat_le facts.order.0 MAX_ORDER)) ≡ true

-- the file is a memfd of this order, which is one that runs may have
abbrev pub IsMemfd : Option Facts → Order → Type 0
IsMemfd None o = ⊥
IsMemfd (Some facts) o = (facts.kind ≡ Memfd) × (facts.order ≡ o) × (o.0 ≤ MAX_ORDER)

-- what a write is answered that takes no run
abbrev pub IsPlainReply : Reply → Type 0
IsPlainReply TooBig = Unit {0}
IsPlainReply SizeFrozen = Unit {0}
IsPlainReply Ok = Unit {0}
IsPlainReply reply = ⊥

-- a write of a range that isn't refused touches so many holes, and there are some
pub record TouchesHoles (f : FileState) (off len holes : ℕ) : Type 0 where
  pub within : off + len ≤ FILE_BYTES
  pub unfrozen : grows_frozen f (off + len) ≡ false
  pub count : holes ≡ length (touched_holes f off len)
  pub some : 0 < holes

-- by what is told of a file, its size would change up to this end although it can't
abbrev pub is_frozen_by : Option Facts → ℕ → Bool
is_frozen_by None end = false
is_frozen_by (Some f) end = nat_lt f.size end && (f.pin || f.hold || is_device f.kind)

-- how many runs a write of a range wants for the holes that it touches: none where it is refused
abbrev pub wanted_runs : FileState → ℕ → ℕ → ℕ
wanted_runs f off len = if is_too_big (off + len) || grows_frozen f (off + len) then 0 else length (touched_holes f off len)
