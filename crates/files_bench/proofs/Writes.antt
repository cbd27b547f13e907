-- A write into a memfd that no session has, with a run for each hole.
use Rattle.std.proofs.Common.{◌≡◌, ℕ, ◌+◌, ◌≤◌, ◌&&◌, ◌||◌, ◌==◌, Bool, nat_lt, true, false, List, length, if◌then◌else◌, refl, ap, sym, subst, ◌∙◌, arith}
use Rattle.std.specs.Prelude.{Some}
use Rattle.std.proofs.Math.Bool.{and-false}
use Rattle.std.proofs.lemmas.Bool.Decides.{nat_tests}
use Rattle.ho_base.specs.declared.limits.TheConstants.{FILE_BYTES}
use Rattle.ho_base.specs.declared.numbers.Order.{Order}
use Rattle.ho_base.specs.declared.numbers.Pfn.{Pfn}
use Rattle.ho_events.specs.Lists.{only}
use Rattle.ho_events.specs.File.{FileState, file_step, grows_frozen, is_device, is_frozen, is_too_big, touched_holes}
use Rattle.ho_events.specs.declared.event.Event.TheVariants.{FileWrite}
use Rattle.ho_events.specs.declared.reply.Reply.{Reply}
use Rattle.ho_events.specs.declared.reply.Reply.TheVariants.{Ok, TooBig, SizeFrozen, NoFramesOf}
use Rattle.phys_frames.specs.Memory.{FolioValue}
use Rattle.file_folios.specs.FileAnswers.{fills_left, write_answer, written_state}
use Rattle.files_bench.specs.Free.{IsFree}

not_frozen : (o : Order) (f : FileState) → IsFree o f → is_frozen f ≡ false
not_frozen o f free = ap (λ b. b || f.hold || is_device f.kind) free.pin ∙ ap (λ b. b || is_device f.kind) free.hold ∙ ap is_device free.kind

answered : (big frozen : Bool) (n h : ℕ) → big ≡ false → frozen ≡ false → n ≡ h →
    (if big then TooBig else if frozen then SizeFrozen else if n == 0 && nat_lt 0 h then NoFramesOf h else Ok) ≡ Ok
answered big frozen n h b f same =
    let none : (n == 0 && nat_lt 0 h) ≡ false = grind (arith, nat_tests) in
    rw (b, f, none) refl

-- it is done
pub is_done : (o : Order) (f : FileState) (off len n : ℕ) (reply : Reply) → IsFree o f → off + len ≤ FILE_BYTES → n ≡ length (touched_holes f off len) → reply ≡ write_answer f off len n → reply ≡ Ok
is_done o f off len n reply free within same is =
    let small : is_too_big (off + len) ≡ false = grind (arith, nat_tests) in
    let still : grows_frozen f (off + len) ≡ false = ap (λ b. nat_lt (length f.bytes) (off + len) && b) (not_frozen o f free) ∙ and-false (nat_lt (length f.bytes) (off + len)) in
    is ∙ answered (is_too_big (off + len)) (grows_frozen f (off + len)) n (length (touched_holes f off len)) small still same

-- no folio is left
pub none_left : (reply : Reply) (fills left : List FolioValue) → reply ≡ Ok → left ≡ fills_left reply fills → length left ≡ 0
none_left reply fills left ok is = ap length (is ∙ ap (λ r. fills_left r fills) ok)

only_is : {T : Type 0} (b : Bool) (x y : T) → only b x ≡ Some y → x ≡ y
only_is true x y h = cc
only_is false x y h = absurd cc

-- and the file is such a one afterwards
pub stays_free : (o : Order) (f g : FileState) (off : ℕ) (new : List ℕ) (runs : List Pfn) (reply : Reply) → IsFree o f → reply ≡ Ok → file_step (Some f) (FileWrite off new runs) reply ≡ Some (Some g) → IsFree o g
stays_free o f g off new runs reply free ok step =
    let done : file_step (Some f) (FileWrite off new runs) Ok ≡ Some (Some g) = ap (λ r. file_step (Some f) (FileWrite off new runs) r) (sym ok) ∙ step in
    let same : Some (written_state f off new runs) ≡ Some g = only_is _ (Some (written_state f off new runs)) (Some g) done in
    subst (IsFree o) (inside same) (record { kind = free.kind; order = free.order; pin = free.pin; hold = free.hold })
  where
    inside : {x y : FileState} → Some x ≡ Some y → x ≡ y
    inside h = cc
