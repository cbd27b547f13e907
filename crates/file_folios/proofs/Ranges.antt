-- The steps of a read.
use Rattle.std.proofs.Common.{◌≡◌, ℕ, ◌+◌, ◌<◌, ◌≤◌, ◌&&◌, ◌==◌, true, List, [], ◌∷◌, length, take, drop, refl, ap, sym, ◌∙◌, arith, nat_lt, nat_le}
use Rattle.std.specs.Prelude.{Some}
use Rattle.std.proofs.lemmas.Bool.Decides.{nat_tests}
use Rattle.std.proofs.lemmas.List.{drop-take, take-take}
use Rattle.ho_events.specs.Lists.{same_bytes}
use Rattle.ho_events.specs.File.{FileState, file_step}
use Rattle.ho_events.specs.declared.event.Event.TheVariants.{FileRead}
use Rattle.ho_events.specs.declared.reply.Reply.TheVariants.{OkBytes, PastEnd}

pub same_self : (xs : List ℕ) → same_bytes xs xs ≡ true
same_self [] = refl
same_self (x ∷ xs) =
    let here : (x == x) ≡ true = grind (arith, nat_tests) in
    ap (λ b. b && same_bytes xs xs) here ∙ same_self xs

-- a range that ends past the size
pub past_step : (f : FileState) → (off len : ℕ) → length f.bytes < off + len → file_step (Some f) (FileRead off len) PastEnd ≡ Some (Some f)
past_step f off len h =
    let past : nat_lt (length f.bytes) (off + len) ≡ true = grind (arith, nat_tests) in
    rw past refl

-- a range within the size
pub range_step : (f : FileState) → (off len : ℕ) → (bytes : List ℕ) → off + len ≤ length f.bytes → bytes ≡ take len (drop off f.bytes) → file_step (Some f) (FileRead off len) (OkBytes bytes) ≡ Some (Some f)
range_step f off len bytes h is =
    let within : nat_le (off + len) (length f.bytes) ≡ true = grind (arith, nat_tests) in
    let same : same_bytes bytes (take len (drop off f.bytes)) ≡ true = ap (λ b. same_bytes b (take len (drop off f.bytes))) is ∙ same_self (take len (drop off f.bytes)) in
    rw (within, same) refl

-- the bytes of a range of a page
pub page_read : (xs : List ℕ) → (size off len : ℕ) → off + len ≤ size → take len (drop off (take size xs)) ≡ take len (drop off xs)
page_read xs size off len h =
    sym (drop-take off len (take size xs)) ∙ ap (drop off) (take-take (off + len) size xs h) ∙ drop-take off len xs
