-- The steps of a fill, which writes the same byte as often as asked for.
use Rattle.std.proofs.Common.{◌≡◌, ℕ, ◌+◌, ◌<◌, ◌≤◌, ◌&&◌, ◌==◌, not, nat_lt, true, false, List, [], length, replicate, refl, ap, sym, ◌∙◌, arith}
use Rattle.std.specs.Prelude.{Some}
use Rattle.std.proofs.lemmas.Bool.Decides.{nat_tests}
use Rattle.std.proofs.lemmas.List.{length-replicate}
use Rattle.ho_base.specs.declared.numbers.Pfn.{Pfn}
use Rattle.ho_base.specs.declared.limits.TheConstants.{FILE_BYTES}
use Rattle.ho_events.specs.Lists.{only, no_runs}
use Rattle.ho_events.specs.File.{FileState, file_step, is_too_big, grows_frozen, touched_holes}
use Rattle.ho_events.specs.declared.event.Event.TheVariants.{FileFill}
use Rattle.ho_events.specs.declared.reply.Reply.TheVariants.{Ok, TooBig, SizeFrozen, NoFramesOf}
use Rattle.file_folios.specs.FileAnswers.{written_state}

pub replicate_long : (n x : ℕ) → length (replicate n x) ≡ n
replicate_long n x = length-replicate n x

pub fill_too_big : (s : FileState) (off len byte : ℕ) → FILE_BYTES < off + len → file_step (Some s) (FileFill off len byte []) TooBig ≡ Some (Some s)
fill_too_big s off len byte big =
    let e : is_too_big (off + length (replicate len byte)) ≡ true = ap (λ n. is_too_big (off + n)) (length-replicate len byte) ∙ grind (arith, nat_tests) in
    ap (λ b. only b (Some s)) e

pub fill_frozen : (s : FileState) (off len byte : ℕ) → off + len ≤ FILE_BYTES → grows_frozen s (off + len) ≡ true → file_step (Some s) (FileFill off len byte []) SizeFrozen ≡ Some (Some s)
fill_frozen s off len byte small frozen =
    let e : is_too_big (off + length (replicate len byte)) ≡ false = ap (λ n. is_too_big (off + n)) (length-replicate len byte) ∙ grind (arith, nat_tests) in
    let f : grows_frozen s (off + length (replicate len byte)) ≡ true = ap (λ n. grows_frozen s (off + n)) (length-replicate len byte) ∙ frozen in
    let all_hold : (not (is_too_big (off + length (replicate len byte))) && grows_frozen s (off + length (replicate len byte))) ≡ true = rw (e, f) refl in
    ap (λ b. only b (Some s)) all_hold

pub fill_no_frames : (s : FileState) (off len byte h : ℕ) → off + len ≤ FILE_BYTES → grows_frozen s (off + len) ≡ false → 0 < h → h ≡ length (touched_holes s off len) →
    file_step (Some s) (FileFill off len byte []) (NoFramesOf h) ≡ Some (Some s)
fill_no_frames s off len byte h small frozen some is =
    let e : is_too_big (off + length (replicate len byte)) ≡ false = ap (λ n. is_too_big (off + n)) (length-replicate len byte) ∙ grind (arith, nat_tests) in
    let f : grows_frozen s (off + length (replicate len byte)) ≡ false = ap (λ n. grows_frozen s (off + n)) (length-replicate len byte) ∙ frozen in
    let more : nat_lt 0 h ≡ true = grind (arith, nat_tests) in
    let same : length (touched_holes s off (length (replicate len byte))) ≡ h = ap (λ n. length (touched_holes s off n)) (length-replicate len byte) ∙ sym is in
    let counted : (length (touched_holes s off (length (replicate len byte))) == h) ≡ true = grind (arith, nat_tests) in
    let all_hold : (not (is_too_big (off + length (replicate len byte))) && not (grows_frozen s (off + length (replicate len byte))) && nat_lt 0 h && length (touched_holes s off (length (replicate len byte))) == h) ≡ true = rw (e, f, more, counted) refl in
    ap (λ b. only b (Some s)) all_hold

pub fill_done : (s g : FileState) (off len byte : ℕ) (runs : List Pfn) → off + len ≤ FILE_BYTES → grows_frozen s (off + len) ≡ false → length runs ≡ length (touched_holes s off len) → g ≡ written_state s off (replicate len byte) runs →
    file_step (Some s) (FileFill off len byte runs) Ok ≡ Some (Some g)
fill_done s g off len byte runs small frozen count is =
    let e : is_too_big (off + length (replicate len byte)) ≡ false = ap (λ n. is_too_big (off + n)) (length-replicate len byte) ∙ grind (arith, nat_tests) in
    let f : grows_frozen s (off + length (replicate len byte)) ≡ false = ap (λ n. grows_frozen s (off + n)) (length-replicate len byte) ∙ frozen in
    let same : length runs ≡ length (touched_holes s off (length (replicate len byte))) = count ∙ ap (λ n. length (touched_holes s off n)) (sym (length-replicate len byte)) in
    let counted : (length runs == length (touched_holes s off (length (replicate len byte)))) ≡ true = grind (arith, nat_tests) in
    let all_hold : (not (is_too_big (off + length (replicate len byte))) && not (grows_frozen s (off + length (replicate len byte))) && length runs == length (touched_holes s off (length (replicate len byte)))) ≡ true = rw (e, f, counted) refl in
    ap (λ b. only b (Some (written_state s off (replicate len byte) runs))) all_hold ∙ ap (λ t. Some (Some t)) (sym is)
