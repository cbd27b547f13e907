-- Frames hold pages of bytes.
use Rattle.std.proofs.Common.{◌≡◌, ℕ, ◌<◌, List, Some, length, get_or, ap, subst, sym, ◌∙◌}
use Rattle.ho_base.specs.declared.limits.TheConstants.{PAGE_BYTES}
use Rattle.phys_frames.specs.Memory.{Memory, page_at}
use Rattle.record_frames.specs.Ram.{Ram}
use Rattle.record_frames.specs.Laws.{Holds}
use Rattle.record_frames.specs.Sheeted.{page_bytes, page_of, ram_of}

-- a frame holds a page of bytes
pub record HoldsPage (ram : Ram) (p : ℕ) : Type 0 where
  pub bytes : (i : ℕ) → get_or (ram.page p) i 0 < 256
  pub size : length (ram.page p) ≡ PAGE_BYTES

pub held : (m : Memory) (p : ℕ) (page : List ℕ) → page_at m (record { 0 = p }) ≡ Some page → length page ≡ PAGE_BYTES → ((i : ℕ) → get_or page i 0 < 256) → HoldsPage (ram_of m) p
held m p page value size bytes =
    let is : page_of m p ≡ page = ap page_bytes value in
    let Bytes : List ℕ → Type 0 = λ l. (i : ℕ) → get_or l i 0 < 256 in
    record { bytes = subst Bytes (sym is) bytes; size = ap length is ∙ size }

pub all_held : (ram : Ram) → ((p : ℕ) → p < ram.count → HoldsPage ram p) → Holds ram
all_held ram h = record { bytes = λ p lt. (h p lt).bytes; size = λ p lt. (h p lt).size }
