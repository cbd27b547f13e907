-- A run from frame 0 on that was taken and given back: every frame is home again.
use Rattle.std.proofs.Common.{◌≡◌, ◌+◌, ◌≤◌, length, inl, inr, ◌∙◌, arith}
use Rattle.phys_frames.specs.Memory.{Memory, FolioValue, AllHome, frames_in, with_folio, without_run}
use Rattle.phys_frames.proofs.Homes.{taken_count, taken_beside, given_count, given_home, given_beside}
use Rattle.phys_frames.proofs.Region.{order}

module _ (m : Memory) (f : FolioValue) (first : f.first.0 ≡ 0) (few : frames_in f.order ≤ length m.pages) where
  within : f.first.0 + frames_in f.order ≤ length m.pages
  within = omega (arith, first, few)

  left : length (without_run m f.first f.order).pages ≡ length m.pages
  left = taken_count m f.first f.order within

  fits : f.first.0 + frames_in f.order ≤ length (without_run m f.first f.order).pages
  fits = omega (arith, left, within)

  pub as_many : length (with_folio (without_run m f.first f.order) f).pages ≡ length m.pages
  as_many = given_count (without_run m f.first f.order) f fits ∙ left

  pub all_again : AllHome m → AllHome (with_folio (without_run m f.first f.order) f)
  all_again home j d lt = elim (order (frames_in f.order) j) [
    | inl le ↦ given_beside (without_run m f.first f.order) f fits (frames_in f.order) (length m.pages) (inr (omega (arith, first)))
        (taken_beside m f.first f.order within (frames_in f.order) (length m.pages) (inr (omega (arith, first))) (λ k e above below. home k e below)) j d le (omega (arith, lt, as_many))
    | inr gt ↦ given_home (without_run m f.first f.order) f fits 0 (f.first.0 + frames_in f.order) (omega (arith, first)) (omega arith) j d (omega arith) (omega (arith, gt, first))
  ]
