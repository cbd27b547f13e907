-- Two numbers in a page of zeros.
use Rattle.std.proofs.Common.{◌≡◌, ℕ, List, replicate, ap, ◌∙◌}
use Rattle.ho_base.specs.Bytes.{with_u64_at}
use Rattle.scratch_area.proofs.Pages.{two_numbers}
use Rattle.scratch_area.proofs.blob.write_page.Goals as goal

pub returns : goal.returns
returns c =
    let zeros : c.fill.new.self ≡ replicate 4096 0 = c.fill.ensures.after (λ y e. e) ∙ ap (λ (k : ℕ). replicate k 0) c.requires in
    c.put_u64-2.ensures.replaced
    ∙ ap (λ (l : List ℕ). with_u64_at l 8 c.args.i) (c.put_u64.ensures.replaced ∙ ap (λ (l : List ℕ). with_u64_at l 0 c.args.version) zeros)
    ∙ two_numbers 4096 c.args.version c.args.i
