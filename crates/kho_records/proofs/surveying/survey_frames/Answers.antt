use Rattle.std.proofs.Common.{◌≡◌, ℕ, ◌<◌, List, ◌∷◌, ◌++◌, length, Result, sym, ap, subst, ◌∙◌, arith}
use Rattle.std.specs.Prelude.{IfOk}
use Rattle.std.specs.List.{All, range_with_len}
use Rattle.ho_events.specs.Lists.{firsts}
use Rattle.record_frames.specs.Sheets.{numbers_of, record_numbers}
use Rattle.record_frames.specs.Owners.{first_ill}
use Rattle.record_frames.specs.Sessions.{records_view}
use Rattle.record_frames.specs.Sheeted.{ram_of}
use Rattle.record_frames.specs.declared.place.ImagePlace.{ImagePlace}
use Rattle.kho_records.specs.Chunks.{chunk_views}
use Rattle.kho_records.specs.Survey.{kept_of}
use Rattle.kho_records.specs.declared.reading.FramesRead.{FramesRead}
use Rattle.kho_records.proofs.KeptSteps.{told_frames, are_kept}
use Rattle.kho_records.proofs.surveying.survey_frames.Goals as goal

pub carried-requires-clause-chunks : goal.carried-requires-clause-chunks
carried-requires-clause-chunks c =
    let P : Result FramesRead ImagePlace → Type 0 = λ r. IfOk r (λ f. All (λ s. s.at < length c.args.frames.now.pages) f.chunks.items) in
    let below : All (λ s. s.at < length c.args.frames.now.pages) c.in-Ok.read.chunks.items = subst P c.in-Ok.is c.in_ok-read.ensures.chunks in
    λ k d lt. omega (arith, below k d lt, c.count-count.ensures.value, c.count-count.ensures.at_most)

pub returns-clause-carries : goal.returns-clause-carries
returns-clause-carries c =
    let ram = ram_of c.args.frames.now in
    let kept = kept_of c.args.entry c.in-Ok.read in
    let read = told_frames ram c.args.entry c.in_ok-read.field-0 c.in-Ok.read c.in-Ok.is c.in_ok-read.ensures.read in
    record {
      kept = kept;
      keep = are_kept ram c.args.entry c.in-Ok.read read c.in_ok-p.field-0 (c.in_ok-p.ensures ∙ ap (λ (n : ℕ). first_ill kept (range_with_len 0 n)) c.count-count.ensures.value)
          c.law_of_keeping.ensures.found c.hold_pages.ensures c.in_default.is;
      is = sym (c.in_ok-answer.ensures.state ram);
    }

pub returns-clause-working : goal.returns-clause-working
returns-clause-working c =
    let ram = ram_of c.args.frames.now in
    let kept = kept_of c.args.entry c.in-Ok.read in
    let read = told_frames ram c.args.entry c.in_ok-read.field-0 c.in-Ok.read c.in-Ok.is c.in_ok-read.ensures.read in
    let P : Result FramesRead ImagePlace → Type 0 = λ r. IfOk r (λ f. firsts f.records.numbers.items ≡ record_numbers (records_view f.records)) in
    let numbers : firsts c.in-Ok.read.records.numbers.items ≡ record_numbers (records_view c.in-Ok.read.records) = subst P c.in-Ok.is c.in_ok-read.ensures.numbers in
    record {
      kept = kept;
      keep = are_kept ram c.args.entry c.in-Ok.read read c.in_ok-p.field-0 (c.in_ok-p.ensures ∙ ap (λ (n : ℕ). first_ill kept (range_with_len 0 n)) c.count-count.ensures.value)
          c.law_of_keeping.ensures.found c.hold_pages.ensures c.in_default.is;
      working = c.in_ok-answer.ensures.working ∙ ap (λ (l : List ℕ). c.args.entry ∷ (l ++ numbers_of (chunk_views c.in-Ok.read.chunks.items))) numbers;
    }
