use Rattle.std.proofs.Common.{◌+◌, ◌-◌, ◌<◌, List, Option, Some, None, length, refl, sym, ap, subst, ◌∙◌, arith}
use Rattle.std.specs.Prelude.{IfSome, IsTrue}
use Rattle.std.specs.List.{All}
use Rattle.std.proofs.lemmas.List.Elements.{All-push}
use Rattle.record_frames.specs.Sheeted.{ram_of}
use Rattle.record_frames.proofs.ListFronts.{given}
use Rattle.kho_records.specs.Chunks.{elements_view}
use Rattle.kho_records.specs.Fronts.{rise_behind, last_place, chunk_front_at, front_view}
use Rattle.kho_records.specs.declared.chain.sheet.ElementRead.{ElementRead}
use Rattle.kho_records.specs.declared.chain.sheet.ChunkSheet.{ChunkSheet}
use Rattle.kho_records.specs.declared.chain.front.ChunkFront.{ChunkFront}
use Rattle.kho_records.proofs.ChunkLoop.{breaks, runs_out, ends, goes_on}
use Rattle.kho_records.proofs.chain.chunks.read_chunks.Goals as goal

pub returns-in_default-clause-read : goal.returns-in_default-clause-read
returns-in_default-clause-read c =
    breaks (ram_of c.args.frames.now) c.args.first (c.count-end.result - c.loop.counter) c.loop.at c.loop.last c.loop.seen.numbers c.loop.sheets.items c.loop.invariant.reads
    (omega (arith, c.loop-test.true))
    (given front_view c.in_ok-front.field-0 None (chunk_front_at (ram_of c.args.frames.now) c.loop.last c.loop.seen.numbers c.loop.at) c.in_default.is c.in_ok-front.ensures.front)

pub returns-then-next-eq0-clause-read : goal.returns-then-next-eq0-clause-read
returns-then-next-eq0-clause-read c =
    ends (ram_of c.args.frames.now) c.args.first (c.count-end.result - c.loop.counter) c.loop.at c.loop.last c.loop.seen.numbers c.loop.sheets.items c.push-in-loop.new.self.items
    (record { at = c.loop.at; items = c.in-Some.front.items }) c.in-Some.front c.loop.invariant.reads (omega (arith, c.loop-test.true))
    (given front_view c.in_ok-front.field-0 (Some c.in-Some.front) (chunk_front_at (ram_of c.args.frames.now) c.loop.last c.loop.seen.numbers c.loop.at) c.in-Some.is c.in_ok-front.ensures.front)
    refl refl c.if-next-eq0.true c.in_ok-push-2.ensures.items

pub loop-preserved : goal.loop-preserved
loop-preserved c =
    let Within : Option ChunkFront → Type 0 = λ o. IfSome o (λ f. c.loop.at < c.loop.seen.count) in
    let within : c.loop.at < c.loop.seen.count = subst Within c.in-Some.is c.in_ok-front.ensures.within in
    let Rises : Option ChunkFront → Type 0 = λ o. IfSome o (λ f. IsTrue (rise_behind c.loop.last (elements_view f.items.items))) in
    let rises : IsTrue (rise_behind c.loop.last (elements_view c.in-Some.front.items.items)) = subst Rises c.in-Some.is c.in_ok-front.ensures.rises in
    let Below : ChunkSheet → Type 0 = λ s. s.at < length c.args.frames.now.pages in
    let now : ChunkSheet = record { at = c.loop.at; items = c.in-Some.front.items } in
    let AllBelow : List ChunkSheet → Type 0 = λ l. All Below l in
    record {
      reads = goes_on (ram_of c.args.frames.now) c.args.first (c.count-end.result - c.loop.counter) (c.count-end.result - (c.loop.counter + 1)) c.loop.at c.loop.last c.last_place-last.result
          c.loop.seen.numbers c.push.new.self.numbers c.loop.sheets.items c.push-in-loop.new.self.items now c.in-Some.front c.loop.invariant.reads (omega (arith, c.loop-test.true)) (omega arith)
          (given front_view c.in_ok-front.field-0 (Some c.in-Some.front) (chunk_front_at (ram_of c.args.frames.now) c.loop.last c.loop.seen.numbers c.loop.at) c.in-Some.is c.in_ok-front.ensures.front)
          rises (c.last_place-last.ensures ∙ ap (λ (l : List ElementRead). last_place c.loop.last (elements_view l)) c.deref.ensures.value)
          refl refl c.if-next-eq0.false c.in_ok-push.ensures.numbers c.in_ok-push-2.ensures.items;
      end = c.loop.invariant.end;
      count = c.in_ok-push.ensures.count ∙ c.loop.invariant.count;
      within = subst AllBelow (sym c.in_ok-push-2.ensures.items) (All-push Below c.loop.sheets.items now c.loop.invariant.within (omega (arith, within, c.loop.invariant.count)));
    }

pub returns-clause-read : goal.returns-clause-read
returns-clause-read c =
    runs_out (ram_of c.args.frames.now) c.args.first (c.count-end.result - c.loop.counter) c.loop.at c.loop.last c.loop.seen.numbers c.loop.sheets.items c.loop.invariant.reads
    (omega (arith, c.loop-test.false))
