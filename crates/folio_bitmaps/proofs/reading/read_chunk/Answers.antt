use Rattle.std.proofs.Common.{◌≡◌, ℕ, ◌+◌, ◌<◌, ◌≤◌, List, [], ◌∷◌, ◌++◌, sym, ap, subst, ◌∙◌, arith, rules, ⊎_elim}
use Rattle.std.proofs.lemmas.Bool.{cases_lt}
use Rattle.folio_bitmaps.specs.Chunks.{Element, element_at, elements_of, count_of, IsChunk}
use Rattle.folio_bitmaps.specs.Reading.{Follows, Follow, put, puts, least_after}
use Rattle.folio_bitmaps.proofs.Zeros.{zeros_there}
use Rattle.folio_bitmaps.proofs.Follows.{upto, upto_more, all_upto, goes_at, follow_push, after_append, puts_append}
use Rattle.folio_bitmaps.proofs.reading.read_chunk.Goals as goal

below_count : (k r n : ℕ) → k < r → r ≡ n → k < n
below_count k r n lt e = omega arith

some_count : (r n : ℕ) → (r ≡ 0 → ⊥) → r ≡ n → 1 ≤ n
some_count r n ne e = ⊎_elim (λ (l : r < 1). absurd (ne (omega arith))) (λ (g : 1 ≤ r). omega arith) (cases_lt r 1)

few_count : (r n : ℕ) → r ≤ 7 → r ≡ n → n ≤ 7
few_count r n le e = omega arith

last_count : (k r : ℕ) → k ≤ r → r ≤ k → k ≡ r
last_count k r le ge = omega arith

pub returns-in-None : goal.returns-in-None
returns-in-None c = λ h.
    c.in-None.ensures (subst (λ (x : ℕ). Follows c.args.frames x (element_at c.args.page.now c.loop-k.k)) (sym c.loop-k.invariant.next)
    (goes_at c.args.frames c.args.least c.args.page.now c.loop-k.k h (below_count c.loop-k.k c.get_u64-count.result (count_of c.args.page.now) c.loop-k-test.true c.get_u64-count.ensures)))

pub loop-k-preserved : goal.loop-k-preserved
loop-k-preserved c =
    let n = c.args.frames in
    let page : List ℕ = c.args.page.now in
    let e : Element = element_at c.args.page.now c.loop-k.k in
    let xs : List Element = upto page c.loop-k.k in
    let more : upto page (c.loop-k.k + 1) ≡ xs ++ e ∷ [] = upto_more page c.loop-k.k in
    record {
      follow = subst (Follow n c.args.least) (sym more) (follow_push n c.args.least xs e c.loop-k.invariant.follow (subst (λ (x : ℕ). Follows n x e) c.loop-k.invariant.next c.in-Some.ensures.0));
      next = c.in-Some.ensures.1 ∙ sym (ap (least_after n c.args.least) more ∙ after_append n c.args.least xs (e ∷ []));
      bytes = c.in-Some.ensures.2 ∙ ap (λ (l : List ℕ). put n l e) c.loop-k.invariant.bytes ∙ sym (ap (puts n c.args.bytes.now) more ∙ puts_append n c.args.bytes.now xs (e ∷ []));
    }

pub returns : goal.returns
returns c =
    let n = c.args.frames in
    let page : List ℕ = c.args.page.now in
    let count : c.get_u64-count.result ≡ count_of page = c.get_u64-count.ensures in
    let last : c.loop-k.k ≡ count_of page = last_count c.loop-k.k c.get_u64-count.result c.loop-k.auto.k-end c.loop-k-test.false ∙ count in
    let all : elements_of page ≡ upto page c.loop-k.k = all_upto page ∙ ap (upto page) (sym last) in
    let shaped : IsChunk page = record {
      some = some_count c.get_u64-count.result (count_of page) c.if-count-eq0.false count;
      few = few_count c.get_u64-count.result (count_of page) c.if-count.false count;
      zeros = zeros_there page c.requires.size (λ i. let f = c.type_inv.page i in search rules) (sym c.get_u64.ensures ∙ c.if-get_u64-ne0.false) (sym c.get_u64-else-get_u64-ne0.ensures ∙ c.if-get_u64-ne0-2.false);
    } in (
      record { shaped = shaped; follow = subst (Follow n c.args.least) (sym all) c.loop-k.invariant.follow },
      c.loop-k.invariant.next ∙ sym (ap (least_after n c.args.least) all),
      c.loop-k.invariant.bytes ∙ sym (ap (puts n c.args.bytes.now) all),
    )
