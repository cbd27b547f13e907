use Rattle.std.proofs.Common.{◌∙◌, sym, arith}
use Rattle.fdt_blob.specs.Items.{item_views, item_view_of}
use Rattle.fdt_blob.proofs.Cutting.{reads_item, no_token, read_on, token_takes_four, is_stuck}
use Rattle.fdt_blob.proofs.structure.items_of.Goals as goal

pub returns-in_default-clause-found : goal.returns-in_default-clause-found
returns-in_default-clause-found c =
    is_stuck c.args.strings.now c.args.block.now (item_views c.loop-rest.items.items) c.loop-rest.rest.now c.loop-rest.invariant.0
    (no_token c.args.strings.now c.loop-rest.rest.now c.in_default.ensures) (sym c.is_end.ensures ∙ c.loop-rest-test.true)

pub loop-rest-smaller : goal.loop-rest-smaller
loop-rest-smaller c =
    let reads = reads_item c.args.strings.now c.loop-rest.rest.now (item_view_of c.in-Some.item) c.in-Some.behind.now c.in-Some.ensures in
    let four = token_takes_four c.args.strings.now c.args.block.now (item_views c.loop-rest.items.items) c.loop-rest.rest.now (item_view_of c.in-Some.item) c.in-Some.behind.now
    (λ i. omega (arith, c.type_inv.block i)) c.loop-rest.invariant.0 reads in
    omega (arith, four)

pub loop-rest-preserved : goal.loop-rest-preserved
loop-rest-preserved c =
    let reads = reads_item c.args.strings.now c.loop-rest.rest.now (item_view_of c.in-Some.item) c.in-Some.behind.now c.in-Some.ensures in
    let on = read_on c.args.strings.now c.args.block.now (item_views c.loop-rest.items.items) c.loop-rest.rest.now (item_view_of c.in-Some.item) c.in-Some.behind.now
    (λ i. omega (arith, c.type_inv.block i)) c.loop-rest.invariant.0 reads in
    let four = token_takes_four c.args.strings.now c.args.block.now (item_views c.loop-rest.items.items) c.loop-rest.rest.now (item_view_of c.in-Some.item) c.in-Some.behind.now
    (λ i. omega (arith, c.type_inv.block i)) c.loop-rest.invariant.0 reads in
    (rw c.in_ok-push.ensures.items on, omega (arith, four, c.in_ok-push.ensures.len, c.loop-rest.invariant.1))
