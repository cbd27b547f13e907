use Rattle.std.proofs.Common.{◌≡◌, ℕ, true, arith, ◌*◌, ◌%◌, ◌^◌, [], List, Option, length, map, sym, ap, ◌∙◌, subst}
use Rattle.std.proofs.lemmas.List.{length-map}
use Rattle.atomic_table.specs.Table.{opening}
use Rattle.turns_table.specs.Rule.{Ruled}
use Rattle.turns_table.specs.Views.{first}
use Rattle.turns_table.specs.Kept.{has_at}
use Rattle.turns_table.proofs.Lists.{or_map}
use Rattle.turns_table.proofs.Opens.{opens, agents_is}
use Rattle.turns_table.proofs.Handed.{sound_at, sound_first}
use Rattle.turns_table.proofs.Booked.{logged_at, logged_first}
use Rattle.turns_table.proofs.turns.Turns.new.Goals as goal

pub new-requires : goal.new-requires
new-requires g c = let xs : List g.row.T.Denot = c.args.objects.items in let key : c.of-key.result.value.items ≡ xs = ap (λ v. v.items) c.of-key.ensures in
    let ws : List ℕ = c.as_slice-2.result.now in let words : ws ≡ map (λ x. (2 * length (g.T.Recorded.history x)) % 2 ^ 64) xs = c.as_slice-2.ensures.value ∙ (c.in-Ok.ensures ∙ ap (map (λ x. (2 * length (g.T.Recorded.history x)) % 2 ^ 64)) c.as_slice.ensures.value) in
    subst (λ (z : List g.row.T.Denot × List (Option g.row.T.Denot)). Ruled g.T.Chronicle.start g.T.Recorded.history g.T.Chronicle.balanced z.0 (opening ws z.1 (first z.0))) (λ i. (sym key i, sym c.in-Ok-to_slots.ensures.ok i))
    (opens g.T.Chronicle.start g.T.Recorded.history g.T.Chronicle.balanced ws xs (ap (λ (l : List ℕ). length l) words ∙ simp length-map)
    (λ k x at. subst (λ (l : List ℕ). lib.ListN.get_or l k 0 ≡ (2 * length (g.T.Recorded.history x)) % 2 ^ 64) (sym words) (or_map (λ y. (2 * length (g.T.Recorded.history y)) % 2 ^ 64) xs k x at)) c.requires.balance)

pub invariant_of-result-in-Ok-new : goal.invariant_of-result-in-Ok-new
invariant_of-result-in-Ok-new g c = let xs : List g.row.T.Denot = c.args.objects.items in let key : c.of-key.result.value.items ≡ xs = ap (λ v. v.items) c.of-key.ensures in let e = c.in-Ok-new.ensures.ok in
    let slots : c.in-Ok-new.seat.table_id.slots ≡ length xs = ap (λ z. z.slots) e.2 ∙ (e.1 ∙ (ap (λ (l : List (Option g.row.T.Denot)). length l) c.in-Ok-to_slots.ensures.ok ∙ simp length-map)) in
    let me_is = e.4 ∙ (λ i. (first (key i), [])) in record {
      sound = sound_at (length xs) _ _ _ slots me_is (sound_first xs);
      logged = logged_at (first xs) _ _ _ (ap (λ m. m.0) me_is) (logged_first xs _ _ c.in-Ok-empty.logs.many.1 c.in-Ok-empty.ensures.logs);
      numbered = subst (λ (k : ℕ). has_at c.in-Ok-empty.logs.has.items k ≡ true) (sym c.in-Ok-empty.ensures.number) ((c.in-Ok-empty.ensures.logs 0).0 (let n = agents_is in omega arith));
    }
