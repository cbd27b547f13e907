use Rattle.std.proofs.Common.{◌≡◌, ◌+◌, ◌≤◌, List, [], Bool, true, length, get_or, subst, sym, ap, ◌∙◌, rules, arith}
use Rattle.std.specs.List.{All}
use Rattle.ho_base.specs.declared.numbers.Pfn.{Pfn}
use Rattle.buddy_pages.specs.FreeFrames.{appended, is_free_run, none_free, without_runs}
use Rattle.buddy_pages.proofs.Taken.{Within, length-without_runs, runs_within, taken_run}
use Rattle.buddy_bench.proofs.measure.Goals as goal

seen_within : (old : List Bool) (before now seen : List Pfn) → before ≡ [] → seen ≡ now → All (λ p. is_free_run old 0 p.0 ≡ true) (appended before now) → Within 0 (length old) seen
seen_within old before now seen b s h =
    let same : appended before now ≡ seen = ap (λ z. appended z now) b ∙ sym s in
    runs_within 0 old seen (subst (λ (z : List Pfn). All (λ p. is_free_run old 0 p.0 ≡ true) z) same h)

set_after : (old new : List Bool) (before now seen : List Pfn) → before ≡ [] → seen ≡ now → new ≡ without_runs 0 old (appended before now) → new ≡ without_runs 0 old seen
set_after old new before now seen b s h =
    let same : appended before now ≡ seen = ap (λ z. appended z now) b ∙ sym s in
    h ∙ ap (without_runs 0 old) same

within_after : (old new : List Bool) (before now seen : List Pfn) → before ≡ [] → seen ≡ now → All (λ p. is_free_run old 0 p.0 ≡ true) (appended before now)
    → new ≡ without_runs 0 old (appended before now) → All (λ p. p.0 + 1 ≤ length new) seen
within_after old new before now seen b s h e =
    let w : Within 0 (length old) seen = seen_within old before now seen b s h in
    let n : length new ≡ length old = ap length (set_after old new before now seen b s e) ∙ length-without_runs 0 old seen w in
    λ i d l. let x : (get_or seen i d).0 + 1 ≤ length old = w i d l in omega arith

taken_after : (old new : List Bool) (before now seen : List Pfn) → before ≡ [] → seen ≡ now → All (λ p. is_free_run old 0 p.0 ≡ true) (appended before now)
    → new ≡ without_runs 0 old (appended before now) → All (λ p. none_free new p.0 1 ≡ true) seen
taken_after old new before now seen b s h e =
    subst (λ (z : List Bool). All (λ p. none_free z p.0 1 ≡ true) seen) (sym (set_after old new before now seen b s e))
    (taken_run 0 old seen (seen_within old before now seen b s h))

pub give_all-requires-clause-within : goal.give_all-requires-clause-within
give_all-requires-clause-within g c =
    let free : All (λ p. is_free_run c.loop.buddy 0 p.0 ≡ true) (appended c.in_ok-out.out.items c.take-taken.new.out.items) = search rules in
    let set : c.take-taken.new.self ≡ without_runs 0 c.loop.buddy (appended c.in_ok-out.out.items c.take-taken.new.out.items) = search rules in
    let none : c.in_ok-out.out.items ≡ [] = search rules in
    within_after c.loop.buddy c.take-taken.new.self c.in_ok-out.out.items c.take-taken.new.out.items c.as_slice.result.now none c.as_slice.ensures.value free set

pub give_all-requires-clause-taken : goal.give_all-requires-clause-taken
give_all-requires-clause-taken g c =
    let free : All (λ p. is_free_run c.loop.buddy 0 p.0 ≡ true) (appended c.in_ok-out.out.items c.take-taken.new.out.items) = search rules in
    let set : c.take-taken.new.self ≡ without_runs 0 c.loop.buddy (appended c.in_ok-out.out.items c.take-taken.new.out.items) = search rules in
    let none : c.in_ok-out.out.items ≡ [] = search rules in
    taken_after c.loop.buddy c.take-taken.new.self c.in_ok-out.out.items c.take-taken.new.out.items c.as_slice.result.now none c.as_slice.ensures.value free set
