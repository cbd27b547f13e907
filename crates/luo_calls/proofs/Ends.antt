-- The end of a command.
use Rattle.std.proofs.Common.{◌≡◌, ℕ, ◌+◌, ◌<◌, ◌≤◌, ◌^◌, max, List, [], ◌∷◌, ◌++◌, refl, sym, ap, subst, ◌∙◌, arith}
use Rattle.std.specs.Prelude.{Option, None, Some}
use Rattle.std.proofs.lemmas.List.{append-nil}
use Rattle.ho_events.specs.declared.entry.Entry.{Entry}
use Rattle.ho_events.specs.declared.entry.Place.TheVariants as place
use Rattle.ho_events.specs.declared.reply.Reply.{Reply}
use Rattle.ho_events.specs.declared.slip.At.{At}
use Rattle.ho_events.specs.History.{on, last_stamp_from, last_stamp}
use Rattle.ho_world.specs.Logs.{Paired, Deed, entry_of, end_with, AreDone}
use Rattle.machine_core.specs.Agents.{Agent, Logged, EndsCommand, AreBelow, begun}
use Rattle.machine_core.specs.Turns.{IsReady, TellsMore, Goes}
use Rattle.luo_calls.proofs.Steps.{lower}

module _ (at : At) (a a0 : Agent) (room : a0 ≡ record a { room = a0.room }) (reply : Reply) where
  pub can_own : IsReady at a → 1 ≤ a0.room → EndsCommand a0 (entry_of at (end_with reply) (at.last + 1))
  can_own ready some = record {
    place = refl;
    agent = ready.agent ∙ sym (ap (λ (x : Agent). x.number) room);
    kernel = ready.kernel ∙ sym (ap (λ (x : Agent). x.anchor.kernel) room);
    stamp = subst (λ l. AreBelow (at.last + 1) l) (sym (ap (λ (x : Agent). x.earlier ++ x.log) room)) (lower at.last (at.last + 1) (up at.last) (a.earlier ++ a.log) ready.last);
    room = (omega (arith, some));
  }
    where
      up : (n : ℕ) → n < n + 1
      up n = omega arith

  own_done : (p : Paired) → p.entry ≡ entry_of at (end_with reply) (at.last + 1) → p.before ≡ [] → at.last < 2 ^ 63 → AreDone (begun a) at at.last (end_with reply ∷ []) (p ∷ []) (at.last + 1)
  unfolding AreDone last_stamp_from
  own_done p is before early = (
    is ∙ ap (entry_of at (end_with reply)) (next at.last) ∙ ap (λ h. entry_of at (end_with reply) (1 + max at.last (last_stamp h))) (sym before),
    early,
    subst (λ h. last_stamp h < 2 ^ 63) (sym before) small,
    tt,
    sym (ap (λ (x : Entry). x.stamp) is),
  )
    where
      next : (n : ℕ) → n + 1 ≡ 1 + max n 0
      next n = omega arith

      small : 0 < 2 ^ 63
      small = omega arith

  tells_own : (p : Paired) → p.entry ≡ entry_of at (end_with reply) (at.last + 1) → (told : _) → TellsMore (p ∷ []) told told
  unfolding on
  tells_own p is None = tt
  tells_own p is (Some f) = λ n. subst (λ e. f n ≡ f n ++ on n (e ∷ [])) (sym is) (sym (append-nil (f n)))

  pub goes_own : (a2 : Agent) → at.last < 2 ^ 63 → Logged a0 (entry_of at (end_with reply) (at.last + 1)) a2 → Goes (end_with reply ∷ []) at (record at { last = at.last + 1 }) a a2
  goes_own a2 early gave = record {
    made = gave.pair ∷ [];
    log = ap (λ (x : Agent). x.log) gave.shows.same ∙ ap (λ (x : Agent). x.log ++ gave.pair ∷ []) room;
    done = own_done gave.pair gave.entry gave.before early;
    at_is = refl;
    number = ap (λ (x : Agent). x.number) gave.shows.same ∙ ap (λ (x : Agent). x.number) room;
    anchor = ap (λ (x : Agent). x.anchor) gave.shows.same ∙ ap (λ (x : Agent). x.anchor) room;
    starts = ap (λ (x : Agent). x.starts) gave.shows.same ∙ ap (λ (x : Agent). x.starts) room;
    earlier = ap (λ (x : Agent). x.earlier) gave.shows.same ∙ ap (λ (x : Agent). x.earlier) room;
    hands = ap (λ (x : Agent). x.hands) gave.shows.same ∙ ap (λ (x : Agent). x.hands) room;
    told =
        subst (λ t. TellsMore (gave.pair ∷ []) a.told t)
        (sym (ap (λ (x : Agent). x.told) gave.shows.same ∙ ap (λ (x : Agent). x.told) room)) (tells_own gave.pair gave.entry a.told);
  }
