-- The entries of a kexec, and what they leave of a kernel.
use Rattle.std.proofs.Common.{◌≡◌, ℕ, Bool, true, false, cond, List, [], ◌∷◌, ◌++◌, refl, ap, sym, ◌∙◌, subst, is_some, IsTrue}
use Rattle.std.specs.Prelude.{Option, None, Some, option_map, unwrap_or, ◌==◌}
use Rattle.std.proofs.lemmas.List.{append-nil}
use Rattle.ho_base.specs.Objects.{pool_no}
use Rattle.ho_base.specs.declared.numbers.Pfn.{Pfn}
use Rattle.ho_events.specs.declared.entry.Entry.{Entry}
use Rattle.ho_events.specs.declared.event.Event.{Event}
use Rattle.ho_events.specs.declared.event.Event.TheVariants.{PoolTake}
use Rattle.ho_events.specs.declared.reply.Reply.{Reply}
use Rattle.ho_events.specs.declared.reply.Reply.TheVariants.{Got}
use Rattle.ho_events.specs.declared.slip.At.{At}
use Rattle.ho_events.specs.History.{on, run_from, then_entry}
use Rattle.ho_events.specs.Lists.{only, firsts}
use Rattle.ho_events.specs.Pool.{PoolState, pool_step, can_take, own}
use Rattle.ho_world.specs.Acts.{single}
use Rattle.ho_world.specs.Logs.{AreDone, deed_at, end_with, entry_of, paired_on}
use Rattle.ho_world.specs.World.{State, PoolIn, step, run}
use Rattle.pool_core.specs.PoolValues.{PoolValue}
use Rattle.machine_core.specs.declared.object.Object as object
use Rattle.machine_core.specs.declared.object.Object.TheVariants.{Pool}
use Rattle.machine_core.specs.Kernels.{KernelValue, object_at, start_in, history_in, starts_in, histories_in, IsRunAt}
use Rattle.machine_core.specs.Objects.{Start, start_of}
use Rattle.machine_core.specs.Worlds.{state_of, states_in}
use Rattle.kernel_carried.proofs.States.{runs_alike}
use Rattle.freeze_path.specs.Freezes.{IsStill}
use Rattle.freeze_path.specs.Ready.{HasPool}

-- two entries of one command: an event of an object, and the end
pub record AreTwo (at : At) (n : ℕ) (event : Event) (reply end_reply : Reply) (es : List Entry) : Type 0 where
  pub one : ℕ
  pub two : ℕ
  pub is : es ≡ entry_of at (deed_at n [] event reply) one ∷ entry_of at (end_with end_reply) two ∷ []

pub are_two : (f : ℕ → Option State) (h : ℕ → List Entry) (at : At) (last : ℕ) (n : ℕ) (event : Event) (reply end_reply : Reply) (es : List Entry) (last' : ℕ) → AreDone f at last (deed_at n [] event reply ∷ end_with end_reply ∷ []) (paired_on f h [] es) last' → AreTwo at n event reply end_reply es
unfolding AreDone paired_on
are_two f h at last n event reply end_reply [] last' d = absurd d
are_two f h at last n event reply end_reply (e ∷ []) last' d = absurd d.4
are_two f h at last n event reply end_reply (e ∷ e' ∷ []) last' d = record { one = _; two = _; is = λ i. d.0 i ∷ d.4.0 i ∷ [] }
are_two f h at last n event reply end_reply (e ∷ e' ∷ e'' ∷ es) last' d = absurd d.4.4

-- the entries of each object
pub on_others : (at : At) (n : ℕ) (event : Event) (reply end_reply : Reply) (es : List Entry) (m : ℕ) → AreTwo at n event reply end_reply es → (n == m) ≡ false → on m es ≡ []
unfolding on
on_others at n event reply end_reply es m two other =
    ap (on m) two.is ∙ ap (λ b. cond b (entry_of at (deed_at n [] event reply) two.one ∷ []) []) other

pub on_it : (at : At) (event : Event) (reply end_reply : Reply) (es : List Entry) (two : AreTwo at pool_no event reply end_reply es) → on pool_no es ≡ entry_of at (deed_at pool_no [] event reply) two.one ∷ []
unfolding on
on_it at event reply end_reply es two = ap (on pool_no) two.is

-- ---- the states

abbrev state_by : Option Start → List Entry → Option State
state_by None h = None
state_by (Some s) h = Some (unwrap_or (run s.state h) s.state)

states_by : (objects : List (Option object.Object)) (n : ℕ) → states_in objects n ≡ state_by (starts_in objects n) (histories_in objects n)
states_by objects n = go (object_at objects n)
  where
    go : (o : Option object.Object) → option_map state_of o ≡ state_by (start_in o) (history_in o)
    go None = refl
    go (Some o) = refl

-- an object without an entry is in the same state
pub same_state : (kernel kernel' : KernelValue) (es : List Entry) (n : ℕ) → IsStill kernel kernel' es → on n es ≡ [] → states_in kernel'.objects n ≡ states_in kernel.objects n
same_state kernel kernel' es n still none =
    states_by kernel'.objects n ∙ (λ i. state_by (still.starts i n) (still.histories i n))
    ∙ ap (state_by (starts_in kernel.objects n)) (ap (λ xs. histories_in kernel.objects n ++ xs) none ∙ append-nil (histories_in kernel.objects n))
    ∙ sym (states_by kernel.objects n)

pub pool_state : (kernel : KernelValue) (h : HasPool kernel) → states_in kernel.objects pool_no ≡ Some (PoolIn h.state)
pool_state kernel h =
    ap (option_map state_of) h.at
    ∙ ap (λ (x : Option State). Some (unwrap_or x (PoolIn h.value.start))) (runs_alike PoolIn pool_step (λ s event reply. refl) (Some h.value.start) h.value.history ∙ ap (option_map PoolIn) h.run)

pub pool_same : (s t : PoolState) → ◌≡◌ {A = Option State} (Some (PoolIn s)) (Some (PoolIn t)) → s ≡ t
pool_same s t e = cc

-- ---- a take of frames

run_more : (o : Option State) (es : List Entry) (e : Entry) → run_from step o (es ++ e ∷ []) ≡ then_entry step (run_from step o es) e
unfolding run_from
run_more o [] e = refl
run_more o (x ∷ es) e = run_more (then_entry step o x) es e

-- the take was legal, and the pool has its frames
pub record Took (kernel kernel' : KernelValue) (s : PoolState) (count : ℕ) (runs : List Pfn) : Type 0 where
  pub can : can_take s 0 count (firsts runs) ≡ true
  pub after : states_in kernel'.objects pool_no ≡ Some (PoolIn (record s { owned = own 0 (firsts runs) s.owned }))

only_some : (b : Bool) (x : PoolState) → IsTrue (is_some (option_map PoolIn (only b x))) → b ≡ true
only_some true x h = refl
only_some false x h = absurd cc

only_is : (b : Bool) (x : PoolState) → b ≡ true → option_map PoolIn (only b x) ≡ Some (PoolIn x)
only_is b x e = ap (λ c. option_map PoolIn (only c x)) e

pub took_legally : (kernel kernel' : KernelValue) (es : List Entry) (at : At) (count : ℕ) (runs : List Pfn) (end_reply : Reply) (h : HasPool kernel) → IsStill kernel kernel' es → AreTwo at pool_no (PoolTake single count) (Got runs) end_reply es → Took kernel kernel' h.state count runs
took_legally kernel kernel' es at count runs end_reply h still two = record { can = legal; after = after_is }
  where
    v : PoolValue
    v = h.value

    e : Entry
    e = entry_of at (deed_at pool_no [] (PoolTake single count) (Got runs)) two.one

    start : starts_in kernel'.objects pool_no ≡ Some (start_of (Pool v))
    start = (λ i. still.starts i pool_no) ∙ ap start_in h.at

    history : histories_in kernel'.objects pool_no ≡ v.history ++ e ∷ []
    history =
        (λ i. still.histories i pool_no) ∙ ap (λ xs. histories_in kernel.objects pool_no ++ xs) (on_it at (PoolTake single count) (Got runs) end_reply es two)
        ∙ ap (λ xs. xs ++ e ∷ []) (ap history_in h.at)

    led : run (PoolIn v.start) v.history ≡ Some (PoolIn h.state)
    led = runs_alike PoolIn pool_step (λ s event reply. refl) (Some v.start) v.history ∙ ap (option_map PoolIn) h.run

    next : PoolState
    next = record h.state { owned = own 0 (firsts runs) h.state.owned }

    stepped : run (PoolIn v.start) (v.history ++ e ∷ []) ≡ option_map PoolIn (only (can_take h.state 0 count (firsts runs)) next)
    stepped = run_more (Some (PoolIn v.start)) v.history e ∙ ap (λ o. then_entry step o e) led

    is_run : IsTrue (is_some (run (PoolIn v.start) (v.history ++ e ∷ [])))
    is_run = subst (λ (x : List Entry). IsTrue (is_some (run (PoolIn v.start) x))) history (subst (λ s. IsRunAt s (histories_in kernel'.objects pool_no)) start (still.runs pool_no))

    legal : can_take h.state 0 count (firsts runs) ≡ true
    legal = only_some (can_take h.state 0 count (firsts runs)) next (subst (λ o. IsTrue (is_some o)) stepped is_run)

    after_is : states_in kernel'.objects pool_no ≡ Some (PoolIn next)
    after_is =
        states_by kernel'.objects pool_no ∙ (λ i. state_by (start i) (history i))
        ∙ ap (λ (x : Option State). Some (unwrap_or x (PoolIn v.start))) (stepped ∙ only_is (can_take h.state 0 count (firsts runs)) next legal)
