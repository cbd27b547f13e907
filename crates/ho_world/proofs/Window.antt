-- A file that an agent has a label on is there, and of one sort, from the label's binding to its end.
use Rattle.std.proofs.Common.{◌≡◌, ℕ, ◌+◌, Bool, true, false, not, ◌&&◌, ◌||◌, ◌==◌, List, [], ◌∷◌, ◌++◌, refl, sym, ap, subst, ◌∙◌, IsTrue, is_some, unwrap_or}
use Rattle.std.specs.Prelude.{Option, None, Some, if◌then◌else◌}
use Rattle.ho_base.specs.declared.numbers.Kind.{Kind}
use Rattle.ho_base.specs.declared.numbers.Order.{Order}
use Rattle.ho_base.specs.declared.numbers.Pfn.{Pfn}
use Rattle.ho_events.specs.Lists.{only}
use Rattle.ho_events.specs.History.{run_from}
use Rattle.ho_events.specs.File.{FileState, file_step, write_step, truncate_step, pin_step, read_step, seek_step, tell_step, open_held_step, init_step, let_go, unpin_step}
use Rattle.ho_events.specs.declared.entry.Entry.{Entry}
use Rattle.ho_events.specs.declared.event.Event.{Event}
use Rattle.ho_events.specs.declared.event.Event.TheVariants.{FileInit, FileWrite, FileFill, FileRead, FileTruncate, FileSeek, FileTell, FileCloseFd, FilePin, FileUnpin, FileOpenHeld, FileFinish}
use Rattle.ho_events.specs.declared.reply.Reply.{Reply}
use Rattle.ho_events.specs.declared.reply.Reply.TheVariants.{Ok, OkBytes, OkAt, OkRuns, Kept, KeptRuns, Gone, NoFramesOf, TooBig, SizeFrozen, PastEnd, NotFinished, AlreadyPinned, HandlerFailed}
use Rattle.ho_world.specs.Acts.{Sort, sort_of}
use Rattle.ho_world.specs.Balance.{is_open}
use Rattle.ho_world.proofs.Fronts.{eq_true, eq_same}

same_value : {T : Type 0} (x y : T) → Some x ≡ Some y → x ≡ y
same_value x y e = ap (λ o. unwrap_or o x) e

not_some : {T : Type 0} (t : T) → ◌≡◌ {A = Option T} None (Some t) → ⊥
not_some t e = cc

-- binding, ending, and neither
abbrev pub opened_after : Bool → Event → Bool
opened_after b (FileInit kind o size runs) = true
opened_after b FileOpenHeld = true
opened_after b FileCloseFd = false
opened_after b event = b

abbrev pub is_binding : Event → Bool
is_binding (FileInit kind o size runs) = true
is_binding FileOpenHeld = true
is_binding event = false

abbrev pub is_ending : Event → Bool
is_ending FileCloseFd = true
is_ending event = false

-- the file is as open as it should be; if it is there, it has the sort that it had
abbrev HasSort : Option Sort → Option FileState → Type 0
HasSort s None = Unit {0}
HasSort s (Some g) = sort_of (Some g) ≡ s

record Moves (f : FileState) (event : Event) (t : Option FileState) : Type 0 where
  opened : is_open t ≡ opened_after f.opened event
  sort : HasSort (sort_of (Some f)) t
  binding : is_binding event ≡ true → f.opened ≡ false
  ending : is_ending event ≡ true → f.opened ≡ true

along : {f : FileState} {event : Event} (x t : Option FileState) (b : Bool) → only b x ≡ Some t → (IsTrue b → Moves f event x) → Moves f event t
along {f = f} {event = event} x t true e h = subst (Moves f event) (same_value x t e) (h refl)
along x t false e h = absurd cc

neither : (b c d : Bool) → IsTrue (not (b || c) && d) → b ≡ false
neither true c d h = absurd cc
neither false c d h = refl

neither3 : (b c d x : Bool) → IsTrue (not (b || c || d) && x) → b ≡ false
neither3 true c d x h = absurd cc
neither3 false c d x h = refl

not_true : (b c : Bool) → IsTrue (c && not b) → b ≡ false
not_true true true h = absurd cc
not_true true false h = absurd cc
not_true false c h = refl

wrote : (f : FileState) (ev : Event) (off : ℕ) (new : List ℕ) (fills : List Pfn) (re : Reply) (t : Option FileState) → opened_after f.opened ev ≡ f.opened → is_binding ev ≡ false → is_ending ev ≡ false → write_step f off new fills re ≡ Some t → Moves f ev t
wrote f ev off new fills TooBig t o b c e = along (Some f) t _ e (λ h. record { opened = sym o; sort = refl; binding = λ x. absurd cc; ending = λ x. absurd cc })
wrote f ev off new fills SizeFrozen t o b c e = along (Some f) t _ e (λ h. record { opened = sym o; sort = refl; binding = λ x. absurd cc; ending = λ x. absurd cc })
wrote f ev off new fills (NoFramesOf n) t o b c e = along (Some f) t _ e (λ h. record { opened = sym o; sort = refl; binding = λ x. absurd cc; ending = λ x. absurd cc })
wrote f ev off new fills Ok t o b c e = along _ t _ e (λ h. record { opened = sym o; sort = refl; binding = λ x. absurd cc; ending = λ x. absurd cc })
wrote f ev off new fills re t o b c e = absurd (not_some t e)

cut : (f : FileState) (size : ℕ) (re : Reply) (t : Option FileState) → truncate_step f size re ≡ Some t → Moves f (FileTruncate size) t
cut f size TooBig t e = along (Some f) t _ e (λ h. record { opened = refl; sort = refl; binding = λ x. absurd cc; ending = λ x. absurd cc })
cut f size SizeFrozen t e = along (Some f) t _ e (λ h. record { opened = refl; sort = refl; binding = λ x. absurd cc; ending = λ x. absurd cc })
cut f size (OkRuns given) t e = along _ t _ e (λ h. record { opened = refl; sort = refl; binding = λ x. absurd cc; ending = λ x. absurd cc })
cut f size re t e = absurd (not_some t e)

pinned : (f : FileState) (fills : List Pfn) (re : Reply) (t : Option FileState) → pin_step f fills re ≡ Some t → Moves f (FilePin fills) t
pinned f fills NotFinished t e = along (Some f) t _ e (λ h. record { opened = refl; sort = refl; binding = λ x. absurd cc; ending = λ x. absurd cc })
pinned f fills AlreadyPinned t e = along (Some f) t _ e (λ h. record { opened = refl; sort = refl; binding = λ x. absurd cc; ending = λ x. absurd cc })
pinned f fills (NoFramesOf n) t e = along (Some f) t _ e (λ h. record { opened = refl; sort = refl; binding = λ x. absurd cc; ending = λ x. absurd cc })
pinned f fills HandlerFailed t e = along (Some f) t _ e (λ h. record { opened = refl; sort = refl; binding = λ x. absurd cc; ending = λ x. absurd cc })
pinned f fills (OkRuns runs) t e = along _ t _ e (λ h. record { opened = refl; sort = refl; binding = λ x. absurd cc; ending = λ x. absurd cc })
pinned f fills re t e = absurd (not_some t e)

lines_of : (f : FileState) (re : Reply) (t : Option FileState) → tell_step f re ≡ Some t → Moves f FileTell t
lines_of f (OkAt at) t e = along (Some f) t _ e (λ h. record { opened = refl; sort = refl; binding = λ x. absurd cc; ending = λ x. absurd cc })
lines_of f re t e = absurd (not_some t e)

sought : (f : FileState) (to : ℕ) (re : Reply) (t : Option FileState) → seek_step f to re ≡ Some t → Moves f (FileSeek to) t
sought f to Ok t e = along _ t _ e (λ h. record { opened = refl; sort = refl; binding = λ x. absurd cc; ending = λ x. absurd cc })
sought f to PastEnd t e = along (Some f) t _ e (λ h. record { opened = refl; sort = refl; binding = λ x. absurd cc; ending = λ x. absurd cc })
sought f to re t e = absurd (not_some t e)

was_read : (f : FileState) (off len : ℕ) (re : Reply) (t : Option FileState) → read_step f off len re ≡ Some t → Moves f (FileRead off len) t
was_read f off len (OkBytes bytes) t e = along (Some f) t _ e (λ h. record { opened = refl; sort = refl; binding = λ x. absurd cc; ending = λ x. absurd cc })
was_read f off len PastEnd t e = along (Some f) t _ e (λ h. record { opened = refl; sort = refl; binding = λ x. absurd cc; ending = λ x. absurd cc })
was_read f off len re t e = absurd (not_some t e)

opened_held : (f : FileState) (re : Reply) (t : Option FileState) → open_held_step f re ≡ Some t → Moves f FileOpenHeld t
opened_held f Ok t e = along _ t (f.hold && not f.opened) e (λ h. record { opened = refl; sort = refl; binding = λ x. not_true f.opened f.hold h; ending = λ x. absurd cc })
opened_held f re t e = absurd (not_some t e)

let_go_of : (f g : FileState) (ev : Event) (re : Reply) (t : Option FileState) → sort_of (Some g) ≡ sort_of (Some f) → g.opened ≡ opened_after f.opened ev → (is_binding ev ≡ true → f.opened ≡ false) → (is_ending ev ≡ true → f.opened ≡ true) → let_go g re ≡ Some t → Moves f ev t
let_go_of f g ev Kept t s o b c e = along (Some g) t _ e (λ h. record { opened = o; sort = s; binding = b; ending = c })
let_go_of f g ev (Gone runs) t s o b c e = along None t _ e (λ h. record { opened = sym (neither3 g.opened g.pin g.hold _ h) ∙ o; sort = tt; binding = b; ending = c })
let_go_of f g ev re t s o b c e = absurd (not_some t e)

unpinned : (f : FileState) (re : Reply) (t : Option FileState) → unpin_step (record f { pin = false }) re ≡ Some t → Moves f FileUnpin t
unpinned f (KeptRuns runs) t e = along _ t _ e (λ h. record { opened = refl; sort = refl; binding = λ x. absurd cc; ending = λ x. absurd cc })
unpinned f (Gone runs) t e = along None t _ e (λ h. record { opened = sym (neither f.opened f.hold _ h); sort = tt; binding = λ x. absurd cc; ending = λ x. absurd cc })
unpinned f re t e = absurd (not_some t e)

chosen : (b : Bool) (o : Option (Option FileState)) (t : Option FileState) → (if b then o else None) ≡ Some t → (b ≡ true) × (o ≡ Some t)
chosen true o t e = (refl, e)
chosen false o t e = absurd cc

moves : (f : FileState) (ev : Event) (re : Reply) (t : Option FileState) → file_step (Some f) ev re ≡ Some t → Moves f ev t
moves f (FileWrite off bytes fills) re t e = wrote f (FileWrite off bytes fills) off bytes fills re t refl refl refl e
moves f (FileFill off len byte fills) re t e = wrote f (FileFill off len byte fills) off _ fills re t refl refl refl e
moves f (FileRead off len) re t e = was_read f off len re t e
moves f (FileTruncate size) re t e = cut f size re t e
moves f (FileSeek to) re t e = sought f to re t e
moves f FileTell re t e = lines_of f re t e
moves f FileCloseFd re t e =
    let c : (f.opened ≡ true) × (let_go (record f { opened = false }) re ≡ Some t) = chosen f.opened _ t e in
    let_go_of f (record f { opened = false }) FileCloseFd re t refl refl (λ x. absurd cc) (λ x. c.0) c.1
moves f (FilePin fills) re t e = pinned f fills re t e
moves f FileUnpin re t e = unpinned f re t (chosen f.pin _ t e).1
moves f FileOpenHeld re t e = opened_held f re t e
moves f FileFinish re t e = let_go_of f (record f { hold = false }) FileFinish re t refl refl (λ x. absurd cc) (λ x. absurd cc) (chosen f.hold _ t e).1
moves f ev re t e = absurd (not_some t e)

-- who has the file open

abbrev pub owner_step : Option ℕ → Entry → Option ℕ
owner_step o e = (if is_binding e.event then Some e.agent.0 else if is_ending e.event then None else o)

-- whether an agent bound the file last and hasn't ended that, by its own entries alone
abbrev pub own_step : (ℕ → Bool) → Entry → ℕ → Bool
own_step own e c =
    if is_binding e.event then (e.agent.0 == c || own c)
    else if is_ending e.event then (not (e.agent.0 == c) && own c)
    else own c

-- who ends a binding has it: what each agent's whole sequences say of its own entries
abbrev pub EndsOwn : (ℕ → Bool) → List Entry → Type 0
EndsOwn own [] = Unit {0}
EndsOwn own (e ∷ es) = (is_ending e.event ≡ true → own e.agent.0 ≡ true) × EndsOwn (own_step own e) es

pub record Tied (st : Option FileState) (o : Option ℕ) (own : ℕ → Bool) : Type 0 where
  pub opened : is_open st ≡ is_some o
  pub only : (c : ℕ) → own c ≡ true → o ≡ Some c

abbrev expected : Bool → Event → Bool
expected b ev = (if is_binding ev then true else if is_ending ev then false else b)

as_expected : (b : Bool) (ev : Event) → opened_after b ev ≡ expected b ev
as_expected b (FileInit kind o size runs) = refl
as_expected b FileOpenHeld = refl
as_expected b FileCloseFd = refl
as_expected b ev = refl

record Goes (st : Option FileState) (ev : Event) (t : Option FileState) : Type 0 where
  opened : is_open t ≡ expected (is_open st) ev
  binding : is_binding ev ≡ true → is_open st ≡ false
  ending : is_ending ev ≡ true → is_open st ≡ true

begun : (kind : Kind) (o : Order) (size : ℕ) (runs : List Pfn) (re : Reply) (t : Option FileState) → init_step kind o size runs re ≡ Some t → is_open t ≡ true
begun kind o size runs Ok t e = came _ t _ e refl
  where
    came : (x t : Option FileState) (b : Bool) → only b x ≡ Some t → is_open x ≡ true → is_open t ≡ true
    came x t true e h = sym (ap is_open (same_value x t e)) ∙ h
    came x t false e h = absurd cc
begun kind o size runs re t e = absurd (not_some t e)

goes : (st : Option FileState) (ev : Event) (re : Reply) (t : Option FileState) → file_step st ev re ≡ Some t → Goes st ev t
goes (Some f) ev re t e =
    let m : Moves f ev t = moves f ev re t e in
    record { opened = m.opened ∙ as_expected f.opened ev; binding = m.binding; ending = m.ending }
goes None (FileInit kind o size runs) re t e = record { opened = begun kind o size runs re t e; binding = λ x. refl; ending = λ x. absurd cc }
goes None ev re t e = absurd (not_some t e)

some_of : (o : Option ℕ) (c : ℕ) → is_some o ≡ false → o ≡ Some c → ⊥
some_of None c h e = cc
some_of (Some x) c h e = absurd cc

tied_by : (st t : Option FileState) (o : Option ℕ) (own : ℕ → Bool) (a : ℕ) (b c : Bool) → Tied st o own
    → is_open t ≡ (if b then true else if c then false else is_open st) → (b ≡ true → is_open st ≡ false) → (c ≡ true → own a ≡ true)
    → Tied t (if b then Some a else if c then None else o) (λ x. if b then (a == x || own x) else if c then (not (a == x) && own x) else own x)
tied_by st t o own a true c h is low high = record {
  opened = is;
  only = λ x e. elim (a == x) as (λ q. (a == x) ≡ q → (q || own x) ≡ true → Some a ≡ Some x) [
    | true ↦ λ same e. ap (λ y. Some y) (eq_true a x same)
    | false ↦ λ same e. absurd (some_of o x (sym h.opened ∙ low refl) (h.only x e))
  ] refl e;
}
tied_by st t o own a false true h is low high = record {
  opened = is;
  only = λ x e. elim (a == x) as (λ q. (a == x) ≡ q → (not q && own x) ≡ true → None ≡ Some x) [
    | true ↦ λ same e. absurd cc
    | false ↦ λ same e. absurd (other (same_value a x (sym (h.only a (high refl)) ∙ h.only x e)) same)
  ] refl e;
}
  where
    clash : (q : Bool) → q ≡ true → q ≡ false → ⊥
    clash q h k = absurd cc

    other : {x : ℕ} → a ≡ x → (a == x) ≡ false → ⊥
    other {x = x} same no_eq = clash (a == x) (ap (λ y. a == y) (sym same) ∙ eq_same a) no_eq
tied_by st t o own a false false h is low high = record { opened = is ∙ h.opened; only = h.only }

tied_step : (st : Option FileState) (o : Option ℕ) (own : ℕ → Bool) (e : Entry) (t : Option FileState) → Tied st o own → file_step st e.event e.reply ≡ Some t → (is_ending e.event ≡ true → own e.agent.0 ≡ true) → Tied t (owner_step o e) (own_step own e)
tied_step st o own e t h came ends =
    let g : Goes st e.event t = goes st e.event e.reply t came in
    tied_by st t o own e.agent.0 (is_binding e.event) (is_ending e.event) h g.opened g.binding ends

-- who has bound the file and not ended that: it is there
there : (st : Option FileState) (o : Option ℕ) (own : ℕ → Bool) (a : ℕ) → Tied st o own → own a ≡ true → is_some st ≡ true
there (Some f) o own a h is = refl
there None o own a h is = absurd (no_owner (h.opened ∙ ap is_some (h.only a is)))
  where
    no_owner : false ≡ true → ⊥
    no_owner e = cc

-- and as long as the agent has it, it has its sort
abbrev pub StaysOwn : ℕ → (ℕ → Bool) → List Entry → Type 0
StaysOwn a own [] = own a ≡ true
StaysOwn a own (e ∷ es) = (own a ≡ true) × StaysOwn a (own_step own e) es

first_own : (a : ℕ) (own : ℕ → Bool) (es : List Entry) → StaysOwn a own es → own a ≡ true
first_own a own [] h = h
first_own a own (e ∷ es) h = h.0

lost : (es : List Entry) (t : Option FileState) → run_from file_step None es ≡ Some t → ⊥
unfolding run_from
lost [] t e = not_some t e
lost (x ∷ es) t e = lost es t e

pub same_sort : (st : Option FileState) (o : Option ℕ) (own : ℕ → Bool) (es : List Entry) (t : Option FileState) (a : ℕ) → Tied st o own → run_from file_step (Some st) es ≡ Some t → EndsOwn own es → StaysOwn a own es → sort_of t ≡ sort_of st
unfolding run_from
same_sort st o own [] t a h ran ends stays = ap sort_of (sym (same_value st t ran))
same_sort st o own (e ∷ es) t a h ran ends stays =
    one_more st (file_step st e.event e.reply) refl ran h stays.0
    (λ x came next. same_sort x (owner_step o e) (own_step own e) es t a (tied_step st o own e x h came ends.0) next ends.1 stays.1)
    (λ x came. there x (owner_step o e) (own_step own e) a (tied_step st o own e x h came ends.0) (first_own a (own_step own e) es stays.1))
  where
    kept : (f : FileState) (x : Option FileState) → file_step (Some f) e.event e.reply ≡ Some x → is_some x ≡ true → sort_of x ≡ sort_of (Some f)
    kept f (Some g) came is = (moves f e.event e.reply (Some g) came).sort
    kept f None came is = absurd cc

    one_more : (st : Option FileState) (r : Option (Option FileState)) → file_step st e.event e.reply ≡ r → run_from file_step r es ≡ Some t → Tied st o own → own a ≡ true
        → ((x : Option FileState) → file_step st e.event e.reply ≡ Some x → run_from file_step (Some x) es ≡ Some t → sort_of t ≡ sort_of x)
        → ((x : Option FileState) → file_step st e.event e.reply ≡ Some x → is_some x ≡ true) → sort_of t ≡ sort_of st
    one_more st None is ran h own_it rest here = absurd (lost es t ran)
    one_more None (Some x) is ran h own_it rest here = absurd (no_file (there None o own a h own_it))
      where
        no_file : false ≡ true → ⊥
        no_file e = cc
    one_more (Some f) (Some x) is ran h own_it rest here = rest x is ran ∙ kept f x is (here x is)
