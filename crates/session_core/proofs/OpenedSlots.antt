-- How an incoming session is opened and ended.
use Rattle.std.proofs.Common.{◌≡◌, ℕ, ◌<◌, Bool, true, false, List, [], ◌∷◌, ◌++◌, length, refl, ap, sym, ◌∙◌, IsTrue, is_some, if◌then◌else◌, subst}
use Rattle.std.specs.Prelude.{Option, None, Some}
use Rattle.std.specs.Option.{MatchOption, IfSome, option_or}
use Rattle.std.specs.FinMap as finmap
use Rattle.std.proofs.lemmas.List.Elements.{All-nil}
use Rattle.ho_base.specs.declared.limits.TheConstants.{FILES}
use Rattle.ho_base.specs.declared.numbers.Token.{Token}
use Rattle.ho_base.specs.declared.numbers.FileNo.{FileNo}
use Rattle.ho_events.specs.History.{session_from}
use Rattle.ho_events.specs.PlainTurns.{ReplyIsPlain}
use Rattle.ho_events.specs.Session.{SessionState, Free, Out, In, is_in, session_step}
use Rattle.ho_events.specs.declared.entry.Entry.{Entry}
use Rattle.ho_events.specs.declared.event.Event.TheVariants.{SessionOpen, SessionFinish}
use Rattle.ho_events.specs.declared.reply.Reply.{Reply}
use Rattle.ho_events.specs.declared.reply.Reply.TheVariants.{Ok, NoSession, HandlerFailed}
use Rattle.session_core.proofs.Sessions.{turn_keeps, keeps_run, at_shown, free_none, only_true, some_same}
use Rattle.session_core.specs.Sessions.{finish_answer, waits}
use Rattle.session_core.specs.declared.opening.Incoming.{Incoming}
use Rattle.session_core.specs.SessionShown.{listed_by, Becomes, is_named_open, shown, KeepsSession}

-- whether it is open
pub in_shown : (i : Option Incoming) → (n : Option (List ℕ)) → (files : List (Token × FileNo × ℕ)) → (name : List ℕ) → is_in (shown i n files) name ≡ is_named_open i name
unfolding shown
in_shown (Some i) n files name = refl
in_shown None None files name = refl
in_shown None (Some own) files name = refl

-- what its parts show, once it is opened
none_waits : (n : Option (List ℕ)) → (files : List (Token × FileNo × ℕ)) → (name : List ℕ) → IsTrue (waits (shown None n files) name) → ⊥
unfolding shown
none_waits None files name h = cc
none_waits (Some own) files name h = cc

open_step : (i j : Incoming) → (n : Option (List ℕ)) → (files : List (Token × FileNo × ℕ)) → (name : List ℕ) → IsTrue (waits (shown (Some i) n files) name) → Becomes true i.taken.items i (Some j) → session_step (shown (Some i) n files) (SessionOpen name) Ok ≡ Some (shown (Some j) n files)
unfolding shown
open_step i j n files name h b =
    only_true _ _ h
    ∙ ap (λ own. Some (In own true (finmap.from_sorted (listed_by files i.taken.items)))) (sym b.0)
    ∙ ap (λ opened. Some (In j.name opened (finmap.from_sorted (listed_by files i.taken.items)))) (sym b.1)
    ∙ ap (λ taken. Some (In j.name j.opened (finmap.from_sorted (listed_by files taken)))) (sym b.2)

pub open_keeps : (start : SessionState) → (h : List Entry) → (e : Entry) → (i j : Option Incoming) → (n : Option (List ℕ)) → (files : List (Token × FileNo × ℕ)) → (name : List ℕ) → KeepsSession start h i n files → MatchOption (session_from start h) ⊥ (λ s. IsTrue (waits s name)) → IfSome i (λ x. Becomes true x.taken.items x j) → e.event ≡ SessionOpen name → e.reply ≡ Ok → KeepsSession start (h ++ e ∷ []) j n files
open_keeps start h e None j n files name k is b event reply =
    absurd (none_waits n files name (at_shown start h None n files (λ s. IsTrue (waits s name)) k is))
open_keeps start h e (Some i) None n files name k is b event reply = absurd b
open_keeps start h e (Some i) (Some j) n files name k is b event reply =
    turn_keeps start h e (Some i) (Some j) n n files files k
    (rw (event, reply) (open_step i j n files name (at_shown start h (Some i) n files (λ s. IsTrue (waits s name)) k is) b))
    k.rising k.within k.side (ap length b.2 ∙ k.marked)

pub open_run : (start : SessionState) → (h : List Entry) → (e : Entry) → (i j : Option Incoming) → (n : Option (List ℕ)) → (files : List (Token × FileNo × ℕ)) → (name : List ℕ) → KeepsSession start h i n files → MatchOption (session_from start h) ⊥ (λ s. IsTrue (waits s name)) → IfSome i (λ x. Becomes true x.taken.items x j) → e.event ≡ SessionOpen name → e.reply ≡ Ok → IsTrue (is_some (session_from start (h ++ e ∷ [])))
open_run start h e i j n files name k is b event reply = keeps_run _ _ _ _ _ (open_keeps start h e i j n files name k is b event reply)

-- its end
finish_ok : (s : SessionState) → (name : List ℕ) → IsTrue (is_in s name) → session_step s (SessionFinish name) Ok ≡ Some Free
finish_ok Free name h = cc
finish_ok (Out own files) name h = cc
finish_ok (In own opened files) name h = only_true _ _ h

finish_refused : (s : SessionState) → (name : List ℕ) → is_in s name ≡ false → session_step s (SessionFinish name) NoSession ≡ Some s
finish_refused Free name h = refl
finish_refused (Out own files) name h = refl
finish_refused (In own opened files) name h = rw h refl

finish_lost : (s : SessionState) → (name : List ℕ) → is_in s name ≡ true → session_step s (SessionFinish name) HandlerFailed ≡ Some s
finish_lost Free name h = cc
finish_lost (Out own files) name h = cc
finish_lost (In own opened files) name h = only_true _ _ h

none_in : (n : Option (List ℕ)) → (files : List (Token × FileNo × ℕ)) → (name : List ℕ) → IsTrue (is_in (shown None n files) name) → ⊥
unfolding shown
none_in None files name h = cc
none_in (Some own) files name h = cc

pub leave_keeps : (start : SessionState) → (h : List Entry) → (e : Entry) → (i : Option Incoming) → (n : Option (List ℕ)) → (files : List (Token × FileNo × ℕ)) → (name : List ℕ) → KeepsSession start h i n files → MatchOption (session_from start h) ⊥ (λ s. IsTrue (is_in s name)) → e.event ≡ SessionFinish name → e.reply ≡ Ok → KeepsSession start (h ++ e ∷ []) None n []
leave_keeps start h e None n files name k is event reply =
    absurd (none_in n files name (at_shown start h None n files (λ s. IsTrue (is_in s name)) k is))
leave_keeps start h e (Some i) n files name k is event reply =
    subst (λ m. KeepsSession start (h ++ e ∷ []) None m []) (sym k.side)
    (turn_keeps start h e (Some i) None n None files [] k
    (rw (event, reply) (finish_ok (shown (Some i) n files) name (at_shown start h (Some i) n files (λ s. IsTrue (is_in s name)) k is) ∙ ap Some (sym (free_none []))))
    refl (All-nil (λ f. f.1.0 < FILES)) refl tt)

pub leave_run : (start : SessionState) → (h : List Entry) → (e : Entry) → (i : Option Incoming) → (n : Option (List ℕ)) → (files : List (Token × FileNo × ℕ)) → (name : List ℕ) → KeepsSession start h i n files → MatchOption (session_from start h) ⊥ (λ s. IsTrue (is_in s name)) → e.event ≡ SessionFinish name → e.reply ≡ Ok → IsTrue (is_some (session_from start (h ++ e ∷ [])))
leave_run start h e i n files name k is event reply = keeps_run _ _ _ _ _ (leave_keeps start h e i n files name k is event reply)

-- what its end is answered, by what stands against it
abbrev refusal : Bool → Option Reply
refusal opened = (if opened then None else Some NoSession)

stays_by : (s : SessionState) → (name : List ℕ) → (opened : Bool) → (lost : Option Reply) → (reply : Reply) → opened ≡ is_in s name → option_or (refusal opened) lost ≡ Some reply → IfSome lost (λ r. r ≡ HandlerFailed) → session_step s (SessionFinish name) reply ≡ Some s
stays_by s name false lost reply is h l = subst (λ r. session_step s (SessionFinish name) r ≡ Some s) (some_same h) (finish_refused s name (sym is))
stays_by s name true None reply is h l = cc
stays_by s name true (Some loss) reply is h l = subst (λ r. session_step s (SessionFinish name) r ≡ Some s) (sym l ∙ some_same h) (finish_lost s name (sym is))

pub finish_stays : (o : Option SessionState) → (name : List ℕ) → (opened : Bool) → (against lost : Option Reply) → (reply : Reply) → MatchOption o ⊥ (λ s. opened ≡ is_in s name) → against ≡ refusal opened → option_or against lost ≡ Some reply → IfSome lost (λ r. r ≡ HandlerFailed) → MatchOption o ⊥ (λ s. session_step s (SessionFinish name) reply ≡ Some s)
finish_stays None name opened against lost reply is a h l = is
finish_stays (Some s) name opened against lost reply is a h l = stays_by s name opened lost reply is (ap (λ x. option_or x lost) (sym a) ∙ h) l

pub plain_loss : (lost : Option Reply) → (reply : Reply) → IfSome lost (λ r. r ≡ HandlerFailed) → lost ≡ Some reply → ReplyIsPlain reply
plain_loss None reply l h = cc
plain_loss (Some loss) reply l h = subst ReplyIsPlain (sym l ∙ some_same h) (record { runs = refl; bytes = refl })

pub finish_plain : (opened : Bool) → (against lost : Option Reply) → (reply : Reply) → against ≡ refusal opened → option_or against lost ≡ Some reply → IfSome lost (λ r. r ≡ HandlerFailed) → ReplyIsPlain reply
finish_plain false against lost reply a h l = subst ReplyIsPlain (some_same (ap (λ x. option_or x lost) (sym a) ∙ h)) (record { runs = refl; bytes = refl })
finish_plain true against lost reply a h l = plain_loss lost reply l (ap (λ x. option_or x lost) (sym a) ∙ h)

refuses_by : (opened : Bool) → (lost : Option Reply) → (reply : Reply) → option_or (refusal opened) lost ≡ Some reply → reply ≡ finish_answer opened lost
refuses_by false lost reply h = sym (some_same h)
refuses_by true None reply h = cc
refuses_by true (Some loss) reply h = sym (some_same h)

pub finish_refuses : (o : Option SessionState) → (name : List ℕ) → (opened : Bool) → (against lost : Option Reply) → (reply : Reply) → MatchOption o ⊥ (λ s. opened ≡ is_in s name) → against ≡ refusal opened → option_or against lost ≡ Some reply → MatchOption o ⊥ (λ s. reply ≡ finish_answer (is_in s name) lost)
finish_refuses None name opened against lost reply is a h = is
finish_refuses (Some s) name opened against lost reply is a h = refuses_by opened lost reply (ap (λ x. option_or x lost) (sym a) ∙ h) ∙ ap (λ b. finish_answer b lost) is

-- where nothing does
open_by : (opened : Bool) → (lost : Option Reply) → option_or (refusal opened) lost ≡ None → opened ≡ true
open_by false lost h = cc
open_by true lost h = refl

none_by : (opened : Bool) → (lost : Option Reply) → option_or (refusal opened) lost ≡ None → Ok ≡ finish_answer opened lost
none_by false lost h = cc
none_by true None h = refl
none_by true (Some loss) h = cc

pub finish_open : (o : Option SessionState) → (name : List ℕ) → (opened : Bool) → (against lost : Option Reply) → MatchOption o ⊥ (λ s. opened ≡ is_in s name) → against ≡ refusal opened → option_or against lost ≡ None → MatchOption o ⊥ (λ s. IsTrue (is_in s name))
finish_open None name opened against lost is a h = is
finish_open (Some s) name opened against lost is a h = sym is ∙ open_by opened lost (ap (λ x. option_or x lost) (sym a) ∙ h)

pub finish_ends : (o : Option SessionState) → (name : List ℕ) → (opened : Bool) → (against lost : Option Reply) → MatchOption o ⊥ (λ s. opened ≡ is_in s name) → against ≡ refusal opened → option_or against lost ≡ None → MatchOption o ⊥ (λ s. Ok ≡ finish_answer (is_in s name) lost)
finish_ends None name opened against lost is a h = is
finish_ends (Some s) name opened against lost is a h = none_by opened lost (ap (λ x. option_or x lost) (sym a) ∙ h) ∙ ap (λ b. finish_answer b lost) is
