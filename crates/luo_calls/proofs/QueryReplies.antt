-- What a read is answered lists no runs, and at most as many bytes as were asked for; a seek and a tell list nothing.
use Rattle.std.proofs.Common.{◌≡◌, ℕ, ◌+◌, ◌≤◌, Bool, true, false, cond, List, [], length, take, drop, nat_lt, refl, ap, sym, subst, ◌∙◌, arith}
use Rattle.std.specs.Prelude.{Option, None, Some, MatchOption}
use Rattle.std.proofs.lemmas.List.{length-take}
use Rattle.ho_events.specs.File.{FileState}
use Rattle.ho_events.specs.Slips.{reply_runs, reply_bytes}
use Rattle.ho_events.specs.declared.reply.Reply.{Reply}
use Rattle.ho_events.specs.declared.reply.Reply.TheVariants.{Ok, OkAt, OkBytes, PastEnd}
use Rattle.file_folios.specs.FileAnswers.{read_answer, seek_answer}

no_runs : (b : Bool) (bytes : List ℕ) → reply_runs (cond b PastEnd (OkBytes bytes)) ≡ []
no_runs true bytes = refl
no_runs false bytes = refl

few_bytes : (b : Bool) (bytes : List ℕ) (len : ℕ) → length bytes ≤ len → length (reply_bytes (cond b PastEnd (OkBytes bytes))) ≤ len
few_bytes true bytes len h = omega arith
few_bytes false bytes len h = h

pub read_runs : (s : Option (Option FileState)) (v : Reply) (off len : ℕ) → MatchOption s ⊥ (λ t. MatchOption t ⊥ (λ f. v ≡ read_answer f off len)) → reply_runs v ≡ []
read_runs None v off len h = absurd h
read_runs (Some None) v off len h = absurd h
read_runs (Some (Some f)) v off len h = ap reply_runs h ∙ no_runs (nat_lt (length f.bytes) (off + len)) (take len (drop off f.bytes))

pub read_bytes : (s : Option (Option FileState)) (v : Reply) (off len : ℕ) → MatchOption s ⊥ (λ t. MatchOption t ⊥ (λ f. v ≡ read_answer f off len)) → length (reply_bytes v) ≤ len
read_bytes None v off len h = absurd h
read_bytes (Some None) v off len h = absurd h
read_bytes (Some (Some f)) v off len h =
    let taken : length (take len (drop off f.bytes)) ≤ len = omega (arith, length-take len (drop off f.bytes)) in
    subst (λ r. length (reply_bytes r) ≤ len) (sym h) (few_bytes (nat_lt (length f.bytes) (off + len)) (take len (drop off f.bytes)) len taken)

moved_runs : (b : Bool) → reply_runs (cond b PastEnd Ok) ≡ []
moved_runs true = refl
moved_runs false = refl

moved_bytes : (b : Bool) → length (reply_bytes (cond b PastEnd Ok)) ≤ 0
moved_bytes true = omega arith
moved_bytes false = omega arith

pub seek_runs : (s : Option (Option FileState)) (v : Reply) (to : ℕ) → MatchOption s ⊥ (λ t. MatchOption t ⊥ (λ f. v ≡ seek_answer f to)) → reply_runs v ≡ []
seek_runs None v to h = absurd h
seek_runs (Some None) v to h = absurd h
seek_runs (Some (Some f)) v to h = ap reply_runs h ∙ moved_runs (nat_lt (length f.bytes) to)

pub seek_bytes : (s : Option (Option FileState)) (v : Reply) (to : ℕ) → MatchOption s ⊥ (λ t. MatchOption t ⊥ (λ f. v ≡ seek_answer f to)) → length (reply_bytes v) ≤ 0
seek_bytes None v to h = absurd h
seek_bytes (Some None) v to h = absurd h
seek_bytes (Some (Some f)) v to h = subst (λ r. length (reply_bytes r) ≤ 0) (sym h) (moved_bytes (nat_lt (length f.bytes) to))

pub tell_runs : (s : Option (Option FileState)) (v : Reply) → MatchOption s ⊥ (λ t. MatchOption t ⊥ (λ f. v ≡ OkAt f.position)) → reply_runs v ≡ []
tell_runs None v h = absurd h
tell_runs (Some None) v h = absurd h
tell_runs (Some (Some f)) v h = ap reply_runs h

told_bytes : (at : ℕ) → length (reply_bytes (OkAt at)) ≤ 0
told_bytes at = omega arith

pub tell_bytes : (s : Option (Option FileState)) (v : Reply) → MatchOption s ⊥ (λ t. MatchOption t ⊥ (λ f. v ≡ OkAt f.position)) → length (reply_bytes v) ≤ 0
tell_bytes None v h = absurd h
tell_bytes (Some None) v h = absurd h
tell_bytes (Some (Some f)) v h = subst (λ r. length (reply_bytes r) ≤ 0) (sym h) (told_bytes f.position)
