-- Which replies come of a file, and which folios it gives up.
use Rattle.std.proofs.Common.{◌≡◌, ℕ, ◌+◌, ◌≤◌, List, [], ◌∷◌, ◌++◌, length, refl, ap, sym, subst, ◌∙◌, arith}
use Rattle.std.specs.Prelude.{Option, Some, None, MatchOption, option_map}
use Rattle.std.specs.FinMap as finmap
use Rattle.ho_base.specs.declared.numbers.Order.{Order}
use Rattle.phys_frames.specs.Homes.{HomeId}
use Rattle.phys_frames.specs.Memory.{FolioValue}
use Rattle.ho_events.specs.File.{FileState, runs_of}
use Rattle.ho_events.specs.declared.reply.Reply.{Reply}
use Rattle.ho_events.specs.declared.reply.Reply.TheVariants.{Kept, KeptRuns, Gone}
use Rattle.file_folios.specs.FileAnswers.{facts_of}
use Rattle.memfd_file.specs.Files.{IsUnpinAnswer, IsCloseFdAnswer, given_up}
use Rattle.luo_calls.specs.Memfds.{IsMemfd}
use Rattle.luo_calls.specs.Replies.{IsUnpinReply, IsCloseFdReply, IsGivenUp}
use Rattle.luo_calls.proofs.Folios.{at_runs_begin, at_runs_home, at_runs_order}

unpin_is : (f : FileState) → (v : Reply) → IsUnpinAnswer f v → IsUnpinReply v
unpin_is f (KeptRuns runs) h = tt
unpin_is f (Gone runs) h = tt
unpin_is f v h = absurd h

pub unpin_replied : (s : Option (Option FileState)) → (v : Reply) → MatchOption s ⊥ (λ t. MatchOption t ⊥ (λ f. IsUnpinAnswer f v)) → IsUnpinReply v
unpin_replied None v h = absurd h
unpin_replied (Some None) v h = absurd h
unpin_replied (Some (Some f)) v h = unpin_is f v h

close_fd_is : (f : FileState) → (v : Reply) → IsCloseFdAnswer f v → IsCloseFdReply v
close_fd_is f Kept h = tt
close_fd_is f (Gone runs) h = tt
close_fd_is f v h = absurd h

pub close_fd_replied : (s : Option (Option FileState)) → (v : Reply) → MatchOption s ⊥ (λ t. MatchOption t ⊥ (λ f. IsCloseFdAnswer f v)) → IsCloseFdReply v
close_fd_replied None v h = absurd h
close_fd_replied (Some None) v h = absurd h
close_fd_replied (Some (Some f)) v h = close_fd_is f v h

-- there is room for all runs where there is room for all indexes
pub runs_fit : (s : Option (Option FileState)) (have count room : ℕ) → have + count ≤ room → MatchOption s ⊥ (λ t. MatchOption t ⊥ (λ f. length (runs_of f) ≤ count)) → MatchOption s ⊥ (λ t. MatchOption t ⊥ (λ f. have + length (runs_of f) ≤ room))
runs_fit None have count room fits h = absurd h
runs_fit (Some None) have count room fits h = absurd h
runs_fit (Some (Some f)) have count room fits h = omega (arith, fits, h)

pub runs_listed : (s : Option (Option FileState)) (count room : ℕ) → room ≡ count → MatchOption s ⊥ (λ t. MatchOption t ⊥ (λ f. length (runs_of f) ≤ count)) → MatchOption s ⊥ (λ t. MatchOption t ⊥ (λ f. length (runs_of f) ≤ room))
runs_listed None count room fits h = absurd h
runs_listed (Some None) count room fits h = absurd h
runs_listed (Some (Some f)) count room fits h = omega (arith, fits, h)

-- ---- the folios that it gives up

order_of : (f : FileState) (o : Order) → IsMemfd (Some (facts_of f)) o → f.order ≡ o.0
order_of f o m = ap (λ (x : Order). x.0) m.1

given_is : (home : HomeId) (o : Order) (f : FileState) (v : Reply) → IsMemfd (Some (facts_of f)) o → IsUnpinAnswer f v → IsGivenUp home o v (given_up home f v)
given_is home o f (KeptRuns runs) m h = refl
given_is home o f (Gone runs) m h = (at_runs_begin f home (finmap.entries f.runs) runs h.1, at_runs_home f home (finmap.entries f.runs), at_runs_order f home o (finmap.entries f.runs) (order_of f o m))
given_is home o f v m h = absurd h

pub given_says : (s : Option (Option FileState)) (home own : HomeId) (o : Order) (v : Reply) (old new : List FolioValue) → own ≡ home → old ≡ [] → MatchOption s ⊥ (λ t. IsMemfd (option_map facts_of t) o) → MatchOption s ⊥ (λ t. MatchOption t ⊥ (λ f. IsUnpinAnswer f v)) → MatchOption s ⊥ (λ t. MatchOption t ⊥ (λ f. new ≡ old ++ given_up own f v)) → IsGivenUp home o v new
given_says None home own o v old new same empty m h g = absurd h
given_says (Some None) home own o v old new same empty m h g = absurd h
given_says (Some (Some f)) home own o v old new same empty m h g =
    subst (λ (place : HomeId). IsGivenUp place o v new) same
    (subst (IsGivenUp own o v) (sym (g ∙ ap (λ front. front ++ given_up own f v) empty)) (given_is own o f v m h))

closed_is : (home : HomeId) (o : Order) (f : FileState) (v : Reply) → IsMemfd (Some (facts_of f)) o → IsCloseFdAnswer f v → IsGivenUp home o v (given_up home f v)
closed_is home o f Kept m h = refl
closed_is home o f (Gone runs) m h = (at_runs_begin f home (finmap.entries f.runs) runs h.1, at_runs_home f home (finmap.entries f.runs), at_runs_order f home o (finmap.entries f.runs) (order_of f o m))
closed_is home o f v m h = absurd h

-- the same at the end of a label's hold
pub closed_says : (s : Option (Option FileState)) (home own : HomeId) (o : Order) (v : Reply) (old new : List FolioValue) → own ≡ home → old ≡ [] → MatchOption s ⊥ (λ t. IsMemfd (option_map facts_of t) o) → MatchOption s ⊥ (λ t. MatchOption t ⊥ (λ f. IsCloseFdAnswer f v)) → MatchOption s ⊥ (λ t. MatchOption t ⊥ (λ f. new ≡ old ++ given_up own f v)) → IsGivenUp home o v new
closed_says None home own o v old new same empty m h g = absurd h
closed_says (Some None) home own o v old new same empty m h g = absurd h
closed_says (Some (Some f)) home own o v old new same empty m h g =
    subst (λ (place : HomeId). IsGivenUp place o v new) same
    (subst (IsGivenUp own o v) (sym (g ∙ ap (λ front. front ++ given_up own f v) empty)) (closed_is own o f v m h))
