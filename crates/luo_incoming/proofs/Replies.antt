-- Which replies come, from what the registry says of them.
use Rattle.std.proofs.Common.{◌≡◌, ℕ, List, sym, subst}
use Rattle.std.specs.Prelude.{Option, Some, None, MatchOption}
use Rattle.std.specs.FinMap as finmap
use Rattle.ho_events.specs.Registry.{RegistryState}
use Rattle.ho_events.specs.declared.reply.Reply.{Reply}
use Rattle.registry_core.specs.Registries.{IsWithinIn, find_answer, open_answer}
use Rattle.luo_incoming.specs.Replies.{IsFindInReply, IsOpenReply}

open_is : (o w : Option ℕ) → IsWithinIn (open_answer o w) → IsOpenReply (open_answer o w)
open_is (Some k) w h = tt
open_is None None h = tt
open_is None (Some s) h = h.1

pub open_replied : (h : Option RegistryState) (v : Reply) (name : List ℕ) → MatchOption h ⊥ (λ s. v ≡ open_answer (finmap.get s.opened name) (finmap.get s.waiting name)) → IsWithinIn v → IsOpenReply v
open_replied None v name e w = absurd e
open_replied (Some s) v name e w = subst IsOpenReply (sym e) (open_is _ _ (subst IsWithinIn e w))

find_is : (o : Option ℕ) → IsWithinIn (find_answer o) → IsFindInReply (find_answer o)
find_is None h = tt
find_is (Some s) h = h.1

pub find_in_replied : (h : Option RegistryState) (v : Reply) (name : List ℕ) → MatchOption h ⊥ (λ s. v ≡ find_answer (finmap.get s.opened name)) → IsWithinIn v → IsFindInReply v
find_in_replied None v name e w = absurd e
find_in_replied (Some s) v name e w = subst IsFindInReply (sym e) (find_is _ (subst IsWithinIn e w))
