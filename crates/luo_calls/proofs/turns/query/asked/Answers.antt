use Rattle.std.proofs.Common.{◌≤◌, length, subst, sym}
use Rattle.ho_events.specs.Slips.{reply_bytes}
use Rattle.luo_calls.specs.Queries.{query_bytes}
use Rattle.luo_calls.specs.declared.turns.query.Query.{Query}
use Rattle.luo_calls.proofs.QueryReplies.{read_bytes}
use Rattle.luo_calls.proofs.turns.query.asked.Goals as goal

pub returns-in-Read-clause-bytes : goal.returns-in-Read-clause-bytes
returns-in-Read-clause-bytes c =
    subst (λ (q : Query). length (reply_bytes c.read.result.value) ≤ query_bytes q) (sym c.in-Read.is) (read_bytes _ _ _ _ c.read.ensures.exact)
