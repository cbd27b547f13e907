-- What was written of a script that goes on from an image is of what the host held before the run.
use Rattle.std.proofs.Common.{◌≡◌, Bool, true, false, not, refl, ap, subst}
use Rattle.std.specs.Prelude.{option_map, is_some}
use Rattle.handover_cli.specs.Images.{seen}
use Rattle.handover_cli.specs.Stops.{IsReady}
use Rattle.handover_cli.proofs.Starts.{resumed_part}
use Rattle.handover_cli.proofs.Stopping.{opened_is}
use Rattle.handover_cli.proofs.run.run_script.Goals as goal

none_not : (none some : Bool) → some ≡ not none → some ≡ true → none ≡ false
none_not true some is there = absurd cc
none_not false some is there = refl

pub returns-in-Some-clause-part : goal.returns-in-Some-clause-part
returns-in-Some-clause-part g c = λ h.
    let before = c.args.host.now in
    let mid = c.accept_script.new.host in
    let of = c.in-Ok.ensures in
    let told = g.H.Host.holds before c.args.name.now in
    let goes_on : c.is_none.result ≡ false = none_not c.is_none.result (is_some c.args.image) c.is_none.ensures (ap is_some c.in-Some.is) in
    resumed_part (g.H.Host.holds before) (g.H.Host.holds mid) c.args.name.now c.in-Some.file.now (option_map (λ file. file.now) c.args.image) (option_map (λ file. file.now) c.args.images)
    (seen (g.H.Host.out before) (g.H.Host.made before) (g.H.Host.asked before)) (seen (g.H.Host.out mid) (g.H.Host.made mid) (g.H.Host.asked mid)) _ c.in-Ok.script (ap (option_map (λ file. file.now)) c.in-Some.is) of.holds_kept
    (opened_is (g.H.Host.out before) (g.H.Host.out mid) (g.H.Host.made before) (g.H.Host.made mid) (g.H.Host.asked before) (g.H.Host.asked mid) c.args.name.now of.silent of.made_kept of.opened)
    (subst (λ (b : Bool). IsReady b told c.in-Ok.script) goes_on of.ready) (c.run_resumed.ensures.part h)
