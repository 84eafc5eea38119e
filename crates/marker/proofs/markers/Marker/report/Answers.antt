use Rattle.std.proofs.Common.{refl}
use Rattle.std.proofs.lemmas.Result.{err_from_is_err_and}
use Rattle.marker.proofs.Turns.{missed_turn}
use Rattle.marker.proofs.Reporting.{report_turn}
use Rattle.marker.proofs.markers.Marker.report.Goals as goal

pub returns-in_err-check_goal-clause-turn : goal.returns-in_err-check_goal-clause-turn
returns-in_err-check_goal-clause-turn g c m s =
    let p = err_from_is_err_and c.from_residual.result c.from_residual.ensures.1 in
    rw (p.1, p.2) (missed_turn s _ _ c.in_err-check_goal.ensures)

pub returns : goal.returns
returns g c = record { tally = refl; turn = λ m s. report_turn s c.standing.result c.in_ok-check_goal.ensures c.standing.ensures.steps c.standing.ensures.visited c.standing.ensures.remainder }
