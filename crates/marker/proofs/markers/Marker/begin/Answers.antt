use Rattle.std.proofs.Common.{refl}
use Rattle.std.proofs.lemmas.Result.{err_from_is_err_and}
use Rattle.marker.proofs.Turns.{missed_turn}
use Rattle.marker.proofs.Walks.{begin_turn}
use Rattle.marker.proofs.markers.Marker.begin.Goals as goal

pub returns-in_err-check_goal-clause-turn : goal.returns-in_err-check_goal-clause-turn
returns-in_err-check_goal-clause-turn g c m s =
    let p = err_from_is_err_and c.from_residual.result c.from_residual.ensures.1 in
    rw (p.1, p.2) (missed_turn s _ _ c.in_err-check_goal.ensures)

pub returns : goal.returns
returns g c = record { source = refl; tally = refl; turn = λ m s. begin_turn s _ c.in_ok-check_goal.ensures c.restart.ensures refl refl refl refl }
