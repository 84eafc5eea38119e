use Rattle.std.proofs.Common.{sym, refl, ◌∙◌, arith}
use Rattle.std.proofs.lemmas.Result.{err_from_is_err_and}
use Rattle.marker.proofs.Turns.{missed_turn}
use Rattle.marker.proofs.Walks.{step_none, step_many, step_barred, step_turn}
use Rattle.marker.proofs.markers.Marker.step.Goals as goal

pub returns-in_err-check_goal-clause-turn : goal.returns-in_err-check_goal-clause-turn
returns-in_err-check_goal-clause-turn g c m s =
    let p = err_from_is_err_and c.from_residual.result c.from_residual.ensures.1 in
    rw (p.1, p.2) (missed_turn s _ _ c.in_err-check_goal.ensures)

pub returns-then-not-is_present : goal.returns-then-not-is_present
returns-then-not-is_present g c = record { source = refl; tally = refl; turn = λ m s. step_none s _ c.in_ok-check_goal.ensures (sym c.is_present.ensures ∙ c.if-not-is_present.true) }

pub returns-then-full : goal.returns-then-full
returns-then-full g c = record { source = refl; tally = refl; turn = λ m s. step_many s _ c.in_ok-check_goal.ensures (sym c.is_present.ensures ∙ c.if-not-is_present.false) c.if-full.true }

pub returns-in-Some : goal.returns-in-Some
returns-in-Some g c = record {
  source = refl;
  tally = refl;
  turn = λ m s. step_barred s _ _ c.in_ok-check_goal.ensures (sym c.is_present.ensures ∙ c.if-not-is_present.false) c.if-full.false c.in-Some.ensures;
}

pub returns : goal.returns
returns g c = record {
  source = refl;
  tally = refl;
  turn = λ m s. step_turn s _ _ c.in_ok-check_goal.ensures (sym c.is_present.ensures ∙ c.if-not-is_present.false) c.if-full.false c.in_default.ensures (c.step.ensures.moved (omega (arith, c.if-full.false))) refl refl refl refl;
}
