use Rattle.std.proofs.Common.{◌<◌, refl, sym, ◌∙◌, arith}
use Rattle.std.proofs.lemmas.Bool.{both_ways}
use Rattle.std.proofs.lemmas.Result.{err_from_is_err_and}
use Rattle.task.proofs.Numbers.{numbered_below}
use Rattle.marker.proofs.Turns.{no_number, refused_as, next_as, missed_turn, propose_past, propose_there, propose_out, propose_taken}
use Rattle.marker.proofs.markers.Marker.propose.Goals as goal

pub returns-in_err-check_goal-clause-turn : goal.returns-in_err-check_goal-clause-turn
returns-in_err-check_goal-clause-turn g c m s =
    let p = err_from_is_err_and c.from_residual.result c.from_residual.ensures.1 in
    rw (p.1, p.2) (missed_turn s _ _ c.in_err-check_goal.ensures)

pub returns-in_err-fact-clause-turn : goal.returns-in_err-fact-clause-turn
returns-in_err-fact-clause-turn g c m s =
    let p = err_from_is_err_and c.from_residual-in_err-fact.result c.from_residual-in_err-fact.ensures.1 in
    let no = refused_as c.fact_at.result _ _ c.in_err-fact.ensures.ok_part c.in_err-fact.ensures.value in
    rw (p.1, p.2, no) (next_as refl refl refl refl refl (propose_past s _ c.in_ok-check_goal.ensures (no_number c.in_err-fact.ensures.ok_part c.fact_at.ensures)))

pub returns-then-contains-clause-turn : goal.returns-then-contains-clause-turn
returns-then-contains-clause-turn g c m s =
    next_as refl refl refl refl refl (propose_there s _ c.in_ok-check_goal.ensures (numbered_below (c.fact_at.ensures.right _ c.in_ok-fact.ensures.ok_part)) (sym c.contains.ensures ∙ c.if-contains.true))

pub returns-then-not-is_landmark-clause-turn : goal.returns-then-not-is_landmark-clause-turn
returns-then-not-is_landmark-clause-turn g c m s =
    let at = c.fact_at.ensures.right _ c.in_ok-fact.ensures.ok_part in
    next_as refl refl refl refl refl
    (propose_out s _ _ c.in_ok-check_goal.ensures at (sym c.contains.ensures ∙ c.if-contains.false) (λ mark. both_ways _ c.if-not-is_landmark.true ((c.is_landmark.ensures at.in_vars).1 mark)))

pub returns-clause-turn : goal.returns-clause-turn
returns-clause-turn g c m s =
    let at = c.fact_at.ensures.right _ c.in_ok-fact.ensures.ok_part in
    let room : c.args.number < 256 = omega (arith, numbered_below at, (g.S.TaskSource.lawful c.args.self.now.source).few_facts) in
    propose_taken s _ _ _ c.in_ok-check_goal.ensures at (sym c.contains.ensures ∙ c.if-contains.false) ((c.is_landmark.ensures at.in_vars).0 c.if-not-is_landmark.false) (c.insert.ensures.added room) refl refl refl refl
