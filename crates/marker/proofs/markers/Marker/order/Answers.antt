use Rattle.std.proofs.Common.{refl, sym, ◌∙◌, arith}
use Rattle.std.proofs.lemmas.Result.{err_from_is_err_and}
use Rattle.task.proofs.Numbers.{numbered_below}
use Rattle.marker.proofs.Turns.{no_number, refused_as, missed_turn, next_as}
use Rattle.marker.proofs.Bonds.{unknown_kind, unknown_earlier, unknown_later, earlier_out, later_out, later_start, order_there, order_lacking, order_taken}
use Rattle.marker.proofs.markers.Marker.order.Goals as goal

pub returns-in_err-check_goal-clause-turn : goal.returns-in_err-check_goal-clause-turn
returns-in_err-check_goal-clause-turn g c m s =
    let p = err_from_is_err_and c.from_residual.result c.from_residual.ensures.1 in
    rw (p.1, p.2) (missed_turn s _ _ c.in_err-check_goal.ensures)

pub returns-in_err-sort-clause-turn : goal.returns-in_err-sort-clause-turn
returns-in_err-sort-clause-turn g c m s =
    let p = err_from_is_err_and c.from_residual-in_err-sort.result c.from_residual-in_err-sort.ensures.1 in
    rw (p.1, p.2) (unknown_kind s c.in_ok-check_goal.ensures _ _ _ _ c.in_err-sort.ensures)

pub returns-in_err-first-clause-turn : goal.returns-in_err-first-clause-turn
returns-in_err-first-clause-turn g c m s =
    let p = err_from_is_err_and c.from_residual-in_err-first.result c.from_residual-in_err-first.ensures.1 in
    let no = refused_as c.fact_at.result _ _ c.in_err-first.ensures.ok_part c.in_err-first.ensures.value in
    rw (p.1, p.2, no) (next_as refl refl refl refl refl (unknown_earlier s c.in_ok-check_goal.ensures _ _ _ (c.try_from.ensures.right _ c.in_ok-sort.was) (no_number c.in_err-first.ensures.ok_part c.fact_at.ensures)))

pub returns-in_err-second-clause-turn : goal.returns-in_err-second-clause-turn
returns-in_err-second-clause-turn g c m s =
    let p = err_from_is_err_and c.from_residual-in_err-second.result c.from_residual-in_err-second.ensures.1 in
    let no = refused_as c.fact_at-2.result _ _ c.in_err-second.ensures.ok_part c.in_err-second.ensures.value in
    rw (p.1, p.2, no) (next_as refl refl refl refl refl (unknown_later s c.in_ok-check_goal.ensures _ _ _ (c.try_from.ensures.right _ c.in_ok-sort.was) (c.fact_at.ensures.right _ c.in_ok-first.ensures.ok_part) (no_number c.in_err-second.ensures.ok_part c.fact_at-2.ensures)))

pub returns-then-not-contains-clause-turn : goal.returns-then-not-contains-clause-turn
returns-then-not-contains-clause-turn g c m s = next_as refl refl refl refl refl (earlier_out s c.in_ok-check_goal.ensures _ _ _ (c.try_from.ensures.right _ c.in_ok-sort.was) (c.fact_at.ensures.right _ c.in_ok-first.ensures.ok_part) (c.fact_at-2.ensures.right _ c.in_ok-second.ensures.ok_part) (sym c.contains.ensures ∙ c.if-not-contains.true))

pub returns-then-not-contains-2-clause-turn : goal.returns-then-not-contains-2-clause-turn
returns-then-not-contains-2-clause-turn g c m s =
    next_as refl refl refl refl refl (later_out s c.in_ok-check_goal.ensures _ _ _ (c.try_from.ensures.right _ c.in_ok-sort.was) (c.fact_at.ensures.right _ c.in_ok-first.ensures.ok_part) (c.fact_at-2.ensures.right _ c.in_ok-second.ensures.ok_part) (sym c.contains.ensures ∙ c.if-not-contains.false) (sym c.contains-2.ensures ∙ c.if-not-contains-2.true))

pub returns-then-start-second-clause-turn : goal.returns-then-start-second-clause-turn
returns-then-start-second-clause-turn g c m s =
    let second = c.fact_at-2.ensures.right _ c.in_ok-second.ensures.ok_part in
    next_as refl refl refl refl refl (later_start s c.in_ok-check_goal.ensures _ _ _ (c.try_from.ensures.right _ c.in_ok-sort.was) (c.fact_at.ensures.right _ c.in_ok-first.ensures.ok_part) second (sym c.contains.ensures ∙ c.if-not-contains.false) (sym c.contains-2.ensures ∙ c.if-not-contains-2.false) (second.in_vars, sym c.start.ensures ∙ c.if-start-second.true))

pub returns-then-contains-clause-turn : goal.returns-then-contains-clause-turn
returns-then-contains-clause-turn g c m s =
    next_as refl refl refl refl refl (order_there s c.in_ok-check_goal.ensures _ _ _ (c.try_from.ensures.right _ c.in_ok-sort.was) (c.fact_at.ensures.right _ c.in_ok-first.ensures.ok_part) (c.fact_at-2.ensures.right _ c.in_ok-second.ensures.ok_part) (sym c.contains.ensures ∙ c.if-not-contains.false) (sym c.contains-2.ensures ∙ c.if-not-contains-2.false) (λ start. c.if-start-second.false (c.start.ensures ∙ start.1)) (sym c.contains-3.ensures ∙ c.if-contains.true))

pub returns-in-Some-clause-turn : goal.returns-in-Some-clause-turn
returns-in-Some-clause-turn g c m s =
    next_as refl refl refl refl refl (order_lacking s c.in_ok-check_goal.ensures _ _ _ (c.try_from.ensures.right _ c.in_ok-sort.was) (c.fact_at.ensures.right _ c.in_ok-first.ensures.ok_part) (c.fact_at-2.ensures.right _ c.in_ok-second.ensures.ok_part) (sym c.contains.ensures ∙ c.if-not-contains.false) (sym c.contains-2.ensures ∙ c.if-not-contains-2.false) (λ start. c.if-start-second.false (c.start.ensures ∙ start.1)) (sym c.contains-3.ensures ∙ c.if-contains.false) _ c.in-Some.ensures)

pub insert-requires : goal.insert-requires
insert-requires g c =
    let few = (g.S.TaskSource.lawful c.args.self.now.source).few_facts in (
      omega (arith, few, numbered_below (c.fact_at.ensures.right _ c.in_ok-first.ensures.ok_part)),
      omega (arith, few, numbered_below (c.fact_at-2.ensures.right _ c.in_ok-second.ensures.ok_part)),
    )

pub returns-clause-turn : goal.returns-clause-turn
returns-clause-turn g c m s =
    order_taken s c.in_ok-check_goal.ensures _ _ _ (c.try_from.ensures.right _ c.in_ok-sort.was) (c.fact_at.ensures.right _ c.in_ok-first.ensures.ok_part) (c.fact_at-2.ensures.right _ c.in_ok-second.ensures.ok_part) (sym c.contains.ensures ∙ c.if-not-contains.false) (sym c.contains-2.ensures ∙ c.if-not-contains-2.false) (λ start. c.if-start-second.false (c.start.ensures ∙ start.1)) (sym c.contains-3.ensures ∙ c.if-contains.false) (g.S.TaskSource.lawful c.args.self.now.source).few_facts _ c.in_default.ensures c.insert.ensures refl refl refl refl
