use Rattle.std.proofs.Common.{◌≡◌, ◌+◌, ◌<◌, sym, refl, ◌∙◌, subst, arith}
use Rattle.task.specs.Task.{fact}
use Rattle.task.proofs.Numbers.{offset_more}
use Rattle.reach.specs.Built.{LevelIs}
use Rattle.judging.proofs.Places.{value_place, size_place}
use Rattle.judging.proofs.Levels.{LevelBelow, level_start, level_none, level_some, level_near, level_told, goal_out}
use Rattle.judging.proofs.measures.goal_level.Goals as goal
use Rattle.judging.proofs.measures.goal_level.Goals.{in-Some+in_ok-level, in_default}

pub loop-variable-init : goal.loop-variable-init
loop-variable-init g c = (refl, level_start _)

pub overflow_add-number : goal.overflow_add-number
overflow_add-number g c =
    let lawful = g.S.TaskSource.lawful c.args.source.now in
    omega (arith, value_place lawful _ _ _ _ c.loop-variable-test.true c.variables-variable-end.ensures c.loop-variable.invariant.0 (lawful.goal_in _ _ (sym c.in-Some.ensures)))

pub returns-in_err-level : goal.returns-in_err-level
returns-in_err-level g c =
    let t = g.S.TaskSource.task c.args.source.now in
    let lawful = g.S.TaskSource.lawful c.args.source.now in
    let v = c.loop-variable.variable in
    let goal = sym c.in-Some.ensures in
    let inside : v < t.vars = omega (arith, c.variables-variable-end.ensures, c.loop-variable-test.true) in
    let told = level_told lawful c.of-levels.result.table c.of-levels.ensures.levels v _ _ inside c.loop-variable.invariant.0 goal in
    rw c.from_residual.ensures (goal_out t _ _ goal (subst (LevelIs t (fact v c.in-Some.value)) (sym c.in_err-level.ensures) told))

pub overflow_add-offset : goal.overflow_add-offset
overflow_add-offset g c =
    omega (arith, c.size-offset.ensures, size_place (g.S.TaskSource.lawful c.args.source.now) _ _ _ c.loop-variable-test.true c.variables-variable-end.ensures c.loop-variable.invariant.0)

pub loop-variable-preserved : goal.loop-variable-preserved
loop-variable-preserved g c =
    let t = g.S.TaskSource.task c.args.source.now in
    let v = c.loop-variable.variable in
    let inside : v < t.vars = omega (arith, c.variables-variable-end.ensures, c.loop-variable-test.true) in (
      omega (arith, offset_more t.size v, c.loop-variable.invariant.0, c.size-offset.ensures),
      elim c.match-goal.branch [
        | in-Some+in_ok-level w ↦
            (let goal = sym w.in-Some.ensures in
            let told = level_told (g.S.TaskSource.lawful c.args.source.now) c.of-levels.result.table c.of-levels.ensures.levels v _ _ inside c.loop-variable.invariant.0 goal in
            let level = subst (LevelIs t (fact v w.in-Some.value)) (sym w.in_ok-level.ensures) told in
            subst (LevelBelow t (v + 1)) (sym (w.highest-is ∙ w.max-highest.ensures)) (level_some t v _ _ _ c.loop-variable.invariant.1 goal level))
        | in_default w ↦ subst (LevelBelow t (v + 1)) (sym w.highest-is) (level_none t v _ c.loop-variable.invariant.1 (sym w.in_default.ensures))
      ],
    )

pub returns : goal.returns
returns g c =
    let t = g.S.TaskSource.task c.args.source.now in
    let last : c.loop-variable.variable ≡ t.vars = omega (arith, c.loop-variable.auto.variable-end, c.loop-variable-test.false, c.variables-variable-end.ensures) in
    level_near (g.S.TaskSource.lawful c.args.source.now) _ (subst (λ i. LevelBelow t i c.loop-variable.highest) last c.loop-variable.invariant.1)
