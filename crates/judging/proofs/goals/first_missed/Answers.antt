use Rattle.std.proofs.Common.{◌≡◌, ◌+◌, ◌<◌, sym, ◌∙◌, subst, arith}
use Rattle.task.specs.Task.{fact}
use Rattle.task.proofs.Numbers.{offset_more}
use Rattle.task.proofs.Options.{no_some, some_same}
use Rattle.judging.proofs.Places.{value_place, size_place}
use Rattle.judging.proofs.Reached.{GoalsBelow, goals_more, goal_in_reach, goal_near, goal_far}
use Rattle.reach.specs.Relaxed.{Reach}
use Rattle.judging.proofs.goals.first_missed.Goals.{in-Some+else-not-has, in_default}
use Rattle.judging.proofs.goals.first_missed.Given as given
use Rattle.judging.proofs.goals.first_missed.Goals as goal

below : (g : given.Over) (c : goal.In-Some g) → c.loop-variable.offset + c.in-Some.value < 256
below g c =
    let lawful = g.S.TaskSource.lawful c.args.source.now in
    value_place lawful _ _ _ _ c.loop-variable-test.true c.variables-variable-end.ensures c.loop-variable.invariant.0 (lawful.goal_in _ _ (sym c.in-Some.ensures))

pub overflow_add-number : goal.overflow_add-number
overflow_add-number g c = omega (arith, below g c)

pub returns-then-not-has : goal.returns-then-not-has
returns-then-not-has g c built =
    let t = g.S.TaskSource.task c.args.source.now in
    let lawful = g.S.TaskSource.lawful c.args.source.now in
    let inside : c.loop-variable.variable < t.vars = omega (arith, c.variables-variable-end.ensures, c.loop-variable-test.true) in
    goal_far lawful _ built _ _ _ inside c.loop-variable.invariant.0 (sym c.in-Some.ensures) (sym c.has.ensures ∙ c.if-not-has.true) (c.loop-variable.invariant.1 built)

pub overflow_add-offset : goal.overflow_add-offset
overflow_add-offset g c =
    omega (arith, c.size-offset.ensures, size_place (g.S.TaskSource.lawful c.args.source.now) _ _ _ c.loop-variable-test.true c.variables-variable-end.ensures c.loop-variable.invariant.0)

pub loop-variable-preserved : goal.loop-variable-preserved
loop-variable-preserved g c =
    let t = g.S.TaskSource.task c.args.source.now in
    let lawful = g.S.TaskSource.lawful c.args.source.now in
    let v = c.loop-variable.variable in
    let inside : v < t.vars = omega (arith, c.variables-variable-end.ensures, c.loop-variable-test.true) in (
      omega (arith, offset_more t.size v, c.loop-variable.invariant.0, c.size-offset.ensures),
      λ built. goals_more t v (c.loop-variable.invariant.1 built) (λ x goal.
          elim c.match-goal.branch [
            | in-Some+else-not-has w ↦
                (let same : w.in-Some.value ≡ x = some_same _ x (w.in-Some.ensures ∙ goal) in
                subst (λ y. Reach t (fact v y)) same (goal_near lawful _ built v _ _ inside c.loop-variable.invariant.0 (sym w.in-Some.ensures) (sym w.has.ensures ∙ w.if-not-has.false)))
            | in_default w ↦ absurd (no_some x (w.in_default.ensures ∙ goal))
          ]),
    )

pub returns : goal.returns
returns g c built =
    let t = g.S.TaskSource.task c.args.source.now in
    let lawful = g.S.TaskSource.lawful c.args.source.now in
    let last : c.loop-variable.variable ≡ t.vars = omega (arith, c.loop-variable.auto.variable-end, c.loop-variable-test.false, c.variables-variable-end.ensures) in
    goal_in_reach lawful (subst (GoalsBelow t) last (c.loop-variable.invariant.1 built))
