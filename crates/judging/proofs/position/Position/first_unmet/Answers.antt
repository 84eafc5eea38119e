use Rattle.std.proofs.Common.{◌≡◌, ◌<◌, sym, ◌∙◌, subst, arith}
use Rattle.task.proofs.Numbers.{offset_more}
use Rattle.task.proofs.Options.{no_some, some_same}
use Rattle.judging.specs.Position.{state_of}
use Rattle.judging.proofs.Places.{MetBelow, value_place, size_place, met_more, met_all, unmet_at}
use Rattle.judging.proofs.position.Position.first_unmet.Goals as goal
use Rattle.judging.proofs.position.Position.first_unmet.Goals.{in-Some+else-value, in_default}

pub overflow_add-result : goal.overflow_add-result
overflow_add-result g c =
    let lawful = g.S.TaskSource.lawful c.args.source.now in
    omega (arith, value_place lawful _ _ _ _ c.loop-variable-test.true c.variables-variable-end.ensures c.loop-variable.invariant.0 (lawful.need_in c.args.action _ _ (sym c.in-Some.ensures)))

pub overflow_add-offset : goal.overflow_add-offset
overflow_add-offset g c =
    omega (arith, c.size-offset.ensures, size_place (g.S.TaskSource.lawful c.args.source.now) _ _ _ c.loop-variable-test.true c.variables-variable-end.ensures c.loop-variable.invariant.0)

pub returns-then-value : goal.returns-then-value
returns-then-value g c =
    let t = g.S.TaskSource.task c.args.source.now in
    let lawful = g.S.TaskSource.lawful c.args.source.now in
    let inside : c.loop-variable.variable < t.vars = omega (arith, c.variables-variable-end.ensures, c.loop-variable-test.true) in
    unmet_at lawful (state_of c.args.self.now) c.args.action _ _ _ inside c.loop-variable.invariant.0 (sym c.in-Some.ensures) (λ e. c.if-value.true (c.value.ensures ∙ e)) c.loop-variable.invariant.1

pub loop-variable-preserved : goal.loop-variable-preserved
loop-variable-preserved g c =
    let t = g.S.TaskSource.task c.args.source.now in
    let s = state_of c.args.self.now in
    let v = c.loop-variable.variable in (
      omega (arith, offset_more t.size v, c.loop-variable.invariant.0, c.size-offset.ensures),
      met_more t s c.args.action v c.loop-variable.invariant.1 (λ x goal.
          elim c.match-need.branch [
            | in-Some+else-value w ↦ sym w.value.ensures ∙ w.if-value.false ∙ some_same _ x (w.in-Some.ensures ∙ goal)
            | in_default w ↦ absurd (no_some x (w.in_default.ensures ∙ goal))
          ]),
    )

pub returns : goal.returns
returns g c =
    let t = g.S.TaskSource.task c.args.source.now in
    let s = state_of c.args.self.now in
    let last : c.loop-variable.variable ≡ t.vars = omega (arith, c.loop-variable.auto.variable-end, c.loop-variable-test.false, c.variables-variable-end.ensures) in
    met_all (g.S.TaskSource.lawful c.args.source.now) s c.args.action (subst (MetBelow t s c.args.action) last c.loop-variable.invariant.1)
