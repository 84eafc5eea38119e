use Rattle.std.proofs.Common.{◌≡◌, ◌+◌, ◌<◌, false, get_or, sym, refl, ap, ◌∙◌, subst, arith}
use Rattle.std.proofs.lemmas.Bool.{both_ways, false≢true}
use Rattle.task.proofs.Numbers.{offset_more}
use Rattle.task.proofs.Options.{no_some, some_same}
use Rattle.reach.specs.Measures.{of_yes}
use Rattle.judging.proofs.Places.{value_place, size_place}
use Rattle.judging.proofs.Lacks.{InBelow, in_more, in_all, need_numbered}
use Rattle.judging.proofs.achievers.has_conditions.Given as given
use Rattle.judging.proofs.achievers.has_conditions.Goals as goal
use Rattle.judging.proofs.achievers.has_conditions.Goals.{in-Some+else-not-has, in_default}

below : (g : given.Over) (c : goal.In-Some g) → c.loop-variable.offset + c.in-Some.value < 256
below g c =
    let lawful = g.S.TaskSource.lawful c.args.source.now in
    value_place lawful _ _ _ _ c.loop-variable-test.true c.variables-variable-end.ensures c.loop-variable.invariant.0 (lawful.need_in c.args.action _ _ (sym c.in-Some.ensures))

pub overflow_add-number : goal.overflow_add-number
overflow_add-number g c = omega (arith, below g c)

pub returns-then-not-has : goal.returns-then-not-has
returns-then-not-has g c =
    let lawful = g.S.TaskSource.lawful c.args.source.now in
    let is = sym c.in-Some.ensures in (
      λ e. absurd (false≢true e),
      λ all. absurd (both_ways _ (sym c.has.ensures ∙ c.if-not-has.true) (all _ _ (need_numbered lawful c.args.action _ _ _ c.loop-variable.invariant.0 is) is)),
    )

pub overflow_add-offset : goal.overflow_add-offset
overflow_add-offset g c =
    omega (arith, c.size-offset.ensures, size_place (g.S.TaskSource.lawful c.args.source.now) _ _ _ c.loop-variable-test.true c.variables-variable-end.ensures c.loop-variable.invariant.0)

pub loop-variable-preserved : goal.loop-variable-preserved
loop-variable-preserved g c =
    let t = g.S.TaskSource.task c.args.source.now in
    let v = c.loop-variable.variable in
    let off = c.loop-variable.offset in (
      omega (arith, offset_more t.size v, c.loop-variable.invariant.0, c.size-offset.ensures),
      in_more t c.args.reach.now c.args.action v off c.loop-variable.invariant.0 c.loop-variable.invariant.1 (λ x goal.
          elim c.match-need.branch [
            | in-Some+else-not-has w ↦ ap (λ y. (get_or c.args.reach.now.table (off + y) (of_yes false)).yes) (sym (some_same _ x (w.in-Some.ensures ∙ goal))) ∙ sym w.has.ensures ∙ w.if-not-has.false
            | in_default w ↦ absurd (no_some x (w.in_default.ensures ∙ goal))
          ]),
    )

pub returns : goal.returns
returns g c =
    let t = g.S.TaskSource.task c.args.source.now in
    let last : c.loop-variable.variable ≡ t.vars = omega (arith, c.loop-variable.auto.variable-end, c.loop-variable-test.false, c.variables-variable-end.ensures) in
    (λ e. in_all t _ _ (subst (InBelow t c.args.reach.now c.args.action) last c.loop-variable.invariant.1), λ all. refl)
