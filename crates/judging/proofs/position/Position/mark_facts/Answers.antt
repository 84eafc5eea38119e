use Rattle.std.proofs.Common.{◌≡◌, ◌+◌, ◌<◌, ◌≤◌, ◌||◌, eqb, sym, refl, ap, ◌∙◌, subst, arith}
use Rattle.task.proofs.Numbers.{offset_more}
use Rattle.judging.specs.FactSets.{has}
use Rattle.judging.specs.Position.{Marked, state_of}
use Rattle.judging.proofs.Places.{value_place, size_place, marked_set, marked_keep}
use Rattle.judging.proofs.position.Position.mark_facts.Goals as goal
use Rattle.judging.proofs.position.Position.mark_facts.Goals.{then-value-size, else-value-size}

pub overflow_add-number : goal.overflow_add-number
overflow_add-number g c =
    let lawful = g.S.TaskSource.lawful c.args.source.now in
    let small : c.value-value.result < (g.S.TaskSource.task c.args.source.now).size c.loop-variable.variable = omega (arith, c.size-size.ensures, c.if-value-size.true) in
    omega (arith, value_place lawful _ _ _ _ c.loop-variable-test.true c.variables-variable-end.ensures c.loop-variable.invariant.0 small)

pub overflow_add-offset : goal.overflow_add-offset
overflow_add-offset g c =
    omega (arith, c.size-size.ensures, size_place (g.S.TaskSource.lawful c.args.source.now) _ _ _ c.loop-variable-test.true c.variables-variable-end.ensures c.loop-variable.invariant.0)

pub loop-variable-preserved : goal.loop-variable-preserved
loop-variable-preserved g c =
    let t = g.S.TaskSource.task c.args.source.now in
    let s = state_of c.args.self.now in
    let v = c.loop-variable.variable in
    let marks = c.loop-variable.marks in
    let inside : v < t.vars = omega (arith, c.variables-variable-end.ensures, c.loop-variable-test.true) in
    let off = c.loop-variable.offset in
    let at = c.loop-variable.invariant.0 in (
      omega (arith, offset_more t.size v, at, c.size-size.ensures),
      elim c.if-value-size.branch [
        | then-value-size w ↦
            (let small : s v < t.size v = omega (arith, c.size-size.ensures, c.value-value.ensures, w.if-value-size.true) in
            let room = value_place (g.S.TaskSource.lawful c.args.source.now) _ _ _ _ c.loop-variable-test.true c.variables-variable-end.ensures at (omega (arith, c.size-size.ensures, w.if-value-size.true)) in
            subst (Marked t c.args.marks.now s (v + 1)) (sym w.marks-is)
            (marked_set t _ _ s v _ inside at c.loop-variable.invariant.1 _ small (λ n. w.insert.ensures.added room n ∙ ap (λ x. has marks n || eqb n (off + x)) c.value-value.ensures)))
        | else-value-size w ↦
            (let large : t.size v ≤ s v = omega (arith, c.size-size.ensures, c.value-value.ensures, w.if-value-size.false) in
            subst (Marked t c.args.marks.now s (v + 1)) (sym w.marks-is) (marked_keep t _ _ s v _ inside at c.loop-variable.invariant.1 large))
      ],
    )

pub returns : goal.returns
returns g c =
    let t = g.S.TaskSource.task c.args.source.now in
    let last : c.loop-variable.variable ≡ t.vars = omega (arith, c.loop-variable.auto.variable-end, c.loop-variable-test.false, c.variables-variable-end.ensures) in
    subst (λ n. Marked t c.args.marks.now (state_of c.args.self.now) n c.loop-variable.marks) last c.loop-variable.invariant.1
