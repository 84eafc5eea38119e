use Rattle.std.proofs.Common.{sym, ◌∙◌, arith}
use Rattle.task.proofs.Numbers.{offset_more}
use Rattle.task.proofs.Numbers.{give_number, size_number, few_numbers}
use Rattle.reach.proofs.Steps.{offered_some, offered_none}
use Rattle.reach.proofs.effects.offer.Goals as goal
use Rattle.reach.proofs.effects.offer.Goals.{in-Some, in_default}

pub overflow_add-offset : goal.overflow_add-offset
overflow_add-offset g c =
    let lawful = g.S.TaskSource.lawful c.args.source.now in
    omega (
      arith,
      give_number lawful _ _ _ _ c.loop-variable-test.true c.variables-variable-end.ensures c.loop-variable.invariant.0 c.requires c.args.action _ (sym c.in-Some.ensures),
      few_numbers lawful _ _ _ _ c.loop-variable-test.true c.variables-variable-end.ensures c.loop-variable.invariant.0 c.requires,
    )

pub improve-requires : goal.improve-requires
improve-requires g c =
    let lawful = g.S.TaskSource.lawful c.args.source.now in
    let long = c.loop-variable.auto.next ∙ c.requires in
    give_number lawful _ _ _ _ c.loop-variable-test.true c.variables-variable-end.ensures c.loop-variable.invariant.0 long c.args.action _ (sym c.in-Some.ensures)

pub overflow_add-offset-in-loop-variable : goal.overflow_add-offset-in-loop-variable
overflow_add-offset-in-loop-variable g c =
    let lawful = g.S.TaskSource.lawful c.args.source.now in
    omega (
      arith,
      c.size-offset.ensures,
      size_number lawful _ _ _ _ c.loop-variable-test.true c.variables-variable-end.ensures c.loop-variable.invariant.0 c.requires,
      few_numbers lawful _ _ _ _ c.loop-variable-test.true c.variables-variable-end.ensures c.loop-variable.invariant.0 c.requires,
    )

pub loop-variable-preserved : goal.loop-variable-preserved
loop-variable-preserved g c =
    let t = g.S.TaskSource.task c.args.source.now in
    let o = g.M.Measure.ops in
    let a = c.args.action in
    let v = c.loop-variable.variable in
    let off = c.loop-variable.invariant.0 in
    let old = c.loop-variable.invariant.1 in (
      omega (arith, offset_more t.size v, off, c.size-offset.ensures),
      elim c.match-effect.branch [
        | in-Some w ↦
            (let step = offered_some o t a c.args.value c.args.next.now v w.in-Some.effect (sym w.in-Some.ensures) in
            let new = w.improve.ensures in
            cc w.next-is)
        | in_default w ↦
            (let step = offered_none o t a c.args.value c.args.next.now v (sym w.in_default.ensures) in
            cc w.next-is)
      ],
    )
