use Rattle.std.proofs.Common.{◌∙◌, arith}
use Rattle.task.proofs.Numbers.{offset_more}
use Rattle.task.proofs.Numbers.{start_number, size_number, few_numbers}
use Rattle.reach.proofs.Steps.{started_more}
use Rattle.reach.proofs.start.mark_start.Goals as goal

pub overflow_add-offset : goal.overflow_add-offset
overflow_add-offset g c =
    let lawful = g.S.TaskSource.lawful c.args.source.now in
    omega (
      arith,
      c.start.ensures,
      start_number lawful _ _ _ _ c.loop-variable-test.true c.variables-variable-end.ensures c.loop-variable.invariant.0 c.requires,
      few_numbers lawful _ _ _ _ c.loop-variable-test.true c.variables-variable-end.ensures c.loop-variable.invariant.0 c.requires,
    )

pub put-requires : goal.put-requires
put-requires g c =
    let lawful = g.S.TaskSource.lawful c.args.source.now in
    omega (
      arith,
      c.start.ensures,
      start_number lawful _ _ _ _ c.loop-variable-test.true c.variables-variable-end.ensures c.loop-variable.invariant.0 (c.loop-variable.auto.values ∙ c.requires),
    )

pub overflow_add-offset-in-loop-variable : goal.overflow_add-offset-in-loop-variable
overflow_add-offset-in-loop-variable g c =
    let lawful = g.S.TaskSource.lawful c.args.source.now in
    omega (
      arith,
      c.size-offset.ensures,
      size_number lawful _ _ _ _ c.loop-variable-test.true c.variables-variable-end.ensures c.loop-variable.invariant.0 c.requires,
      few_numbers lawful _ _ _ _ c.loop-variable-test.true c.variables-variable-end.ensures c.loop-variable.invariant.0 c.requires,
    )

pub loop-variable-preserved : goal.loop-variable-preserved
loop-variable-preserved g c =
    let t = g.S.TaskSource.task c.args.source.now in
    let o = g.M.Measure.ops in
    let v = c.loop-variable.variable in
    let off = c.loop-variable.invariant.0 in
    let old = c.loop-variable.invariant.1 in
    let step = started_more o t c.args.values.now v in (
      omega (arith, offset_more t.size v, off, c.size-offset.ensures),
      cc (c.put.ensures, c.at_start.ensures, c.start.ensures),
    )
