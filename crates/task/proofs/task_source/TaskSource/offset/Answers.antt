use Rattle.std.proofs.Common.{◌∙◌, arith}
use Rattle.task.proofs.Next.{offset_min}
use Rattle.task.proofs.Numbers.{offset_below, offset_more}
use Rattle.task.proofs.task_source.TaskSource.offset.Goals as goal

pub overflow_add-offset : goal.overflow_add-offset
overflow_add-offset g c =
    let t = g.Self.TaskSource.task c.args.self.now in
    let lawful = g.Self.TaskSource.lawful c.args.self.now in
    omega (
      arith,
      c.loop-earlier.invariant,
      c.size-offset.ensures,
      offset_below t.size c.loop-earlier.earlier t.vars (omega (arith, c.loop-earlier-test.true, c.variables.ensures)),
      lawful.few_facts,
    )

pub loop-earlier-preserved : goal.loop-earlier-preserved
loop-earlier-preserved g c =
    let t = g.Self.TaskSource.task c.args.self.now in
    omega (arith, offset_more t.size c.loop-earlier.earlier, c.loop-earlier.invariant, c.size-offset.ensures)

pub returns : goal.returns
returns g c =
    let lawful = g.Self.TaskSource.lawful c.args.self.now in
    c.loop-earlier.invariant ∙ offset_min lawful c.args.variable c.loop-earlier.earlier (omega (arith, c.loop-earlier-test.false, c.min-earlier-end.ensures, c.variables.ensures))
