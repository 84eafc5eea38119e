use Rattle.std.proofs.Common.{vec_items}
use Rattle.table.proofs.Tables.{same_lawful, same_task}
use Rattle.table.proofs.task_table.TaskTable.copy.Goals as goal

pub invariant_of-result : goal.invariant_of-result
invariant_of-result g c =
    let lawful = g.S.TaskSource.lawful c.args.source.now in
    let vs = vec_items c.in_ok-variables.variables in
    let xs = vec_items c.in_ok-actions.actions in
    record { lawful = same_lawful lawful vs xs (same_task lawful vs xs c.in_ok-variables.ensures c.in_ok-actions.ensures) }

pub returns : goal.returns
returns g c =
    same_task (g.S.TaskSource.lawful c.args.source.now) (vec_items c.in_ok-variables.variables) (vec_items c.in_ok-actions.actions)
    c.in_ok-variables.ensures c.in_ok-actions.ensures
