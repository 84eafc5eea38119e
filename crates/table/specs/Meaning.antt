-- The task that a table holds.
use Rattle.std.specs.Prelude.{vec_items}
use Rattle.task.specs.Task.{Task}
use Rattle.table.specs.declared.task_table.TaskTable.{TaskTable}
use Rattle.table.specs.Table.{table_task}

-- the task of its parts
abbrev pub held : TaskTable → Task
held t = table_task (vec_items t.variables) (vec_items t.actions)
