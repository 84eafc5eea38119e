-- The task that lists of variables and actions hold.
use Rattle.std.specs.List.{range_with_len}
use Rattle.std.specs.Prelude.{ℕ, false, List, [], length, get_or, map, None, Option, slice_index_or}
use Rattle.task.specs.Task.{Task}
use Rattle.table.specs.declared.action.Action.{Action}
use Rattle.table.specs.declared.variable.Variable.{Variable}

-- what stands for a variable that there is not
abbrev pub no_variable : Variable
no_variable = record { size = 0; start = 0; goal = None }

-- what stands for an action that there is not
abbrev pub no_action : Action
no_action = record { present = false; needs = []; effects = [] }

-- a task's variable with a number
abbrev pub variable_of : Task → ℕ → Variable
variable_of t v = record { size = t.size v; start = t.start v; goal = t.goal v }

-- the values of the variables that there may be
unfoldable pub places : (ℕ → Option ℕ) → List (Option ℕ)
places f = map f (range_with_len 0 64)

-- a task's action with a number
abbrev pub action_of : Task → ℕ → Action
action_of t a = record { present = t.present a; needs = places (t.need a); effects = places (t.give a) }

-- the task of such lists
abbrev pub table_task : List Variable → List Action → Task
table_task variables actions = record {
  vars = length variables;
  size = λ v. (get_or variables v no_variable).size;
  start = λ v. (get_or variables v no_variable).start;
  goal = λ v. (get_or variables v no_variable).goal;
  actions = length actions;
  present = λ a. (get_or actions a no_action).present;
  need = λ a v. slice_index_or (get_or actions a no_action).needs v None;
  give = λ a v. slice_index_or (get_or actions a no_action).effects v None;
}
