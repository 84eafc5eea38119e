-- The paper: kind 1 is a variable (byte 1 its size, byte 2 its start value), 2 a goal, 3 an action, 4 a condition and 5 an effect
-- (goal, condition and effect: byte 1 the variable, byte 2 the value).
use Rattle.std.specs.Prelude.{ℕ, cond, List, [], map, Some, None, Option, ◌==◌}
use Rattle.task.specs.Task.{Task}
use Rattle.records.specs.declared.record.Record.{Record}
use Rattle.records.specs.declared.record.Kind.{Kind}
use Rattle.records.specs.declared.record.Kind.TheVariants.{Variable, Goal, Action, Condition, Effect}
use Rattle.records.specs.Kinds.{of_kind, parts}
use Rattle.records.specs.Faults.{Form}
use Rattle.lists.specs.declared.table.Pair.{Pair}
use Rattle.lists.specs.Lists.{Row, Lists, task_of}
use Rattle.forms.specs.Rules.{by_entry}
use Rattle.forms.specs.Forms.{FormRules, fault_of}

-- The kind that byte 0 tells; there is no other.
abbrev pub paper_kind : ℕ → Option Kind
paper_kind k =
    cond (k == 1) (Some Variable) (cond (k == 2) (Some Goal) (cond (k == 3) (Some Action)
    (cond (k == 4) (Some Condition) (cond (k == 5) (Some Effect) None))))

-- The variable and value that bytes 1 and 2 name.
abbrev pub pair : Record → Pair
pair r = record { variable = r.one; value = r.two }

-- An action by the records up to the next one.
abbrev pub paper_row : List Record → Row
paper_row part = record { conditions = map pair (of_kind 4 part); effects = map pair (of_kind 5 part); deletes = [] }

-- The lists that records mean.
abbrev pub paper_lists : List Record → Lists
paper_lists rs = record {
  sizes = map (λ (r : Record). r.one) (of_kind 1 rs);
  starts = map (λ (r : Record). r.two) (of_kind 1 rs);
  goals = map pair (of_kind 2 rs);
  rows = map paper_row (parts 3 rs);
}

-- The task that records mean.
abbrev pub paper_task : List Record → Task
paper_task rs = task_of (paper_lists rs)

-- The page: an action uses neither byte 1 nor byte 2, all others use both, and enter them.
abbrev pub paper_rules : FormRules
paper_rules = record {
  kind = paper_kind;
  uses = λ k. by_entry k 2 0 2;
  enters = λ k r. record { first = r.one; second = r.two };
  lists = paper_lists;
}

-- What is wrong with a record after the records before it.
abbrev pub paper_fault : Form
paper_fault = fault_of paper_rules
