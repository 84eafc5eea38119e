-- The sheet: kind 6 is a fact (byte 1 is 1 if it holds at the start, else 0), 7 a goal, 8 an action, 9 a condition, 10 an add
-- and 11 a delete (goal, condition, add and delete: byte 1 the fact). A fact is a variable of size 2, present being 1.
use Rattle.std.specs.Prelude.{ℕ, cond, List, map, Some, None, Option, ◌==◌}
use Rattle.task.specs.Task.{Task}
use Rattle.records.specs.declared.record.Record.{Record}
use Rattle.records.specs.declared.record.Kind.{Kind}
use Rattle.records.specs.declared.record.Kind.TheVariants.{Variable, Goal, Action, Condition, Effect, Delete}
use Rattle.records.specs.Kinds.{of_kind, parts}
use Rattle.records.specs.Faults.{Form}
use Rattle.lists.specs.declared.table.Pair.{Pair}
use Rattle.lists.specs.Lists.{Row, Lists, task_of}
use Rattle.forms.specs.declared.form.Entry.{Entry}
use Rattle.forms.specs.Rules.{by_entry}
use Rattle.forms.specs.Forms.{FormRules, fault_of}

-- The kind that byte 0 tells; there is no other.
abbrev pub sheet_kind : ℕ → Option Kind
sheet_kind k =
    cond (k == 6) (Some Variable) (cond (k == 7) (Some Goal) (cond (k == 8) (Some Action)
    (cond (k == 9) (Some Condition) (cond (k == 10) (Some Effect) (cond (k == 11) (Some Delete) None)))))

-- The fact that byte 1 names, present.
abbrev pub holds : Record → Pair
holds r = record { variable = r.one; value = 1 }

-- The fact that byte 1 names, absent.
abbrev pub lacks : Record → Pair
lacks r = record { variable = r.one; value = 0 }

-- An action by the records up to the next one; adds are effects.
abbrev pub sheet_row : List Record → Row
sheet_row part = record { conditions = map holds (of_kind 9 part); effects = map holds (of_kind 10 part); deletes = map lacks (of_kind 11 part) }

-- The lists that records mean.
abbrev pub sheet_lists : List Record → Lists
sheet_lists rs = record {
  sizes = map (λ (r : Record). 2) (of_kind 6 rs);
  starts = map (λ (r : Record). r.one) (of_kind 6 rs);
  goals = map holds (of_kind 7 rs);
  rows = map sheet_row (parts 8 rs);
}

-- The task that records mean.
abbrev pub sheet_task : List Record → Task
sheet_task rs = task_of (sheet_lists rs)

-- What a record enters: a fact the size 2 and its start value, a delete its fact and 0, all others but an action their fact and 1.
abbrev pub sheet_enters : Kind → Record → Entry
sheet_enters Variable r = record { first = 2; second = r.one }
sheet_enters Goal r = record { first = r.one; second = 1 }
sheet_enters Action r = record { first = r.one; second = 0 }
sheet_enters Condition r = record { first = r.one; second = 1 }
sheet_enters Effect r = record { first = r.one; second = 1 }
sheet_enters Delete r = record { first = r.one; second = 0 }

-- The page: an action uses neither byte 1 nor byte 2, all others use byte 1.
abbrev pub sheet_rules : FormRules
sheet_rules = record {
  kind = sheet_kind;
  uses = λ k. by_entry k 1 0 1;
  enters = sheet_enters;
  lists = sheet_lists;
}

-- What is wrong with a record after the records before it.
abbrev pub sheet_fault : Form
sheet_fault = fault_of sheet_rules
