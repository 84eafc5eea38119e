-- A task by the lists of its parts.
use Rattle.std.specs.Prelude.{ℕ, cond, List, [], ◌∷◌, length, Some, None, Option, ◌==◌, nat_lt, slice_index, slice_index_or}
use Rattle.task.specs.Task.{Task}
use Rattle.lists.specs.declared.table.Pair.{Pair}

-- An action: its pairs of variable and value.
pub record Row : Type 0 where
  pub conditions : List Pair
  pub effects : List Pair
  pub deletes : List Pair

-- A task: sizes and start values by variable, the goals, and an action to a row.
pub record Lists : Type 0 where
  pub sizes : List ℕ
  pub starts : List ℕ
  pub goals : List Pair
  pub rows : List Row

-- An action of nothing.
abbrev pub no_row : Row
no_row = record { conditions = []; effects = []; deletes = [] }

-- A task of nothing.
abbrev pub blank : Lists
blank = record { sizes = []; starts = []; goals = []; rows = [] }

-- The value that the first pair on the variable v has, if there is one.
abbrev pub value_in : List Pair → ℕ → Option ℕ
value_in [] v = None
value_in (p ∷ ps) v = cond (p.variable == v) (Some p.value) (value_in ps v)

-- The first of two answers that there is.
abbrev pub or_else : Option ℕ → Option ℕ → Option ℕ
or_else (Some x) o = Some x
or_else None o = o

-- The task that the lists mean; an effect beats a delete on the same variable.
abbrev pub task_of : Lists → Task
task_of b = record {
  vars = length b.sizes;
  size = λ v. slice_index b.sizes v;
  start = λ v. slice_index b.starts v;
  goal = λ v. value_in b.goals v;
  actions = length b.rows;
  present = λ a. nat_lt a (length b.rows);
  need = λ a v. value_in (slice_index_or b.rows a no_row).conditions v;
  give = λ a v. or_else (value_in (slice_index_or b.rows a no_row).effects v) (value_in (slice_index_or b.rows a no_row).deletes v);
}
