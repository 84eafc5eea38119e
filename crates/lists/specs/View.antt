-- What a table holds, as lists.
use Rattle.std.specs.Prelude.{◌≡◌, ℕ, ◌<◌, ◌⊎◌, [], map, length, Some, None, vec_items, Option, slice_index_or}
use Rattle.std.specs.Borrow.{Bor}
use Rattle.lists.specs.declared.table.Variable.{Variable}
use Rattle.lists.specs.declared.table.Operator.{Operator}
use Rattle.lists.specs.declared.table.Table.{Table}
use Rattle.lists.specs.Lists.{Row, Lists, no_row}
use Rattle.lists.specs.Puts.{last_row, with_last}

-- The row of an action.
abbrev pub row_of : Operator → Row
row_of o = record { conditions = vec_items o.conditions; effects = vec_items o.effects; deletes = vec_items o.deletes }

-- The lists of a table.
abbrev pub lists_of : Table → Lists
lists_of t = record { sizes = map (λ (v : Variable). v.size) t.variables.items; starts = map (λ (v : Variable). v.start) t.variables.items; goals = vec_items t.goals; rows = map row_of (vec_items t.operators) }

-- What is found is the last action, and nothing where there is none.
abbrev pub AtLast : Option (Bor Operator) → Lists → Type 0
AtLast None b = b.rows ≡ []
AtLast (Some o) b = (0 < length b.rows) × (last_row b ≡ row_of o.now)

-- What is found is the action a, and nothing only where it has no conditions and effects.
abbrev pub AtRow : Option (Bor Operator) → Lists → ℕ → Type 0
AtRow None b a = slice_index_or b.rows a no_row ≡ no_row
AtRow (Some o) b a = slice_index_or b.rows a no_row ≡ row_of o.now

-- The last action has changed so, and nothing else; where there is no action, nothing has.
abbrev pub LastChanged : (Operator → Operator → Type 0) → Table → Table → Type 0
LastChanged so t t' =
    (((lists_of t).rows ≡ []) × (lists_of t' ≡ lists_of t))
    ⊎ ((o : Operator) × (o' : Operator) × (last_row (lists_of t) ≡ row_of o) × so o o' × (lists_of t' ≡ with_last (lists_of t) (row_of o')))
