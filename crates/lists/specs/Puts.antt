-- The lists with one more entry.
use Rattle.std.specs.Prelude.{ℕ, ◌-◌, List, [], ◌∷◌, ◌++◌, length, slice_index_or, slice_set}
use Rattle.lists.specs.declared.table.Pair.{Pair}
use Rattle.records.specs.declared.record.Kind.{Kind}
use Rattle.records.specs.declared.record.Kind.TheVariants.{Variable, Goal, Action, Condition, Effect, Delete}
use Rattle.lists.specs.Lists.{Row, Lists, no_row}

-- The action that was begun last.
abbrev pub last_row : Lists → Row
last_row b = slice_index_or b.rows (length b.rows - 1) no_row

-- The pairs with one more at the end.
abbrev pub and_pair : List Pair → ℕ → ℕ → List Pair
and_pair ps x y = ps ++ record { variable = x; value = y } ∷ []

-- The lists with other actions.
abbrev pub with_rows : Lists → List Row → Lists
with_rows b rs = record { sizes = b.sizes; starts = b.starts; goals = b.goals; rows = rs }

-- The lists with another last action.
abbrev pub with_last : Lists → Row → Lists
with_last b r = with_rows b (slice_set b.rows (length b.rows - 1) r)

-- One more entry of the kind: x and y are a size and a start value, or a variable and a value.
abbrev pub put : Kind → ℕ → ℕ → Lists → Lists
put Variable x y b = record { sizes = b.sizes ++ x ∷ []; starts = b.starts ++ y ∷ []; goals = b.goals; rows = b.rows }
put Goal x y b = record { sizes = b.sizes; starts = b.starts; goals = and_pair b.goals x y; rows = b.rows }
put Action x y b = with_rows b (b.rows ++ no_row ∷ [])
put Condition x y b = with_last b (record { conditions = and_pair (last_row b).conditions x y; effects = (last_row b).effects; deletes = (last_row b).deletes })
put Effect x y b = with_last b (record { conditions = (last_row b).conditions; effects = and_pair (last_row b).effects x y; deletes = (last_row b).deletes })
put Delete x y b = with_last b (record { conditions = (last_row b).conditions; effects = (last_row b).effects; deletes = and_pair (last_row b).deletes x y })
