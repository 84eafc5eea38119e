-- What a record is tested for after those before it, in every form: order, limits, ranges and repeats.
use Rattle.std.specs.Prelude.{ℕ, ◌+◌, Bool, false, not, ◌&&◌, ◌||◌, List, [], length, is_some, sum, ◌==◌, nat_le, nat_lt, slice_index}
use Rattle.records.specs.declared.record.Kind.{Kind}
use Rattle.records.specs.declared.record.Kind.TheVariants.{Variable, Goal, Action, Condition, Effect, Delete}
use Rattle.lists.specs.declared.table.Pair.{Pair}
use Rattle.lists.specs.Lists.{Lists, value_in}
use Rattle.lists.specs.Puts.{last_row}

-- The list is empty.
abbrev pub none : {X : Type 0} → List X → Bool
none xs = length xs == 0

-- The list is not empty.
abbrev pub some : {X : Type 0} → List X → Bool
some xs = not (none xs)

-- Variables come first, at least one, then goals, then each action with its conditions, effects and deletes in this order.
abbrev pub in_place : Kind → Lists → Bool
in_place Variable b = none b.goals && none b.rows
in_place Goal b = some b.sizes && none b.rows
in_place Action b = some b.sizes
in_place Condition b = some b.rows && (none (last_row b).effects && none (last_row b).deletes)
in_place Effect b = some b.rows && none (last_row b).deletes
in_place Delete b = some b.rows

-- One more would pass a limit: 64 variables, 256 facts, 512 actions, in one action 8 conditions and 8 effects and deletes.
abbrev pub full : Kind → ℕ → Lists → Bool
full Variable size b = nat_le 64 (length b.sizes) || nat_lt 256 (sum b.sizes + size)
full Goal size b = false
full Action size b = nat_le 512 (length b.rows)
full Condition size b = nat_le 8 (length (last_row b).conditions)
full Effect size b = nat_le 8 (length (last_row b).effects + length (last_row b).deletes)
full Delete size b = nat_le 8 (length (last_row b).effects + length (last_row b).deletes)

-- A choice by what an entry of the kind is: a variable, nothing, or a fact.
abbrev pub by_entry : {X : Type 0} → Kind → X → X → X → X
by_entry Variable own nothing names = own
by_entry Goal own nothing names = names
by_entry Action own nothing names = nothing
by_entry Condition own nothing names = names
by_entry Effect own nothing names = names
by_entry Delete own nothing names = names

-- The entry's first number is out of range: a size that is 0 or above 16, or a variable that there is not.
abbrev pub wide_first : Kind → ℕ → Lists → Bool
wide_first k x b = by_entry k (x == 0 || nat_lt 16 x) false (nat_le (length b.sizes) x)

-- The entry's second number is out of range: a start value or a value that is not below the size.
abbrev pub wide_second : Kind → ℕ → ℕ → Lists → Bool
wide_second k x y b = by_entry k (nat_le x y) false (nat_le (slice_index b.sizes x) y)

-- The list that an entry of the kind joins.
abbrev pub own_list_lem : Kind → Lists → List Pair
own_list_lem Variable b = []
own_list_lem Goal b = b.goals
own_list_lem Action b = []
own_list_lem Condition b = (last_row b).conditions
own_list_lem Effect b = (last_row b).effects
own_list_lem Delete b = (last_row b).deletes

-- That list names the variable already.
abbrev pub repeated : Kind → ℕ → Lists → Bool
repeated k v b = is_some (value_in (own_list_lem k b) v)
