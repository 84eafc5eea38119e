-- The layers of a task under a measure: a list with a value for each fact, in the order of the facts' numbers.
use Rattle.std.specs.Prelude.{◌≡◌, ℕ, zero, suc, ◌+◌, ◌≤◌, cond, ◌&&◌, List, [], ◌++◌, map, Some, None, Option, ◌==◌, slice_index_or}
use Rattle.std.specs.List.{range_with_len}
use Rattle.task.specs.Task.{Task, offset}
use Rattle.task.specs.Paths.{gives?}
use Rattle.reach.specs.Measures.{Ops}

-- a value for each fact of the variables below n
abbrev pub tabulated : {M : Type 0} → (ℕ → ℕ) → ℕ → (ℕ → ℕ → M) → List M
tabulated size zero f = []
tabulated size (suc n) f = tabulated size n f ++ map (f n) (range_with_len 0 (size n))

-- the value that a list has for a fact
abbrev pub value_of : {M : Type 0} → Ops M → Task → List M → ℕ → ℕ → M
value_of o t xs v x = slice_index_or xs (offset t.size v + x) o.none

abbrev pub and_need : {M : Type 0} → Ops M → (ℕ → M) → Option ℕ → M → M
and_need o row (Some x) y = o.join y (row x)
and_need o row None y = y

-- the joined values of the conditions of the action a on the variables below n
abbrev pub conditions : {M : Type 0} → Ops M → Task → (ℕ → ℕ → M) → ℕ → ℕ → M
conditions o t f a zero = o.free
conditions o t f a (suc n) = and_need o (f n) (t.need a n) (conditions o t f a n)

-- what the action a makes of its effects
abbrev pub made_by : {M : Type 0} → Ops M → Task → (ℕ → ℕ → M) → ℕ → M
made_by o t f a = o.step (conditions o t f a t.vars)

-- the best of a fact's own value and of what the present actions below n that achieve it make of it
abbrev pub raised : {M : Type 0} → Ops M → Task → (ℕ → ℕ → M) → ℕ → ℕ → ℕ → M
raised o t f zero v x = f v x
raised o t f (suc n) v x = cond (t.present n && gives? (t.give n v) x) (o.better (raised o t f n v x) (made_by o t f n)) (raised o t f n v x)

-- the value of a fact at the start
abbrev pub first_value : {M : Type 0} → Ops M → Task → ℕ → ℕ → M
first_value o t v x = cond (t.start v == x) o.first o.none

-- the layer after a layer
abbrev pub next : {M : Type 0} → Ops M → Task → List M → List M
next o t xs = tabulated t.size t.vars (raised o t (value_of o t xs) t.actions)

abbrev pub layer : {M : Type 0} → Ops M → Task → ℕ → List M
layer o t zero = tabulated t.size t.vars (first_value o t)
layer o t (suc n) = next o t (layer o t n)

-- the number of layers: the least n whose next layer equals it
pub record Closed {M : Type 0} (o : Ops M) (t : Task) (n : ℕ) : Type 0 where
  pub same : layer o t (suc n) ≡ layer o t n
  pub least : (m : ℕ) → layer o t (suc m) ≡ layer o t m → n ≤ m
