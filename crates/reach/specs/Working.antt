-- How the builder computes a layer, step by step: for the contracts of its inner loops alone. That the steps make the layers is proved.
use Rattle.std.specs.Prelude.{ℕ, zero, suc, ◌+◌, cond, List, Some, None, Option, slice_set}
use Rattle.task.specs.Task.{Task, offset}
use Rattle.reach.specs.Measures.{Ops}
use Rattle.reach.specs.Layering.{made_by, value_of}

-- an effect on the variable v, bettered by the value y
abbrev pub better_at : {M : Type 0} → Ops M → Task → M → ℕ → Option ℕ → List M → List M
better_at o t y v (Some x) xs = slice_set xs (offset t.size v + x) (o.better (value_of o t xs v x) y)
better_at o t y v None xs = xs

-- the value y offered to the effects of a on the variables below n
abbrev pub offered : {M : Type 0} → Ops M → Task → ℕ → M → List M → ℕ → List M
offered o t a y xs zero = xs
offered o t a y xs (suc n) = better_at o t y n (t.give a n) (offered o t a y xs n)

-- the actions below n
abbrev pub acted : {M : Type 0} → Ops M → Task → List M → ℕ → List M
acted o t xs zero = xs
acted o t xs (suc n) = cond (t.present n) (offered o t n (made_by o t (value_of o t xs) n) (acted o t xs n) t.vars) (acted o t xs n)

-- the start facts of the variables below n
abbrev pub started : {M : Type 0} → Ops M → Task → List M → ℕ → List M
started o t xs zero = xs
started o t xs (suc n) = slice_set (started o t xs n) (offset t.size n + t.start n) o.first
