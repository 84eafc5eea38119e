-- A small task for the tests: one variable with the values 0 to 5, from 0 to 4 by two ways round that meet at 3, and a dead end at 5.
use Rattle.std.specs.Prelude.{◌≡◌, ℕ, zero, suc, ◌<◌, Bool, true, false, cond, ◌&&◌, [], ◌∷◌, Some, None, nat_lt, slice_index, refl}
use Rattle.std.proofs.Common.{arith}
use Rattle.std.proofs.lemmas.Bool.{and_parts, and_left, and_right, cond-false, cond-true, ltb-true, le-ltb, lt-ltb}
use Rattle.task.specs.Task.{Task, Lawful}

-- the value that each action needs, and the one that it gives
abbrev pub from : ℕ → ℕ
from a = slice_index (0 ∷ 0 ∷ 1 ∷ 2 ∷ 3 ∷ 0 ∷ []) a

abbrev pub to : ℕ → ℕ
to a = slice_index (1 ∷ 2 ∷ 3 ∷ 3 ∷ 4 ∷ 5 ∷ []) a

abbrev pub fork : Task
fork = record {
  vars = 1;
  size = λ v. cond (nat_lt v 1) 6 0;
  start = λ v. 0;
  goal = λ v. cond (nat_lt v 1) (Some 4) None;
  actions = 6;
  present = λ a. nat_lt a 6;
  need = λ a v. cond (nat_lt a 6 && nat_lt v 1) (Some (from a)) None;
  give = λ a v. cond (nat_lt a 6 && nat_lt v 1) (Some (to a)) None;
}

from_small : (a : ℕ) → from a < 6
from_small zero = omega arith
from_small (suc zero) = omega arith
from_small (suc (suc zero)) = omega arith
from_small (suc (suc (suc zero))) = omega arith
from_small (suc (suc (suc (suc zero)))) = omega arith
from_small (suc (suc (suc (suc (suc zero))))) = omega arith
from_small (suc (suc (suc (suc (suc (suc a)))))) = omega arith

to_small : (a : ℕ) → to a < 6
to_small zero = omega arith
to_small (suc zero) = omega arith
to_small (suc (suc zero)) = omega arith
to_small (suc (suc (suc zero))) = omega arith
to_small (suc (suc (suc (suc zero)))) = omega arith
to_small (suc (suc (suc (suc (suc zero))))) = omega arith
to_small (suc (suc (suc (suc (suc (suc a)))))) = omega arith

size_in : (v : ℕ) → v < 1 → fork.size v ≡ 6
size_in v h = cond-true (nat_lt v 1) 6 0 (lt-ltb v 1 h)

-- what a `cond` gives where it is `Some`
given : (b : Bool) (y x : ℕ) → cond b (Some y) None ≡ Some x → (b ≡ true) × (y ≡ x)
given true y x e = (refl, cc)
given false y x e = let z : ◌≡◌ {A = ℕ} 0 1 = cc in absurd (omega arith)

-- an action's value is one of the variable
inside : (a v y x : ℕ) → y < 6 → cond (nat_lt a 6 && nat_lt v 1) (Some y) None ≡ Some x → x < cond (nat_lt v 1) 6 0
inside a v y x small e =
    let g = given (nat_lt a 6 && nat_lt v 1) y x e in
    let p = and_parts (nat_lt a 6) (nat_lt v 1) g.0 in
    omega (arith, size_in v (ltb-true v 1 p.1), g.1)

pub fork_lawful : Lawful fork
fork_lawful = record {
  some_var = omega arith;
  few_vars = omega arith;
  some_size = λ v h. omega (arith, size_in v h);
  few_size = λ v h. omega (arith, size_in v h);
  few_facts = omega arith;
  few_actions = omega arith;
  start_in = λ v h. omega (arith, size_in v h);
  goal_in = λ v x e.
      let g = given (nat_lt v 1) 4 x e in
      omega (arith, size_in v (ltb-true v 1 g.0), g.1);
  need_in = λ a v x e. inside a v (from a) x (from_small a) e;
  give_in = λ a v x e. inside a v (to a) x (to_small a) e;
  size_out = λ v h. cond-false (nat_lt v 1) 6 0 (le-ltb v 1 h);
  start_out = λ v h. refl;
  goal_out = λ v h. cond-false (nat_lt v 1) (Some 4) None (le-ltb v 1 h);
  present_out = λ a h. le-ltb a 6 h;
  need_out = λ a v h. cond-false (nat_lt a 6 && nat_lt v 1) (Some (from a)) None (and_right (nat_lt a 6) (nat_lt v 1) (le-ltb v 1 h));
  give_out = λ a v h. cond-false (nat_lt a 6 && nat_lt v 1) (Some (to a)) None (and_right (nat_lt a 6) (nat_lt v 1) (le-ltb v 1 h));
  need_past = λ a v h. cond-false (nat_lt a 6 && nat_lt v 1) (Some (from a)) None (and_left (nat_lt a 6) (nat_lt v 1) (le-ltb a 6 h));
  give_past = λ a v h. cond-false (nat_lt a 6 && nat_lt v 1) (Some (to a)) None (and_left (nat_lt a 6) (nat_lt v 1) (le-ltb a 6 h));
}
