-- Counts: bounds, other names, and one number more in a loop.
use Rattle.std.proofs.Common.{ℕ, ◌+◌, ◌<◌, ◌≤◌, zero-le, add-one, arith}
use Rattle.rules.specs.Machine.{Count, Count.none, Count.one, Count.skip}

-- at most as many as there are numbers
pub count_le : {P : ℕ → Type 0} {n c : ℕ} → Count P n c → c ≤ n
count_le none = zero-le
count_le (one r p) = omega (arith, count_le r)
count_le (skip r np) = omega (arith, count_le r)

-- two properties that hold of the same numbers have the same count
pub count_as : {P Q : ℕ → Type 0} {n c : ℕ} → ((k : ℕ) → k < n → P k → Q k) → ((k : ℕ) → k < n → Q k → P k) → Count P n c → Count Q n c
count_as to from none = none
count_as to from (one {n} r p) = one (count_as (λ k l. to k (omega arith)) (λ k l. from k (omega arith)) r) (to n (omega arith) p)
count_as to from (skip {n} r np) = skip (count_as (λ k l. to k (omega arith)) (λ k l. from k (omega arith)) r) (λ q. np (from n (omega arith) q))

-- the next number counts, or not
pub count_hit : {P : ℕ → Type 0} {n c : ℕ} → Count P n c → P n → Count P (n + 1) (c + 1)
count_hit {P} {n} {c} r p = rw (add-one n, add-one c) (one r p)

pub count_miss : {P : ℕ → Type 0} {n c : ℕ} → Count P n c → (P n → ⊥) → Count P (n + 1) c
count_miss {P} {n} {c} r np = rw (add-one n) (skip r np)
