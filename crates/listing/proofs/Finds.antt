-- What a search keeps.
use Rattle.std.proofs.Common.{◌≡◌, ℕ, ◌+◌, ◌≤◌, Bool, true, sym, subst, arith}
use Rattle.rules.specs.Machine.{Count, Count.none}
use Rattle.judging.proofs.Sums.{count_hit, count_miss}

-- so many numbers below n pass, whatever test in Tests it is, and no more than are sought
pub record Seen (Tests : (ℕ → Bool) → Type 0) (n before index : ℕ) : Type 0 where
  pub count : (p : ℕ → Bool) → Tests p → Count (λ k. p k ≡ true) n before
  pub few : before ≤ index
  pub low : before ≤ n

-- none yet
pub seen_none : (Tests : (ℕ → Bool) → Type 0) (index : ℕ) → Seen Tests 0 0 index
seen_none Tests index = record { count = λ p s. none; few = omega arith; low = omega arith }

-- one more, which is not the one
pub seen_hit : {Tests : (ℕ → Bool) → Type 0} {n before index : ℕ} (left : ℕ) → Seen Tests n before index → ((p : ℕ → Bool) → Tests p → p n ≡ true) → (before ≡ index → ⊥) → left ≡ before + 1 → Seen Tests (n + 1) left index
seen_hit {n = n} left seen here other is = record {
  count = λ p s. subst (Count (λ k. p k ≡ true) (n + 1)) (sym is) (count_hit (seen.count p s) (here p s));
  few = omega (arith, seen.few);
  low = omega (arith, seen.low);
}

-- a number that does not pass
pub seen_miss : {Tests : (ℕ → Bool) → Type 0} {n before index : ℕ} (left : ℕ) → Seen Tests n before index → ((p : ℕ → Bool) → Tests p → p n ≡ true → ⊥) → left ≡ before → Seen Tests (n + 1) left index
seen_miss {n = n} left seen not is = record {
  count = λ p s. subst (Count (λ k. p k ≡ true) (n + 1)) (sym is) (count_miss (seen.count p s) (not p s));
  few = omega (arith, is, seen.few);
  low = omega (arith, is, seen.low);
}
