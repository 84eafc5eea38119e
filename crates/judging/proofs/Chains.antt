-- What chains over the numbers below a limit give.
use Rattle.std.proofs.Common.{◌≡◌, ℕ, zero, suc, ◌+◌, ◌<◌, ◌≤◌, Bool, cond, ◌∷◌, length, Some, None, Decides, Option, sym, refl, subst, inl, inr, arith, MatchOption, ◌⊎◌, true, false}
use Rattle.std.proofs.lemmas.Bool.{cases_Bool, both_ways, false≢true}
use Rattle.std.specs.List.{filter, range_with_len}
use Rattle.rules.specs.Machine.{Count, Count.none, Lowest}
use Rattle.judging.proofs.Sums.{count_hit, count_miss}

-- the test that a decision makes
abbrev pub told : {P : Type 0} → P ⊎ (P → ⊥) → Bool
told (inl p) = true
told (inr out) = false

pub told_decides : {P : Type 0} (d : P ⊎ (P → ⊥)) → Decides (told d) P
told_decides (inl p) = (λ e. p, λ q. refl)
told_decides (inr out) = (λ e. absurd (false≢true e), λ q. absurd (out q))

-- two tests of one fact
pub same_test : {P : Type 0} (b c : Bool) → Decides b P → Decides c P → b ≡ c
same_test true c d e = sym (e.1 (d.0 refl))
same_test false true d e = d.1 (e.0 refl)
same_test false false d e = refl

-- how many pass a test, from a number on
count_from : {P : ℕ → Type 0} (test : ℕ → Bool) → ((k : ℕ) → Decides (test k) (P k)) → (n a c : ℕ) → Count P a c → Count P (a + n) (c + length (filter test (range_with_len a n)))
count_from {P} test dec zero a c so-far = subst (λ m. Count P m (c + 0)) (let e : a ≡ a + 0 = omega arith in e) (subst (Count P a) (let e : c ≡ c + 0 = omega arith in e) so-far)
count_from {P} test dec (suc n) a c so-far =
    let place : (a + 1) + n ≡ a + suc n = omega arith in
    let more = length (filter test (range_with_len (a + 1) n)) in
    elim (cases_Bool (test a)) [
      | inl e ↦
          (let all : (c + 1) + more ≡ c + length (cond (test a) (a ∷ filter test (range_with_len (a + 1) n)) (filter test (range_with_len (a + 1) n))) = rw e (omega arith) in
          subst (λ m. Count P m (c + length (filter test (range_with_len a (suc n))))) place
          (subst (Count P ((a + 1) + n)) all (count_from test dec n (a + 1) (c + 1) (count_hit so-far ((dec a).0 e)))))
      | inr e ↦
          (let all : c + more ≡ c + length (cond (test a) (a ∷ filter test (range_with_len (a + 1) n)) (filter test (range_with_len (a + 1) n))) = rw e refl in
          subst (λ m. Count P m (c + length (filter test (range_with_len a (suc n))))) place
          (subst (Count P ((a + 1) + n)) all (count_from test dec n (a + 1) c (count_miss so-far (λ p. both_ways (test a) e ((dec a).1 p))))))
    ]

-- how many of the numbers below a limit pass a test
pub count_below : {P : ℕ → Type 0} (test : ℕ → Bool) → ((k : ℕ) → Decides (test k) (P k)) → (n c : ℕ) → c ≡ length (filter test (range_with_len 0 n)) → Count P n c
count_below {P} test dec n c is =
    let end : 0 + n ≡ n = omega arith in
    let all : 0 + length (filter test (range_with_len 0 n)) ≡ c = omega (arith, is) in
    subst (λ m. Count P m c) end (subst (Count P (0 + n)) all (count_from test dec n 0 0 none))

-- the first of the numbers below a limit for which P holds, where it holds of none past it
pub lowest_below : {P : ℕ → Type 0} (n : ℕ) → ((k : ℕ) → P k → k < n) → (r : Option ℕ) → MatchOption r ((k : ℕ) → 0 ≤ k → k < n → P k → ⊥) (λ i. (0 ≤ i) × (i < n) × P i × ((k : ℕ) → 0 ≤ k → k < i → P k → ⊥)) → MatchOption r ((k : ℕ) → P k → ⊥) (Lowest P)
lowest_below n inside None out = λ k p. out k (omega arith) (inside k p) p
lowest_below n inside (Some i) (low, high, here, before) = record { holds = here; first = λ k l p. before k (omega arith) l p }
