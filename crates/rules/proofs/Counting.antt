-- How counts compare.
use Rattle.std.proofs.Common.{◌≡◌, ℕ, zero, suc, ◌+◌, ◌<◌, ◌≤◌, ◌⊎◌, sym, refl, subst, inl, inr, ⊎_elim, suc-le-suc, zero-le, add-zero, add-suc, le_antisymm, arith}
use native.Mathlib.Decide.{dec_lt}
use Rattle.std.proofs.lemmas.Bool.{cases_eq}
use Rattle.rules.specs.Machine.{Count, Count.none, Count.one, Count.skip, Lowest}

-- nothing to count
pub count_nothing : {P : ℕ → Type 0} {n c : ℕ} → ((k : ℕ) → k < n → P k → ⊥) → Count P n c → c ≡ 0
count_nothing h none = refl
count_nothing h (one {n} r p) = absurd (h n (omega arith) p)
count_nothing h (skip r np) = count_nothing (λ k l. h k (omega arith)) r

-- something to count
pub count_some : {P : ℕ → Type 0} {n c : ℕ} (k : ℕ) → k < n → P k → Count P n c → 1 ≤ c
count_some k l p none = absurd (omega arith)
count_some k l p (one r q) = omega arith
count_some {P} k l p (skip {n} r np) = elim (cases_eq k n) [ inl e ↦ absurd (np (subst P e p)) | inr ne ↦ count_some k (omega arith) p r ]

-- at most one to count
pub count_alone : {P : ℕ → Type 0} {n c : ℕ} → ((j k : ℕ) → j < k → k < n → P j → P k → ⊥) → Count P n c → c ≤ 1
count_alone h none = omega arith
count_alone h (one {n} r p) = rw (count_nothing (λ j l q. h j n l (omega arith) q p) r) (omega arith)
count_alone h (skip r np) = count_alone (λ j k l m. h j k l (omega arith)) r

-- two properties that cover a third count at least as many
pub count_cover : {P Q R : ℕ → Type 0} {n c d e : ℕ} → ((k : ℕ) → k < n → P k → Q k ⊎ R k) → Count P n c → Count Q n d → Count R n e → c ≤ d + e
count_cover h none q r = zero-le
count_cover h (skip p np) (skip q nq) (skip r nr) = count_cover (λ k l. h k (omega arith)) p q r
count_cover h (skip p np) (skip q nq) (one r xr) = omega (arith, count_cover (λ k l. h k (omega arith)) p q r)
count_cover h (skip p np) (one q xq) (skip r nr) = omega (arith, count_cover (λ k l. h k (omega arith)) p q r)
count_cover h (skip p np) (one q xq) (one r xr) = omega (arith, count_cover (λ k l. h k (omega arith)) p q r)
count_cover h (one {n} p xp) (skip q nq) (skip r nr) = absurd (⊎_elim nq nr (h n (omega arith) xp))
count_cover h (one p xp) (skip q nq) (one r xr) = omega (arith, count_cover (λ k l. h k (omega arith)) p q r)
count_cover h (one p xp) (one q xq) (skip r nr) = omega (arith, count_cover (λ k l. h k (omega arith)) p q r)
count_cover h (one p xp) (one q xq) (one r xr) = omega (arith, count_cover (λ k l. h k (omega arith)) p q r)

-- a weaker property counts at least as many
pub count_mono : {P Q : ℕ → Type 0} {n c d : ℕ} → ((k : ℕ) → k < n → P k → Q k) → Count P n c → Count Q n d → c ≤ d
count_mono h none q = zero-le
count_mono h (skip p np) (skip q nq) = count_mono (λ k l. h k (omega arith)) p q
count_mono h (skip p np) (one q xq) = omega (arith, count_mono (λ k l. h k (omega arith)) p q)
count_mono h (one {n} p xp) (skip q nq) = absurd (nq (h n (omega arith) xp))
count_mono h (one p xp) (one q xq) = suc-le-suc (count_mono (λ k l. h k (omega arith)) p q)

-- a property has one count
pub count_unique : {P : ℕ → Type 0} {n c d : ℕ} → Count P n c → Count P n d → c ≡ d
count_unique p q = le_antisymm (count_mono (λ k l h. h) p q) (count_mono (λ k l h. h) q p)

-- what can be decided can be counted
pub counted : {P : ℕ → Type 0} (n : ℕ) → ((k : ℕ) → k < n → Dec (P k)) → (c : ℕ) × Count P n c
counted zero d = (0, none)
counted {P} (suc n) d = go (counted n (λ k l. d k (omega arith))) (d n (omega arith))
  where
    go : (c : ℕ) × Count P n c → Dec (P n) → (c : ℕ) × Count P (suc n) c
    go (c, r) (yes p) = (suc c, one r p)
    go (c, r) (no np) = (c, skip r np)

-- the last number apart
peel : {P : ℕ → Type 0} {n c : ℕ} → Count P (suc n) c → (P n × ((d : ℕ) × Count P n d × (c ≡ suc d))) ⊎ ((P n → ⊥) × Count P n c)
peel (one {c} r p) = inl (p, (c, r, refl))
peel (skip r np) = inr (np, r)

-- a count up to n + m is one up to n and one of the m from n on
pub count_split : {P : ℕ → Type 0} (n m : ℕ) {c : ℕ} → Count P (n + m) c → (d : ℕ) × (e : ℕ) × Count P n d × Count (λ k. P (n + k)) m e × (c ≡ d + e)
count_split {P} n zero {c} r = (c, 0, subst (λ (k : ℕ). Count P k c) (add-zero n) r, none, sym (add-zero c))
count_split {P} n (suc m) {c} r = elim (peel (subst (λ (k : ℕ). Count P k c) (add-suc n m) r)) [
  | inl h ↦ let (d, e, x, y, w) = count_split n m h.1.1 in (d, suc e, x, one y h.0, omega (arith, h.1.2))
  | inr h ↦ let (d, e, x, y, w) = count_split n m h.1 in (d, e, x, skip y h.0, w)
]

-- a lowest number is the only one
pub lowest_unique : {P : ℕ → Type 0} {n m : ℕ} → Lowest P n → Lowest P m → n ≡ m
lowest_unique {P} {n} {m} a b = go (dec_lt n m) (dec_lt m n)
  where
    go : Dec (n < m) → Dec (m < n) → n ≡ m
    go (yes l) d = absurd (b.first n l a.holds)
    go (no l) (yes k) = absurd (a.first m k b.holds)
    go (no l) (no k) = omega arith
