-- Records are sound or have one first fault. Assumes nothing.
use Rattle.std.proofs.Common.{◌≡◌, ℕ, zero, suc, ◌<◌, ◌≤◌, ◌⊎◌, List, length, Some, None, Option, refl, subst, inl, inr, ⊎_elim, arith}
use Rattle.std.proofs.lemmas.Bool.{cases_order, cases_lt}
use Rattle.records.specs.declared.record.Record.{Record}
use Rattle.records.specs.declared.fault.Ground.{Ground}
use Rattle.records.specs.Faults.{Form, FirstFault, fault_at, OneVerdict}

clash : (o : Option Ground) (g : Ground) → o ≡ None → o ≡ Some g → ⊥
clash o g p q = cc

module _ (fault : Form) (rs : List Record) where
  abbrev ClearTo : ℕ → Type 0
  ClearTo n = (i : ℕ) → i < n → fault_at fault rs i ≡ None

  -- the first n records
  among : (n : ℕ) → n ≤ length rs → ClearTo n ⊎ ((i : ℕ) × (g : Ground) × FirstFault fault rs i g)
  among zero h = inl (λ i l. absurd (omega arith))
  among (suc n) h = ⊎_elim (λ clear. next clear (fault_at fault rs n) refl) inr (among n (omega arith))
    where
      next : ClearTo n → (o : Option Ground) → fault_at fault rs n ≡ o → ClearTo (suc n) ⊎ ((i : ℕ) × (g : Ground) × FirstFault fault rs i g)
      next clear None e = inl (λ i l. ⊎_elim (λ less. clear i less) (λ more. let q : n ≡ i = omega arith in subst (λ k. fault_at fault rs k ≡ None) q e) (cases_lt i n))
      next clear (Some g) e = inr (n, g, record { within = h; faulty = e; first = clear })

  same : (i j : ℕ) (g h : Ground) → FirstFault fault rs i g → FirstFault fault rs j h → (i ≡ j) × (g ≡ h)
  same i j g h p q = ⊎_elim (λ e. (e, inner (subst (λ k. fault_at fault rs k ≡ Some g) e p.faulty) q.faulty)) (⊎_elim (λ l. absurd (clash _ g (q.first i l) p.faulty)) (λ l. absurd (clash _ h (p.first j l) q.faulty))) (cases_order i j)
    where
      inner : {o : Option Ground} → o ≡ Some g → o ≡ Some h → g ≡ h
      inner a b = cc

  pub one_verdict : OneVerdict fault rs
  one_verdict = record { some = among (length rs) (omega arith); not_both = λ s i g p. clash _ g (s i p.within) p.faulty; one = same }
