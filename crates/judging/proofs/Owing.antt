-- Whether a fact is owed can be told.
use Rattle.std.proofs.Common.{◌≡◌, ℕ, true, false, ◌⊎◌, subst, inl, inr, arith}
use Rattle.std.proofs.lemmas.Bool.{cases_eq, cases_lt, cases_Bool, both_ways}
use Rattle.task.specs.Task.{Task, Fact, Goal, Numbered, facts}
use Rattle.task.specs.Paths.{Holds}
use Rattle.task.proofs.Numbers.{numbered, numbered_below, numbered_unique}
use Rattle.task.proofs.Options.{dec_some}
use Rattle.judging.specs.declared.fact_set.FactSet.{FactSet}
use Rattle.judging.specs.declared.sitting.Sitting.{Sitting}
use Rattle.judging.specs.FactSets.{has}
use Rattle.judging.specs.Position.{state_of}
use Rattle.judging.specs.Counted.{OwedIn}

module _ (t : Task) (held : FactSet) (s : Sitting) (n : ℕ) where
  abbrev Unseen : Type 0
  Unseen = (has held n ≡ true) × (has s.visited n ≡ false)

  unseen : Unseen ⊎ (Unseen → ⊥)
  unseen = elim (cases_Bool (has held n)) [
    | inl h ↦ elim (cases_Bool (has s.visited n)) [ inl v ↦ inr (λ p. both_ways _ p.1 v) | inr v ↦ inl (h, v) ]
    | inr h ↦ inr (λ p. both_ways _ h p.0)
  ]

  abbrev Missed : Fact → Type 0
  Missed f = Goal t f × (Holds t (state_of s.position) f → ⊥)

  missed : (f : Fact) → Numbered t n f → Missed f ⊎ (Missed f → ⊥)
  missed f num = elim (dec_some (t.goal f.variable) f.value) [
    | yes goal ↦ elim (cases_eq (state_of s.position f.variable) f.value) [
      | inl same ↦ inr (λ p. p.1 (num.in_vars, same))
      | inr other ↦ inl (goal, λ h. other h.1)
    ]
    | no none ↦ inr (λ p. none p.0)
  ]

  pub owed_told : OwedIn t held s n ⊎ (OwedIn t held s n → ⊥)
  owed_told = elim (cases_lt n (facts t)) [
    | inr past ↦ inr (λ (f, num, o). omega (arith, numbered_below num))
    | inl low ↦
        (let (f, num) = numbered t n low in
        elim unseen [
          | inl a ↦ inl (f, num, inl a)
          | inr none ↦ elim (missed f num) [
            | inl b ↦ inl (f, num, inr b)
            | inr out ↦ inr (λ (g, at, o). elim o [ inl a ↦ none a | inr b ↦ out (subst Missed (numbered_unique at num) b) ])
          ]
        ])
  ]
