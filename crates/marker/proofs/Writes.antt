-- Writes into the sets of later facts.
use Rattle.std.proofs.Common.{◌≡◌, ℕ, ◌<◌, ◌≤◌, Bool, false, ◌&&◌, ◌||◌, eqb, ◌⊎◌, List, [], replicate, ap, ◌∙◌, inl, inr, zero-le, arith}
use Rattle.std.proofs.lemmas.Bool.{cases_lt, cases_Bool, and_parts, eqb-true}
use lib.ListN.{length-replicate}
use Rattle.std.proofs.lemmas.List.{get_or-replicate, get_or_past}
use Rattle.rules.specs.declared.calls.Kind.{Kind}
use Rattle.rules.specs.Machine.{same_kind}
use Rattle.judging.specs.declared.fact_set.FactSet.{FactSet}
use Rattle.judging.specs.FactSets.{has}
use Rattle.judging.proofs.Places.{or_false}
use Rattle.marker.specs.Ordered.{laters}

-- no ordering more outside the sets
pub set_outside : (κ κ' : Kind) (e l e' l' : ℕ) (b : Bool) → e < 256 → l < 256 → (256 ≤ e') ⊎ (256 ≤ l') → b ≡ false → (b || (same_kind κ' κ && (eqb e' e && eqb l' l))) ≡ false
set_outside κ κ' e l e' l' b h i out none =
    or_false b _ (elim (cases_Bool (same_kind κ' κ && (eqb e' e && eqb l' l))) [
      | inl test ↦
          (let p = and_parts (eqb e' e) (eqb l' l) (and_parts (same_kind κ' κ) (eqb e' e && eqb l' l) test).1 in
          absurd (elim out [ inl past ↦ omega (arith, eqb-true e' e p.0) | inr past ↦ omega (arith, eqb-true l' l p.1) ]))
      | inr test ↦ test
    ]) ∙ none

-- no later facts
pub all_none : (n : ℕ) (x : FactSet) (sets : List FactSet) → sets ≡ replicate n x → ((l : ℕ) → has x l ≡ false) → (e l : ℕ) → has (laters sets e) l ≡ false
all_none n x sets is none e l =
    ap (λ xs. has (laters xs e) l) is
    ∙ elim (cases_lt e n) [
      | inl low ↦ ap (λ s. has s l) (get_or-replicate n e x _ low) ∙ none l
      | inr past ↦ ap (λ s. has s l) (get_or_past (replicate n x) e (record { marks = [] }) (rw (length-replicate n x) past)) ∙ get_or_past [] l false zero-le
    ]
