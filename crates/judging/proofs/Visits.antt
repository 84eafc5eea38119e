-- What the moves of a sitting visit.
use Rattle.std.proofs.Common.{◌≡◌, ℕ, zero, suc, ◌≤◌, true, false, List, [], ◌∷◌, ◌++◌, get_or, replicate, Decides, sym, refl, ap, ◌∙◌, subst, inl, inr, zero-le, arith, length-append}
use lib.ListN.{length-replicate}
use lib.Seq.{take-append-le}
use Rattle.std.proofs.lemmas.List.{get_or-replicate, get_or_past}
use Rattle.std.proofs.lemmas.Bool.{both_ways, cases_lt}
use Rattle.task.specs.Task.{Task, Fact, Lawful, Numbered, Gives}
use Rattle.task.specs.Paths.{State, Holds, Visits, Achieved, given_or, after, reached, state_at}
use Rattle.task.proofs.Inside.{give_var}
use Rattle.task.proofs.Running.{reached_++}
use Rattle.task.proofs.Visiting.{visits_at_end, visits_or_achieved}
use Rattle.judging.specs.declared.fact_set.FactSet.{FactSet}
use Rattle.judging.specs.FactSets.{has}
use Rattle.judging.specs.Position.{Marked}

-- an empty table
pub all_false : (n k : ℕ) → get_or (replicate n false) k false ≡ false
all_false n k = elim (cases_lt k n) [ inl l ↦ get_or-replicate n k false false l | inr past ↦ get_or_past (replicate n false) k false (rw (length-replicate n false) past) ]

-- what no moves visit is what holds at the start
no_moves : (t : Task) (i : ℕ) → i ≤ 0 → state_at t [] i ≡ t.start
no_moves t zero l = refl
no_moves t (suc i) l = refl

pub visited_start : (t : Task) (none visited : FactSet) (s : State) → ((n : ℕ) → has none n ≡ false) → ((v : ℕ) → s v ≡ t.start v) → Marked t none s t.vars visited → (n : ℕ) (f : Fact) → Numbered t n f → Decides (has visited n) (Visits t [] f)
visited_start t none visited s empty at marked n f num = (
  λ e. elim ((marked n f num).0 e) [
    | inl old ↦ absurd (both_ways _ (empty n) old)
    | inr h ↦ (0, zero-le, (h.0, sym (at f.variable) ∙ h.1))
  ],
  λ (i, l, h). (marked n f num).1 (inr (h.0, at f.variable ∙ sym (ap (λ x. x f.variable) (no_moves t i l)) ∙ h.1)),
)

-- what a list visits, a longer one does
visits_left : (t : Task) (p q : List ℕ) (f : Fact) → Visits t p f → Visits t (p ++ q) f
visits_left t p q f (i, l, h) = (i, omega (arith, length-append p q), subst (λ (r : List ℕ). Holds t (reached t t.start r) f) (sym (take-append-le i p q l)) h)

-- what one action more visits
pub visited_more : {t : Task} → Lawful t → (p : List ℕ) (a : ℕ) (before visited : FactSet) (s : State) → ((v : ℕ) → s v ≡ after t (reached t t.start p) a v)
    → ((n : ℕ) (f : Fact) → Numbered t n f → Decides (has before n) (Visits t p f)) → Marked t before s t.vars visited
    → (n : ℕ) (f : Fact) → Numbered t n f → Decides (has visited n) (Visits t (p ++ a ∷ []) f)
visited_more {t} law p a before visited s at was marked n f num = (to, from)
  where
    end : reached t t.start (p ++ a ∷ []) ≡ after t (reached t t.start p) a
    end = reached_++ t t.start p (a ∷ [])

    to : has visited n ≡ true → Visits t (p ++ a ∷ []) f
    to e = elim ((marked n f num).0 e) [
      | inl old ↦ visits_left t p (a ∷ []) f ((was n f num).0 old)
      | inr h ↦ visits_at_end t (p ++ a ∷ []) f (h.0, ap (λ x. x f.variable) end ∙ sym (at f.variable) ∙ h.1)
    ]

    given : Achieved t (a ∷ []) f → Gives t a f
    given (zero, l, g) = g
    given (suc k, l, g) = let z : ⊥ = omega arith in absurd z

    from : Visits t (p ++ a ∷ []) f → has visited n ≡ true
    from v = elim (visits_or_achieved t p (a ∷ []) f v) [
      | inl old ↦ (marked n f num).1 (inl ((was n f num).1 old))
      | inr new ↦
          (let g = given new in
          (marked n f num).1 (inr (give_var law a f.variable f.value g, at f.variable ∙ ap (λ o. given_or o (reached t t.start p f.variable)) g)))
    ]
