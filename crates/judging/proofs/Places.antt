-- Positions, and the facts that hold there.
use Rattle.std.proofs.Common.{◌≡◌, ℕ, ◌+◌, ◌<◌, ◌≤◌, Bool, true, false, ◌||◌, eqb, ◌≢◌, ◌⊎◌, List, length, get_or, set, Some, sym, refl, ap, ◌∙◌, subst, inl, inr, arith, get_or-set_other, get_or-set_same}
use Rattle.std.proofs.lemmas.Bool.{cases_eq, or_right, eq-eqb, ne_eqb}
use Rattle.task.specs.Task.{Task, Fact, Lawful, Needs, Numbered, fact, offset}
use Rattle.task.specs.Paths.{State, Holds}
use Rattle.task.proofs.Inside.{need_var}
use Rattle.task.proofs.Numbers.{number_in, offset_below, numbered_unique}
use Rattle.task.proofs.Options.{some_same}
use Rattle.rules.specs.Machine.{Lowest, Unmet}
use Rattle.judging.specs.declared.fact_set.FactSet.{FactSet}
use Rattle.judging.specs.FactSets.{has}
use Rattle.judging.specs.Position.{HoldsBelow, Marked, Met}
use Rattle.judging.proofs.Lowest.{lowest_at, lowest_as}

-- a test with one that fails
pub or_false : (x y : Bool) → y ≡ false → (x || y) ≡ x
or_false true y e = refl
or_false false y e = e

-- a write, at its place and at another
pub set_here : {A : Type 0} (xs : List A) (i k : ℕ) (x d : A) → i < length xs → k ≡ i → get_or (set xs i x) k d ≡ x
set_here xs i k x d l e = ap (λ j. get_or (set xs i x) j d) e ∙ get_or-set_same xs i x d l

pub set_there : {A : Type 0} (xs : List A) (i k : ℕ) (x d : A) → (k ≡ i → ⊥) → get_or (set xs i x) k d ≡ get_or xs k d
set_there xs i k x d n = let ne : k ≢ i = n in rw get_or-set_other

-- the values below i are new, those from i on old
abbrev pub Split : (ℕ → ℕ) → (ℕ → ℕ) → ℕ → List ℕ → Type 0
Split new old i xs = ((k : ℕ) → k < i → get_or xs k 0 ≡ new k) × ((k : ℕ) → i ≤ k → get_or xs k 0 ≡ old k)

pub split_write : (new old : ℕ → ℕ) (i x : ℕ) (xs : List ℕ) → i < length xs → new i ≡ x → Split new old i xs → Split new old (i + 1) (set xs i x)
split_write new old i x xs l e (low, high) = (
  λ k h. elim (cases_eq k i) [
    | inl same ↦ set_here xs i k x 0 l same ∙ sym e ∙ ap new (sym same)
    | inr other ↦ set_there xs i k x 0 other ∙ low k (omega arith)
  ],
  λ k h. set_there xs i k x 0 (omega arith) ∙ high k (omega arith),
)

pub split_keep : (new old : ℕ → ℕ) (i : ℕ) (xs : List ℕ) → new i ≡ old i → Split new old i xs → Split new old (i + 1) xs
split_keep new old i xs e (low, high) = (
  λ k h. elim (cases_eq k i) [
    | inl same ↦ high k (omega arith) ∙ ap old same ∙ sym e ∙ ap new (sym same)
    | inr other ↦ low k (omega arith)
  ],
  λ k h. high k (omega arith),
)

-- one variable more is marked
module _ (t : Task) (before marks : FactSet) (s : State) (i off : ℕ) (inside : i < t.vars) (at : off ≡ offset t.size i) (was : Marked t before s i marks) where
  -- the fact of the variable that holds
  here : s i < t.size i → Numbered t (off + s i) (fact i (s i))
  here small = record { in_vars = inside; in_size = small; is = ap (λ o. o + s i) at }

  pub marked_set : (after : FactSet) → s i < t.size i → ((n : ℕ) → has after n ≡ (has marks n || eqb n (off + s i))) → Marked t before s (i + 1) after
  marked_set after small more k f num = (to, from)
    where
      to : has after k ≡ true → (has before k ≡ true) ⊎ HoldsBelow s (i + 1) f
      to e = elim (cases_eq k (off + s i)) [
        | inl same ↦
            (let is : fact i (s i) ≡ f = numbered_unique (subst (λ n. Numbered t n (fact i (s i))) (sym same) (here small)) num in
            inr (subst (HoldsBelow s (i + 1)) is (omega arith, refl)))
        | inr other ↦ elim ((was k f num).0 (sym (or_false (has marks k) _ (ne_eqb k (off + s i) other)) ∙ sym (more k) ∙ e)) [ inl old ↦ inl old | inr h ↦ inr (omega (arith, h.0), h.1) ]
      ]

      from : (has before k ≡ true) ⊎ HoldsBelow s (i + 1) f → has after k ≡ true
      from h = elim (cases_eq k (off + s i)) [
        | inl same ↦ more k ∙ or_right (has marks k) _ (eq-eqb k (off + s i) same)
        | inr other ↦ more k ∙ or_false (has marks k) _ (ne_eqb k (off + s i) other) ∙ (was k f num).1 (elim h [
          | inl old ↦ inl old
          | inr now-holds ↦ elim (cases_eq f.variable i) [
            | inl e ↦ absurd (other (num.is ∙ (let q : offset t.size f.variable + f.value ≡ off + s i = omega (arith, ap (offset t.size) e, sym now-holds.1 ∙ ap s e) in q)))
            | inr ne ↦ inr (omega (arith, now-holds.0), now-holds.1)
          ]
        ])
      ]

  pub marked_keep : t.size i ≤ s i → Marked t before s (i + 1) marks
  marked_keep large k f num = (
    λ e. elim ((was k f num).0 e) [ inl old ↦ inl old | inr h ↦ inr (omega (arith, h.0), h.1) ],
    λ h. (was k f num).1 (elim h [
      | inl old ↦ inl old
      | inr now-holds ↦ elim (cases_eq f.variable i) [
        | inl e ↦ (let z : ⊥ = omega (arith, num.in_size, ap t.size e, sym now-holds.1 ∙ ap s e) in absurd z)
        | inr ne ↦ inr (omega (arith, now-holds.0), now-holds.1)
      ]
    ]),
  )

-- the conditions on the variables below i hold
abbrev pub MetBelow : Task → State → ℕ → ℕ → Type 0
MetBelow t s a i = (f : Fact) → f.variable < i → Needs t a f → s f.variable ≡ f.value

pub met_more : (t : Task) (s : State) (a i : ℕ) → MetBelow t s a i → ((x : ℕ) → t.need a i ≡ Some x → s i ≡ x) → MetBelow t s a (i + 1)
met_more t s a i below here f l need =
    elim (cases_eq f.variable i) [
      | inl e ↦ ap s e ∙ here f.value (ap (t.need a) (sym e) ∙ need)
      | inr ne ↦ below f (omega arith) need
    ]

pub met_all : {t : Task} → Lawful t → (s : State) (a : ℕ) → MetBelow t s a t.vars → Met t s a
met_all law s a all f need = let inside = need_var law a f.variable f.value need in (inside, all f inside need)

pub unmet_at : {t : Task} → Lawful t → (s : State) (a v off x : ℕ) → v < t.vars → off ≡ offset t.size v → t.need a v ≡ Some x → (s v ≡ x → ⊥) → MetBelow t s a v → Lowest (Unmet t s a) (off + x)
unmet_at {t} law s a v off x inside at need unlike below =
    subst (λ o. Lowest (Unmet t s a) (o + x)) (sym at)
    (lowest_as (λ k (f, num, gone). (f, num, gone.0, gone.1)) (λ k (f, num, n, out). (f, num, (n, out)))
    (lowest_at t (λ f. Needs t a f × (Holds t s f → ⊥)) v x inside (law.need_in a v x need) (need, λ h. unlike h.1)
    (λ f l p. p.1 (need_var law a f.variable f.value p.0, below f l p.0))
    (λ f e p. some_same f.value x (sym p.0 ∙ ap (t.need a) e ∙ need))))

-- the number of a value of a variable, in a loop over the variables
pub value_place : {t : Task} → Lawful t → (v end off x : ℕ) → v < end → end ≡ t.vars → off ≡ offset t.size v → x < t.size v → off + x < 256
value_place {t} law v end off x low vars at small = omega (arith, number_in t.size v t.vars x (omega arith) small, law.few_facts)

pub size_place : {t : Task} → Lawful t → (v end off : ℕ) → v < end → end ≡ t.vars → off ≡ offset t.size v → off + t.size v ≤ 256
size_place {t} law v end off low vars at = omega (arith, offset_below t.size v t.vars (omega arith), law.few_facts)
