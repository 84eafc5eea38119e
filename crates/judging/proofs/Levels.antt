-- The greatest level of a goal fact, found by a walk over the variables.
use Rattle.std.proofs.Common.{◌≡◌, ℕ, zero, suc, ◌+◌, ◌<◌, ◌≤◌, max, ◌⊎◌, List, get_or, Some, None, sym, refl, ap, ◌∙◌, subst, inl, inr, arith}
use Rattle.std.proofs.lemmas.Bool.{cases_lt, cases_eq}
use Rattle.task.specs.Task.{Task, Fact, Goal, Lawful, fact, offset}
use Rattle.task.proofs.Options.{no_some, some_same}
use Rattle.reach.specs.declared.measure.AtLevel.{AtLevel}
use Rattle.reach.specs.Built.{LevelsBuilt, LevelIs}
use Rattle.reach.specs.Measures.{of_level, layer_of}
use Rattle.reach.specs.Relaxed.{Reach, GoalInReach, Layer, Level}
use Rattle.reach.proofs.LayerFacts.{layer_reach}
use Rattle.rules.specs.Machine.{GoalLevel}
use Rattle.judging.specs.Counted.{GoalAt}
use Rattle.judging.proofs.Reached.{goal_var, goal_in_reach}

-- later layers have what a layer has
pub layer_up : (t : Task) (f : Fact) (n m : ℕ) → n ≤ m → Layer t n f → Layer t m f
layer_up t f n zero l h = let z : n ≡ 0 = omega arith in subst (λ k. Layer t k f) z h
layer_up t f n (suc m) l h = elim (cases_eq n (suc m)) [ inl e ↦ subst (λ k. Layer t k f) e h | inr ne ↦ inl (layer_up t f n m (omega arith) h) ]

-- the greatest level of a goal fact of a variable below i
pub record LevelBelow (t : Task) (i h : ℕ) : Type 0 where
  pub most : (f : Fact) → f.variable < i → Goal t f → Layer t h f
  pub reaches : (h ≡ 0) ⊎ ((f : Fact) × Goal t f × Level t f h)

pub level_start : (t : Task) → LevelBelow t 0 0
level_start t = record { most = λ f l. let z : ⊥ = omega arith in absurd z; reaches = inl refl }

pub level_none : (t : Task) (i h : ℕ) → LevelBelow t i h → t.goal i ≡ None → LevelBelow t (i + 1) h
level_none t i h below gone = record {
  most = λ f l goal. elim (cases_eq f.variable i) [
    | inl e ↦ absurd (no_some f.value (sym gone ∙ ap t.goal (sym e) ∙ goal))
    | inr ne ↦ below.most f (omega arith) goal
  ];
  reaches = below.reaches;
}

pub level_some : (t : Task) (i h x y : ℕ) → LevelBelow t i h → t.goal i ≡ Some x → Level t (fact i x) y → LevelBelow t (i + 1) (max y h)
level_some t i h x y below here level = record {
  most = λ f l goal. elim (cases_eq f.variable i) [
    | inl e ↦
        (let is : f.value ≡ x = some_same f.value x (sym goal ∙ ap t.goal e ∙ here) in
        let same : fact i x ≡ f = λ j. record { variable = sym e j; value = sym is j } in
        subst (Layer t (max y h)) same (layer_up t (fact i x) y (max y h) (omega arith) level.has))
    | inr ne ↦ layer_up t f h (max y h) (omega arith) (below.most f (omega arith) goal)
  ];
  reaches = elim (cases_lt y h) [
    | inl less ↦ (let is : max y h ≡ h = omega arith in subst (λ k. (k ≡ 0) ⊎ ((f : Fact) × Goal t f × Level t f k)) (sym is) below.reaches)
    | inr more ↦ (let is : max y h ≡ y = omega arith in subst (λ k. (k ≡ 0) ⊎ ((f : Fact) × Goal t f × Level t f k)) (sym is) (inr (fact i x, here, level)))
  ];
}

pub level_all : {t : Task} → Lawful t → (h : ℕ) → LevelBelow t t.vars h → GoalLevel t h
level_all law h below = record { most = λ f goal. below.most f (goal_var law f goal) goal; reaches = below.reaches }

-- what a table of the levels says of a goal fact
pub level_told : {t : Task} → Lawful t → (values : List AtLevel) → LevelsBuilt t values → (v off x : ℕ) → v < t.vars → off ≡ offset t.size v → t.goal v ≡ Some x
    → LevelIs t (fact v x) (layer_of (get_or values (off + x) (of_level 65535)))
level_told law values built v off x inside at goal = built (off + x) (fact v x) (record { in_vars = inside; in_size = law.goal_in v x goal; is = ap (λ o. o + x) at })

-- a goal with a greatest level is in reach
pub level_near : {t : Task} → Lawful t → (h : ℕ) → LevelBelow t t.vars h → GoalAt t h
level_near law h below = record { near = goal_in_reach law (λ f l goal. layer_reach law h f (below.most f l goal)); level = level_all law h below }

-- a goal fact out of reach
pub goal_out : (t : Task) (v x : ℕ) → t.goal v ≡ Some x → (Reach t (fact v x) → ⊥) → GoalInReach t → ⊥
goal_out t v x goal far (p, r, has) = far (p, r, has (fact v x) goal)
