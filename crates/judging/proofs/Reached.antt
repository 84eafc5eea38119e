-- The goal in reach, the goal facts that are missed, and landmarks, by what a table of the reach says.
use Rattle.std.proofs.Common.{◌≡◌, ℕ, zero, suc, ◌+◌, ◌<◌, true, false, List, [], ◌++◌, length, get_or, is_some, Some, None, Decides, Option, sym, refl, ap, ◌∙◌, subst, inl, inr, not-suc-le-zero, arith, MatchOption}
use Rattle.std.proofs.lemmas.Bool.{cases_lt, and_parts, not-true, both_ways, false≢true}
use Rattle.task.specs.Task.{Task, Fact, Start, Goal, Gives, Lawful, fact, offset}
use Rattle.task.specs.Paths.{barred}
use Rattle.task.proofs.Options.{no_some, some_same, some_gives}
use Rattle.reach.specs.Relaxed.{Has, Relaxed, Reach, GoalInReach}
use Rattle.reach.proofs.Sequences.{relaxed_none, relaxed_++, relaxed_barred, has_left, has_right}
use Rattle.rules.specs.Marks.{Landmark}
use Rattle.rules.specs.Machine.{Lowest, MissedGoal}
use Rattle.rules.proofs.Soundness.{no_goal_missed}
use Rattle.reach.specs.declared.measure.InReach.{InReach}
use Rattle.reach.specs.Built.{ReachBuilt}
use Rattle.reach.specs.Measures.{of_yes}
use Rattle.judging.proofs.Lowest.{lowest_at, lowest_as}

-- a goal fact past the variables
pub goal_var : {t : Task} → Lawful t → (f : Fact) → Goal t f → f.variable < t.vars
goal_var {t} law f g = elim (cases_lt f.variable t.vars) [ inl l ↦ l | inr past ↦ absurd (no_some f.value (sym (law.goal_out f.variable past) ∙ g)) ]

-- the goal facts below a variable are in reach
abbrev pub GoalsBelow : Task → ℕ → Type 0
GoalsBelow t v = (f : Fact) → f.variable < v → Goal t f → Reach t f

pub goals_more : (t : Task) (v : ℕ) → GoalsBelow t v → ((x : ℕ) → t.goal v ≡ Some x → Reach t (fact v x)) → GoalsBelow t (v + 1)
goals_more t v below here f l goal =
    elim (cases_lt f.variable v) [
      | inl low ↦ below f low goal
      | inr top ↦
          let at : f.variable ≡ v = omega arith in
          let same : fact v f.value ≡ f = λ i. record { variable = sym at i; value = f.value } in
          subst (Reach t) same (here f.value (subst (λ w. t.goal w ≡ Some f.value) at goal))
    ]

-- goal facts that are each in reach are in reach together
module _ (t : Task) (each : (f : Fact) → Goal t f → Reach t f) where
  abbrev Together : ℕ → Type 0
  Together k = (p : List ℕ) × Relaxed t p × ((g : Fact) → g.variable < k → Goal t g → Has t p g)

  one_more : (k : ℕ) (o : Option ℕ) → t.goal k ≡ o → Together k → Together (suc k)
  one_more k None e (p, r, has) = (
    p,
    r,
    λ g l goal.
        elim (cases_lt g.variable k) [
          | inl below ↦ has g below goal
          | inr top ↦ let at : g.variable ≡ k = omega arith in absurd (no_some g.value (sym e ∙ ap t.goal (sym at) ∙ goal))
        ],
  )
  one_more k (Some x) e (p, r, has) =
      let (q, s, it) = each (fact k x) e in (
        p ++ q,
        relaxed_++ t p q r s,
        λ g l goal.
            elim (cases_lt g.variable k) [
              | inl below ↦ has_left t p q g (has g below goal)
              | inr top ↦
                  let at : g.variable ≡ k = omega arith in
                  let is : g.value ≡ x = some_same g.value x (sym goal ∙ ap t.goal at ∙ e) in
                  let same : g ≡ fact k x = λ i. record { variable = at i; value = is i } in
                  has_right t p q g (subst (Has t q) (sym same) it)
            ],
      )

  together : (k : ℕ) → Together k
  together zero = ([], relaxed_none t, λ g l. absurd (not-suc-le-zero l))
  together (suc k) = one_more k (t.goal k) refl (together k)

pub goal_in_reach : {t : Task} → Lawful t → GoalsBelow t t.vars → GoalInReach t
goal_in_reach {t} law all =
    let (p, r, has) = together t (λ f goal. all f (goal_var law f goal) goal) t.vars in
    (p, r, λ f goal. has f (goal_var law f goal) goal)

-- the first goal fact that is missed
pub missed_at : {t : Task} → Lawful t → (v x : ℕ) → v < t.vars → t.goal v ≡ Some x → (Reach t (fact v x) → ⊥) → GoalsBelow t v → Lowest (MissedGoal t) (offset t.size v + x)
missed_at {t} law v x inside goal far below =
    lowest_as (λ k (f, at, gone). (f, at, gone.0, gone.1)) (λ k (f, at, g, out). (f, at, (g, out)))
    (lowest_at t (λ f. Goal t f × (Reach t f → ⊥)) v x inside (law.goal_in v x goal) (goal, far)
    (λ f l p. p.1 (below f l p.0))
    (λ f e p. some_same f.value x (sym p.0 ∙ ap t.goal e ∙ goal)))

-- what a table of the reach says of a goal fact
module _ {t : Task} (law : Lawful t) (values : List InReach) (built : ReachBuilt t values) (v off x : ℕ) (inside : v < t.vars) (at : off ≡ offset t.size v) (goal : t.goal v ≡ Some x) where
  goal_told : Decides (get_or values (off + x) (of_yes false)).yes (Reach t (fact v x))
  goal_told = built (off + x) (fact v x) (record { in_vars = inside; in_size = law.goal_in v x goal; is = ap (λ o. o + x) at })

  pub goal_near : (get_or values (off + x) (of_yes false)).yes ≡ true → Reach t (fact v x)
  goal_near = goal_told.0

  pub goal_far : (get_or values (off + x) (of_yes false)).yes ≡ false → GoalsBelow t v → Lowest (MissedGoal t) (off + x)
  goal_far out below = subst (λ o. Lowest (MissedGoal t) (o + x)) (sym at) (missed_at law v x inside goal (λ r. both_ways _ out (goal_told.1 r)) below)

-- landmarks
pub landmark_start : (t : Task) (f : Fact) → Start t f → Landmark t f
landmark_start t f s p r g lacks = lacks (inl s)

pub landmark_barred : (t : Task) (f : Fact) → (GoalInReach (barred t f) → ⊥) → Landmark t f
landmark_barred t f far p r g lacks = far (p, relaxed_barred t p f r (λ k h gives. lacks (inr (k, h, gives))), g)

-- what a relaxed sequence of the barred task never does
pub barred_gives : (t : Task) (f : Fact) (p : List ℕ) → Relaxed (barred t f) p → (k : ℕ) → k < length p → Gives t (get_or p k 0) f → ⊥
barred_gives t f p r k h gives =
    let a = get_or p k 0 in
    both_ways _ (not-true _ (and_parts (t.present a) _ (r k h).0).1) (some_gives (t.give a f.variable) f.value gives)

pub barred_relaxed : (t : Task) (f : Fact) (p : List ℕ) → Relaxed (barred t f) p → Relaxed t p
barred_relaxed t f p r k h = ((and_parts (t.present (get_or p k 0)) _ (r k h).0).0, (r k h).1)

pub barred_no_landmark : (t : Task) (f : Fact) → (Start t f → ⊥) → GoalInReach (barred t f) → Landmark t f → ⊥
barred_no_landmark t f out (p, r, g) mark =
    mark p (barred_relaxed t f p r) g (λ has. elim has [ inl s ↦ out s | inr k ↦ barred_gives t f p r k.0 k.1 k.2 ])

-- a fact outside the start is a landmark exactly where the goal is missed without its achievers
pub landmark_judged : (t : Task) (f : Fact) (r : Option ℕ) → (Start t f → ⊥) → MatchOption r (GoalInReach (barred t f)) (Lowest (MissedGoal (barred t f))) → Decides (is_some r) (Landmark t f)
landmark_judged t f None out reach = (λ e. absurd (false≢true e), λ mark. absurd (barred_no_landmark t f out reach mark))
landmark_judged t f (Some n) out low = (λ e. landmark_barred t f (λ reach. no_goal_missed (barred t f) n reach low.holds), λ mark. refl)
