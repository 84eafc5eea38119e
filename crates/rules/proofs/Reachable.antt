-- Of a lawful task it is decided what its layers have and what is in reach.
use Rattle.std.proofs.Common.{◌≡◌, ℕ, zero, suc, ◌+◌, ◌<◌, ◌≤◌, ◌⊎◌, List, [], ◌++◌, Some, None, Option, sym, refl, ap, ◌∙◌, subst, inl, inr, not-suc-le-zero, arith}
use native.Mathlib.Decide.{dec_lt}
use Rattle.std.proofs.lemmas.Bool.{cases_lt, cases_Bool, both_ways}
use Rattle.task.specs.Task.{Task, Fact, Goal, Lawful, Numbered, fact, offset}
use Rattle.task.proofs.Numbers.{numbered, numbered_below, numbered_unique}
use Rattle.task.proofs.Options.{no_some, some_same, dec_some}
use Rattle.reach.specs.Relaxed.{Has, Relaxed, Reach, GoalInReach, Layer, Level}
use Rattle.reach.specs.Layering.{value_of, layer}
use Rattle.reach.specs.Measures.{reaches}
use Rattle.reach.proofs.Bound.{stop}
use Rattle.reach.proofs.LayerFacts.{layer_in, layer_all, layer_reach, reach_layer}
use Rattle.reach.proofs.Reaching.{reached_sound, reached_complete}
use Rattle.reach.proofs.Sequences.{relaxed_none, relaxed_++, has_left, has_right}
use Rattle.rules.specs.Marked.{GoalReachedTogether}
use Rattle.rules.specs.Machine.{Lowest, MissedGoal}
use Rattle.rules.proofs.Deciding.{scan}
use Rattle.rules.proofs.Soundness.{no_goal_missed}

-- what follows from each other is decided together
pub dec_as : {A B : Type 0} → (A → B) → (B → A) → Dec A → Dec B
dec_as to from (yes a) = yes (to a)
dec_as to from (no out) = no λ b. out (from b)

-- the two together
pub dec_both : {A B : Type 0} → Dec A → Dec B → Dec (A × B)
dec_both (yes a) (yes b) = yes (a, b)
dec_both (yes a) (no out) = no λ p. out p.1
dec_both (no out) d = no λ p. out p.0

-- either
pub dec_either : {A B : Type 0} → Dec A → Dec B → Dec (A ⊎ B)
dec_either (yes a) d = yes (inl a)
dec_either (no out) (yes b) = yes (inr b)
dec_either (no out) (no off) = no λ e. elim e [ inl a ↦ out a | inr b ↦ off b ]

-- neither
pub dec_not : {A : Type 0} → Dec A → Dec (A → ⊥)
dec_not (yes a) = no λ out. out a
dec_not (no out) = yes out

-- what is decided and not refuted holds
pub settled : {A : Type 0} → Dec A → ((A → ⊥) → ⊥) → A
settled (yes a) h = a
settled (no out) h = absurd (h out)

-- whether a number is one of a fact of which P holds
pub dec_numbered : (t : Task) (P : Fact → Type 0) → ((f : Fact) → Dec (P f)) → (n : ℕ) → Dec ((f : Fact) × Numbered t n f × P f)
dec_numbered t P decide n = elim (cases_lt n (offset t.size t.vars)) [
  | inl low ↦ at (numbered t n low)
  | inr past ↦ no λ (f, is, p). let z : ⊥ = omega (arith, numbered_below is) in z
]
  where
    at : (f : Fact) × Numbered t n f → Dec ((f : Fact) × Numbered t n f × P f)
    at (f, is) = dec_as (λ p. (f, is, p)) (λ (g, was, p). subst P (numbered_unique was is) p) (decide f)

-- of a decided P there is a lowest number below n, or none
pub lowest_or_none : (P : ℕ → Type 0) → ((i : ℕ) → Dec (P i)) → (n : ℕ) → ((m : ℕ) × Lowest P m) ⊎ ((i : ℕ) → i < n → P i → ⊥)
lowest_or_none P decide n = elim (scan P decide n) [
  | inl (m, l, p, before) ↦ inl (m, record { holds = p; first = before })
  | inr none ↦ inr none
]

-- P holds of each fact that a row has for the variables below k
abbrev pub Each : (ℕ → Option ℕ) → (Fact → Type 0) → ℕ → Type 0
Each row P k = (f : Fact) → f.variable < k → row f.variable ≡ Some f.value → P f

-- whether it does
module _ (row : ℕ → Option ℕ) (P : Fact → Type 0) (decide : (f : Fact) → Dec (P f)) where
  each_more : (k : ℕ) → Each row P k → ((x : ℕ) → row k ≡ Some x → P (fact k x)) → Each row P (suc k)
  each_more k below here f l e = elim (cases_lt f.variable k) [
    | inl low ↦ below f low e
    | inr top ↦
        let at : f.variable ≡ k = omega arith in
        let same : fact k f.value ≡ f = λ i. record { variable = sym at i; value = f.value } in
        subst P same (here f.value (subst (λ w. row w ≡ Some f.value) at e))
  ]

  pub dec_each : (k : ℕ) → Dec (Each row P k)
  dec_each zero = yes λ f l. absurd (not-suc-le-zero l)
  dec_each (suc k) = go (dec_each k) (row k) refl
    where
      go : Dec (Each row P k) → (o : Option ℕ) → row k ≡ o → Dec (Each row P (suc k))
      go (no out) o e = no λ all. out (λ f l. all f (omega arith))
      go (yes below) None e = yes (each_more k below (λ x h. absurd (no_some x (sym e ∙ h))))
      go (yes below) (Some x) e = dec_as (λ p. each_more k below (λ y h. subst (λ z. P (fact k z)) (some_same x y (sym e ∙ h)) p)) (λ all. all (fact k x) (omega arith) e) (decide (fact k x))

-- a later layer has what an earlier one has
pub layer_later : (t : Task) (m n : ℕ) (f : Fact) → m ≤ n → Layer t m f → Layer t n f
layer_later t m zero f l h = subst (λ k. Layer t k f) (let e : m ≡ 0 = omega arith in e) h
layer_later t m (suc n) f l h = elim (cases_lt n m) [
  | inl top ↦ subst (λ k. Layer t k f) (let e : m ≡ suc n = omega arith in e) h
  | inr low ↦ inl (layer_later t m n f low h)
]

module _ {t : Task} (law : Lawful t) where
  -- whether a layer has a fact
  pub dec_layer : (n : ℕ) (f : Fact) → Dec (Layer t n f)
  dec_layer n f = go (dec_lt f.variable t.vars) (dec_lt f.value (t.size f.variable))
    where
      go : Dec (f.variable < t.vars) → Dec (f.value < t.size f.variable) → Dec (Layer t n f)
      go (yes h) (yes k) = elim (cases_Bool (value_of reaches t (layer reaches t n) f.variable f.value).yes) [
        | inl e ↦ yes (reached_sound law n f.variable f.value h k e)
        | inr e ↦ no λ has. both_ways _ e (reached_complete law n f has)
      ]
      go (yes h) (no k) = no λ has. k (layer_in law n f has).1
      go (no h) k = no λ has. h (layer_in law n f has).0

  -- whether a fact is in reach
  pub dec_reach : (f : Fact) → Dec (Reach t f)
  dec_reach f =
      let (n, few, stays) = stop law in
      dec_as (layer_reach law n f) (λ r. let (m, has) = reach_layer t f r in layer_all t n stays m f has) (dec_layer n f)

  -- a fact in reach has a level
  pub reach_level : (f : Fact) → Reach t f → (n : ℕ) × Level t f n
  reach_level f r =
      let (m, has) = reach_layer t f r in
      elim (scan (λ n. Layer t n f) (λ n. dec_layer n f) (suc m)) [
        | inl (n, l, here, before) ↦ (n, record { has = here; first = λ k at. elim (cases_lt k n) [ inl low ↦ absurd (before k low at) | inr up ↦ up ] })
        | inr none ↦ absurd (none m (omega arith) has)
      ]

  -- a goal fact is one of the task
  pub goal_var : (f : Fact) → Goal t f → f.variable < t.vars
  goal_var f g = elim (cases_lt f.variable t.vars) [ inl l ↦ l | inr past ↦ absurd (no_some f.value (sym (law.goal_out f.variable past) ∙ g)) ]

  pub goal_numbered : (f : Fact) → Goal t f → Numbered t (offset t.size f.variable + f.value) f
  goal_numbered f g = record { in_vars = goal_var f g; in_size = law.goal_in f.variable f.value g; is = refl }

  -- goal facts that are each in reach are in reach together
  module _ (each : (f : Fact) → Goal t f → Reach t f) where
    abbrev Together : ℕ → Type 0
    Together k = (p : List ℕ) × Relaxed t p × ((g : Fact) → g.variable < k → Goal t g → Has t p g)

    one_more : (k : ℕ) (o : Option ℕ) → t.goal k ≡ o → Together k → Together (suc k)
    one_more k None e (p, r, has) = (
      p,
      r,
      λ g l goal.
          elim (cases_lt g.variable k) [
            | inl below ↦ has g below goal
            | inr top ↦ let at : g.variable ≡ k = omega arith in absurd (no_some g.value (sym e ∙ ap t.goal (sym at) ∙ goal))
          ],
    )
    one_more k (Some x) e (p, r, has) =
        let (q, s, it) = each (fact k x) e in (
          p ++ q,
          relaxed_++ t p q r s,
          λ g l goal.
              elim (cases_lt g.variable k) [
                | inl below ↦ has_left t p q g (has g below goal)
                | inr top ↦
                    let at : g.variable ≡ k = omega arith in
                    let is : g.value ≡ x = some_same g.value x (sym goal ∙ ap t.goal at ∙ e) in
                    let same : g ≡ fact k x = λ i. record { variable = at i; value = is i } in
                    has_right t p q g (subst (Has t q) (sym same) it)
              ],
        )

    together : (k : ℕ) → Together k
    together zero = ([], relaxed_none t, λ g l. absurd (not-suc-le-zero l))
    together (suc k) = one_more k (t.goal k) refl (together k)

    pub goal_together : GoalInReach t
    goal_together = let (p, r, has) = together t.vars in (p, r, λ f goal. has f (goal_var f goal) goal)

  -- a goal fact is missed, or the goal is in reach
  pub goal_or_missed : ((n : ℕ) × Lowest (MissedGoal t) n) ⊎ GoalInReach t
  goal_or_missed = elim (lowest_or_none (MissedGoal t) decide (offset t.size t.vars)) [
    | inl found ↦ inl found
    | inr none ↦ inr (goal_together (λ f g. settled (dec_reach f) (λ far. none _ (numbered_below (goal_numbered f g)) (f, goal_numbered f g, g, far))))
  ]
    where
      decide : (n : ℕ) → Dec (MissedGoal t n)
      decide n = dec_as (λ (f, is, p). (f, is, p.0, p.1)) (λ (f, is, g, far). (f, is, (g, far)))
          (dec_numbered t (λ f. Goal t f × (Reach t f → ⊥)) (λ f. dec_both (dec_some (t.goal f.variable) f.value) (dec_not (dec_reach f))) n)

  -- whether the goal is in reach
  pub dec_goal : Dec (GoalInReach t)
  dec_goal = elim goal_or_missed [ inl (n, low) ↦ no λ near. no_goal_missed t n near low.holds | inr near ↦ yes near ]

-- the goal is in reach exactly when each goal fact is
pub goal_reached_together_lem : GoalReachedTogether
goal_reached_together_lem t law = (λ (p, r, has) f g. (p, r, has f g), goal_together law)
