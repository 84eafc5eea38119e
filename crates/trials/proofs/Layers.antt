-- The layers and the reach of a task, computed.
use Rattle.std.proofs.Common.{◌≡◌, ℕ, zero, suc, ◌+◌, ◌-◌, ◌<◌, Bool, true, false, not, eqb, ltb, ◌⊎◌, List, get_or, Some, None, Option, sym, refl, subst, inl, inr, arith}
use Rattle.std.proofs.lemmas.Bool.{cases_lt, cases_eq, cases_Bool, not-true, false≢true, ltb-true, ltb-false}
use Rattle.task.specs.Task.{Task, Fact, Goal, Needs, Gives, Lawful, Numbered, fact, offset, facts}
use Rattle.task.specs.Paths.{State, Holds, barred, gives?}
use Rattle.task.specs.Limits.{barred_lawful}
use Rattle.task.proofs.Inside.{need_var, present_in}
use Rattle.task.proofs.Numbers.{numbered_below, numbered_unique}
use Rattle.reach.specs.Relaxed.{Reach, GoalInReach, Layer, Level, LayerCount}
use Rattle.reach.proofs.Bound.{stop}
use Rattle.reach.proofs.LayerFacts.{layer_in, layer_all, layer_reach, reach_layer}
use Rattle.rules.specs.Marks.{Landmark}
use Rattle.rules.specs.Machine.{Lowest, MissedGoal, GoalLevel}
use Rattle.rules.proofs.Barring.{landmark_test_lem}
use Rattle.rules.proofs.Reachable.{Each, layer_later, goal_var, goal_reached_together_lem}
use Rattle.trials.proofs.Tests.{choose, choose_both, both, either, Says, refuted, says_as, says_both, says_either, says_not, says_true, says_eq, says_less, says_is, some_below, says_below, each, says_each, each_false, lowest, Found, lowest_found}

-- the fact of a number
abbrev pub located : (ℕ → ℕ) → ℕ → ℕ → Fact
located size zero n = fact 0 n
located size (suc v) n = choose (ltb n (offset size v)) (λ _. located size v n) (λ _. fact v (n - offset size v))

abbrev pub fact_of : Task → ℕ → Fact
fact_of t n = located t.size t.vars n

abbrev Stands : (ℕ → ℕ) → ℕ → ℕ → Fact → Type 0
Stands size k n f = (f.variable < k) × (f.value < size f.variable) × (n ≡ offset size f.variable + f.value)

located_stands : (size : ℕ → ℕ) (k n : ℕ) → n < offset size k → Stands size k n (located size k n)
located_stands size zero n l = absurd (let z : ⊥ = omega arith in z)
located_stands size (suc v) n l =
    choose_both (ltb n (offset size v)) (located size v n) (fact v (n - offset size v)) (Stands size (suc v) n)
    (λ e. let h = located_stands size v n (ltb-true n (offset size v) e) in (omega (arith, h.0), h.1, h.2))
    (λ e. let g = ltb-false n (offset size v) e in (omega arith, omega arith, omega arith))

pub numbered_of : (t : Task) (n : ℕ) → n < facts t → Numbered t n (fact_of t n)
numbered_of t n l = let h = located_stands t.size t.vars n l in record { in_vars = h.0; in_size = h.1; is = h.2 }

-- a test of the fact of a number
pub says_numbered : (t : Task) {P : Fact → Type 0} {b : Bool} (n : ℕ) → n < facts t → Says b (P (fact_of t n)) → Says b ((f : Fact) × Numbered t n f × P f)
says_numbered t {P} n l s = says_as (λ p. (fact_of t n, numbered_of t n l, p)) (λ h. subst P (numbered_unique h.1 (numbered_of t n l)) h.2) s

-- whether a fact holds in a state
abbrev pub holding : Task → State → Fact → Bool
holding t s f = both (ltb f.variable t.vars) (λ _. eqb (s f.variable) f.value)

pub says_holding : (t : Task) (s : State) (f : Fact) → Says (holding t s f) (Holds t s f)
says_holding t s f = says_both (says_less f.variable t.vars) (says_eq (s f.variable) f.value)

-- whether an action achieves a fact and needs only what a test says so of
abbrev pub adding : Task → (Fact → Bool) → Fact → ℕ → Bool
adding t p f a = both (t.present a) (λ _. both (gives? (t.give a f.variable) f.value) (λ _. each (t.need a) p t.vars))

abbrev Adding : Task → (Fact → Type 0) → Fact → ℕ → Type 0
Adding t P f a = (t.present a ≡ true) × (Gives t a f × Each (t.need a) P t.vars)

says_adding : (t : Task) {P : Fact → Type 0} (p : Fact → Bool) → ((g : Fact) → Says (p g) (P g)) → (f : Fact) (a : ℕ) → Says (adding t p f a) (Adding t P f a)
says_adding t p s f a = says_both (says_true (t.present a)) (says_both (says_is (t.give a f.variable) f.value) (says_each (t.need a) p s t.vars))

-- whether a layer has a fact
abbrev pub layered : Task → ℕ → Fact → Bool
layered t zero f = holding t t.start f
layered t (suc n) f = either (layered t n f) (λ _. some_below t.actions (adding t (layered t n) f))

-- whether a fact is in reach
abbrev pub reached : Task → Fact → Bool
reached t f = layered t (facts t - t.vars) f

-- whether the goal is
abbrev pub near : Task → Bool
near t = each t.goal (reached t) t.vars

-- whether a fact is a landmark
abbrev pub marked : Task → Fact → Bool
marked t f = either (holding t t.start f) (λ _. not (near (barred t f)))

-- whether a goal fact is out of reach
abbrev pub missed : Task → Fact → Bool
missed t f = both (gives? (t.goal f.variable) f.value) (λ _. not (reached t f))

-- whether a layer has the goal, and the first that has it
abbrev pub goal_layered : Task → ℕ → Bool
goal_layered t n = each t.goal (layered t n) t.vars

abbrev GoalIn : Task → ℕ → Type 0
GoalIn t n = Each t.goal (Layer t n) t.vars

abbrev pub or_zero : Option ℕ → ℕ
or_zero (Some n) = n
or_zero None = 0

abbrev pub goal_layer : Task → ℕ
goal_layer t = or_zero (lowest (goal_layered t) (suc (facts t - t.vars)))

module _ {t : Task} (law : Lawful t) where
  -- the actions that add a fact are among those of the task
  adds_to : (P : Fact → Type 0) (f : Fact) → (a : ℕ) × (a < t.actions) × Adding t P f a → (a : ℕ) × (t.present a ≡ true) × Gives t a f × ((g : Fact) → Needs t a g → P g)
  adds_to P f (a, l, h) = (a, h.0, h.1.0, λ g needs. h.1.1 g (need_var law a g.variable g.value needs) needs)

  adds_from : (P : Fact → Type 0) (f : Fact) → (a : ℕ) × (t.present a ≡ true) × Gives t a f × ((g : Fact) → Needs t a g → P g) → (a : ℕ) × (a < t.actions) × Adding t P f a
  adds_from P f (a, here, gives, needs) = (a, present_in law a here, (here, (gives, λ g l need. needs g need)))

  pub says_layered : (n : ℕ) (f : Fact) → Says (layered t n f) (Layer t n f)
  says_layered zero f = says_holding t t.start f
  says_layered (suc n) f =
      says_either (says_layered n f)
      (says_as (adds_to (Layer t n) f) (adds_from (Layer t n) f) (says_below (adding t (layered t n) f) (says_adding t (layered t n) (says_layered n) f) t.actions))

  -- what is in reach is in the layer of the bound
  reach_bound : (f : Fact) → Reach t f → Layer t (facts t - t.vars) f
  reach_bound f r =
      let (n, few, stays) = stop law in
      let (m, has) = reach_layer t f r in
      layer_later t n (facts t - t.vars) f few (layer_all t n stays m f has)

  pub says_reached : (f : Fact) → Says (reached t f) (Reach t f)
  says_reached f = says_as (layer_reach law (facts t - t.vars) f) (reach_bound f) (says_layered (facts t - t.vars) f)

  pub says_near : Says (near t) (GoalInReach t)
  says_near =
      says_as (λ h. (goal_reached_together_lem t law).1 (λ f g. h f (goal_var law f g) g)) (λ h f l g. (goal_reached_together_lem t law).0 h f g)
      (says_each t.goal (reached t) says_reached t.vars)

  pub says_missed : (n : ℕ) → n < facts t → Says (missed t (fact_of t n)) (MissedGoal t n)
  says_missed n l =
      let f = fact_of t n in
      says_as (λ (f, is, p). (f, is, p.0, p.1)) (λ (f, is, g, far). (f, is, (g, far)))
      (says_numbered t {P = λ f. Goal t f × (Reach t f → ⊥)} n l
      (says_both (says_is (t.goal f.variable) f.value) (says_not (says_reached f))))

  pub missed_found : Found (MissedGoal t) (facts t) (lowest (λ n. missed t (fact_of t n)) (facts t))
  missed_found = lowest_found {P = MissedGoal t} (λ n. missed t (fact_of t n)) (facts t) says_missed

  -- a level and the number of layers, from what computes
  pub level_at : (f : Fact) (n : ℕ) → layered t (suc n) f ≡ true → layered t n f ≡ false → Level t f (suc n)
  level_at f n here before = record {
    has = (says_layered (suc n) f).holds here;
    first = λ m has. elim (cases_lt n m) [ inl l ↦ l | inr g ↦ absurd (refuted (says_layered n f) before (layer_later t m n f g has)) ];
  }

  pub level_start : (f : Fact) → layered t 0 f ≡ true → Level t f 0
  level_start f here = record { has = (says_layered 0 f).holds here; first = λ m has. omega arith }

  says_goal : (n : ℕ) → Says (goal_layered t n) (GoalIn t n)
  says_goal n = says_each t.goal (layered t n) (says_layered n) t.vars

  goal_first : (n : ℕ) → Lowest (GoalIn t) n → (n ≡ 0) ⊎ ((f : Fact) × Goal t f × Level t f n)
  goal_first zero low = inl refl
  goal_first (suc n) low =
      let out : goal_layered t n ≡ false = elim (cases_Bool (goal_layered t n)) [ inl e ↦ absurd (low.first n (omega arith) ((says_goal n).holds e)) | inr e ↦ e ] in
      let (f, g, off) = each_false t.goal (layered t n) t.vars out in
      inr (f, g, level_at f n ((says_layered (suc n) f).shown (low.holds f (goal_var law f g) g)) off)

  goal_found : GoalInReach t → (o : Option ℕ) → Found (GoalIn t) (suc (facts t - t.vars)) o → GoalLevel t (or_zero o)
  goal_found goal (Some n) low = record { most = λ f g. low.holds f (goal_var law f g) g; reaches = goal_first n low }
  goal_found goal None none = absurd (none (facts t - t.vars) (omega arith) (λ f l g. reach_bound f ((goal_reached_together_lem t law).0 goal f g)))

  -- the first layer that has the goal is the goal's level
  pub goal_level_lem : GoalInReach t → GoalLevel t (goal_layer t)
  goal_level_lem goal = goal_found goal (lowest (goal_layered t) (suc (facts t - t.vars))) (lowest_found {P = GoalIn t} (goal_layered t) (suc (facts t - t.vars)) (λ n l. says_goal n))

-- the test for a landmark
pub says_marked : {t : Task} → Lawful t → (f : Fact) → Says (marked t f) (Landmark t f)
says_marked {t} law f =
    says_as (landmark_test_lem t f).1 (landmark_test_lem t f).0
    (says_either (says_holding t t.start f) (says_not (says_near (barred_lawful law f))))

-- a level by the number of its fact, and all levels
abbrev pub at_level : Task → Fact → ℕ → Bool
at_level t f zero = layered t 0 f
at_level t f (suc n) = both (layered t (suc n) f) (λ _. not (layered t n f))

abbrev pub at_levels : Task → List ℕ → ℕ → Bool
at_levels t ns zero = true
at_levels t ns (suc n) = both (at_level t (fact_of t n) (get_or ns n 0)) (λ _. at_levels t ns n)

pub both_parts : (a : Bool) (k : Unit {0} → Bool) → both a k ≡ true → (a ≡ true) × (k tt ≡ true)
both_parts true k e = (refl, e)
both_parts false k e = absurd (false≢true e)

level_by : {t : Task} → Lawful t → (f : Fact) (n : ℕ) → at_level t f n ≡ true → Level t f n
level_by law f zero e = level_start law f e
level_by {t} law f (suc n) e = let (here, off) = both_parts (layered t (suc n) f) (λ _. not (layered t n f)) e in level_at law f n here (not-true (layered t n f) off)

pub levels_by : {t : Task} → Lawful t → (ns : List ℕ) (k : ℕ) → at_levels t ns k ≡ true → (n : ℕ) → n < k → Level t (fact_of t n) (get_or ns n 0)
levels_by law ns zero e n l = absurd (let z : ⊥ = omega arith in z)
levels_by {t} law ns (suc k) e n l =
    let (here, below) = both_parts (at_level t (fact_of t k) (get_or ns k 0)) (λ _. at_levels t ns k) e in
    elim (cases_eq n k) [
      | inl q ↦ subst (λ j. Level t (fact_of t j) (get_or ns j 0)) (sym q) (level_by law (fact_of t k) (get_or ns k 0) here)
      | inr ne ↦ levels_by law ns k below n (omega arith)
    ]

-- a layer that has all of its next
abbrev pub growing : Task → ℕ → ℕ → Bool
growing t n i = both (layered t (suc n) (fact_of t i)) (λ _. not (layered t n (fact_of t i)))

pub closed_by : {t : Task} → Lawful t → (n : ℕ) → some_below (facts t) (growing t n) ≡ false → (f : Fact) → Layer t (suc n) f → Layer t n f
closed_by {t} law n e f h = elim (cases_Bool (layered t n f)) [
  | inl there ↦ (says_layered law n f).holds there
  | inr off ↦ absurd (refuted all e (offset t.size f.variable + f.value, numbered_below at, subst Grows same (h, refuted (says_layered law n f) off)))
]
  where
    at : Numbered t (offset t.size f.variable + f.value) f
    at = let (a, b) = layer_in law (suc n) f h in record { in_vars = a; in_size = b; is = refl }

    Grows : Fact → Type 0
    Grows g = Layer t (suc n) g × (Layer t n g → ⊥)

    same : f ≡ fact_of t (offset t.size f.variable + f.value)
    same = numbered_unique at (numbered_of t (offset t.size f.variable + f.value) (numbered_below at))

    all : Says (some_below (facts t) (growing t n)) ((i : ℕ) × (i < facts t) × (Layer t (suc n) (fact_of t i) × (Layer t n (fact_of t i) → ⊥)))
    all = says_below (growing t n) (λ i. says_both (says_layered law (suc n) (fact_of t i)) (says_not (says_layered law n (fact_of t i)))) (facts t)

-- and is the first
pub count_by : {t : Task} (n : ℕ) (f : Fact) → Level t f n → ((g : Fact) → Layer t (suc n) g → Layer t n g) → LayerCount t n
count_by {t} n f level closed = record { closed = closed; least = λ m stays. level.first m (layer_all t m stays n f level.has) }
