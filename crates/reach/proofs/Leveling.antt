-- The layers of the measure `AtLevel` say in which layer of the task a fact is first.
use Rattle.std.proofs.Common.{◌≡◌, ℕ, zero, suc, ◌+◌, ◌<◌, ◌≤◌, min, max, true, false, cond, ◌&&◌, eqb, ◌⊎◌, List, take, Some, None, Option, sym, refl, ap, ◌∙◌, subst, inl, inr, arith}
use Rattle.std.proofs.lemmas.Bool.{cases_Bool, cases_eq, cases_lt, cond-true, cond-false, cond_both, eqb-true, eq-eqb, ne_eqb}
use Rattle.task.specs.Task.{Task, Fact, Lawful, fact, facts}
use Rattle.task.specs.Paths.{gives?}
use Rattle.task.proofs.Inside.{need_var, present_in}
use Rattle.task.proofs.Numbers.{numbered_below}
use Rattle.reach.specs.declared.measure.AtLevel.{AtLevel}
use Rattle.reach.specs.Built.{LevelIs, LevelsBuilt}
use Rattle.reach.specs.Layering.{value_of, and_need, conditions, made_by, raised, layer, Closed}
use Rattle.reach.specs.Measures.{levels, layer_of, of_level}
use Rattle.reach.specs.Relaxed.{Layer, LayerCount, Level}
use Rattle.reach.proofs.Bound.{stop}
use Rattle.reach.proofs.LayerFacts.{layer_in, layer_all, reach_layer}
use Rattle.reach.proofs.FactValues.{first_at, next_at, length_layer, same_table, front_value}
use Rattle.reach.proofs.Thresholds.{Threshold, conditions_hold, conditions_all, raised_sound, raised_keeps, raised_gains}

-- a level at most m, and one that a step leads to it
abbrev AtMost : ℕ → AtLevel → Type 0
AtMost m r = r.level ≤ m

abbrev Before : ℕ → AtLevel → Type 0
Before m r = r.level < m

at_most : (m : ℕ) → Threshold levels (Before m) (AtMost m)
at_most m = record {
  join_parts = λ x y h. (omega arith, omega arith);
  join_from = λ x y h k. omega arith;
  better_parts = λ x y h. elim (cases_lt m x.level) [ inl l ↦ inr (omega arith) | inr g ↦ inl g ];
  better_left = λ x y h. omega arith;
  better_right = λ x y h. omega arith;
  step_out = λ x h. omega arith;
}

before_step : (m : ℕ) → m < 65535 → (x : AtLevel) → AtMost m (levels.step x) → Before m x
before_step m s x h = omega arith

-- at most n, or none
abbrev Low : ℕ → ℕ → Type 0
Low n k = (k ≤ n) ⊎ (k ≡ 65535)

-- joining, bettering and stepping keep that
max_low : (n j k : ℕ) → n < 65535 → Low n j → Low n k → Low n (max j k)
max_low n j k h (inl p) (inl q) = inl (omega arith)
max_low n j k h (inl p) (inr q) = inr (omega arith)
max_low n j k h (inr p) (inl q) = inr (omega arith)
max_low n j k h (inr p) (inr q) = inr (omega arith)

min_low : (n j k : ℕ) → n < 65535 → Low n j → Low n k → Low n (min j k)
min_low n j k h (inl p) (inl q) = inl (omega arith)
min_low n j k h (inl p) (inr q) = inl (omega arith)
min_low n j k h (inr p) (inl q) = inl (omega arith)
min_low n j k h (inr p) (inr q) = inr (omega arith)

step_low : (n k : ℕ) → suc n < 65535 → Low n k → Low (suc n) (min (k + 1) 65535)
step_low n k h (inl p) = inl (omega arith)
step_low n k h (inr p) = inr (omega arith)

more_low : (n k : ℕ) → Low n k → Low (suc n) k
more_low n k (inl p) = inl (omega arith)
more_low n k (inr p) = inr p

-- so do the conditions of an action, and the next layer
need_low : (row : ℕ → AtLevel) (e : Option ℕ) (acc : AtLevel) (n : ℕ) → n < 65535 → Low n acc.level → ((y : ℕ) → e ≡ Some y → Low n (row y).level) → Low n (and_need levels row e acc).level
need_low row None acc n h low each = low
need_low row (Some x) acc n h low each = max_low n acc.level (row x).level h low (each x refl)

module _ (t : Task) (f : ℕ → ℕ → AtLevel) where
  conditions_low : (a k n : ℕ) → n < 65535 → ((w y : ℕ) → t.need a w ≡ Some y → Low n (f w y).level) → Low n (conditions levels t f a k).level
  conditions_low a zero n h each = inl (omega arith)
  conditions_low a (suc k) n h each = need_low (f k) (t.need a k) (conditions levels t f a k) n h (conditions_low a k n h each) (each k)

  -- what an action offers
  abbrev offer_of : ℕ → ℕ
  offer_of a = min ((conditions levels t f a t.vars).level + 1) 65535

  raised_low : (k n v x : ℕ) → suc n < 65535 → Low n (f v x).level → ((a w y : ℕ) → t.need a w ≡ Some y → Low n (f w y).level) → Low (suc n) (raised levels t f k v x).level
  raised_low zero n v x h low each = more_low n (f v x).level low
  raised_low (suc k) n v x h low each =
      let before = raised levels t f k v x in
      let old = raised_low k n v x h low each in
      elim (t.present k && gives? (t.give k v) x) as (λ b. Low (suc n) (cond b (levels.better before (made_by levels t f k)) before).level) [
        | true ↦ min_low (suc n) before.level (offer_of k) h old (step_low n (conditions levels t f k t.vars).level h (conditions_low k t.vars n (omega arith) (each k)))
        | false ↦ old
      ]

module _ {t : Task} (lawful : Lawful t) where
  abbrev at : ℕ → ℕ → ℕ → AtLevel
  at n v x = value_of levels t (layer levels t n) v x

  -- at the layer n a level is at most n, or none
  level_low : (n v x : ℕ) → n < 65535 → v < t.vars → x < t.size v → Low n (at n v x).level
  level_low zero v x s h k =
      subst (λ (r : AtLevel). Low 0 r.level) (sym (first_at levels lawful v x h k))
      (cond_both (eqb (t.start v) x) (of_level 0) (of_level 65535) (λ r. Low 0 r.level) (λ _. inl (omega arith)) (λ _. inr refl))
  level_low (suc n) v x s h k =
      subst (λ (r : AtLevel). Low (suc n) r.level) (sym (next_at levels lawful n v x h k))
      (raised_low t (at n) t.actions n v x s (level_low n v x (omega arith) h k)
      (λ a w y e. level_low n w y (omega arith) (need_var lawful a w y e) (lawful.need_in a w y e)))

  -- a fact with a level at most m is in the layer m, as far as the layers are computed
  level_sound : (n m v x : ℕ) → m ≤ n → n < 65535 → v < t.vars → x < t.size v → (at n v x).level ≤ m → Layer t m (fact v x)
  level_sound zero zero v x l s h k e =
      elim (cases_Bool (eqb (t.start v) x)) [
        | inl q ↦ (h, eqb-true (t.start v) x q)
        | inr q ↦ absurd (omega (arith, ap (λ (r : AtLevel). r.level) (first_at levels lawful v x h k ∙ cond-false (eqb (t.start v) x) (of_level 0) (of_level 65535) q)))
      ]
  level_sound zero (suc m) v x l s h k e = absurd (omega arith)
  level_sound (suc n) zero v x l s h k e =
      elim (raised_sound (at_most 0) t (at n) (before_step 0 (omega arith)) t.actions v x (subst (AtMost 0) (next_at levels lawful n v x h k) e)) [
        | inl q ↦ level_sound n 0 v x (omega arith) (omega arith) h k q
        | inr p ↦ absurd (omega (arith, p.3))
      ]
  level_sound (suc n) (suc m) v x l s h k e =
      elim (raised_sound (at_most (suc m)) t (at n) (before_step (suc m) (omega arith)) t.actions v x (subst (AtMost (suc m)) (next_at levels lawful n v x h k) e)) [
        | inl q ↦
            elim (cases_lt m n) [
              | inl below ↦ level_sound n (suc m) v x (omega arith) (omega arith) h k q
              | inr top ↦ elim (level_low n v x (omega arith) h k) [ inl low ↦ inl (level_sound n m v x (omega arith) (omega arith) h k (omega arith)) | inr none ↦ absurd (omega arith) ]
            ]
        | inr p ↦
            inr (
              p.0,
              p.1,
              p.2,
              λ g needs.
                  let inside = need_var lawful p.0 g.variable g.value needs in
                  level_sound n m g.variable g.value (omega arith) (omega arith) inside (lawful.need_in p.0 g.variable g.value needs)
                  (omega (arith, conditions_hold (at_most (suc m)) t (at n) p.0 t.vars p.3 g.variable g.value inside needs)),
            )
      ]

  -- levels never rise
  next_less : (n v x : ℕ) → v < t.vars → x < t.size v → (at (suc n) v x).level ≤ (at n v x).level
  next_less n v x h k = subst (AtMost (at n v x).level) (sym (next_at levels lawful n v x h k)) (raised_keeps (at_most (at n v x).level) t (at n) t.actions v x (omega arith))

  -- a fact in the layer m has a level at most m
  level_complete : (n m : ℕ) (f : Fact) → m ≤ n → n < 65535 → Layer t m f → (at n f.variable f.value).level ≤ m
  level_complete zero zero f l s h =
      let inside = layer_in lawful 0 f h in
      omega (arith, ap (λ (r : AtLevel). r.level) (first_at levels lawful f.variable f.value inside.0 inside.1 ∙ cond-true (eqb (t.start f.variable) f.value) (of_level 0) (of_level 65535) (eq-eqb (t.start f.variable) f.value h.1)))
  level_complete zero (suc m) f l s h = absurd (omega arith)
  level_complete (suc n) zero f l s h =
      let inside = layer_in lawful 0 f h in
      omega (arith, next_less n f.variable f.value inside.0 inside.1, level_complete n 0 f (omega arith) (omega arith) h)
  level_complete (suc n) (suc m) f l s h =
      let inside = layer_in lawful (suc m) f h in
      let v = f.variable in
      let x = f.value in
      let less = next_less n v x inside.0 inside.1 in
      elim (cases_lt m n) [
        | inl below ↦ omega (arith, less, level_complete n (suc m) f (omega arith) (omega arith) h)
        | inr top ↦
            elim h [
              | inl old ↦ omega (arith, less, level_complete n m f (omega arith) (omega arith) old)
              | inr new ↦
                  (let a = new.0 in
                  let met = conditions_all (at_most (suc m)) t (at n) (omega arith) a t.vars (λ w y e. omega (arith, level_complete n m (fact w y) (omega arith) (omega arith) (new.3 (fact w y) e))) in
                  subst (AtMost (suc m)) (sym (next_at levels lawful n v x inside.0 inside.1)) (raised_gains (at_most (suc m)) t (at n) t.actions a v x (present_in lawful a new.1) new.1 new.2 met))
            ]
      ]

  -- where a layer of the task has all of its next, no level falls
  levels_keep : (m v x : ℕ) → suc m < 65535 → ((f : Fact) → Layer t (suc m) f → Layer t m f) → v < t.vars → x < t.size v → (at m v x).level ≤ (at (suc m) v x).level
  levels_keep m v x s stays h k =
      let less = next_less m v x h k in
      elim (level_low (suc m) v x s h k) [
        | inl low ↦
            (let k' = (at (suc m) v x).level in
            let has : Layer t k' (fact v x) = level_sound (suc m) k' v x low s h k (omega arith) in
            elim (cases_lt m k') [
              | inl top ↦ omega (arith, level_complete m m (fact v x) (omega arith) (omega arith) (layer_all t m stays k' (fact v x) has))
              | inr below ↦ level_complete m k' (fact v x) below (omega arith) has
            ])
        | inr none ↦ elim (level_low m v x (omega arith) h k) [ inl low ↦ absurd (omega arith) | inr q ↦ omega arith ]
      ]

  -- so the layer of the measure equals its next
  layers_same : (m : ℕ) → suc m < 65535 → ((f : Fact) → Layer t (suc m) f → Layer t m f) → layer levels t (suc m) ≡ layer levels t m
  layers_same m s stays =
      same_table levels lawful (layer levels t (suc m)) (layer levels t m) (length_layer levels lawful (suc m)) (length_layer levels lawful m)
      (λ v x h k. ap of_level (omega (arith, next_less m v x h k, levels_keep m v x s stays h k)))

  -- the number of layers is small, so that no level is mistaken for none
  level_few : (n : ℕ) → Closed levels t n → n ≤ 256
  level_few n c = let p = stop lawful in omega (arith, c.least p.0 (layers_same p.0 (omega (arith, p.1, lawful.few_facts)) p.2), p.1, lawful.few_facts)

  -- a layer of the measure that equals its next is a layer of the task that has all of its next
  level_stays : (n : ℕ) → Closed levels t n → (f : Fact) → Layer t (suc n) f → Layer t n f
  level_stays n c f h =
      let few = level_few n c in
      let inside = layer_in lawful (suc n) f h in
      let v = f.variable in
      let x = f.value in
      let same = ap (λ (r : AtLevel). r.level) (ap (λ xs. value_of levels t xs v x) c.same) in
      let met = level_complete (suc n) (suc n) f (omega arith) (omega arith) h in
      elim (level_low n v x (omega arith) inside.0 inside.1) [
        | inl low ↦ level_sound n n v x (omega arith) (omega arith) inside.0 inside.1 low
        | inr none ↦ absurd (omega (arith, same))
      ]

  -- the number of layers of the measure is that of the task
  pub level_count : (n : ℕ) → Closed levels t n → LayerCount t n
  level_count n c = record {
    closed = level_stays n c;
    least = λ m stays. elim (cases_lt m n) [ inl l ↦ c.least m (layers_same m (omega (arith, level_few n c)) stays) | inr g ↦ g ];
  }

  -- a level is that of the first layer that has the fact, and none where no layer has it
  level_first : (n : ℕ) → Closed levels t n → (v x : ℕ) → v < t.vars → x < t.size v → (at n v x).level < 65535 → Level t (fact v x) (at n v x).level
  level_first n c v x h k some =
      let few = level_few n c in
      elim (level_low n v x (omega arith) h k) [
        | inl low ↦ record {
          has = level_sound n (at n v x).level v x low (omega arith) h k (omega arith);
          first = λ m has. elim (cases_lt n m) [ inl l ↦ omega arith | inr g ↦ level_complete n m (fact v x) g (omega arith) has ];
        }
        | inr none ↦ absurd (omega arith)
      ]

  level_never : (n : ℕ) → Closed levels t n → (v x : ℕ) → v < t.vars → x < t.size v → 65535 ≤ (at n v x).level → (m : ℕ) → Layer t m (fact v x) → ⊥
  level_never n c v x h k none m has =
      let few = level_few n c in
      omega (arith, level_complete n n (fact v x) (omega arith) (omega arith) (layer_all t n (level_stays n c) m (fact v x) has))

  -- the level that the layer n has for a fact
  level_is : (n : ℕ) → Closed levels t n → (v x : ℕ) → v < t.vars → x < t.size v → LevelIs t (fact v x) (layer_of (at n v x))
  level_is n c v x h k =
      let few = level_few n c in
      let l = (at n v x).level in
      elim (cases_eq l 65535) [
        | inl e ↦
            subst (LevelIs t (fact v x)) (sym (cond-true (eqb l 65535) None (Some l) (eq-eqb l 65535 e)))
            (λ r. let (m, has) = reach_layer t (fact v x) r in level_never n c v x h k (omega arith) m has)
        | inr ne ↦
            subst (LevelIs t (fact v x)) (sym (cond-false (eqb l 65535) None (Some l) (ne_eqb l 65535 ne)))
            (level_first n c v x h k (elim (level_low n v x (omega arith) h k) [ inl low ↦ omega arith | inr none ↦ absurd (ne none) ]))
      ]

  -- of each fact: in which layer it is first
  pub levels_built : (values : List AtLevel) (n : ℕ) → take (facts t) values ≡ layer levels t n → Closed levels t n → LevelsBuilt t values
  levels_built values n e c k f numbered =
      subst (λ r. LevelIs t f (layer_of r)) (front_value values (layer levels t n) k (of_level 65535) (numbered_below numbered) e)
      (rw numbered.is (level_is n c f.variable f.value numbered.in_vars numbered.in_size))
