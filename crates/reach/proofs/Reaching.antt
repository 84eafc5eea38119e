-- The layers of the measure `InReach` are the layers of the task.
use Rattle.std.proofs.Common.{◌≡◌, ℕ, zero, suc, ◌<◌, Bool, true, false, eqb, List, take, Decides, sym, refl, ap, ◌∙◌, subst, inl, inr}
use Rattle.std.proofs.lemmas.Bool.{and_parts, and_from, or_cases, or_left, or_right, cases_Bool, cond-true, cond-false, eqb-true, eq-eqb, false≢true}
use Rattle.task.specs.Task.{Task, Fact, Lawful, fact, facts}
use Rattle.task.proofs.Inside.{need_var, give_var, present_in}
use Rattle.task.proofs.Numbers.{numbered_below}
use Rattle.reach.specs.declared.measure.InReach.{InReach}
use Rattle.reach.specs.Built.{ReachBuilt}
use Rattle.reach.specs.Layering.{value_of, layer, Closed}
use Rattle.reach.specs.Measures.{reaches, of_yes}
use Rattle.reach.specs.Relaxed.{Layer, LayerCount, Reach}
use Rattle.reach.proofs.LayerFacts.{layer_in, layer_all, layer_reach, reach_layer}
use Rattle.reach.proofs.FactValues.{first_at, next_at, length_layer, same_table, front_value}
use Rattle.reach.proofs.Thresholds.{Threshold, conditions_hold, conditions_all, raised_sound, raised_keeps, raised_gains}

-- two tests that tell the same
same_bools : (a b : Bool) → (a ≡ true → b ≡ true) → (b ≡ true → a ≡ true) → a ≡ b
same_bools true true p q = refl
same_bools true false p q = sym (p refl)
same_bools false true p q = q refl
same_bools false false p q = refl

abbrev Yes : InReach → Type 0
Yes r = r.yes ≡ true

says_yes : Threshold reaches Yes Yes
says_yes = record {
  join_parts = λ x y. and_parts x.yes y.yes;
  join_from = λ x y. and_from x.yes y.yes;
  better_parts = λ x y. or_cases x.yes y.yes;
  better_left = λ x y. or_left x.yes y.yes;
  better_right = λ x y. or_right x.yes y.yes;
  step_out = λ x h. h;
}

module _ {t : Task} (lawful : Lawful t) where
  abbrev reached_at : ℕ → ℕ → ℕ → InReach
  reached_at n v x = value_of reaches t (layer reaches t n) v x

  -- what the measure says of a layer the layer has
  pub reached_sound : (n v x : ℕ) → v < t.vars → x < t.size v → (reached_at n v x).yes ≡ true → Layer t n (fact v x)
  reached_sound zero v x h k e =
      elim (cases_Bool (eqb (t.start v) x)) [
        | inl q ↦ (h, eqb-true (t.start v) x q)
        | inr q ↦ absurd (false≢true (ap (λ (r : InReach). r.yes) (sym (first_at reaches lawful v x h k ∙ cond-false (eqb (t.start v) x) _ _ q)) ∙ e))
      ]
  reached_sound (suc n) v x h k e =
      elim (raised_sound says_yes t (reached_at n) (λ r yes_it. yes_it) t.actions v x (subst Yes (next_at reaches lawful n v x h k) e)) [
        | inl l ↦ inl (reached_sound n v x h k l)
        | inr p ↦
            inr (
              p.0,
              p.1,
              p.2,
              λ g needs.
                  let inside = need_var lawful p.0 g.variable g.value needs in
                  reached_sound n g.variable g.value inside (lawful.need_in p.0 g.variable g.value needs)
                  (conditions_hold says_yes t (reached_at n) p.0 t.vars p.3 g.variable g.value inside needs),
            )
      ]

  -- and what the layer has the measure says
  pub reached_complete : (n : ℕ) (f : Fact) → Layer t n f → (reached_at n f.variable f.value).yes ≡ true
  reached_complete zero f h =
      let inside = layer_in lawful 0 f h in
      ap (λ (r : InReach). r.yes) (first_at reaches lawful f.variable f.value inside.0 inside.1 ∙ cond-true (eqb (t.start f.variable) f.value) _ _ (eq-eqb (t.start f.variable) f.value h.1))
  reached_complete (suc n) f (inl h) =
      let inside = layer_in lawful n f h in
      subst Yes (sym (next_at reaches lawful n f.variable f.value inside.0 inside.1)) (raised_keeps says_yes t (reached_at n) t.actions f.variable f.value (reached_complete n f h))
  reached_complete (suc n) f (inr h) =
      let a = h.0 in
      let v = f.variable in
      let x = f.value in
      let met = conditions_all says_yes t (reached_at n) refl a t.vars (λ w y e. reached_complete n (fact w y) (h.3 (fact w y) e)) in
      subst Yes (sym (next_at reaches lawful n v x (give_var lawful a v x h.2) (lawful.give_in a v x h.2)))
      (raised_gains says_yes t (reached_at n) t.actions a v x (present_in lawful a h.1) h.1 h.2 met)

  -- a layer of the task that has all of its next is a layer of the measure that equals its next, and the other way round
  layers_same : (m : ℕ) → ((f : Fact) → Layer t (suc m) f → Layer t m f) → layer reaches t (suc m) ≡ layer reaches t m
  layers_same m stays =
      same_table reaches lawful (layer reaches t (suc m)) (layer reaches t m) (length_layer reaches lawful (suc m)) (length_layer reaches lawful m)
      (λ v x h k.
      ap of_yes (same_bools (reached_at (suc m) v x).yes (reached_at m v x).yes
      (λ e. reached_complete m (fact v x) (stays (fact v x) (reached_sound (suc m) v x h k e)))
      (λ e. reached_complete (suc m) (fact v x) (inl (reached_sound m v x h k e)))))

  pub reach_stays : (n : ℕ) → layer reaches t (suc n) ≡ layer reaches t n → (f : Fact) → Layer t (suc n) f → Layer t n f
  reach_stays n same f h =
      let inside = layer_in lawful (suc n) f h in
      reached_sound n f.variable f.value inside.0 inside.1 (ap (λ (r : InReach). r.yes) (ap (λ xs. value_of reaches t xs f.variable f.value) (sym same)) ∙ reached_complete (suc n) f h)

  -- the number of layers of the measure is that of the task
  pub reach_count : (n : ℕ) → Closed reaches t n → LayerCount t n
  reach_count n c = record { closed = reach_stays n c.same; least = λ m stays. c.least m (layers_same m stays) }

  -- of each fact: whether it is in reach
  pub reach_built : (values : List InReach) (n : ℕ) → take (facts t) values ≡ layer reaches t n → Closed reaches t n → ReachBuilt t values
  reach_built values n is c k f numbered =
      subst (λ (r : InReach). Decides r.yes (Reach t f)) (front_value values (layer reaches t n) k (of_yes false) (numbered_below numbered) is)
      (rw numbered.is (sound, complete))
    where
      sound : (reached_at n f.variable f.value).yes ≡ true → Reach t f
      sound e = layer_reach lawful n f (reached_sound n f.variable f.value numbered.in_vars numbered.in_size e)

      complete : Reach t f → (reached_at n f.variable f.value).yes ≡ true
      complete r = let (m, h) = reach_layer t f r in reached_complete n f (layer_all t n (reach_stays n c.same) m f h)
