-- A table filled from a lawful task holds that task.
use Rattle.std.proofs.Common.{◌≡◌, ℕ, ◌<◌, ◌≤◌, List, length, get_or, map, Some, None, Option, sym, refl, ap, ◌∙◌, subst, inl, inr, arith}
use mathlib.Core.Path.{fun_ext}
use Rattle.std.specs.List.{range_with_len}
use Rattle.std.proofs.lemmas.List.{get_or_past}
use Rattle.std.proofs.lemmas.List.FromFn.{fill_by_all, get_or-map-range_with_len, length-map-range_with_len}
use Rattle.std.proofs.lemmas.Bool.{cases_lt}
use Rattle.task.specs.Task.{Task, Lawful}
use Rattle.task.specs.Single.{KeptLawful}
use Rattle.table.specs.declared.action.Action.{Action}
use Rattle.table.specs.declared.variable.Variable.{Variable}
use Rattle.table.specs.Table.{action_of, no_action, no_variable, places, table_task, variable_of}

-- every value fits a byte
module _ {t : Task} (w : Lawful t) where
  pub small_size : (v : ℕ) → t.size v ≤ 16
  small_size v = elim (cases_lt v t.vars) [ inl h ↦ w.few_size v h | inr h ↦ omega (arith, w.size_out v h) ]

  pub small_start : (v : ℕ) → t.start v < 256
  small_start v =
      elim (cases_lt v t.vars) [
        | inl h ↦ omega (arith, w.start_in v h, small_size v)
        | inr h ↦ omega (arith, w.start_out v h)
      ]

  -- also where it is answered
  pub small_goal : (v : ℕ) (o : Option ℕ) → o ≡ t.goal v → (x : ℕ) → o ≡ Some x → x < 256
  small_goal v o is x e = omega (arith, w.goal_in v x (sym is ∙ e), small_size v)

  pub small_need : (a v x : ℕ) → Some x ≡ t.need a v → x < 256
  small_need a v x e = omega (arith, w.need_in a v x (sym e), small_size v)

  pub small_give : (a v x : ℕ) → Some x ≡ t.give a v → x < 256
  small_give a v x e = omega (arith, w.give_in a v x (sym e), small_size v)

  -- an action says what the task says of the one with that number
  record Says (a : ℕ) (x : Action) : Type 0 where
    present : x.present ≡ t.present a
    needs : (v : ℕ) → get_or x.needs v None ≡ t.need a v
    effects : (v : ℕ) → get_or x.effects v None ≡ t.give a v

  -- past the last variable or action there is none
  blank : (v : ℕ) → t.vars ≤ v → no_variable ≡ variable_of t v
  blank v h = λ i. record { size = sym (w.size_out v h) i; start = sym (w.start_out v h) i; goal = sym (w.goal_out v h) i }

  idle : (a : ℕ) → t.actions ≤ a → Says a no_action
  idle a h = record {
    present = sym (w.present_out a h);
    needs = λ v. sym (w.need_past a v h);
    effects = λ v. sym (w.give_past a v h);
  }

  same_variable : (v : ℕ) → get_or (map (variable_of t) (range_with_len 0 t.vars)) v no_variable ≡ variable_of t v
  same_variable v =
      elim (cases_lt v t.vars) [
        | inl h ↦ get_or-map-range_with_len (variable_of t) 0 t.vars v v no_variable h (omega arith)
        | inr h ↦
            get_or_past (map (variable_of t) (range_with_len 0 t.vars)) v no_variable (omega (arith, length-map-range_with_len (variable_of t) 0 t.vars))
            ∙ blank v h
      ]

  same_places : (f : ℕ → Option ℕ) → ((v : ℕ) → t.vars ≤ v → f v ≡ None) → (v : ℕ) → get_or (places f) v None ≡ f v
  unfolding places
  same_places f out v =
      elim (cases_lt v 64) [
        | inl h ↦ get_or-map-range_with_len f 0 64 v v None h (omega arith)
        | inr h ↦
            get_or_past (map f (range_with_len 0 64)) v None (omega (arith, length-map-range_with_len f 0 64))
            ∙ sym (out v (omega (arith, w.few_vars)))
      ]

  same_action : (a : ℕ) → Says a (get_or (map (action_of t) (range_with_len 0 t.actions)) a no_action)
  same_action a =
      elim (cases_lt a t.actions) [
        | inl h ↦
            subst (Says a) (sym (get_or-map-range_with_len (action_of t) 0 t.actions a a no_action h (omega arith)))
            (record { present = refl; needs = same_places (t.need a) (w.need_out a); effects = same_places (t.give a) (w.give_out a) })
        | inr h ↦
            subst (Says a) (sym (get_or_past (map (action_of t) (range_with_len 0 t.actions)) a no_action (omega (arith, length-map-range_with_len (action_of t) 0 t.actions))))
            (idle a h)
      ]

-- an array of 64 values is those of the places
pub whole_places : (f : ℕ → Option ℕ) (xs : List (Option ℕ)) → length xs ≡ 64 → ((v : ℕ) → v < 64 → get_or xs v None ≡ f v) → xs ≡ places f
unfolding places
whole_places f xs long here = fill_by_all f xs 64 None long here

-- the table filled from a task holds it
pub same_task : {t : Task} → Lawful t → (vs : List Variable) (xs : List Action) → vs ≡ map (variable_of t) (range_with_len 0 t.vars)
    → xs ≡ map (action_of t) (range_with_len 0 t.actions) → table_task vs xs ≡ t
same_task {t} w vs xs v e =
    let variables : (x : ℕ) → get_or vs x no_variable ≡ variable_of t x = λ x. ap (λ l. get_or l x no_variable) v ∙ same_variable w x in
    let actions : (a : ℕ) → Says w a (get_or xs a no_action) = λ a. subst (λ l. Says w a (get_or l a no_action)) (sym e) (same_action w a) in
    λ i. record {
      vars = (ap length v ∙ length-map-range_with_len (variable_of t) 0 t.vars) i;
      size = fun_ext (λ x. ap (λ (y : Variable). y.size) (variables x)) i;
      start = fun_ext (λ x. ap (λ (y : Variable). y.start) (variables x)) i;
      goal = fun_ext (λ x. ap (λ (y : Variable). y.goal) (variables x)) i;
      actions = (ap length e ∙ length-map-range_with_len (action_of t) 0 t.actions) i;
      present = fun_ext (λ a. (actions a).present) i;
      need = fun_ext (λ a. fun_ext (actions a).needs) i;
      give = fun_ext (λ a. fun_ext (actions a).effects) i;
    }

-- so it keeps the limits
pub same_lawful : {t : Task} → Lawful t → (vs : List Variable) (xs : List Action) → table_task vs xs ≡ t → KeptLawful (table_task vs xs)
same_lawful w vs xs e = ∣ subst Lawful (sym e) w ∣₁
