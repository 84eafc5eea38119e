-- A task barred by a fact and a task restarted keep the limits: the proofs that their sources owe.
use Rattle.std.specs.Prelude.{◌≡◌, ℕ, ◌<◌, ◌≤◌, cond, Some, None, Option, nat_lt}
use Rattle.std.proofs.Common.{arith}
use Rattle.std.proofs.lemmas.Bool.{cond_both, cond-false, ltb-true, le-ltb}
use Rattle.task.specs.Task.{Task, Fact, Lawful}
use Rattle.task.specs.Paths.{State, barred, barred_by, restarted}

pub barred_lawful : {t : Task} → Lawful t → (f : Fact) → Lawful (barred t f)
barred_lawful w f = record {
  some_var = w.some_var;
  few_vars = w.few_vars;
  some_size = w.some_size;
  few_size = w.few_size;
  few_facts = w.few_facts;
  few_actions = w.few_actions;
  start_in = w.start_in;
  goal_in = w.goal_in;
  need_in = w.need_in;
  give_in = w.give_in;
  size_out = w.size_out;
  start_out = w.start_out;
  goal_out = w.goal_out;
  present_out = λ a h. rw (w.present_out a h);
  need_out = w.need_out;
  give_out = w.give_out;
  need_past = w.need_past;
  give_past = w.give_past;
}

pub barred_by_lawful : {t : Task} → Lawful t → (o : Option Fact) → Lawful (barred_by t o)
barred_by_lawful w (Some f) = barred_lawful w f
barred_by_lawful w None = w

below_or_zero : (x n : ℕ) → 1 ≤ n → cond (nat_lt x n) x 0 < n
below_or_zero x n h = cond_both (nat_lt x n) x 0 (λ y. y < n) (ltb-true x n) (λ _. omega arith)

none_below : (x n : ℕ) → n ≡ 0 → cond (nat_lt x n) x 0 ≡ 0
none_below x n h = cond-false (nat_lt x n) x 0 (le-ltb x n (omega arith))

pub restarted_lawful : {t : Task} → Lawful t → (s : State) → Lawful (restarted t s)
restarted_lawful {t} w s = record {
  some_var = w.some_var;
  few_vars = w.few_vars;
  some_size = w.some_size;
  few_size = w.few_size;
  few_facts = w.few_facts;
  few_actions = w.few_actions;
  start_in = λ v h. below_or_zero (s v) (t.size v) (w.some_size v h);
  goal_in = w.goal_in;
  need_in = w.need_in;
  give_in = w.give_in;
  size_out = w.size_out;
  start_out = λ v h. none_below (s v) (t.size v) (w.size_out v h);
  goal_out = w.goal_out;
  present_out = w.present_out;
  need_out = w.need_out;
  give_out = w.give_out;
  need_past = w.need_past;
  give_past = w.give_past;
}
