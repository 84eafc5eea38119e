-- What is said of a barred source that lends another, said of the task.
use Rattle.std.proofs.Common.{◌≡◌, ℕ, List, Some, Option, subst, Bor, MatchOption}
use Rattle.task.specs.Task.{Task, Fact}
use Rattle.task.specs.Paths.{barred, barred_by}
use Rattle.reach.specs.Built.{ReachBuilt}
use Rattle.reach.specs.Relaxed.{GoalInReach}
use Rattle.reach.specs.declared.measure.InReach.{InReach}
use Rattle.rules.specs.Machine.{Lowest, MissedGoal}

module _ {S : Type 0} (task : S → Task) {x y : Bor S} {o : Option Fact} (f : Fact) (inner : x ≡ y) (is : o ≡ Some f) where
  same : barred_by (task x.now) o ≡ barred (task y.now) f
  same = λ i. barred_by (task (inner i).now) (is i)

  pub reach_as : (values : List InReach) → ReachBuilt (barred_by (task x.now) o) values → ReachBuilt (barred (task y.now) f) values
  reach_as values h = subst (λ t. ReachBuilt t values) same h

  pub missed_as : (r : Option ℕ) → MatchOption r (GoalInReach (barred_by (task x.now) o)) (Lowest (MissedGoal (barred_by (task x.now) o))) → MatchOption r (GoalInReach (barred (task y.now) f)) (Lowest (MissedGoal (barred (task y.now) f)))
  missed_as r h = subst (λ t. MatchOption r (GoalInReach t) (Lowest (MissedGoal t))) same h
