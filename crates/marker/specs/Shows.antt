-- A marker shows a machine, and what a call on it is answered.
use Rattle.std.specs.Prelude.{◌≡◌, ℕ, ◌≤◌, false, ◌⊎◌, MatchOption}
use Rattle.task.specs.Task.{Task}
use Rattle.reach.specs.Built.{ReachBuilt}
use Rattle.reach.specs.Relaxed.{GoalInReach}
use Rattle.rules.specs.declared.calls.Call.{Call}
use Rattle.rules.specs.declared.calls.Answer.{Answer}
use Rattle.rules.specs.declared.calls.Kind.{Kind}
use Rattle.rules.specs.Machine.{Machine, Turn, Lowest, MissedGoal}
use Rattle.judging.specs.FactSets.{has}
use Rattle.judging.specs.Sittings.{SitsAfter}
use Rattle.marker.specs.declared.markers.Marker.{Marker}
use Rattle.marker.specs.Ordered.{ordered as is_ordered}

-- the marker shows the machine: the same facts, orderings, state, steps and facts visited; and it knows the task's own reach, and the lowest goal fact out of it
pub record Shows {S : Type 0} (t : Task) (k : Marker S) (m : Machine) : Type 0 where
  pub held : (n : ℕ) → has k.held n ≡ m.held n
  pub ordered : (κ : Kind) (e l : ℕ) → is_ordered k.orderings κ e l ≡ m.ordered κ e l
  pub outside : (κ : Kind) (e l : ℕ) → (256 ≤ e) ⊎ (256 ≤ l) → m.ordered κ e l ≡ false
  pub sitting : SitsAfter t m.moves k.sitting
  pub reach : ReachBuilt t k.reach.table
  pub missed : MatchOption k.missed (GoalInReach t) (Lowest (MissedGoal t))

-- whatever machine the marker showed before the call, the answer and the machine that it shows after are those of the rules
abbrev pub Answered : {S : Type 0} → Task → Marker S → Call → Answer → Marker S → Type 0
Answered t before c r after = (m : Machine) → Shows t before m → (n : Machine) × Turn t m c r n × Shows t after n
