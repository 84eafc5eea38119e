-- What holds after a list of calls on a new key: the main statement.
use Rattle.std.specs.Prelude.{◌≡◌, ℕ, ◌≤◌, List, length, take}
use Rattle.task.specs.Task.{Task}
use Rattle.reach.specs.Relaxed.{GoalInReach}
use Rattle.rules.specs.declared.calls.Call.{Call}
use Rattle.rules.specs.declared.calls.Answer.{Answer}
use Rattle.rules.specs.Machine.{Machine, Session}
use Rattle.rules.specs.Sound.{Sound}
use Rattle.key.specs.declared.keys.Key.{Key}
use Rattle.key.specs.Keys.{Shows, tally_of, task_of}
use Rattle.key.specs.Tally.{tally_after}

-- the reference machine gives these answers to these calls, and where the goal is in relaxed reach no plan is marked down where it ends
abbrev pub Marks : Task → List Call → List Answer → Machine → Type 0
Marks t cs rs m = Session t cs rs m × (GoalInReach t → Sound t m)

-- the calls cs on a new key over the task t got the answers rs and left the key k
pub record Replayed (t : Task) (cs : List Call) (rs : List Answer) (k : Key) : Type 0 where
  -- the key's task is t
  pub task : task_of k ≡ t
  -- after each number of calls the reference machine has given exactly these answers, and is sound
  pub each : (i : ℕ) → i ≤ length cs → (m : Machine) × Marks t (take i cs) (take i rs) m
  -- the key shows the machine to which all the calls lead
  pub shown : (m : Machine) × Marks t cs rs m × Shows k m
  -- its tally is the number of answers 9 and 12, and 65535 where there are more
  pub tally : tally_of k ≡ tally_after rs
