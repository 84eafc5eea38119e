-- A key with all that the rules confirm.
use Rattle.std.specs.Prelude.{◌≡◌, ℕ, true, []}
use Rattle.task.specs.Task.{Task}
use Rattle.reach.specs.Relaxed.{GoalInReach}
use Rattle.rules.specs.declared.calls.Kind.{Kind}
use Rattle.rules.specs.Machine.{Machine, opened}
use Rattle.rules.specs.Marked.{ExactlyWhen}
use Rattle.rules.specs.Sound.{LandmarkAt, ConfirmedAt}
use Rattle.key.specs.declared.keys.Key.{Key}
use Rattle.key.specs.Keys.{Shows, task_of}

-- where the goal is in reach the key has exactly the landmarks, and exactly the confirmed orderings of two landmarks, the later one outside the start; elsewhere it is empty; no action is taken
pub record AllMarked (t : Task) (m : Machine) : Type 0 where
  pub facts : GoalInReach t → (n : ℕ) → ExactlyWhen (m.held n ≡ true) (LandmarkAt t n)
  pub orderings :
      GoalInReach t → (k : Kind) (e l : ℕ)
      → ExactlyWhen (m.ordered k e l ≡ true) (LandmarkAt t e × LandmarkAt t l × ConfirmedAt t k e l)
  pub empty : (GoalInReach t → ⊥) → m ≡ opened
  pub moves : m.moves ≡ []

-- a key over the task that shows a machine with all that the rules confirm
pub record MarkedKey (t : Task) (k : Key) : Type 0 where
  pub task : task_of k ≡ t
  pub machine : Machine
  pub shown : Shows k machine
  pub marked : AllMarked t machine
