-- What each part of filling a key does.
use Rattle.std.specs.Prelude.{◌≡◌, ℕ, true}
use Rattle.task.specs.Task.{Task}
use Rattle.reach.specs.Relaxed.{GoalInReach}
use Rattle.rules.specs.declared.calls.Kind.{Kind}
use Rattle.rules.specs.declared.calls.Call.TheVariants.{Propose, Order}
use Rattle.rules.specs.declared.calls.Answer.{Answer}
use Rattle.rules.specs.Machine.{Machine, Turn}
use Rattle.rules.specs.Sound.{LandmarkAt, ConfirmedAt}
use Rattle.key.specs.declared.keys.Key.{Key}
use Rattle.key.specs.Keys.{Shows, task_of}

-- proposals and orderings lead from one machine to another
pub data Leads (t : Task) (m : Machine) : Machine → Type 0 where
  stays : Leads t m m
  proposes : {n n' : Machine} {k : ℕ} {r : Answer} → Leads t m n → Turn t n (Propose k) r n' → Leads t m n'
  orders : {n n' : Machine} {k e l : ℕ} {r : Answer} → Leads t m n → Turn t n (Order k e l) r n' → Leads t m n'

-- the task stays; whatever machine the key showed, proposals and orderings lead to the one that it shows, and the two are as said
pub record Grown (Said : Task → Machine → Machine → Type 0) (before after : Key) : Type 0 where
  pub task : task_of after ≡ task_of before
  pub shown : (m : Machine) → Shows before m → (n : Machine) × Shows after n × Leads (task_of before) m n × (GoalInReach (task_of before) → Said (task_of before) m n)

-- every landmark is held
abbrev pub LandmarksHeld : Task → Machine → Machine → Type 0
LandmarksHeld t m n = (k : ℕ) → LandmarkAt t k → n.held k ≡ true

-- each confirmed ordering of an earlier fact with another, both held at first, is held
abbrev pub OrderedFrom : ℕ → Task → Machine → Machine → Type 0
OrderedFrom e t m n = (k : Kind) (l : ℕ) → m.held e ≡ true → m.held l ≡ true → ConfirmedAt t k e l → n.ordered k e l ≡ true

-- each confirmed ordering of facts held at first is held
abbrev pub OrderingsHeld : Task → Machine → Machine → Type 0
OrderingsHeld t m n = (e : ℕ) → OrderedFrom e t m n
