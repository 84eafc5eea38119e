-- What is true of reach, landmarks and orderings, whatever the calls.
use Rattle.std.specs.Prelude.{ℕ, ◌<◌, ◌⊎◌, List, length, slice_index}
use Rattle.task.specs.Task.{Task, Fact, Start, Goal, Gives, Lawful}
use Rattle.task.specs.Paths.{Path, Plan, Visits, barred}
use Rattle.reach.specs.Relaxed.{Relaxed, HasGoal, Reach, GoalInReach, Layer}
use Rattle.rules.specs.declared.calls.Kind.{Kind}
use Rattle.rules.specs.declared.calls.Kind.TheVariants.{Greedy, Necessary}
use Rattle.rules.specs.Marks.{Landmark, Counts, Confirmed, Keeps}

-- each of two follows from the other
abbrev pub ExactlyWhen : Type 0 → Type 0 → Type 0
ExactlyWhen A B = (A → B) × (B → A)

-- every plan is a relaxed sequence that has the goal, so a task with a plan has its goal in relaxed reach
abbrev pub RelaxedCoversPlans : Type 0
RelaxedCoversPlans = (t : Task) (p : List ℕ) → Plan t p → Relaxed t p × HasGoal t p

-- a fact is in reach exactly when some layer has it
abbrev pub LayersAreReach : Type 0
LayersAreReach =
    (t : Task) → Lawful t → (f : Fact)
    → ExactlyWhen (Reach t f) ((n : ℕ) × Layer t n f)

-- one relaxed sequence has the whole goal exactly when each goal fact is in reach
abbrev pub GoalReachedTogether : Type 0
GoalReachedTogether =
    (t : Task) → Lawful t
    → ExactlyWhen (GoalInReach t) ((f : Fact) → Goal t f → Reach t f)

-- a fact is a landmark exactly when it holds at the start or, without the actions that achieve it, the goal is out of relaxed reach
abbrev pub LandmarkTest : Type 0
LandmarkTest =
    (t : Task) (f : Fact)
    → ExactlyWhen (Landmark t f) (Start t f ⊎ (GoalInReach (barred t f) → ⊥))

-- every goal fact is a landmark
abbrev pub GoalsAreLandmarks : Type 0
GoalsAreLandmarks = (t : Task) (f : Fact) → Goal t f → Landmark t f

-- every plan visits every landmark
abbrev pub LandmarksAreVisited : Type 0
LandmarksAreVisited =
    (t : Task) → Lawful t → (f : Fact) → Landmark t f
    → (p : List ℕ) → Plan t p → Visits t p f

-- of a relaxed sequence, so of every path, each action that achieves a fact counts for the necessary kind, and the first one for the greedy kind
abbrev pub AchieversCovered : Type 0
AchieversCovered =
    (t : Task) (p : List ℕ) → Relaxed t p → (f : Fact) (i : ℕ) → i < length p → Gives t (slice_index p i) f
    → Counts Necessary t f (slice_index p i)
    × (((j : ℕ) → j < i → Gives t (slice_index p j) f → ⊥) → Counts Greedy t f (slice_index p i))

-- with the goal in reach, a landmark outside the start has an achiever that counts, for either kind: no ordering is confirmed for want of one
abbrev pub AchieversCount : Type 0
AchieversCount =
    (t : Task) → GoalInReach t → (f : Fact) → Landmark t f → (Start t f → ⊥)
    → (k : Kind) → (a : ℕ) × Counts k t f a

-- a confirmed necessary ordering is confirmed as a greedy-necessary one too
abbrev pub NecessaryIsGreedy : Type 0
NecessaryIsGreedy =
    (t : Task) (earlier later : Fact)
    → Confirmed Necessary t earlier later → Confirmed Greedy t earlier later

-- a list of actions that keeps an ordering as a necessary one keeps it as a greedy-necessary one too
abbrev pub NecessaryKeepsGreedy : Type 0
NecessaryKeepsGreedy =
    (t : Task) (p : List ℕ) (earlier later : Fact)
    → Keeps Necessary t p earlier later → Keeps Greedy t p earlier later

-- every path, to the goal or not, keeps every confirmed ordering
abbrev pub OrderingsAreKept : Type 0
OrderingsAreKept =
    (t : Task) → Lawful t → (k : Kind) (earlier later : Fact) → Confirmed k t earlier later
    → (p : List ℕ) → Path t p → Keeps k t p earlier later
