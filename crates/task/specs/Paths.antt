-- States, the paths and plans of a task, and the tasks made from a task.
use Rattle.std.specs.Prelude.{◌≡◌, ℕ, ◌<◌, ◌≤◌, Bool, true, false, cond, not, ◌&&◌, List, [], ◌∷◌, length, take, Some, None, Option, ◌==◌, nat_lt, slice_index}
use Rattle.task.specs.Task.{Task, Fact, Goal, Needs, Gives}

-- a value for every variable
abbrev pub State : Type 0
State = ℕ → ℕ

abbrev pub Holds : Task → State → Fact → Type 0
Holds t s f = (f.variable < t.vars) × (s f.variable ≡ f.value)

-- the action a may be taken in the state
pub record Allowed (t : Task) (s : State) (a : ℕ) : Type 0 where
  pub present : t.present a ≡ true
  pub met : (f : Fact) → Needs t a f → Holds t s f

abbrev pub given_or : Option ℕ → ℕ → ℕ
given_or (Some x) old = x
given_or None old = old

-- the state after an action: its effects hold, every other variable is unchanged
abbrev pub after : Task → State → ℕ → State
after t s a v = given_or (t.give a v) (s v)

-- the state after a list of actions
abbrev pub reached : Task → State → List ℕ → State
reached t s [] = s
reached t s (a ∷ p) = reached t (after t s a) p

-- each action of the list is allowed when it is taken, from the state on
abbrev pub Runs : Task → State → List ℕ → Type 0
Runs t s [] = Unit {0}
Runs t s (a ∷ p) = Allowed t s a × Runs t (after t s a) p

-- a path: a list of actions, each allowed when it is taken, from the start
abbrev pub Path : Task → List ℕ → Type 0
Path t p = Runs t t.start p

abbrev pub AtGoal : Task → State → Type 0
AtGoal t s = (f : Fact) → Goal t f → Holds t s f

-- a plan: a path that ends where every goal fact holds
abbrev pub Plan : Task → List ℕ → Type 0
Plan t p = Path t p × AtGoal t (reached t t.start p)

-- the state after the first i actions of a list
abbrev pub state_at : Task → List ℕ → ℕ → State
state_at t p i = reached t t.start (take i p)

-- the list passes a state, first and last included, in which f holds
abbrev pub Visits : Task → List ℕ → Fact → Type 0
Visits t p f = (i : ℕ) × (i ≤ length p) × Holds t (state_at t p i) f

-- an action of the list achieves f
abbrev pub Achieved : Task → List ℕ → Fact → Type 0
Achieved t p f = (k : ℕ) × (k < length p) × Gives t (slice_index p k) f

-- the task started from a state; a value that is no value of its variable counts as 0
abbrev pub restarted : Task → State → Task
restarted t s = record {
  vars = t.vars;
  size = t.size;
  start = λ v. cond (nat_lt (s v) (t.size v)) (s v) 0;
  goal = t.goal;
  actions = t.actions;
  present = t.present;
  need = t.need;
  give = t.give;
}

abbrev pub gives? : Option ℕ → ℕ → Bool
gives? (Some y) x = y == x
gives? None x = false

-- the task without the actions that achieve f
abbrev pub barred : Task → Fact → Task
barred t f = record {
  vars = t.vars;
  size = t.size;
  start = t.start;
  goal = t.goal;
  actions = t.actions;
  present = λ a. t.present a && not (gives? (t.give a f.variable) f.value);
  need = t.need;
  give = t.give;
}

-- the task barred by a fact, or by none: then it is the task itself
abbrev pub barred_by : Task → Option Fact → Task
barred_by t (Some f) = barred t f
barred_by t None = t
