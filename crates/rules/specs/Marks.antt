-- Landmarks, and orderings of them.
use Rattle.std.specs.Prelude.{◌≡◌, ℕ, suc, ◌<◌, ◌≤◌, true, List, length, slice_index}
use Rattle.task.specs.Task.{Task, Fact, Needs, Gives}
use Rattle.task.specs.Paths.{Holds, state_at, barred}
use Rattle.rules.specs.declared.calls.Kind.{Kind}
use Rattle.rules.specs.declared.calls.Kind.TheVariants.{Greedy, Necessary}
use Rattle.reach.specs.Relaxed.{Has, Relaxed, HasGoal, Reach}

-- a landmark: no relaxed sequence has the goal without it (in class: a checkpoint)
abbrev pub Landmark : Task → Fact → Type 0
Landmark t f = (p : List ℕ) → Relaxed t p → HasGoal t p → (Has t p f → ⊥) → ⊥

-- the task in whose reach the conditions of an achiever must lie for it to count
abbrev pub counted_in : Kind → Task → Fact → Task
counted_in Greedy t later = barred t later
counted_in Necessary t later = t

-- the achievers of the later fact that count for a kind; for the greedy kind they are its possible first achievers
pub record Counts (k : Kind) (t : Task) (later : Fact) (a : ℕ) : Type 0 where
  pub present : t.present a ≡ true
  pub achieves : Gives t a later
  pub possible : (g : Fact) → Needs t a g → Reach (counted_in k t later) g

-- the ordering is confirmed: every achiever of the later fact that counts needs the earlier one
abbrev pub Confirmed : Kind → Task → Fact → Fact → Type 0
Confirmed k t earlier later = (a : ℕ) → Counts k t later a → Needs t a earlier

-- a list of actions keeps the ordering: the earlier fact holds just before the later one first holds (greedy), or before each action that achieves it (necessary)
abbrev pub Keeps : Kind → Task → List ℕ → Fact → Fact → Type 0
Keeps Greedy t p earlier later =
    (i : ℕ) → i < length p → Holds t (state_at t p (suc i)) later
    → ((j : ℕ) → j ≤ i → Holds t (state_at t p j) later → ⊥)
    → Holds t (state_at t p i) earlier
Keeps Necessary t p earlier later =
    (i : ℕ) → i < length p → Gives t (slice_index p i) later
    → Holds t (state_at t p i) earlier
