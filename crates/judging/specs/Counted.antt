-- What a report counts and what is left, by what the tables say.
use Rattle.std.specs.Prelude.{◌≡◌, ℕ, max, true, false, ◌⊎◌}
use Rattle.task.specs.Task.{Task, Fact, Goal, Numbered, facts}
use Rattle.task.specs.Paths.{Holds, restarted}
use Rattle.reach.specs.Relaxed.{GoalInReach}
use Rattle.rules.specs.declared.calls.Remainder.{Remainder}
use Rattle.rules.specs.declared.calls.Remainder.TheVariants.{AtLeast, DeadEnd}
use Rattle.rules.specs.Machine.{Count, Width, GoalLevel, quotient}
use Rattle.judging.specs.declared.fact_set.FactSet.{FactSet}
use Rattle.judging.specs.declared.sitting.Sitting.{Sitting}
use Rattle.judging.specs.FactSets.{has}
use Rattle.judging.specs.Position.{state_of}

-- a fact of the key that is visited
abbrev pub VisitedIn : FactSet → Sitting → ℕ → Type 0
VisitedIn held s n = (has held n ≡ true) × (has s.visited n ≡ true)

-- a fact of the key that is not visited, or a goal fact that does not hold
abbrev pub OwedIn : Task → FactSet → Sitting → ℕ → Type 0
OwedIn t held s n = (f : Fact) × Numbered t n f × (((has held n ≡ true) × (has s.visited n ≡ false)) ⊎ (Goal t f × (Holds t (state_of s.position) f → ⊥)))

-- the goal is in reach, and its greatest level is g
pub record GoalAt (t : Task) (g : ℕ) : Type 0 where
  pub near : GoalInReach t
  pub level : GoalLevel t g

-- from where the sitting is the remainder is n
pub record LeftAt (t : Task) (held : FactSet) (s : Sitting) (n : ℕ) : Type 0 where
  pub owed : ℕ
  pub width : ℕ
  pub level : ℕ
  pub owes : Count (OwedIn t held s) (facts t) owed
  pub most : Width t width
  pub goal : GoalAt (restarted t (state_of s.position)) level
  pub is : n ≡ max level (quotient owed width)

-- what is left from where the sitting is
abbrev pub LeftIn : Task → FactSet → Sitting → Remainder → Type 0
LeftIn t held s (AtLeast n) = LeftAt t held s n
LeftIn t held s DeadEnd = GoalInReach (restarted t (state_of s.position)) → ⊥
