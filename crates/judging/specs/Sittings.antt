-- What a sitting has come to.
use Rattle.std.specs.Prelude.{◌≡◌, ℕ, List, length, Decides}
use Rattle.task.specs.Task.{Task, Fact, Numbered}
use Rattle.task.specs.Paths.{Visits, reached}
use Rattle.judging.specs.declared.sitting.Sitting.{Sitting}
use Rattle.judging.specs.FactSets.{has}
use Rattle.judging.specs.Position.{state_of}

-- the sitting after a list of moves: the facts that they visit, the state that they reach, and how many they are
pub record SitsAfter (t : Task) (moves : List ℕ) (s : Sitting) : Type 0 where
  pub visited : (n : ℕ) (f : Fact) → Numbered t n f → Decides (has s.visited n) (Visits t moves f)
  pub state : (v : ℕ) → state_of s.position v ≡ reached t t.start moves v
  pub steps : s.steps ≡ length moves
