-- What a source is asked beyond the plain questions: the next condition, effect, user or achiever, and how many conditions there are.
use Rattle.std.specs.Prelude.{◌≡◌, ℕ, zero, suc, ◌+◌, ◌<◌, ◌≤◌, Some, None, Option, MatchOption}
use Rattle.task.specs.Task.{Task, Fact}

-- f is the first fact of a row of conditions or effects on a variable at or after v
pub record NextFact (row : ℕ → Option ℕ) (v : ℕ) (f : Fact) : Type 0 where
  pub later : v ≤ f.variable
  pub has : row f.variable ≡ Some f.value
  pub skipped : (w : ℕ) → v ≤ w → w < f.variable → row w ≡ None

-- the answer is the first fact of a row at or after v, and None where there is none
abbrev pub IsNextFact : (ℕ → Option ℕ) → ℕ → Option Fact → Type 0
IsNextFact row v r = MatchOption r ((w : ℕ) → v ≤ w → row w ≡ None) (NextFact row v)

-- b is the lowest number at or after a of which P holds
pub record NextAction (P : ℕ → Type 0) (a b : ℕ) : Type 0 where
  pub later : a ≤ b
  pub holds : P b
  pub skipped : (n : ℕ) → a ≤ n → n < b → P n → ⊥

-- the answer is the lowest number at or after a of which P holds, and None where there is none
abbrev pub IsNextAction : (ℕ → Type 0) → ℕ → Option ℕ → Type 0
IsNextAction P a r = MatchOption r ((n : ℕ) → a ≤ n → P n → ⊥) (NextAction P a)

abbrev pub counted : Option ℕ → ℕ
counted (Some x) = 1
counted None = 0

-- how many conditions the action a has on the variables below n
abbrev pub needs_below : Task → ℕ → ℕ → ℕ
needs_below t a zero = 0
needs_below t a (suc n) = needs_below t a n + counted (t.need a n)
