-- What the searches behind the listing answer.
use Rattle.std.specs.Prelude.{ℕ, ◌<◌, ◌≤◌, Ok, Err, Result}
use Rattle.task.specs.Task.{Task}
use Rattle.rules.specs.Machine.{Machine, Count}
use Rattle.lines.specs.declared.line.Line.{Line}
use Rattle.listing.specs.Listing.{LineAt, LineCount}

-- a number below a limit, or how many there are: too few
abbrev pub Within : ℕ → ℕ → Result ℕ ℕ → Type 0
Within limit index (Ok n) = n < limit
Within limit index (Err c) = (c ≤ limit) × (c ≤ index)

-- the number that satisfies P and has so many such numbers below it, or how many there are below a limit
abbrev pub Sought : (ℕ → Type 0) → ℕ → ℕ → Result ℕ ℕ → Type 0
Sought P limit index (Ok n) = P n × Count P n index
Sought P limit index (Err c) = Count P limit c

-- the line with a number, or how many lines there are, too few
abbrev pub Lined : Task → Machine → ℕ → Result Line ℕ → Type 0
Lined t m number (Ok x) = LineAt t m number x
Lined t m number (Err n) = LineCount t m n × (n ≤ number)
