-- The text of a whole key.
use Rattle.std.specs.Prelude.{ℕ, ◌+◌, List, [], ◌++◌}
use Rattle.task.specs.Task.{Task}
use Rattle.rules.specs.Machine.{Machine}
use Rattle.lines.specs.declared.line.Line.{Line}
use Rattle.lines.specs.Text.{line_text}
use Rattle.listing.specs.Listing.{LineAt, LineCount}

-- the texts of the first n lines, one behind the other
pub data FirstLines (t : Task) (m : Machine) : ℕ → List ℕ → Type 0 where
  no_line : FirstLines t m 0 []
  and_line : {n : ℕ} {text : List ℕ} {x : Line} → FirstLines t m n text → LineAt t m n x → FirstLines t m (n + 1) (text ++ line_text x)

-- the texts of all lines in their order
abbrev pub KeyText : Task → Machine → List ℕ → Type 0
KeyText t m text = (n : ℕ) × LineCount t m n × FirstLines t m n text
