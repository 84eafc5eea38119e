-- What a step of the iterator over the lines of a key does.
use Rattle.std.specs.Prelude.{◌≡◌, ℕ, Option}
use Rattle.key.specs.Keys.{Shows, task_of}
use Rattle.rules.specs.Machine.{Machine}
use Rattle.lines.specs.declared.line.Line.{Line}
use Rattle.key_text.specs.declared.key_lines.KeyLines.{KeyLines}
use Rattle.key_text.specs.Cursors.{Stands, Passed}

-- a step keeps the key, and answers the line at which the cursor stood and moves it on, whatever machine the key shows
pub record Moves (before : KeyLines) (r : Option Line) (left : KeyLines) : Type 0 where
  pub key : left.key.now ≡ before.key.now
  pub passed :
      (m : Machine) (n : ℕ) → Shows before.key.now m → Stands (task_of before.key.now) m before.cursor n
      → Passed (task_of before.key.now) m n left.cursor r
