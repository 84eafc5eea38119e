-- A line behind a text.
use Rattle.std.proofs.Common.{◌≡◌, ℕ, ◌+◌, List, [], ◌++◌, Some, None, sym, subst}
use Rattle.task.specs.Task.{Task}
use Rattle.rules.specs.Machine.{Machine}
use Rattle.lines.specs.declared.line.Line.{Line}
use Rattle.lines.specs.Text.{line_text}
use Rattle.key_text.specs.declared.cursor.Cursor.{Cursor}
use Rattle.listing.specs.Listing.{LineAt}
use Rattle.key.specs.declared.keys.Key.{Key}
use Rattle.key.specs.Keys.{Shows, task_of}
use Rattle.key_text.specs.declared.key_lines.KeyLines.{KeyLines}
use Rattle.key_text.specs.Cursors.{Stands}
use Rattle.key_text.specs.Moves.{Moves}
use Rattle.key_text.specs.Joined.{FirstLines, FirstLines.no_line, FirstLines.and_line, KeyText}

-- the text has the lines before the cursor
abbrev pub SoFar : Task → Machine → Cursor → List ℕ → Type 0
SoFar t m x text = (n : ℕ) × Stands t m x n × FirstLines t m n text

pub one_more : {t : Task} {m : Machine} {n : ℕ} (y : Cursor) (line : Line) (text left : List ℕ) → FirstLines t m n text → LineAt t m n line × Stands t m y (n + 1) → left ≡ text ++ line_text line → SoFar t m y left
one_more {t} {m} {n} y line text left first (here, stands) is = (n + 1, stands, subst (FirstLines t m (n + 1)) (sym is) (and_line first here))

-- the text has the lines of a key before a cursor over it, whatever machine the key shows
pub record Told (k : Key) (x : KeyLines) (text : List ℕ) : Type 0 where
  pub key : x.key.now ≡ k
  pub lines : (m : Machine) → Shows k m → SoFar (task_of k) m x.cursor text

-- no lines yet
pub told_none : (k : Key) (x : KeyLines) (text : List ℕ) → x.key.now ≡ k → ((m : Machine) → Shows k m → Stands (task_of k) m x.cursor 0) → text ≡ [] → Told k x text
told_none k x text e stands none = record { key = e; lines = λ m s. (0, stands m s, subst (FirstLines (task_of k) m 0) (sym none) no_line) }

-- a line more
pub told_more : (k : Key) (x y : KeyLines) (line : Line) (text left : List ℕ) → Told k x text → Moves x (Some line) y → left ≡ text ++ line_text line → Told k y left
told_more k x y line text left told moves is =
    subst (λ (u : Key). ((m : Machine) → Shows u m → SoFar (task_of u) m x.cursor text) → Told u y left) told.key
    (λ lines. record { key = moves.key; lines = λ m s. let (n, stands, first) = lines m s in one_more y.cursor line text left first (moves.passed m n s stands) is })
    told.lines

-- no line more
pub told_all : (k : Key) (x y : KeyLines) (text : List ℕ) → Told k x text → Moves x None y → (m : Machine) → Shows k m → KeyText (task_of k) m text
told_all k x y text told moves =
    subst (λ (u : Key). ((m : Machine) → Shows u m → SoFar (task_of u) m x.cursor text) → (m : Machine) → Shows u m → KeyText (task_of u) m text) told.key
    (λ lines m s. let (n, stands, first) = lines m s in (n, moves.passed m n s stands, first))
    told.lines
