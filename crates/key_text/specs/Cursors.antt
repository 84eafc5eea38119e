-- Where a cursor stands in the lines of a key, and what is answered from there.
use Rattle.std.specs.Prelude.{◌≡◌, ℕ, ◌+◌, ◌-◌, ◌≤◌, Some, None, Option}
use Rattle.task.specs.Task.{Task, facts}
use Rattle.reach.specs.Built.{LevelsBuilt}
use Rattle.rules.specs.Machine.{Machine, Count}
use Rattle.lines.specs.declared.line.Line.{Line}
use Rattle.key_text.specs.declared.cursor.Cursor.{Cursor}
use Rattle.listing.specs.Listing.{HeldAt, OrderedAt, LineAt, LineCount}

-- the cursor knows the levels and stands before the line with a number: so many facts of the key are below its fact and no pair is before its place; or it is past the facts, and so many ordered pairs are before its place
pub data Stands (t : Task) (m : Machine) (x : Cursor) : ℕ → Type 0 where
  at_facts :
      {i : ℕ} → LevelsBuilt t x.levels.table → x.fact ≤ facts t → Count (HeldAt m) x.fact i → x.place ≡ 0
      → Stands t m x i
  at_pairs :
      {i j : ℕ} → LevelsBuilt t x.levels.table → x.fact ≡ facts t → Count (HeldAt m) (facts t) i → x.place ≤ 65536
      → Count (OrderedAt m) x.place j
      → Stands t m x (i + j)

-- the line with a number, and the cursor stands before the next; or there are just so many lines
abbrev pub Passed : Task → Machine → ℕ → Cursor → Option Line → Type 0
Passed t m n left (Some x) = LineAt t m n x × Stands t m left (n + 1)
Passed t m n left None = LineCount t m n

-- how many facts and places of pairs are still to come
abbrev pub unlisted : Task → Cursor → ℕ
unlisted t x = (facts t - x.fact) + (65536 - x.place)
