-- What is true of the lines of a key.
use Rattle.std.specs.Prelude.{◌≡◌, ℕ}
use Rattle.task.specs.Task.{Task, Lawful}
use Rattle.rules.specs.Machine.{Machine}
use Rattle.lines.specs.declared.line.Line.{Line}
use Rattle.lines.specs.declared.line.FactLine.{FactLine}
use Rattle.lines.specs.declared.line.OrderLine.{OrderLine}
use Rattle.lines.specs.declared.line.Line.TheVariants.{Fact, Order}
use Rattle.listing.specs.Listing.{HeldAt, FactShown, OrderShown, LineAt}

-- no number has two lines
abbrev pub OneLine : Type 0
OneLine = (t : Task) → Lawful t → (m : Machine) (i : ℕ) (x y : Line) → LineAt t m i x → LineAt t m i y → x ≡ y

-- each fact of the key and each ordered pair has a line
abbrev pub AllListed : Type 0
AllListed =
    (t : Task) (m : Machine)
    → ((x : FactLine) → HeldAt m x.number → FactShown t x → (i : ℕ) × LineAt t m i (Fact x))
    × ((x : OrderLine) → OrderShown m x → (i : ℕ) × LineAt t m i (Order x))
