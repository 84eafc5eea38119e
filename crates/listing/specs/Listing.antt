-- The lines of a key, and what listing one of them leaves.
use Rattle.std.specs.Prelude.{◌≡◌, ℕ, ◌+◌, ◌*◌, ◌/◌, ◌%◌, ◌<◌, ◌≤◌, true, cond, ◌⊎◌, List, length, Some, Ok, Err, Result}
use Rattle.task.specs.Task.{Task, Numbered, fact, facts}
use Rattle.reach.specs.Built.{LevelIs}
use Rattle.reach.specs.Relaxed.{GoalInReach}
use Rattle.rules.specs.declared.calls.Kind.{Kind}
use Rattle.rules.specs.declared.calls.Kind.TheVariants.{Greedy, Necessary}
use Rattle.rules.specs.Machine.{Machine, Count, Lowest, MissedGoal}
use Rattle.lines.specs.declared.line.FactLine.{FactLine}
use Rattle.lines.specs.declared.line.OrderLine.{OrderLine}
use Rattle.lines.specs.declared.line.Line.{Line}
use Rattle.lines.specs.declared.line.Line.TheVariants.{Fact, Order}
use Rattle.lines.specs.Text.{line_text}
use Rattle.lines.specs.Writing.{InFront}
use Rattle.listing.specs.declared.refusal.ListingRefusal.{ListingRefusal}
use Rattle.listing.specs.declared.refusal.ListingRefusal.TheVariants.{GoalOutOfReach, ShortBuffer, NoSuchLine}

-- the key has the fact with the number n
abbrev pub HeldAt : Machine → ℕ → Type 0
HeldAt m n = m.held n ≡ true

-- the key has an ordering of the two facts, of either kind
abbrev pub InAnyKind : Machine → ℕ → ℕ → Type 0
InAnyKind m e l = (m.ordered Greedy e l ≡ true) ⊎ (m.ordered Necessary e l ≡ true)

-- the kind in which an ordered pair is shown: necessary where the key has it so
abbrev pub shown_kind : Machine → ℕ → ℕ → Kind
shown_kind m e l = cond (m.ordered Necessary e l) Necessary Greedy

-- the pair at the place k is ordered, where pairs go by the earlier fact and then by the later one
abbrev pub OrderedAt : Machine → ℕ → Type 0
OrderedAt m k = InAnyKind m (k / 256) (k % 256)

-- the line has the variable, the value and the level of the fact with its number
pub record FactShown (t : Task) (x : FactLine) : Type 0 where
  pub numbered : Numbered t x.number (fact x.variable x.value)
  pub level : LevelIs t (fact x.variable x.value) x.level

-- the line has a pair that the key has ordered, and the kind in which it is shown
pub record OrderShown (m : Machine) (x : OrderLine) : Type 0 where
  pub earlier : x.earlier < 256
  pub later : x.later < 256
  pub ordered : InAnyKind m x.earlier x.later
  pub kind : x.kind ≡ shown_kind m x.earlier x.later

-- the line with a number: the key's facts upwards, then its ordered pairs by the earlier and the later fact
pub data LineAt (t : Task) (m : Machine) : ℕ → Line → Type 0 where
  fact_line_lem :
      {i : ℕ} {x : FactLine} → HeldAt m x.number → FactShown t x → Count (HeldAt m) x.number i
      → LineAt t m i (Fact x)
  order_line_lem :
      {i j : ℕ} {x : OrderLine} → OrderShown m x → Count (HeldAt m) (facts t) i → Count (OrderedAt m) (x.earlier * 256 + x.later) j
      → LineAt t m (i + j) (Order x)

-- how many lines there are: one for each fact of the key and one for each ordered pair
abbrev pub LineCount : Task → Machine → ℕ → Type 0
LineCount t m n = (i : ℕ) × ((j : ℕ) × Count (HeldAt m) (facts t) i × Count (OrderedAt m) 65536 j × (n ≡ i + j))

-- a refusal, each where no earlier one is due: a goal fact is out of reach; the buffer is short; there is no such line
abbrev pub Refused : Task → Machine → ℕ → ℕ → ListingRefusal → Type 0
Refused t m number room (GoalOutOfReach n) = Lowest (MissedGoal t) n
Refused t m number room (ShortBuffer n) = GoalInReach t × (room < 32) × (n ≡ room)
Refused t m number room (NoSuchLine n) = GoalInReach t × (32 ≤ room) × LineCount t m n × (n ≤ number)

-- the line's text stands in front, its length is answered and the rest is as it was; or a refusal, and the buffer is as it was
abbrev pub Listed : Task → Machine → ℕ → List ℕ → List ℕ → Result ℕ ListingRefusal → Type 0
Listed t m number before left (Ok n) =
    GoalInReach t × ((x : Line) × LineAt t m number x × InFront before (line_text x) left (Some n))
Listed t m number before left (Err e) = Refused t m number (length before) e × (left ≡ before)
