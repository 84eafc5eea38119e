-- What the key holds, and that no plan is marked down.
use Rattle.std.specs.Prelude.{◌≡◌, ℕ, ◌≤◌, true, ◌⊎◌, List, length}
use Rattle.task.specs.Task.{Task, Fact, Start, Goal, Needs, Numbered, Lawful}
use Rattle.task.specs.Paths.{Path, Plan, Visits, restarted}
use Rattle.reach.specs.Relaxed.{GoalInReach}
use Rattle.rules.specs.declared.calls.Kind.{Kind}
use Rattle.rules.specs.declared.calls.Kind.TheVariants.{Greedy}
use Rattle.rules.specs.Marks.{Landmark, Counts, Confirmed, Keeps}
use Rattle.rules.specs.declared.calls.Call.{Call}
use Rattle.rules.specs.declared.calls.Call.TheVariants.{Propose, Report}
use Rattle.rules.specs.declared.calls.Answer.{Answer}
use Rattle.rules.specs.declared.calls.Answer.TheVariants.{Marked, Reported}
use Rattle.rules.specs.declared.calls.Mark.TheVariants.{Accepted, Known}
use Rattle.rules.specs.declared.calls.Remainder.TheVariants.{AtLeast, DeadEnd}
use Rattle.rules.specs.Machine.{Machine, Owed, Width, Turn, Session, position, standing}

-- n is the number of a landmark
abbrev pub LandmarkAt : Task → ℕ → Type 0
LandmarkAt t n = (f : Fact) × Numbered t n f × Landmark t f

-- e and l are the numbers of facts with a confirmed ordering, the later one outside the start
abbrev pub ConfirmedAt : Task → Kind → ℕ → ℕ → Type 0
ConfirmedAt t k e l =
    (ef : Fact) × ((lf : Fact) × Numbered t e ef × Numbered t l lf × (Start t lf → ⊥) × Confirmed k t ef lf)

-- the key holds landmarks alone, and confirmed orderings alone, each between facts that it holds, and the moves are a path
pub record Kept (t : Task) (m : Machine) : Type 0 where
  pub landmarks : (n : ℕ) → m.held n ≡ true → LandmarkAt t n
  pub orderings : (k : Kind) (e l : ℕ) → m.ordered k e l ≡ true → ConfirmedAt t k e l
  pub ends : (k : Kind) (e l : ℕ) → m.ordered k e l ≡ true → (m.held e ≡ true) × (m.held l ≡ true)
  pub path : Path t m.moves

-- so it is after any list of calls
abbrev pub KeysKept : Type 0
KeysKept =
    (t : Task) (cs : List Call) (rs : List Answer) (m : Machine) → Session t cs rs m → Kept t m

-- where no present action has an effect, a report with the goal in reach owes nothing: it never divides by 0
abbrev pub NeverByZero : Type 0
NeverByZero =
    (t : Task) → Lawful t → GoalInReach t
    → (cs : List Call) (rs : List Answer) (m : Machine) → Session t cs rs m
    → GoalInReach (restarted t (position t m)) → Width t 0 → (n : ℕ) → Owed t m n → ⊥

-- every plan visits each fact of the key
abbrev pub LandmarksVisited : Task → Machine → Type 0
LandmarksVisited t m =
    (n : ℕ) (f : Fact) → m.held n ≡ true → Numbered t n f
    → (p : List ℕ) → Plan t p → Visits t p f

-- every plan keeps each ordering of the key
abbrev pub OrderingsKept : Task → Machine → Type 0
OrderingsKept t m =
    (k : Kind) (e l : ℕ) (ef lf : Fact) → m.ordered k e l ≡ true → Numbered t e ef → Numbered t l lf
    → (p : List ℕ) → Plan t p → Keeps k t p ef lf

-- a reported remainder is at most the length of any plan from the position
abbrev pub RemainderAtMost : Task → Machine → Type 0
RemainderAtMost t m =
    (steps visited r : ℕ) (m' : Machine) → Turn t m Report (Reported (standing steps visited (AtLeast r))) m'
    → (p : List ℕ) → Plan (restarted t (position t m)) p → r ≤ length p

-- from a reported dead end there is no plan
abbrev pub DeadEndsHopeless : Task → Machine → Type 0
DeadEndsHopeless t m =
    (steps visited : ℕ) (m' : Machine) → Turn t m Report (Reported (standing steps visited DeadEnd)) m'
    → (p : List ℕ) → Plan (restarted t (position t m)) p → ⊥

-- a fact that all possible first achievers of some landmark outside the start need
abbrev pub NeededFirst : Task → Fact → Type 0
NeededFirst t f =
    (q : Fact) × Landmark t q × (Start t q → ⊥) × ((a : ℕ) → Counts Greedy t q a → Needs t a f)

-- a proposed goal fact, and a proposed fact that is needed first, is confirmed or known
abbrev pub ProposalsTaken : Task → Machine → Type 0
ProposalsTaken t m =
    (n : ℕ) (f : Fact) (r : Answer) (m' : Machine) → Numbered t n f → Goal t f ⊎ NeededFirst t f
    → Turn t m (Propose n) r m' → (r ≡ Marked Accepted) ⊎ (r ≡ Marked Known)

-- what the machine holds and says never marks down a plan
pub record Sound (t : Task) (m : Machine) : Type 0 where
  pub landmarks : LandmarksVisited t m
  pub orderings : OrderingsKept t m
  pub remainder : RemainderAtMost t m
  pub dead_ends : DeadEndsHopeless t m
  pub proposals : ProposalsTaken t m

-- after any list of calls on a lawful task with the goal in relaxed reach, the machine is sound
abbrev pub NeverMarkedDown : Type 0
NeverMarkedDown =
    (t : Task) → Lawful t → GoalInReach t
    → (cs : List Call) (rs : List Answer) (m : Machine) → Session t cs rs m → Sound t m
