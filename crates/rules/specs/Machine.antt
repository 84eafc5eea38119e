-- The reference machine: what each call answers, by the task and the calls before it alone.
use Rattle.std.specs.Prelude.{◌≡◌, ℕ, suc, ◌+◌, ◌-◌, ◌/◌, ◌<◌, ◌≤◌, max, Bool, true, false, cond, ◌&&◌, ◌||◌, ◌⊎◌, List, [], ◌∷◌, ◌++◌, length, Some, ◌==◌}
use Rattle.task.specs.Task.{Task, Fact, Start, Goal, Needs, Numbered, facts}
use Rattle.task.specs.Paths.{State, Holds, Allowed, Visits, reached, restarted}
use Rattle.reach.specs.Relaxed.{Reach, GoalInReach, Layer, Level}
use Rattle.rules.specs.declared.calls.Call.{Call}
use Rattle.rules.specs.declared.calls.Call.TheVariants.{Propose, Order, Begin, Step, Report}
use Rattle.rules.specs.declared.calls.Answer.{Answer}
use Rattle.rules.specs.declared.calls.Answer.TheVariants.{Done, Marked, Reported, Refused}
use Rattle.rules.specs.declared.calls.Mark.TheVariants.{Accepted, Known}
use Rattle.rules.specs.declared.calls.Refusal.TheVariants.{GoalOutOfReach, NoSuch, NoLandmark, OutsideKey, LaterAtStart, Unordered, NoAction, UnmetCondition, TooManySteps}
use Rattle.rules.specs.declared.calls.Remainder.TheVariants.{AtLeast, DeadEnd}
use Rattle.rules.specs.declared.calls.Remainder.{Remainder}
use Rattle.rules.specs.declared.calls.Standing.{Standing}
use Rattle.rules.specs.declared.calls.Kind.{Kind}
use Rattle.rules.specs.declared.calls.Kind.TheVariants.{Greedy, Necessary}
use Rattle.rules.specs.Marks.{Landmark, Counts, Confirmed}

-- the reference machine: a key, which is a set of facts and a set of orderings by kind, and a list of moves
pub record Machine : Type 0 where
  pub held : ℕ → Bool
  pub ordered : Kind → ℕ → ℕ → Bool
  pub moves : List ℕ

-- a machine with an empty key and no moves
abbrev pub opened : Machine
opened = record { held = λ n. false; ordered = λ k e l. false; moves = [] }

-- whether two kinds are the same
abbrev pub same_kind : Kind → Kind → Bool
same_kind Greedy Greedy = true
same_kind Greedy Necessary = false
same_kind Necessary Greedy = false
same_kind Necessary Necessary = true

-- the machine with a fact more in its key
abbrev pub with_fact : Machine → ℕ → Machine
with_fact m n = record { held = λ k. m.held k || (k == n); ordered = m.ordered; moves = m.moves }

-- the machine with an ordering more in its key
abbrev pub with_ordering : Machine → Kind → ℕ → ℕ → Machine
with_ordering m k e l = record {
  held = m.held;
  ordered = λ k' e' l'. m.ordered k' e' l' || (same_kind k' k && (e' == e && l' == l));
  moves = m.moves;
}

-- the machine with other moves
abbrev pub with_moves : Machine → List ℕ → Machine
with_moves m p = record { held = m.held; ordered = m.ordered; moves = p }

-- the state that the sitting has reached: the one after the moves
abbrev pub position : Task → Machine → State
position t m = reached t t.start m.moves

-- how many k below a limit satisfy P
pub data Count (P : ℕ → Type 0) : ℕ → ℕ → Type 0 where
  none : Count P 0 0
  one : {n c : ℕ} → Count P n c → P n → Count P (suc n) (suc c)
  skip : {n c : ℕ} → Count P n c → (P n → ⊥) → Count P (suc n) c

-- the lowest number that satisfies P
pub record Lowest (P : ℕ → Type 0) (n : ℕ) : Type 0 where
  pub holds : P n
  pub first : (k : ℕ) → k < n → P k → ⊥

-- the number of a goal fact out of reach
abbrev pub MissedGoal : Task → ℕ → Type 0
MissedGoal t n = (f : Fact) × Numbered t n f × Goal t f × (Reach t f → ⊥)

-- the number of a condition of the action a that does not hold in the state
abbrev pub Unmet : Task → State → ℕ → ℕ → Type 0
Unmet t s a n = (f : Fact) × Numbered t n f × Needs t a f × (Holds t s f → ⊥)

-- an action that counts for the ordering and does not need the earlier fact
abbrev pub Lacking : Kind → Task → Fact → Fact → ℕ → Type 0
Lacking k t earlier later a = Counts k t later a × (Needs t a earlier → ⊥)

-- the numbers of the orderings' kinds
pub data KindNumber : ℕ → Kind → Type 0 where
  one_greedy : KindNumber 1 Greedy
  two_necessary : KindNumber 2 Necessary

-- the number of a fact of the key that the moves visit
abbrev pub Visited : Task → Machine → ℕ → Type 0
Visited t m n = (m.held n ≡ true) × ((f : Fact) × Numbered t n f × Visits t m.moves f)

-- the number of a fact still to come: in the key and not visited, or in the goal and not holding
abbrev pub Owed : Task → Machine → ℕ → Type 0
Owed t m n =
    (f : Fact) × Numbered t n f
    × (((m.held n ≡ true) × (Visits t m.moves f → ⊥)) ⊎ (Goal t f × (Holds t (position t m) f → ⊥)))

-- the number of effects of an action
abbrev pub Effects : Task → ℕ → ℕ → Type 0
Effects t a c = Count (λ v. (x : ℕ) × (t.give a v ≡ Some x)) t.vars c

-- the most effects of any present action, 0 without actions
pub record Width (t : Task) (w : ℕ) : Type 0 where
  pub most : (a c : ℕ) → t.present a ≡ true → Effects t a c → c ≤ w
  pub reaches : (w ≡ 0) ⊎ ((a : ℕ) × (t.present a ≡ true) × Effects t a w)

-- the greatest level of a goal fact, 0 without goals
pub record GoalLevel (t : Task) (g : ℕ) : Type 0 where
  pub most : (f : Fact) → Goal t f → Layer t g f
  pub reaches : (g ≡ 0) ⊎ ((f : Fact) × Goal t f × Level t f g)

-- c divided by w, rounded up; 0 if c is 0
abbrev pub quotient : ℕ → ℕ → ℕ
quotient c w = cond (c == 0) 0 ((c + w - 1) / w)

-- a report: the steps taken, the key's facts visited, and what is left
abbrev pub standing : ℕ → ℕ → Remainder → Standing
standing steps visited left = record { steps = steps; visited = visited; remainder = left }

-- the rules of each call where the goal is in reach: what the call finds, what it is answered and the machine that it leaves
pub data Ruled (t : Task) (m : Machine) : Call → Answer → Machine → Type 0 where
  -- propose: no such fact; in the key; a landmark; no landmark
  propose_no_fact :
      {n : ℕ} → facts t ≤ n
      → Ruled t m (Propose n) (Refused (NoSuch n)) m
  propose_known :
      {n : ℕ} → n < facts t → m.held n ≡ true
      → Ruled t m (Propose n) (Marked Known) m
  propose_confirmed :
      {n : ℕ} {f : Fact} → Numbered t n f → m.held n ≡ false → Landmark t f
      → Ruled t m (Propose n) (Marked Accepted) (with_fact m n)
  propose_rejected :
      {n : ℕ} {f : Fact} → Numbered t n f → m.held n ≡ false → (Landmark t f → ⊥)
      → Ruled t m (Propose n) (Refused (NoLandmark n)) m
  -- order: no such kind, earlier or later fact; the earlier or later fact not in the key
  order_no_kind :
      {k e l : ℕ} → ((κ : Kind) → KindNumber k κ → ⊥)
      → Ruled t m (Order k e l) (Refused (NoSuch k)) m
  order_no_earlier :
      {k e l : ℕ} {κ : Kind} → KindNumber k κ → facts t ≤ e
      → Ruled t m (Order k e l) (Refused (NoSuch e)) m
  order_no_later :
      {k e l : ℕ} {κ : Kind} → KindNumber k κ → e < facts t → facts t ≤ l
      → Ruled t m (Order k e l) (Refused (NoSuch l)) m
  order_earlier_out :
      {k e l : ℕ} {κ : Kind} → KindNumber k κ → e < facts t → l < facts t → m.held e ≡ false
      → Ruled t m (Order k e l) (Refused (OutsideKey e)) m
  order_later_out :
      {k e l : ℕ} {κ : Kind} → KindNumber k κ → e < facts t → l < facts t → m.held e ≡ true → m.held l ≡ false
      → Ruled t m (Order k e l) (Refused (OutsideKey l)) m
  -- order, both facts in the key: the later one in the start; the ordering in the key; confirmed; not confirmed
  order_start :
      {k e l : ℕ} {κ : Kind} {lf : Fact} → KindNumber k κ → e < facts t → m.held e ≡ true → m.held l ≡ true
      → Numbered t l lf → Start t lf
      → Ruled t m (Order k e l) (Refused (LaterAtStart l)) m
  order_known :
      {k e l : ℕ} {κ : Kind} {lf : Fact} → KindNumber k κ → e < facts t → m.held e ≡ true → m.held l ≡ true
      → Numbered t l lf → (Start t lf → ⊥) → m.ordered κ e l ≡ true
      → Ruled t m (Order k e l) (Marked Known) m
  order_confirmed :
      {k e l : ℕ} {κ : Kind} {ef lf : Fact} → KindNumber k κ → m.held e ≡ true → m.held l ≡ true
      → Numbered t e ef → Numbered t l lf → (Start t lf → ⊥) → m.ordered κ e l ≡ false → Confirmed κ t ef lf
      → Ruled t m (Order k e l) (Marked Accepted) (with_ordering m κ e l)
  order_rejected :
      {k e l a : ℕ} {κ : Kind} {ef lf : Fact} → KindNumber k κ → m.held e ≡ true → m.held l ≡ true
      → Numbered t e ef → Numbered t l lf → (Start t lf → ⊥) → m.ordered κ e l ≡ false → Lowest (Lacking κ t ef lf) a
      → Ruled t m (Order k e l) (Refused (Unordered a)) m
  -- begin: the moves are emptied
  begin_done : Ruled t m Begin Done (with_moves m [])
  -- step: no such action; no room for a step; a condition does not hold; the action is taken
  step_absent :
      {a : ℕ} → t.present a ≡ false
      → Ruled t m (Step a) (Refused (NoAction a)) m
  step_full :
      {a : ℕ} → t.present a ≡ true → 65535 ≤ length m.moves
      → Ruled t m (Step a) (Refused (TooManySteps a)) m
  step_unmet :
      {a n : ℕ} → t.present a ≡ true → length m.moves < 65535 → Lowest (Unmet t (position t m) a) n
      → Ruled t m (Step a) (Refused (UnmetCondition n)) m
  step_done :
      {a : ℕ} → length m.moves < 65535 → Allowed t (position t m) a
      → Ruled t m (Step a) Done (with_moves m (m.moves ++ a ∷ []))
  -- report: the goal out of reach from the position; the goal in reach from there
  report_dead :
      {visited : ℕ} → Count (Visited t m) (facts t) visited → (GoalInReach (restarted t (position t m)) → ⊥)
      → Ruled t m Report (Reported (standing (length m.moves) visited DeadEnd)) m
  report_standing :
      {visited owed w g : ℕ} → Count (Visited t m) (facts t) visited → GoalInReach (restarted t (position t m))
      → Count (Owed t m) (facts t) owed → Width t w → GoalLevel (restarted t (position t m)) g
      → Ruled t m Report (Reported (standing (length m.moves) visited (AtLeast (max g (quotient owed w))))) m

-- one call, the answer and the machine after it: refused where a goal fact is out of reach, else by the rules above
pub data Turn (t : Task) (m : Machine) : Call → Answer → Machine → Type 0 where
  goal_missed :
      {c : Call} {n : ℕ} → Lowest (MissedGoal t) n
      → Turn t m c (Refused (GoalOutOfReach n)) m
  ruled :
      {c : Call} {r : Answer} {m' : Machine} → GoalInReach t → Ruled t m c r m'
      → Turn t m c r m'

-- a list of calls on a key that was opened empty, their answers and the machine after them
pub data Session (t : Task) : List Call → List Answer → Machine → Type 0 where
  open_empty : Session t [] [] opened
  and_then :
      {cs : List Call} {rs : List Answer} {m m' : Machine} {c : Call} {r : Answer}
      → Session t cs rs m → Turn t m c r m'
      → Session t (cs ++ c ∷ []) (rs ++ r ∷ []) m'
