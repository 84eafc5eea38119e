-- A call has one answer, and leaves one machine.
use Rattle.std.proofs.Common.{◌≡◌, ℕ, ◌≤◌, true, ◌⊎◌, refl, ap, inl, inr, le_antisymm, not-le_of_lt, arith}
use borrow.Author.Tests.{both_ways}
use Rattle.task.specs.Task.{Task, Fact, Goal}
use Rattle.reach.specs.Relaxed.{Level}
use Rattle.rules.specs.declared.calls.Kind.{Kind}
use Rattle.rules.specs.declared.calls.Call.{Call}
use Rattle.rules.specs.declared.calls.Call.TheVariants.{Propose, Order, Begin, Step, Report}
use Rattle.rules.specs.Machine.{Machine}
use Rattle.rules.specs.Machine.{KindNumber, KindNumber.one_greedy, KindNumber.two_necessary, Effects, Width, GoalLevel}
use Rattle.rules.specs.Answered.{OneAnswer}
use Rattle.task.proofs.Numbers.{numbered_unique}
use Rattle.rules.proofs.Soundness.{no_goal_missed}
use Rattle.rules.proofs.Counting.{count_unique, lowest_unique}
use Rattle.rules.proofs.Alone.{Alone, alone_is, alone_if, alone_or, alone_some}
use Rattle.rules.proofs.Stages.{Outcome, Judged, Proposed, Weighed, Compared, Found, Ranged, Ordered, Stepped, Remaining, Reported, Staged, TurnStaged, turn_staged}

-- a number stands for one kind
pub kind_unique : {k : ℕ} {κ κ' : Kind} → KindNumber k κ → KindNumber k κ' → κ ≡ κ'
kind_unique one_greedy one_greedy = refl
kind_unique two_necessary two_necessary = refl

-- a width is at most any other
width_le : {t : Task} {w w' : ℕ} → Width t w → Width t w' → w ≤ w'
width_le {t} {w} {w'} a b = go a.reaches
  where
    go : (w ≡ 0) ⊎ ((x : ℕ) × (t.present x ≡ true) × Effects t x w) → w ≤ w'
    go (inl z) = omega arith
    go (inr (x, here, count)) = b.most x w here count

-- a task has one width
pub width_unique : {t : Task} {w w' : ℕ} → Width t w → Width t w' → w ≡ w'
width_unique a b = le_antisymm (width_le a b) (width_le b a)

-- a goal level is at most any other
level_le : {t : Task} {g g' : ℕ} → GoalLevel t g → GoalLevel t g' → g ≤ g'
level_le {t} {g} {g'} a b = go a.reaches
  where
    go : (g ≡ 0) ⊎ ((f : Fact) × Goal t f × Level t f g) → g ≤ g'
    go (inl z) = omega arith
    go (inr (f, goal, level)) = level.first g' (b.most f goal)

-- a task has one goal level
pub level_unique : {t : Task} {g g' : ℕ} → GoalLevel t g → GoalLevel t g' → g ≡ g'
level_unique a b = le_antisymm (level_le a b) (level_le b a)

-- each stage has one outcome
module _ (t : Task) (m : Machine) where
  judged : (n : ℕ) (f : Fact) → Alone (Judged t m n f)
  judged n f = alone_or (λ o o' p q. q.0 p.0) (alone_if (alone_is _)) (alone_if (alone_is _))

  proposed : (n : ℕ) → Alone (Proposed t m n)
  proposed n =
      alone_or (λ o o' p q. not-le_of_lt q.0 p.0) (alone_if (alone_is _))
      (alone_if (alone_or (λ o o' p q. both_ways (m.held n) q.0 p.0) (alone_if (alone_is _))
      (alone_if (alone_some (λ f g. numbered_unique) (judged n)))))

  weighed : (κ : Kind) (e l : ℕ) (lf ef : Fact) → Alone (Weighed t m κ e l lf ef)
  weighed κ e l lf ef =
      alone_or (λ o o' p q. q.1.holds.1 (p.0 q.0 q.1.holds.0)) (alone_if (alone_is _)) (alone_some (λ a b. lowest_unique) (λ a. alone_is _))

  compared : (κ : Kind) (e l : ℕ) (lf : Fact) → Alone (Compared t m κ e l lf)
  compared κ e l lf =
      alone_or (λ o o' p q. q.0 p.0) (alone_if (alone_is _))
      (alone_if (alone_or (λ o o' p q. both_ways (m.ordered κ e l) q.0 p.0) (alone_if (alone_is _))
      (alone_if (alone_some (λ f g. numbered_unique) (weighed κ e l lf)))))

  found : (κ : Kind) (e l : ℕ) → Alone (Found t m κ e l)
  found κ e l =
      alone_or (λ o o' p q. both_ways (m.held e) p.0 q.0) (alone_if (alone_is _))
      (alone_if (alone_or (λ o o' p q. both_ways (m.held l) p.0 q.0) (alone_if (alone_is _))
      (alone_if (alone_some (λ f g. numbered_unique) (compared κ e l)))))

  ranged : (e l : ℕ) (κ : Kind) → Alone (Ranged t m κ e l)
  ranged e l κ =
      alone_or (λ o o' p q. not-le_of_lt q.0 p.0) (alone_if (alone_is _))
      (alone_if (alone_or (λ o o' p q. not-le_of_lt q.0 p.0) (alone_if (alone_is _)) (alone_if (found κ e l))))

  ordered : (k e l : ℕ) → Alone (Ordered t m k e l)
  ordered k e l = alone_or (λ o o' p q. p.0 q.0 q.1) (alone_if (alone_is _)) (alone_some (λ κ κ'. kind_unique) (ranged e l))

  stepped : (a : ℕ) → Alone (Stepped t m a)
  stepped a =
      alone_or (λ o o' p q. both_ways (t.present a) p.0 q.0) (alone_if (alone_is _))
      (alone_if (alone_or (λ o o' p q. not-le_of_lt q.0 p.0) (alone_if (alone_is _))
      (alone_if (alone_or (λ o o' p q. p.1.holds.3 (q.0.met p.1.holds.0 p.1.holds.2)) (alone_some (λ n k. lowest_unique) (λ n. alone_is _)) (alone_if (alone_is _))))))

  remaining : (visited : ℕ) → Alone (Remaining t m visited)
  remaining visited = alone_some (λ x y. count_unique) (λ owed. alone_some (λ x y. width_unique) (λ w. alone_some (λ x y. level_unique) (λ g. alone_is _)))

  reported : Alone (Reported t m)
  reported = alone_some (λ x y. count_unique) (λ visited. alone_or (λ o o' p q. p.0 q.0) (alone_if (alone_is _)) (alone_if (remaining visited)))

  staged_alone : (c : Call) → Alone (Staged t m c)
  staged_alone (Propose n) = proposed n
  staged_alone (Order k e l) = ordered k e l
  staged_alone Begin = alone_is _
  staged_alone (Step a) = stepped a
  staged_alone Report = reported

  turn_alone : (c : Call) → Alone (TurnStaged t m c)
  turn_alone c = alone_or (λ o o' p q. no_goal_missed t p.0 q.0 p.1.holds) (alone_some (λ x y. lowest_unique) (λ n. alone_is _)) (alone_if (staged_alone c))

-- a call has one answer, and one machine after it
pub one_answer : OneAnswer
one_answer t m c r r' m₁ m₂ x y =
    let e : ◌≡◌ {A = Outcome} (r, m₁) (r', m₂) = turn_alone t m c (r, m₁) (r', m₂) (turn_staged x) (turn_staged y) in
    (ap (λ (o : Outcome). o.0) e, ap (λ (o : Outcome). o.1) e)
