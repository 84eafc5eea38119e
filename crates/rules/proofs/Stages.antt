-- The machine's rules in stages: each stage parts the cases by one test.
use Rattle.std.proofs.Common.{◌≡◌, ℕ, ◌<◌, ◌≤◌, max, true, false, ◌⊎◌, [], ◌∷◌, ◌++◌, length, refl, inl, inr}
use Rattle.task.specs.Task.{Task, Fact, Start, Numbered, facts}
use Rattle.task.specs.Paths.{Allowed, restarted}
use Rattle.reach.specs.Relaxed.{GoalInReach}
use Rattle.rules.specs.declared.calls.Kind.{Kind}
use Rattle.rules.specs.Marks.{Landmark, Confirmed}
use Rattle.rules.specs.declared.calls.Call.{Call}
use Rattle.rules.specs.declared.calls.Call.TheVariants.{Propose, Order, Begin, Step, Report}
use Rattle.rules.specs.declared.calls.Answer.{Answer}
use Rattle.rules.specs.declared.calls.Answer.TheVariants.{Done, Marked, Reported as Told, Refused}
use Rattle.rules.specs.declared.calls.Mark.TheVariants.{Accepted, Known}
use Rattle.rules.specs.declared.calls.Refusal.TheVariants.{GoalOutOfReach, NoSuch, NoLandmark, OutsideKey, LaterAtStart, Unordered, NoAction, UnmetCondition, TooManySteps}
use Rattle.rules.specs.declared.calls.Remainder.TheVariants.{AtLeast, DeadEnd}
use Rattle.rules.specs.Machine.{Machine, standing}
use Rattle.rules.specs.Machine.{with_fact, with_ordering, with_moves, position, Count, Lowest, MissedGoal, Unmet, Lacking, KindNumber, Visited, Owed, Width, GoalLevel, quotient, Turn, Turn.goal_missed, Turn.ruled, Ruled}
use Rattle.rules.specs.Machine.{Ruled.propose_no_fact, Ruled.propose_known, Ruled.propose_confirmed, Ruled.propose_rejected, Ruled.begin_done, Ruled.step_absent, Ruled.step_full, Ruled.step_unmet, Ruled.step_done, Ruled.report_dead, Ruled.report_standing}
use Rattle.rules.specs.Machine.{Ruled.order_no_kind, Ruled.order_no_earlier, Ruled.order_no_later, Ruled.order_earlier_out, Ruled.order_later_out, Ruled.order_start, Ruled.order_known, Ruled.order_confirmed, Ruled.order_rejected}
use Rattle.task.proofs.Numbers.{numbered_below}

-- an answer and the machine after it
abbrev pub Outcome : Type 0
Outcome = Answer × Machine

module _ (t : Task) (m : Machine) where
  -- a proposed fact that is not in the key
  abbrev pub Judged : ℕ → Fact → Outcome → Type 0
  Judged n f o = (Landmark t f × (o ≡ (Marked Accepted, with_fact m n))) ⊎ ((Landmark t f → ⊥) × (o ≡ (Refused (NoLandmark n), m)))

  -- a proposal
  abbrev pub Proposed : ℕ → Outcome → Type 0
  Proposed n o =
      ((facts t ≤ n) × (o ≡ (Refused (NoSuch n), m)))
      ⊎ ((n < facts t) × (((m.held n ≡ true) × (o ≡ (Marked Known, m))) ⊎ ((m.held n ≡ false) × ((f : Fact) × Numbered t n f × Judged n f o))))

  -- an ordering that is not in the key
  abbrev pub Weighed : Kind → ℕ → ℕ → Fact → Fact → Outcome → Type 0
  Weighed κ e l lf ef o = (Confirmed κ t ef lf × (o ≡ (Marked Accepted, with_ordering m κ e l))) ⊎ ((a : ℕ) × Lowest (Lacking κ t ef lf) a × (o ≡ (Refused (Unordered a), m)))

  -- an ordering of two facts of the key
  abbrev pub Compared : Kind → ℕ → ℕ → Fact → Outcome → Type 0
  Compared κ e l lf o =
      (Start t lf × (o ≡ (Refused (LaterAtStart l), m)))
      ⊎ ((Start t lf → ⊥) × (((m.ordered κ e l ≡ true) × (o ≡ (Marked Known, m))) ⊎ ((m.ordered κ e l ≡ false) × ((ef : Fact) × Numbered t e ef × Weighed κ e l lf ef o))))

  -- an ordering of two facts
  abbrev pub Found : Kind → ℕ → ℕ → Outcome → Type 0
  Found κ e l o =
      ((m.held e ≡ false) × (o ≡ (Refused (OutsideKey e), m)))
      ⊎ ((m.held e ≡ true) × (((m.held l ≡ false) × (o ≡ (Refused (OutsideKey l), m))) ⊎ ((m.held l ≡ true) × ((lf : Fact) × Numbered t l lf × Compared κ e l lf o))))

  -- an ordering of two numbers
  abbrev pub Ranged : Kind → ℕ → ℕ → Outcome → Type 0
  Ranged κ e l o =
      ((facts t ≤ e) × (o ≡ (Refused (NoSuch e), m)))
      ⊎ ((e < facts t) × (((facts t ≤ l) × (o ≡ (Refused (NoSuch l), m))) ⊎ ((l < facts t) × Found κ e l o)))

  -- an ordering call
  abbrev pub Ordered : ℕ → ℕ → ℕ → Outcome → Type 0
  Ordered k e l o = (((κ : Kind) → KindNumber k κ → ⊥) × (o ≡ (Refused (NoSuch k), m))) ⊎ ((κ : Kind) × KindNumber k κ × Ranged κ e l o)

  -- a step call
  abbrev pub Stepped : ℕ → Outcome → Type 0
  Stepped a o =
      ((t.present a ≡ false) × (o ≡ (Refused (NoAction a), m)))
      ⊎ ((t.present a ≡ true) × (((65535 ≤ length m.moves) × (o ≡ (Refused (TooManySteps a), m)))
      ⊎ ((length m.moves < 65535) × (((n : ℕ) × Lowest (Unmet t (position t m) a) n × (o ≡ (Refused (UnmetCondition n), m)))
      ⊎ (Allowed t (position t m) a × (o ≡ (Done, with_moves m (m.moves ++ a ∷ []))))))))

  -- a report with the goal in reach
  abbrev pub Remaining : ℕ → Outcome → Type 0
  Remaining visited o =
      (owed : ℕ) × Count (Owed t m) (facts t) owed × ((w : ℕ) × Width t w × ((g : ℕ) × GoalLevel (restarted t (position t m)) g × (o ≡ (Told (standing (length m.moves) visited (AtLeast (max g (quotient owed w)))), m))))

  -- a report call
  abbrev pub Reported : Outcome → Type 0
  Reported o =
      (visited : ℕ) × Count (Visited t m) (facts t) visited
      × (((GoalInReach (restarted t (position t m)) → ⊥) × (o ≡ (Told (standing (length m.moves) visited DeadEnd), m))) ⊎ (GoalInReach (restarted t (position t m)) × Remaining visited o))

  -- a call where the goal is in reach
  abbrev pub Staged : Call → Outcome → Type 0
  Staged (Propose n) o = Proposed n o
  Staged (Order k e l) o = Ordered k e l o
  Staged Begin o = o ≡ (Done, with_moves m [])
  Staged (Step a) o = Stepped a o
  Staged Report o = Reported o

  -- a call
  abbrev pub TurnStaged : Call → Outcome → Type 0
  TurnStaged c o = ((n : ℕ) × Lowest (MissedGoal t) n × (o ≡ (Refused (GoalOutOfReach n), m))) ⊎ (GoalInReach t × Staged c o)

-- each rule passes through the stages
pub staged : {t : Task} {m m' : Machine} {c : Call} {r : Answer} → Ruled t m c r m' → Staged t m c (r, m')
staged (propose_no_fact l) = inl (l, refl)
staged (propose_known l h) = inr (l, inl (h, refl))
staged (propose_confirmed {f} d h y) = inr (numbered_below d, inr (h, (f, d, inl (y, refl))))
staged (propose_rejected {f} d h y) = inr (numbered_below d, inr (h, (f, d, inr (y, refl))))
staged (order_no_kind h) = inl (h, refl)
staged (order_no_earlier {κ} k x) = inr (κ, k, inl (x, refl))
staged (order_no_later {κ} k x y) = inr (κ, k, inr (x, inl (y, refl)))
staged (order_earlier_out {κ} k x y h) = inr (κ, k, inr (x, inr (y, inl (h, refl))))
staged (order_later_out {κ} k x y h i) = inr (κ, k, inr (x, inr (y, inr (h, inl (i, refl)))))
staged (order_start {κ} {lf} k x h i d s) = inr (κ, k, inr (x, inr (numbered_below d, inr (h, inr (i, (lf, d, inl (s, refl)))))))
staged (order_known {κ} {lf} k x h i d s z) = inr (κ, k, inr (x, inr (numbered_below d, inr (h, inr (i, (lf, d, inr (s, inl (z, refl))))))))
staged (order_confirmed {κ} {ef} {lf} k h i b d s z y) = inr (κ, k, inr (numbered_below b, inr (numbered_below d, inr (h, inr (i, (lf, d, inr (s, inr (z, (ef, b, inl (y, refl))))))))))
staged (order_rejected {a} {κ} {ef} {lf} k h i b d s z y) = inr (κ, k, inr (numbered_below b, inr (numbered_below d, inr (h, inr (i, (lf, d, inr (s, inr (z, (ef, b, inr (a, y, refl))))))))))
staged begin_done = refl
staged (step_absent h) = inl (h, refl)
staged (step_full h l) = inr (h, inl (l, refl))
staged (step_unmet {n} h l u) = inr (h, inr (l, inl (n, u, refl)))
staged (step_done l y) = inr (y.present, inr (l, inr (y, refl)))
staged (report_dead {visited} n far) = (visited, n, inl (far, refl))
staged (report_standing {visited} {owed} {w} {g} n near o width level) = (visited, n, inr (near, (owed, o, (w, width, (g, level, refl)))))

-- and so does each call
pub turn_staged : {t : Task} {m m' : Machine} {c : Call} {r : Answer} → Turn t m c r m' → TurnStaged t m c (r, m')
turn_staged (goal_missed {n} l) = inl (n, l, refl)
turn_staged (ruled reach r) = inr (reach, staged r)
