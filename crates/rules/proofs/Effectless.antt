-- Where no present action has an effect, nothing is owed.
use Rattle.std.proofs.Common.{◌≡◌, ℕ, true, [], subst, inl, inr, zero-le, arith}
use Rattle.task.specs.Task.{Task, Fact, Goal, Gives, Lawful}
use Rattle.task.specs.Paths.{State, Holds, Visits, restarted}
use Rattle.task.proofs.Inside.{give_var}
use Rattle.task.proofs.Numbers.{numbered_unique}
use Rattle.task.proofs.Options.{dec_any}
use Rattle.task.proofs.Restarting.{restarted_end}
use Rattle.reach.specs.Relaxed.{GoalInReach}
use Rattle.rules.specs.Marks.{Landmark}
use Rattle.rules.specs.Machine.{Machine, Width, position}
use Rattle.rules.specs.Sound.{NeverByZero}
use Rattle.rules.proofs.Counting.{counted, count_some}
use Rattle.rules.proofs.Landmarks.{landmark_had}
use Rattle.rules.proofs.Sessions.{session_kept}

-- no action gives a fact
effectless : (t : Task) → Lawful t → Width t 0 → (a : ℕ) → t.present a ≡ true → (f : Fact) → Gives t a f → ⊥
effectless t law width a here f gives =
    let (c, s) = counted t.vars (λ v l. dec_any (t.give a v)) in
    omega (arith, width.most a c here s, count_some f.variable (give_var law a f.variable f.value gives) (f.value, gives) s)

-- a landmark is a start fact, so any moves visit it
landmark_there : (t : Task) → Lawful t → Width t 0 → GoalInReach t → (m : Machine) (f : Fact) → Landmark t f → Visits t m.moves f
landmark_there t law width (p, r, goal) m f mark = elim (landmark_had t p f mark r goal) [
  | inl s ↦ (0, zero-le, s)
  | inr k ↦ absurd (effectless t law width _ (r k.0 k.1).0 f k.2)
]

-- a goal fact in reach from the position holds there
goal_there : (t : Task) → Lawful t → Width t 0 → (m : Machine) → GoalInReach (restarted t (position t m)) → (f : Fact) → Goal t f → Holds t (position t m) f
goal_there t law width m (p, r, goal) f g = elim (goal f g) [
  | inl s ↦ (s.0, subst (λ (x : State). x f.variable ≡ f.value) (restarted_end t law m.moves []) s.1)
  | inr k ↦ absurd (effectless t law width _ (r k.0 k.1).0 f k.2)
]

pub never_by_zero_lem : NeverByZero
never_by_zero_lem t law reach cs rs m session near width n (f, is, why) = elim why [
  | inl h ↦
      let mark = (session_kept t session).landmarks n h.0 in
      h.1 (landmark_there t law width reach m f (subst (Landmark t) (numbered_unique mark.1 is) mark.2))
  | inr h ↦ h.1 (goal_there t law width m near f h.0)
]
