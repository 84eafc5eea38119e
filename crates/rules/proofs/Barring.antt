-- The task without the actions that achieve a fact: its relaxed sequences, and the test for a landmark.
use Rattle.std.proofs.Common.{ℕ, ◌<◌, List, length, get_or, inl, inr}
use Rattle.std.proofs.lemmas.Bool.{and_parts, not-true, both_ways}
use Rattle.task.specs.Task.{Task, Fact, Start, Gives}
use Rattle.task.specs.Paths.{barred}
use Rattle.task.proofs.Options.{some_gives}
use Rattle.reach.specs.Relaxed.{Relaxed, Reach, GoalInReach}
use Rattle.reach.proofs.Sequences.{relaxed_barred}
use Rattle.rules.specs.Marks.{Landmark}
use Rattle.rules.specs.Marked.{LandmarkTest}
use Rattle.rules.proofs.Deciding.{dec_holds}

-- a relaxed sequence of the barred task is one of the task
pub barred_relaxed : (t : Task) (f : Fact) (p : List ℕ) → Relaxed (barred t f) p → Relaxed t p
barred_relaxed t f p r k h = ((and_parts (t.present (get_or p k 0)) _ (r k h).0).0, (r k h).1)

-- so what the barred task has in reach the task has in reach
pub barred_reach : (t : Task) (f g : Fact) → Reach (barred t f) g → Reach t g
barred_reach t f g (p, r, has) = (p, barred_relaxed t f p r, has)

-- it never achieves the fact
barred_gives : (t : Task) (f : Fact) (p : List ℕ) → Relaxed (barred t f) p → (k : ℕ) → k < length p → Gives t (get_or p k 0) f → ⊥
barred_gives t f p r k h gives =
    let a = get_or p k 0 in
    both_ways _ (not-true _ (and_parts (t.present a) _ (r k h).0).1) (some_gives (t.give a f.variable) f.value gives)

-- a start fact is a landmark
start_landmark : (t : Task) (f : Fact) → Start t f → Landmark t f
start_landmark t f s p r g lacks = lacks (inl s)

-- and so is a fact without whose achievers the goal is out of reach
missed_landmark : (t : Task) (f : Fact) → (GoalInReach (barred t f) → ⊥) → Landmark t f
missed_landmark t f far p r g lacks = far (p, relaxed_barred t p f r (λ k h gives. lacks (inr (k, h, gives))), g)

-- no other fact is
landmark_missed : (t : Task) (f : Fact) → (Start t f → ⊥) → Landmark t f → GoalInReach (barred t f) → ⊥
landmark_missed t f out mark (p, r, g) =
    mark p (barred_relaxed t f p r) g (λ has. elim has [ inl s ↦ out s | inr k ↦ barred_gives t f p r k.0 k.1 k.2 ])

-- the test of a proposal
pub landmark_test_lem : LandmarkTest
landmark_test_lem t f = (
  λ mark. elim (dec_holds t t.start f) [ yes s ↦ inl s | no out ↦ inr (landmark_missed t f out mark) ],
  λ either. elim either [ inl s ↦ start_landmark t f s | inr far ↦ missed_landmark t f far ],
)
