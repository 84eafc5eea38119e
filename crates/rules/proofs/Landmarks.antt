-- Landmarks: every plan visits them; which facts are landmarks.
use Rattle.std.proofs.Common.{ℕ, ◌<◌, ◌⊎◌, List, length, get_or, inl, inr, zero-le}
use Rattle.task.specs.Task.{Task, Fact, Start, Goal, Needs, Gives, Lawful}
use Rattle.task.specs.Paths.{Plan, Visits}
use Rattle.task.proofs.Visiting.{achieved_visits}
use Rattle.reach.specs.Relaxed.{Has, Relaxed, HasGoal}
use Rattle.reach.proofs.Sequences.{path_relaxed, plan_has_goal, has_more}
use Rattle.rules.specs.declared.calls.Kind.TheVariants.{Greedy}
use Rattle.rules.specs.Marks.{Landmark, Counts}
use Rattle.rules.specs.Sound.{NeededFirst}
use Rattle.rules.proofs.Covered.{achievers_covered_lem}
use Rattle.rules.proofs.Deciding.{First, scan, dec_gives, dec_has}

-- a relaxed sequence that has the goal has every landmark
pub landmark_had : (t : Task) (p : List ℕ) (f : Fact) → Landmark t f → Relaxed t p → HasGoal t p → Has t p f
landmark_had t p f c r g = elim (dec_has t p f) [ yes h ↦ h | no lacks ↦ absurd (c p r g lacks) ]

-- what a list has it visits
has_visits : (t : Task) → Lawful t → (p : List ℕ) (f : Fact) → Has t p f → Visits t p f
has_visits t law p f (inl s) = (0, zero-le, s)
has_visits t law p f (inr k) = achieved_visits t law p f k

-- a plan visits every landmark
pub landmark_visited : (t : Task) → Lawful t → (f : Fact) → Landmark t f → (p : List ℕ) → Plan t p → Visits t p f
landmark_visited t law f c p w = has_visits t law p f (landmark_had t p f c (path_relaxed t p w.0) (plan_has_goal t p w))

-- a goal fact is a landmark
pub goal_landmark : (t : Task) (f : Fact) → Goal t f → Landmark t f
goal_landmark t f g p r has lacks = lacks (has f g)

-- of a relaxed sequence that has q outside the start, the first action that achieves q is a possible first achiever
pub first_counts : (t : Task) (p : List ℕ) (q : Fact) → Relaxed t p → (Start t q → ⊥) → Has t p q → (i : ℕ) × (i < length p) × Counts Greedy t q (get_or p i 0)
first_counts t p q r out (inl s) = absurd (out s)
first_counts t p q r out (inr k) = go (scan (λ i. Gives t (get_or p i 0) q) (λ i. dec_gives t (get_or p i 0) q) (length p))
  where
    go : First (λ i. Gives t (get_or p i 0) q) (length p) ⊎ ((i : ℕ) → i < length p → Gives t (get_or p i 0) q → ⊥) → (i : ℕ) × (i < length p) × Counts Greedy t q (get_or p i 0)
    go (inl (i, l, gives, before)) = (i, l, (achievers_covered_lem t p r q i l gives).1 before)
    go (inr none) = absurd (none k.0 k.1 k.2)

-- so such a sequence has what all possible first achievers of q need
first_needs_had : (t : Task) (p : List ℕ) (q f : Fact) → Relaxed t p → (Start t q → ⊥) → ((a : ℕ) → Counts Greedy t q a → Needs t a f) → Has t p q → Has t p f
first_needs_had t p q f r out all has =
    let (i, l, counts) = first_counts t p q r out has in
    has_more t p i f ((r i l).1 f (all (get_or p i 0) counts))

-- a fact that all possible first achievers of a landmark need is a landmark
pub needed_landmark : (t : Task) (f : Fact) → NeededFirst t f → Landmark t f
needed_landmark t f n p r g lacks = n.1 p r g (λ h. lacks (first_needs_had t p n.0 f r n.2 n.3 h))

-- what a proposal may name for sure
pub proposed_landmark : (t : Task) (f : Fact) → Goal t f ⊎ NeededFirst t f → Landmark t f
proposed_landmark t f (inl g) = goal_landmark t f g
proposed_landmark t f (inr n) = needed_landmark t f n
