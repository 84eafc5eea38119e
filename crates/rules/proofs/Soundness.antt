-- What every session keeps makes it sound.
use Rattle.std.proofs.Common.{◌≡◌, ℕ, ◌⊎◌, length, refl, subst, inl, inr, arith}
use native.Mathlib.Nat.{max-le}
use Rattle.task.specs.Task.{Task, Fact, Lawful, Numbered}
use Rattle.task.specs.Paths.{restarted}
use Rattle.task.proofs.Numbers.{numbered_below, numbered_unique}
use Rattle.reach.specs.Relaxed.{GoalInReach}
use Rattle.reach.proofs.Sequences.{plan_in_reach}
use Rattle.rules.specs.Marks.{Landmark, Confirmed}
use Rattle.rules.specs.declared.calls.Call.TheVariants.{Propose}
use Rattle.rules.specs.declared.calls.Answer.{Answer}
use Rattle.rules.specs.declared.calls.Answer.TheVariants.{Marked}
use Rattle.rules.specs.declared.calls.Mark.TheVariants.{Accepted, Known}
use Rattle.rules.specs.Machine.{Machine, Ruled, MissedGoal, position}
use Rattle.rules.specs.Machine.Ruled.{propose_no_fact, propose_known, propose_confirmed, propose_rejected, report_dead, report_standing}
use Rattle.rules.specs.Machine.Turn.{goal_missed, ruled}
use Rattle.rules.specs.Sound.{LandmarksVisited, OrderingsKept, RemainderAtMost, DeadEndsHopeless, ProposalsTaken, Kept, NeverMarkedDown}
use Rattle.rules.proofs.Landmarks.{landmark_visited, proposed_landmark}
use Rattle.rules.proofs.Orderings.{ordering_kept}
use Rattle.rules.proofs.Remainder.{level_bound, owed_bound, quotient_bound}
use Rattle.rules.proofs.Sessions.{session_kept}

-- no goal is missed where the goal is in reach
pub no_goal_missed : (t : Task) (n : ℕ) → GoalInReach t → MissedGoal t n → ⊥
no_goal_missed t n (p, relaxed, has) (f, h, goal, far) = far (p, relaxed, has f goal)

-- the answer to a proposal of a landmark
proposal_answer : (t : Task) (m : Machine) (n : ℕ) (f : Fact) {r : Answer} {m' : Machine} → Numbered t n f → Landmark t f → Ruled t m (Propose n) r m' → (r ≡ Marked Accepted) ⊎ (r ≡ Marked Known)
proposal_answer t m n f is c (propose_no_fact past) = let z : ⊥ = omega (arith, numbered_below is) in absurd z
proposal_answer t m n f is c (propose_known h e) = inr refl
proposal_answer t m n f is c (propose_confirmed i e d) = inl refl
proposal_answer t m n f is c (propose_rejected i e d) = absurd (d (subst (Landmark t) (numbered_unique is i) c))

-- each field of `Sound`
module _ (t : Task) (law : Lawful t) (m : Machine) (kept : Kept t m) where
  landmarks_visited_lem : LandmarksVisited t m
  landmarks_visited_lem n f h is p w =
      let mark = kept.landmarks n h in
      landmark_visited t law f (subst (Landmark t) (numbered_unique mark.1 is) mark.2) p w

  orderings_kept_lem : OrderingsKept t m
  orderings_kept_lem k e l ef lf h ie il p w =
      let bond = kept.orderings k e l h in
      let at = bond.1 in
      let ee : bond.0 ≡ ef = numbered_unique at.1 ie in
      let le : at.0 ≡ lf = numbered_unique at.2 il in
      let c : Confirmed k t ef lf = subst (λ x. Confirmed k t x lf) ee (subst (λ x. Confirmed k t bond.0 x) le at.4) in
      ordering_kept t law k ef lf c p w.0

  remainder_at_most : RemainderAtMost t m
  remainder_at_most steps visited r m' (ruled _ (report_standing {owed} {w} {g} _ _ count width level)) p rest =
      max-le (level_bound (restarted t (position t m)) g p level rest)
      (quotient_bound owed w (length p) (owed_bound t law m kept.path landmarks_visited_lem p rest owed w count width))

  dead_ends_hopeless : DeadEndsHopeless t m
  dead_ends_hopeless steps visited m' (ruled _ (report_dead _ far)) p rest = far (plan_in_reach (restarted t (position t m)) p rest)

  proposals_taken : GoalInReach t → ProposalsTaken t m
  proposals_taken reach n f r m' is why (goal_missed {n = missed} l) = absurd (no_goal_missed t missed reach l.holds)
  proposals_taken reach n f r m' is why (ruled _ turn) = proposal_answer t m n f is (proposed_landmark t f why) turn

pub never_marked_down_lem : NeverMarkedDown
never_marked_down_lem t law reach cs rs m session =
    let kept = session_kept t session in
    record {
      landmarks = landmarks_visited_lem t law m kept;
      orderings = orderings_kept_lem t law m kept;
      remainder = remainder_at_most t law m kept;
      dead_ends = dead_ends_hopeless t law m kept;
      proposals = proposals_taken t law m kept reach;
    }
