-- From the layers that were built to what they say of each fact.
use Rattle.std.proofs.Common.{◌≡◌, ℕ, ◌-◌, ◌≤◌, List, ◌++◌, length, take, Some, None, Option, ◌∙◌, arith, MatchOption}
use borrow.Rule.Slice.PartMut.{post_of}
use Rattle.std.proofs.lemmas.List.{take_at}
use Rattle.std.proofs.lemmas.Slice.{drop-append-drop}
use Rattle.task.specs.Task.{Task, Lawful, facts}
use Rattle.reach.specs.declared.measure.AtLevel.{AtLevel}
use Rattle.reach.specs.declared.measure.InReach.{InReach}
use Rattle.reach.specs.Built.{FactsBuilt, Filled, LayersBuilt, LevelsBuilt, ReachBuilt, TooShort}
use Rattle.reach.specs.Measures.{levels, reaches}
use Rattle.reach.proofs.Bound.{count_few}
use Rattle.reach.proofs.Leveling.{levels_built, level_count}
use Rattle.reach.proofs.Reaching.{reach_built, reach_count}

-- a table of which the front was written
pub front_filled : {M : Type 0} {t : Task} (before front values : List M) (count : ℕ) → count ≡ facts t → count ≤ length before → length front ≡ count → front ≡ values → Filled t (λ xs. take (facts t) xs ≡ values) before (front ++ post_of 0 (count - 0) before)
front_filled {t = t} before front values count e room long is = record {
  room = omega arith;
  holds = take_at front (post_of 0 (count - 0) before) (facts t) (omega arith) ∙ is;
  rest = drop-append-drop (count - 0) before front (facts t) (omega arith) (omega arith);
}

refill : {M : Type 0} {t : Task} {P Q : List M → Type 0} {before left : List M} → Filled t P before left → (P left → Q left) → Filled t Q before left
refill w f = record { room = w.room; holds = f w.holds; rest = w.rest }

module _ {t : Task} (lawful : Lawful t) where
  pub reach_run : (a b x y : List InReach) (r : Option ℕ) → MatchOption r (TooShort t a b x y) (λ n. LayersBuilt reaches t n a b x y) → MatchOption r (TooShort t a b x y) (λ n. FactsBuilt t ReachBuilt n a b x y)
  reach_run a b x y None h = h
  reach_run a b x y (Some n) h =
      let count = reach_count lawful n h.closed in
      record {
        filled = refill h.filled (λ e. reach_built lawful x n e h.closed);
        scratch_filled = refill h.scratch_filled (λ e. reach_built lawful y n e h.closed);
        count = count;
        few = count_few lawful n count;
      }

  pub levels_run : (a b x y : List AtLevel) (r : Option ℕ) → MatchOption r (TooShort t a b x y) (λ n. LayersBuilt levels t n a b x y) → MatchOption r (TooShort t a b x y) (λ n. FactsBuilt t LevelsBuilt n a b x y)
  levels_run a b x y None h = h
  levels_run a b x y (Some n) h =
      let count = level_count lawful n h.closed in
      record {
        filled = refill h.filled (λ e. levels_built lawful x n e h.closed);
        scratch_filled = refill h.scratch_filled (λ e. levels_built lawful y n e h.closed);
        count = count;
        few = count_few lawful n count;
      }
