-- What the layer builder leaves in the two tables that it is lent, a value for each fact in front.
use Rattle.std.specs.Prelude.{◌≡◌, ℕ, ◌-◌, ◌<◌, ◌≤◌, false, ◌⊎◌, List, length, get_or, take, drop, Some, None, Decides, Option, slice_index_or}
use Rattle.task.specs.Task.{Task, Fact, Numbered, facts}
use Rattle.reach.specs.declared.measure.AtLevel.{AtLevel}
use Rattle.reach.specs.declared.measure.InReach.{InReach}
use Rattle.reach.specs.Relaxed.{Reach, Level, LayerCount}
use Rattle.reach.specs.Measures.{Ops, layer_of, of_level, of_yes}
use Rattle.reach.specs.Layering.{Closed, layer}

-- a table is shorter than the facts, so both are left as they were
pub record TooShort {M : Type 0} (t : Task) (values scratch values_left scratch_left : List M) : Type 0 where
  pub short : (length values < facts t) ⊎ (length scratch < facts t)
  pub values_same : values_left ≡ values
  pub scratch_same : scratch_left ≡ scratch

-- a table has room for the facts, holds what it should, and past the facts it is as it was
pub record Filled {M : Type 0} (t : Task) (Holds : List M → Type 0) (before left : List M) : Type 0 where
  pub room : facts t ≤ length before
  pub holds : Holds left
  pub rest : drop (facts t) left ≡ drop (facts t) before

-- both tables hold the layer n in front, the first one that equals its next
pub record LayersBuilt {M : Type 0} (o : Ops M) (t : Task) (n : ℕ) (values scratch values_left scratch_left : List M) : Type 0 where
  pub filled : Filled t (λ xs. take (facts t) xs ≡ layer o t n) values values_left
  pub scratch_filled : Filled t (λ xs. take (facts t) xs ≡ layer o t n) scratch scratch_left
  pub closed : Closed o t n

-- both tables hold what is said of each fact, n is the task's number of layers, and it is at most the facts less the variables
pub record FactsBuilt {M : Type 0} (t : Task) (Said : Task → List M → Type 0) (n : ℕ) (values scratch values_left scratch_left : List M) : Type 0 where
  pub filled : Filled t (Said t) values values_left
  pub scratch_filled : Filled t (Said t) scratch scratch_left
  pub count : LayerCount t n
  pub few : n ≤ facts t - t.vars

-- the value of each fact is yes exactly when some relaxed sequence has it
abbrev pub ReachBuilt : Task → List InReach → Type 0
ReachBuilt t values = (k : ℕ) (f : Fact) → Numbered t k f → Decides (get_or values k (of_yes false)).yes (Reach t f)

-- the level of a fact is the first layer that has it, or none, where no relaxed sequence has it
abbrev pub LevelIs : Task → Fact → Option ℕ → Type 0
LevelIs t f (Some n) = Level t f n
LevelIs t f None = Reach t f → ⊥

-- the table has the level of each fact
abbrev pub LevelsBuilt : Task → List AtLevel → Type 0
LevelsBuilt t values = (k : ℕ) (f : Fact) → Numbered t k f → LevelIs t f (layer_of (slice_index_or values k (of_level 65535)))
