-- What an account says of a task.
use Rattle.std.specs.Prelude.{◌≡◌, ℕ, suc, List, [], ◌∷◌, ◌++◌, vec_items}
use Rattle.task.specs.Task.{Task, Numbered, facts}
use Rattle.reach.specs.Relaxed.{LayerCount}
use Rattle.reach.specs.Built.{LevelIs}
use Rattle.account.specs.declared.account.Account.{Account}
use Rattle.account.specs.declared.account.FactLevel.{FactLevel}

-- the entry of the fact with the number n: that fact, and its level
pub record EntryOf (t : Task) (n : ℕ) (e : FactLevel) : Type 0 where
  pub number : e.number ≡ n
  pub fact : Numbered t n e.fact
  pub level : LevelIs t e.fact e.level

-- the entries of the facts below n, upwards
pub data Listed (t : Task) : ℕ → List FactLevel → Type 0 where
  none : Listed t 0 []
  more : {n : ℕ} {es : List FactLevel} {e : FactLevel} → Listed t n es → EntryOf t n e → Listed t (suc n) (es ++ e ∷ [])

-- the counts are the task's, and each fact has its entry
pub record AccountOf (t : Task) (a : Account) : Type 0 where
  pub variables : a.counts.variables ≡ t.vars
  pub facts_count : a.counts.facts ≡ facts t
  pub actions : a.counts.actions ≡ t.actions
  pub layers : LayerCount t a.counts.layers
  pub entries : Listed t (facts t) (vec_items a.levels)
