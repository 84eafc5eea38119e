-- Entries of an account.
use Rattle.std.proofs.Common.{◌≡◌, ℕ, suc, ◌+◌, ◌<◌, List, [], ◌∷◌, ◌++◌, get_or, Option, IsSome, is_some, sym, ap, subst, add-one}
use Rattle.task.specs.Task.{Task, Fact, Numbered, facts}
use Rattle.task.specs.Facts.{Exactly}
use Rattle.task.proofs.Numbers.{numbered}
use Rattle.reach.specs.declared.measure.AtLevel.{AtLevel}
use Rattle.reach.specs.Built.{LevelIs, LevelsBuilt}
use Rattle.reach.specs.Measures.{layer_of, of_level}
use Rattle.account.specs.declared.account.FactLevel.{FactLevel}
use Rattle.account.specs.Accounts.{Listed}
use Rattle.account.specs.Accounts.Listed.{none, more}

-- the first entries: none
pub listed_none : {t : Task} (es : List FactLevel) → es ≡ [] → Listed t 0 es
listed_none {t} es e = subst (Listed t 0) (sym e) none

-- one entry more
pub listed_more : {t : Task} (levels : List AtLevel) (n : ℕ) (f : Fact) (o : Option ℕ) (es es_left : List FactLevel) → LevelsBuilt t levels → Listed t n es → Numbered t n f → o ≡ layer_of (get_or levels n (of_level 65535)) → es_left ≡ es ++ record { number = n; fact = f; level = o } ∷ [] → Listed t (n + 1) es_left
listed_more {t} levels n f o es es_left built listed here is e =
    subst (λ k. Listed t k es_left) (sym (add-one n)) (subst (Listed t (suc n)) (sym e) (more listed (record { number = refl_of n; fact = here; level = level })))
  where
    refl_of : (k : ℕ) → k ≡ k
    refl_of k = λ i. k

    level : LevelIs t f o
    level = subst (LevelIs t f) (sym is) (built n f here)

-- a number below the facts has a fact
pub some_fact : (t : Task) (n : ℕ) (r : Option Fact) → n < facts t → Exactly (Numbered t n) r → IsSome r
some_fact t n r below exact = let (f, is) = numbered t n below in ap is_some (exact.found f is)
