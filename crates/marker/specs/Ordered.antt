-- Which facts are ordered.
use Rattle.std.specs.Prelude.{ℕ, Bool, List, [], slice_index_or, vec_items}
use Rattle.rules.specs.declared.calls.Kind.{Kind}
use Rattle.rules.specs.declared.calls.Kind.TheVariants.{Greedy, Necessary}
use Rattle.judging.specs.declared.fact_set.FactSet.{FactSet}
use Rattle.judging.specs.FactSets.{has}
use Rattle.marker.specs.declared.orderings.Orderings.{Orderings}

-- by its number each earlier fact's later facts, none past the end
abbrev pub laters : List FactSet → ℕ → FactSet
laters sets e = slice_index_or sets e (record { marks = [] })

-- whether an earlier fact is ordered before a later one
abbrev pub ordered : Orderings → Kind → ℕ → ℕ → Bool
ordered o Greedy e l = has (laters (vec_items o.greedy) e) l
ordered o Necessary e l = has (laters (vec_items o.necessary) e) l
