-- What a set of facts has.
use Rattle.std.specs.Prelude.{ℕ, Bool, false, slice_index_or}
use Rattle.judging.specs.declared.fact_set.FactSet.{FactSet}

-- whether the set has the fact with a number
abbrev pub has : FactSet → ℕ → Bool
has s n = slice_index_or s.marks n false
