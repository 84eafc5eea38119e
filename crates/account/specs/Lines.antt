-- The lines of an account, byte by byte.
use Rattle.std.specs.Prelude.{ℕ, List, ◌++◌, Some, None, codes, decimal, Option}
use Rattle.account.specs.declared.account.Counts.{Counts}
use Rattle.account.specs.declared.account.FactLevel.{FactLevel}

-- a level, or that there is none
abbrev pub level_words : Option ℕ → List ℕ
level_words (Some n) = codes "level " ++ decimal n
level_words None = codes "out of reach"

-- the line of a fact
abbrev pub level_line : FactLevel → List ℕ
level_line x =
    codes "fact " ++ (decimal x.number ++ (codes ": variable " ++ (decimal x.fact.variable ++ (codes " is " ++ (decimal x.fact.value ++ (codes ", " ++ level_words x.level))))))

-- the line of the counts
abbrev pub counts_line : Counts → List ℕ
counts_line x =
    codes "variables " ++ (decimal x.variables ++ (codes ", facts " ++ (decimal x.facts ++ (codes ", actions " ++ (decimal x.actions ++ (codes ", layers " ++ decimal x.layers))))))
