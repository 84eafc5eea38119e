-- The bytes of each line.
use Rattle.std.specs.Prelude.{ℕ, List, ◌++◌, Some, None, codes, decimal, Option}
use Rattle.rules.specs.declared.calls.Kind.{Kind}
use Rattle.rules.specs.declared.calls.Kind.TheVariants.{Greedy, Necessary}
use Rattle.lines.specs.declared.line.FactLine.{FactLine}
use Rattle.lines.specs.declared.line.OrderLine.{OrderLine}
use Rattle.lines.specs.declared.line.Line.{Line}
use Rattle.lines.specs.declared.line.Line.TheVariants.{Fact, Order}

-- a level in decimal, or a minus sign for none
abbrev pub level_text : Option ℕ → List ℕ
level_text (Some n) = decimal n
level_text None = codes "-"

-- N for an ordering held as necessary, G for one held as greedy-necessary alone
abbrev pub kind_text : Kind → List ℕ
kind_text Necessary = codes "N"
kind_text Greedy = codes "G"

-- a fact: F, its number, variable, value and level, and the line end
abbrev pub fact_text : FactLine → List ℕ
fact_text x = codes "F " ++ (decimal x.number ++ (codes " " ++ (decimal x.variable ++ (codes " " ++ (decimal x.value ++ (codes " " ++ (level_text x.level ++ codes "\n")))))))

-- an ordering: its letter, the earlier and the later fact, and the line end
abbrev pub order_text : OrderLine → List ℕ
order_text x = kind_text x.kind ++ (codes " " ++ (decimal x.earlier ++ (codes " " ++ (decimal x.later ++ codes "\n"))))

-- a line
abbrev pub line_text : Line → List ℕ
line_text (Fact x) = fact_text x
line_text (Order x) = order_text x
