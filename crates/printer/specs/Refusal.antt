-- What is printed in place of a key.
use Rattle.std.specs.Prelude.{ℕ}
use Rattle.records.specs.declared.fault.FaultLine.{FaultLine}

-- a goal fact out of reach: E 3 7, the fact, and 0
abbrev pub goal_line_lem : ℕ → FaultLine
goal_line_lem goal = record { layer = 3; number = 7; place = goal; byte = 0 }
