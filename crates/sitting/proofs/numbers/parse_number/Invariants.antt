use Rattle.std.proofs.Common.{◌≡◌, ◌-◌, ◌^◌, min, take}
use Rattle.std.specs.List.{AllByRecursion}
use Rattle.sitting.specs.Lines.{Digit, digits_value}
use Rattle.sitting.proofs.numbers.parse_number.Given as goal

abbrev pub invariant-loop-byte : goal.invariant-loop-byte
invariant-loop-byte l = AllByRecursion Digit (take l.byte-index l.word) × (l.number ≡ min (digits_value (take l.byte-index l.word)) (2 ^ 64 - 1))
