use Rattle.std.proofs.Common.{string_bytes}
use Rattle.key_text.proofs.Joining.{Told}
use Rattle.key_text.proofs.text.key_text.Given as goal

abbrev pub invariant-loop-line : goal.invariant-loop-line
invariant-loop-line l = Told l.key l.line-iterator (string_bytes l.text)
