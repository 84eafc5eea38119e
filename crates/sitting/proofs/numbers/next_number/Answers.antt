use Rattle.sitting.proofs.Splitting.{no_number, not_blanks}
use Rattle.sitting.proofs.numbers.next_number.Goals as goal

pub returns-in_err-word : goal.returns-in_err-word
returns-in_err-word c = rw c.from_residual.ensures (λ w rest n f h. not_blanks f c.in_err-word.ensures)

pub returns-in_err-parse_number : goal.returns-in_err-parse_number
returns-in_err-parse_number c = rw c.from_residual-in_err-parse_number.ensures (no_number c.in_ok-word.ensures c.in_err-parse_number.ensures)
