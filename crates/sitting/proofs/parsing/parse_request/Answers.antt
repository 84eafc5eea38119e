use Rattle.sitting.proofs.Choosing.{command_none, request_found, request_none}
use Rattle.sitting.proofs.parsing.parse_request.Goals as goal

pub returns-in_err-word : goal.returns-in_err-word
returns-in_err-word c = rw c.from_residual.ensures (request_none c.as_bytes.ensures.value c.in_err-word.ensures)

pub returns-in_err-name : goal.returns-in_err-name
returns-in_err-name c =
    rw c.from_residual-in_err-name.ensures (command_none c.as_bytes.ensures.value c.in_ok-word.ensures c.in_err-name.ensures)

pub returns : goal.returns
returns c =
    request_found c.in_ok-name.name c.parse_numbers.result c.as_bytes.ensures.value c.in_ok-word.ensures c.in_ok-name.ensures
    c.parse_numbers.ensures
