use Rattle.sitting.proofs.Splitting.{done_decides}
use Rattle.sitting.proofs.numbers.is_done.Goals as goal

pub returns : goal.returns
returns c = done_decides c.next_word.result (λ x. x.0.now) (λ x. x.1.now) c.is_none.result c.next_word.ensures c.is_none.ensures
