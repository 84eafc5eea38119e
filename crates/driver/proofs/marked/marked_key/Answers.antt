use Rattle.driver.proofs.Growing.{marked_key_lem}
use Rattle.driver.proofs.marked.marked_key.Goals as goal

pub returns : goal.returns
returns g c = marked_key_lem {a = c.in_ok-key.key} {b = c.propose_all.new.key} {c = c.order_all.new.key} c.in_ok-key.ensures c.propose_all.ensures c.order_all.ensures
