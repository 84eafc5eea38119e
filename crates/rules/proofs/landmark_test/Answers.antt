use Rattle.rules.proofs.Barring.{landmark_test_lem}
use Rattle.rules.proofs.landmark_test.Goals as goal

pub returns : goal.returns
returns c = landmark_test_lem
