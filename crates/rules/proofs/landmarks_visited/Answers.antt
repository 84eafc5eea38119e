use Rattle.rules.proofs.Landmarks.{landmark_visited}
use Rattle.rules.proofs.landmarks_visited.Goals as goal

pub returns : goal.returns
returns c = landmark_visited
