use Rattle.rules.proofs.Landmarks.{goal_landmark}
use Rattle.rules.proofs.goals_are_landmarks.Goals as goal

pub returns : goal.returns
returns c = goal_landmark
