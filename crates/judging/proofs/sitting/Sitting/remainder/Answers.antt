use Rattle.std.proofs.Common.{max, ap, ◌∙◌}
use Rattle.judging.proofs.sitting.Sitting.remainder.Goals as goal

pub returns-in_default : goal.returns-in_default
returns-in_default g c = c.in_default.ensures

pub returns : goal.returns
returns g c = record {
  owed = c.count_owed-owed.result;
  width = c.widest-width.result;
  level = c.in-Some.level;
  owes = c.count_owed-owed.ensures.count;
  most = c.widest-width.ensures.width;
  goal = c.in-Some.ensures;
  is = c.max.ensures ∙ ap (max c.in-Some.level) c.quotient_of.ensures;
}
