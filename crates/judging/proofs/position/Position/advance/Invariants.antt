use Rattle.std.proofs.Common.{◌≡◌, length}
use Rattle.task.specs.Paths.{after}
use Rattle.judging.specs.Position.{state_of}
use Rattle.judging.proofs.Places.{Split}
use Rattle.judging.proofs.position.Position.advance.Given as goal

abbrev pub invariant-loop-variable : goal.invariant-loop-variable
invariant-loop-variable g l =
    let t = g.S.TaskSource.task l.source in
    let s = state_of l.initial.self in
    (length l.self.values ≡ 64) × Split (after t s l.action) s l.variable l.self.values
