use Rattle.std.proofs.Common.{◌≡◌, ◌+◌, ◌<◌, ◌≤◌, length, get_or, Some, sym, refl, arith}
use Rattle.std.proofs.lemmas.List.{get_or_read}
use Rattle.task.proofs.Numbers.{offset_more}
use Rattle.reach.specs.Layering.{value_of}
use Rattle.task.proofs.Numbers.{need_number, size_number, few_numbers}
use Rattle.reach.proofs.Steps.{conditions_some, conditions_none}
use Rattle.reach.proofs.conditions.join_below.Given as given
use Rattle.reach.proofs.conditions.join_below.Goals as goal
use Rattle.reach.proofs.conditions.join_below.Goals.{in-Some, in_default}

number-below : (g : given.Over) (c : goal.In-Some g) → (c.loop-variable.offset + c.in-Some.value < length c.args.values.now) × (length c.args.values.now ≤ 256)
number-below g c =
    let lawful = g.S.TaskSource.lawful c.args.source.now in
    let below : c.loop-variable.variable < (g.S.TaskSource.task c.args.source.now).vars = omega (arith, c.loop-variable-test.true, c.requires.few) in (
      need_number lawful _ (g.S.TaskSource.task c.args.source.now).vars _ _ below refl c.loop-variable.invariant.0 c.requires.long c.args.action _ (sym c.in-Some.ensures),
      few_numbers lawful _ (g.S.TaskSource.task c.args.source.now).vars _ _ below refl c.loop-variable.invariant.0 c.requires.long,
    )

pub overflow_add-offset : goal.overflow_add-offset
overflow_add-offset g c = omega (arith, number-below g c)

pub offset_bounds-values-offset : goal.offset_bounds-values-offset
offset_bounds-values-offset g c = omega (arith, number-below g c)

pub bounds-values-offset : goal.bounds-values-offset
bounds-values-offset g c = (number-below g c).0

pub overflow_add-offset-in-loop-variable : goal.overflow_add-offset-in-loop-variable
overflow_add-offset-in-loop-variable g c =
    let lawful = g.S.TaskSource.lawful c.args.source.now in
    let below : c.loop-variable.variable < (g.S.TaskSource.task c.args.source.now).vars = omega (arith, c.loop-variable-test.true, c.requires.few) in
    omega (
      arith,
      c.size-offset.ensures,
      size_number lawful _ (g.S.TaskSource.task c.args.source.now).vars _ _ below refl c.loop-variable.invariant.0 c.requires.long,
      few_numbers lawful _ (g.S.TaskSource.task c.args.source.now).vars _ _ below refl c.loop-variable.invariant.0 c.requires.long,
    )

pub loop-variable-preserved : goal.loop-variable-preserved
loop-variable-preserved g c =
    let t = g.S.TaskSource.task c.args.source.now in
    let o = g.M.Measure.ops in
    let lawful = g.S.TaskSource.lawful c.args.source.now in
    let below : c.loop-variable.variable < (g.S.TaskSource.task c.args.source.now).vars = omega (arith, c.loop-variable-test.true, c.requires.few) in
    let a = c.args.action in
    let v = c.loop-variable.variable in
    let f = value_of o t c.args.values.now in (
      omega (arith, offset_more t.size v, c.loop-variable.invariant.0, c.size-offset.ensures),
      elim c.match-need.branch [
        | in-Some w ↦
            (let x = w.in-Some.value in
            let is : t.need a v ≡ Some x = sym w.in-Some.ensures in
            let place = need_number lawful _ (g.S.TaskSource.task c.args.source.now).vars _ _ below refl c.loop-variable.invariant.0 c.requires.long a x is in
            let read : w.index-values-offset.result ≡ get_or c.args.values.now (c.loop-variable.offset + x) o.none = get_or_read _ _ _ place w.index-values-offset.is o.none in
            let step = conditions_some o t f a v x is in
            let off = c.loop-variable.invariant.0 in
            let old = c.loop-variable.invariant.1 in
            let new = w.joined-joined.ensures in
            cc w.joined-is)
        | in_default w ↦
            (let step = conditions_none o t f a v (sym w.in_default.ensures) in
            let old = c.loop-variable.invariant.1 in
            cc w.joined-is)
      ],
    )
