use Rattle.std.proofs.Common.{sym, ap, subst, string_bytes, vec_items}
use Rattle.key.specs.Keys.{task_of}
use Rattle.key_text.specs.Joined.{KeyText}
use Rattle.key_text.specs.declared.key_lines.KeyLines.{KeyLines}
use Rattle.key_text.proofs.Joining.{Told, told_none, told_more, told_all}
use Rattle.key_text.proofs.text.key_text.Goals as goal

pub loop-line-init : goal.loop-line-init
loop-line-init c =
    subst (λ (x : KeyLines). Told c.args.key.now x (string_bytes c.new-text.result)) (sym c.into_iter-line-iterator.ensures.into_iter_gives)
    (told_none c.args.key.now c.of-line-items.result _ c.of-line-items.ensures.key c.of-line-items.ensures.stands c.new-text.ensures.bytes)

pub loop-line-preserved : goal.loop-line-preserved
loop-line-preserved c = told_more c.args.key.now c.loop-line.line-iterator c.next.new.self c.in-Some.line _ _ c.loop-line.invariant c.in-Some.ensures.steps c.in_ok-write.ensures.bytes

pub returns : goal.returns
returns c m s =
    subst (KeyText (task_of c.args.key.now) m) (sym (ap vec_items c.into_bytes.ensures.value)) (told_all c.args.key.now c.loop-line.line-iterator c.next.new.self _ c.loop-line.invariant c.in-None.ensures.steps m s)
