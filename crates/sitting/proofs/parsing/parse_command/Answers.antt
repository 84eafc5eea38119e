use Rattle.std.proofs.Common.{codes, arith}
use Rattle.std.proofs.lemmas.Slice.Eq.{text_from_reads}
use Rattle.std.proofs.lemmas.Bool.{eqb-true, leb-false, leb-true, ltb-false, ltb-true}
use Rattle.sitting.specs.declared.requests.Command.TheVariants.{Propose, Order, Begin, Step, Report, Tally, Held}
use Rattle.sitting.proofs.Choosing.{is_command}
use Rattle.sitting.proofs.parsing.parse_command.Goals as goal

pub returns-in-step : goal.returns-in-step
returns-in-step c = is_command c.args.word.now Step (text_from_reads c.args.word.now (codes "step") (omega (arith, ltb-true, ltb-false, leb-true, leb-false, eqb-true)) (omega arith, (omega arith, (omega arith, (omega arith, tt)))))

pub returns-in-held : goal.returns-in-held
returns-in-held c = is_command c.args.word.now Held (text_from_reads c.args.word.now (codes "held") (omega (arith, ltb-true, ltb-false, leb-true, leb-false, eqb-true)) (omega arith, (omega arith, (omega arith, (omega arith, tt)))))

pub returns-in-order : goal.returns-in-order
returns-in-order c = is_command c.args.word.now Order (text_from_reads c.args.word.now (codes "order") (omega (arith, ltb-true, ltb-false, leb-true, leb-false, eqb-true)) (omega arith, (omega arith, (omega arith, (omega arith, (omega arith, tt))))))

pub returns-in-begin : goal.returns-in-begin
returns-in-begin c = is_command c.args.word.now Begin (text_from_reads c.args.word.now (codes "begin") (omega (arith, ltb-true, ltb-false, leb-true, leb-false, eqb-true)) (omega arith, (omega arith, (omega arith, (omega arith, (omega arith, tt))))))

pub returns-in-tally : goal.returns-in-tally
returns-in-tally c = is_command c.args.word.now Tally (text_from_reads c.args.word.now (codes "tally") (omega (arith, ltb-true, ltb-false, leb-true, leb-false, eqb-true)) (omega arith, (omega arith, (omega arith, (omega arith, (omega arith, tt))))))

pub returns-in-report : goal.returns-in-report
returns-in-report c = is_command c.args.word.now Report (text_from_reads c.args.word.now (codes "report") (omega (arith, ltb-true, ltb-false, leb-true, leb-false, eqb-true)) (omega arith, (omega arith, (omega arith, (omega arith, (omega arith, (omega arith, tt)))))))

pub returns-in-propose : goal.returns-in-propose
returns-in-propose c = is_command c.args.word.now Propose (text_from_reads c.args.word.now (codes "propose") (omega (arith, ltb-true, ltb-false, leb-true, leb-false, eqb-true)) (omega arith, (omega arith, (omega arith, (omega arith, (omega arith, (omega arith, (omega arith, tt))))))))
