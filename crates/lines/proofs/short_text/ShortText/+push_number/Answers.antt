use Rattle.std.proofs.Common.{◌≡◌, ◌+◌, ◌%◌, [], ◌∷◌, ◌++◌, decimal, ◌∙◌, rules, arith}
use Rattle.lines.proofs.Texts.{last_digit, length_more, only_digit, room_for_digit}
use Rattle.lines.proofs.short_text.ShortText.+push_number.Goals as goal
use Rattle.lines.proofs.short_text.ShortText.+push_number.Goals.{then-number-ge10, else-number-ge10}

pub push_number-requires : goal.push_number-requires
push_number-requires t c = (search rules, omega (arith, c.requires, length_more c.args.number c.if-number-ge10.true c.ranges.number.fits))

-- what the last digit makes of the text
pub push-requires : goal.push-requires
push-requires t c =
    let old = c.args.self.now in
    let n = c.args.number in
    let whole : c.if-number-ge10.self ++ (48 + n % 10) ∷ [] ≡ old ++ decimal n = elim c.if-number-ge10.branch [
      | then-number-ge10 w ↦ last_digit old c.if-number-ge10.self n w.if-number-ge10.true c.ranges.number.fits (w.self-is ∙ w.push_number.ensures)
      | else-number-ge10 w ↦ only_digit old c.if-number-ge10.self n w.if-number-ge10.false w.self-is
    ] in
    room_for_digit old c.if-number-ge10.self (decimal n) (48 + n % 10) whole c.requires

pub returns : goal.returns
returns t c =
    let old = c.args.self.now in
    let n = c.args.number in
    c.push.ensures ∙ elim c.if-number-ge10.branch [
      | then-number-ge10 w ↦ last_digit old c.if-number-ge10.self n w.if-number-ge10.true c.ranges.number.fits (w.self-is ∙ w.push_number.ensures)
      | else-number-ge10 w ↦ only_digit old c.if-number-ge10.self n w.if-number-ge10.false w.self-is
    ]
