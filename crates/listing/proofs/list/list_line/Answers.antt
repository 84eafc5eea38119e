use Rattle.std.proofs.Common.{◌≡◌, rules, refl, Ok, Err, MatchResult}
use Rattle.std.proofs.lemmas.Result.{err_from_is_err_and}
use Rattle.listing.proofs.Lining.{no_such_line}
use Rattle.listing.specs.declared.refusal.ListingRefusal.TheVariants.{NoSuchLine}
use Rattle.listing.proofs.list.list_line.Goals as goal

pub returns-in_err-line : goal.returns-in_err-line
returns-in_err-line c =
    let p = err_from_is_err_and c.from_residual.result c.from_residual.ensures.1 in
    let told : MatchResult c.line_at.result (λ x. c.map_err.result ≡ Ok x) (λ n. c.map_err.result ≡ Err (NoSuchLine n)) = search rules in
    rw (p.1, p.2) (record {
      fits = tt;
      listed = λ m s. (no_such_line _ m c.args.number _ c.line_at.result c.map_err.result _ (c.in_default.ensures m s) c.if-buffer-lt32.false (c.line_at.ensures m s) told c.in_err-line.was, refl);
    })
