use Rattle.std.proofs.Common.{◌≡◌, true, false, length, sym, ◌∙◌, rules}
use borrow.Author.Tests.{tests}
use Rattle.std.specs.List.{prefix_len}
use Rattle.std.proofs.lemmas.Iterator.{YieldsList-from_slice}
use Rattle.std.proofs.lemmas.Iterator.Consumers.{count_from_yields_List}
use Rattle.std.proofs.lemmas.Iterator.Search.{YieldsList-from_take_while}
use Rattle.std.proofs.lemmas.List.Folds.{length-prefix_len}
use Rattle.sitting.specs.Lines.{of_kind}
use Rattle.sitting.proofs.Splitting.{first_cut, some_left}
use Rattle.sitting.proofs.words.next_word.Goals as goal

pub returns : goal.returns
returns c =
    let t = c.split_at.result.1.now in
    let blanks : c.count-blanks.result ≡ prefix_len (of_kind true) c.args.bytes.now =
    count_from_yields_List _ _ c.count-blanks.ensures.ran
    (YieldsList-from_take_while _ (of_kind true) (YieldsList-from_slice c.args.bytes.now cc) c.take_while.ensures.closure c.take_while.ensures.done (λ x b q k. search (rules, tests)))
    ∙ length-prefix_len (of_kind true) c.args.bytes.now in
    let letters : c.count-letters.result ≡ prefix_len (of_kind false) t =
    count_from_yields_List _ _ c.count-letters.ensures.ran
    (YieldsList-from_take_while _ (of_kind false) (YieldsList-from_slice t cc) c.take_while-2.ensures.closure c.take_while-2.ensures.done (λ x b q k. search (rules, tests)))
    ∙ length-prefix_len (of_kind false) t in
    first_cut c.args.bytes.now t c.split_at-2.result.0.now c.split_at-2.result.1.now c.count-blanks.result c.count-letters.result blanks
    c.split_at.ensures.back (some_left (length t) (sym c.if-is_empty.ensures)) letters c.split_at-2.ensures.front c.split_at-2.ensures.back
