use Rattle.std.proofs.Common.{◌∙◌}
use Rattle.std.proofs.lemmas.Result.{err_from_is_err_and}
use Rattle.std.proofs.lemmas.Bool.Decides.{not_from_Decides}
use Rattle.records.proofs.Quads.{quad_is, quads_end}
use Rattle.lists.specs.View.{lists_of}
use Rattle.forms.proofs.Readings.{one_more, refused, whole}
use Rattle.forms.proofs.reader.read_table.Goals as goal

pub returns-in_err-take : goal.returns-in_err-take
returns-in_err-take g c =
    let bs = c.args.bytes.now in
    let i = c.loop-index.index in
    let p = err_from_is_err_and c.from_residual.result c.from_residual.ensures.1 in
    let long = not_from_Decides c.is_bad_length.result c.is_bad_length.ensures c.if-is_bad_length.false in
    let q = quad_is bs c.quads-quad-items.result.now i _ c.quads-quad-items.ensures c.loop-index-test.true in
    rw (p.1, p.2) (refused g.F.RecordForm.rules bs i (lists_of c.loop-index.table) c.loop-index.invariant long q.0 c.from.result (c.from.ensures ∙ q.1) c.in_err-take.field-0.0 c.in_err-take.ensures)

pub loop-index-preserved : goal.loop-index-preserved
loop-index-preserved g c =
    let bs = c.args.bytes.now in
    let i = c.loop-index.index in
    let h = c.in_ok-take.ensures in
    let q = quad_is bs c.quads-quad-items.result.now i _ c.quads-quad-items.ensures c.loop-index-test.true in
    one_more g.F.RecordForm.rules bs i (lists_of c.loop-index.table) c.loop-index.invariant g.met.F.RecordForm.grows q.0 c.from.result (c.from.ensures ∙ q.1) h.0 h.1 h.2 (lists_of c.take.new.table) h.3

pub returns : goal.returns
returns g c =
    let bs = c.args.bytes.now in
    let long = not_from_Decides c.is_bad_length.result c.is_bad_length.ensures c.if-is_bad_length.false in
    whole g.F.RecordForm.rules bs c.loop-index.index (lists_of c.loop-index.table) c.loop-index.invariant long (quads_end bs c.quads-quad-items.result.now c.loop-index.index c.quads-quad-items.ensures c.loop-index-test.false)
