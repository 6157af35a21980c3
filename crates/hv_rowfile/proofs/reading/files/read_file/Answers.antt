use Rattle.std.proofs.lemmas.Result.{err_from_is_err_and}
use Rattle.hv_rowfile.proofs.Books.{file_found, head_fault, body_fault}
use Rattle.hv_rowfile.proofs.reading.files.read_file.Goals as goal

pub returns-in_err-deletes-clause-bad : goal.returns-in_err-deletes-clause-bad
returns-in_err-deletes-clause-bad c =
    let p = err_from_is_err_and c.from_residual.result c.from_residual.ensures.1 in
    rw (p.1, p.2) (head_fault c.args.bytes.now c.in_err-deletes.field-0.0 c.in_err-deletes.ensures.bad)

pub returns-in_err-recs-clause-bad : goal.returns-in_err-recs-clause-bad
returns-in_err-recs-clause-bad c =
    let p = err_from_is_err_and c.from_residual-in_err-recs.result c.from_residual-in_err-recs.ensures.1 in
    let head = c.in_ok-deletes.ensures.found in
    rw (p.1, p.2) (body_fault c.args.bytes.now c.in_ok-deletes.deletes c.in_ok-deletes.bucket c.in_ok-deletes.count c.in_ok-deletes.body.now c.in_err-recs.field-0.0 head.0 head.1 head.2 c.in_err-recs.ensures.bad)

pub returns-clause-found : goal.returns-clause-found
returns-clause-found c =
    let head = c.in_ok-deletes.ensures.found in
    let recs = c.in_ok-recs.ensures.found in
    file_found c.args.bytes.now c.in_ok-deletes.deletes c.in_ok-deletes.bucket c.in_ok-deletes.count c.in_ok-deletes.body.now c.in_ok-recs.recs.items head.0 head.1 head.2 recs.0 recs.1
