use Rattle.std.proofs.Common.{rules}
use Rattle.hv_rowfile.proofs.Books.{head_parts}
use Rattle.hv_rowfile.proofs.reading.files.read_head.Goals as goal

pub returns-clause-found : goal.returns-clause-found
returns-clause-found c =
    let bucket = c.in-Ok-read_u32.ensures.found in
    let count = c.in-Ok-read_u64.ensures.found in
    (bucket.0, count.0, head_parts c.args.bytes.now c.in-Some.rest.now c.in-Ok.rest.now c.in-Ok-read_u32.rest.now c.in-Ok-read_u64.rest.now c.in-Ok.deletes c.in-Ok-read_u32.bucket c.in-Ok-read_u64.count (search rules) c.in-Ok.ensures.found bucket.1 count.1)
