use Rattle.std.proofs.Common.{rules, arith}
use Rattle.hv_bytes.proofs.Texts.{text_none, text_some, text_front}
use Rattle.hv_bytes.proofs.reading.read_text.Goals as goal

pub returns-in_default-clause-exact : goal.returns-in_default-clause-exact
returns-in_default-clause-exact c =
    text_none c.args.bytes.now c.in_ok-len.len c.in_ok-len.rest.now (search rules) (omega arith) (rw c.split_at.ensures.front at c.in_default.ensures.cases.0)

pub returns-clause-exact : goal.returns-clause-exact
returns-clause-exact c =
    let utf8 = rw c.split_at.ensures.front at c.in-Ok.ensures.cases.1 in
    rw (c.in_ok-text.ensures, c.in-Ok.ensures.cases.0, c.split_at.ensures.front, c.split_at.ensures.back) (text_some c.args.bytes.now c.in_ok-len.len c.in_ok-len.rest.now (search rules) (omega arith) utf8)

pub returns-clause-found : goal.returns-clause-found
returns-clause-found c =
    let utf8 = rw c.split_at.ensures.front at c.in-Ok.ensures.cases.1 in
    rw (c.in_ok-text.ensures, c.in-Ok.ensures.cases.0, c.split_at.ensures.front, c.split_at.ensures.back) (text_front c.args.bytes.now c.in_ok-len.len c.in_ok-len.rest.now c.in_ok-len.ensures.found.0 c.in_ok-len.ensures.found.1 (omega arith) utf8)
