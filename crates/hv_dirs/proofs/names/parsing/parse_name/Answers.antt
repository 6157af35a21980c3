use Rattle.std.proofs.Common.{codes, sym, ◌∙◌, subst}
use Rattle.std.specs.Str.{IsUtf8}
use Rattle.hv_dirs.proofs.NameLemmas.{unstripped, stripped}
use Rattle.hv_dirs.proofs.ParsingLemmas.{no-stage, staged-utf8, every-staged, every-plain}
use Rattle.hv_dirs.proofs.names.parsing.parse_name.Goals as goal

pub returns-in_default-staged_of-clause-every : goal.returns-in_default-staged_of-clause-every
returns-in_default-staged_of-clause-every c name named e = absurd (no-stage c.bytes-bytes.result.now c.in-Some.rest.now
    (stripped (codes ".stage_") c.bytes-bytes.result.now c.in-Some.rest.now c.in-Some.ensures.cases.0 c.in-Some.ensures.cases.1)
    c.in_default-staged_of.ensures.none name named (e ∙ sym c.bytes-bytes.ensures.value))

pub from_bytes-name-requires : goal.from_bytes-name-requires
from_bytes-name-requires c = subst IsUtf8 (sym c.in_ok-from_slice.ensures.items)
    (staged-utf8 c.in-Some-staged_of.job c.in-Some-staged_of.name.now c.in-Some-staged_of.ensures.found.0)

pub returns-in-Some-clause-every : goal.returns-in-Some-clause-every
returns-in-Some-clause-every c name named e = every-staged c.bytes-bytes.result.now c.in-Some.rest.now c.in-Some-staged_of.job c.in-Some-staged_of.name.now c.from_bytes-name.result
    (stripped (codes ".stage_") c.bytes-bytes.result.now c.in-Some.rest.now c.in-Some.ensures.cases.0 c.in-Some.ensures.cases.1)
    c.in-Some-staged_of.ensures.found.0 c.in-Some-staged_of.ensures.found.1 (c.from_bytes-name.ensures ∙ c.in_ok-from_slice.ensures.items)
    name named (e ∙ sym c.bytes-bytes.ensures.value)

pub returns-clause-every : goal.returns-clause-every
returns-clause-every c name named e = every-plain c.bytes-bytes.result.now c.plain_of.result
    (unstripped (codes ".stage_") c.bytes-bytes.result.now c.in_default.ensures.cases) c.plain_of.ensures.found c.plain_of.ensures.none
    name named (e ∙ sym c.bytes-bytes.ensures.value)
