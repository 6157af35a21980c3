use Rattle.std.proofs.Common.{Some, sym, ap, ◌∙◌, arith}
use Rattle.hv_text.proofs.FindLemmas.{missing_is, split_is, split_short}
use Rattle.hv_text.proofs.places.find.Goals as goal

pub returns-in-Some-clause-value : goal.returns-in-Some-clause-value
returns-in-Some-clause-value c =
    ap (λ n. Some n) c.length.ensures
    ∙ sym (split_is c.args.text.now c.args.part.now c.utf8.text c.utf8.part c.in-Some.before.now c.in-Some._behind.now c.in-Some.ensures.cases)

pub returns-in-Some-clause-within : goal.returns-in-Some-clause-within
returns-in-Some-clause-within c =
    let short = split_short c.args.text.now c.args.part.now c.utf8.text c.utf8.part c.in-Some.before.now c.in-Some._behind.now c.in-Some.ensures.cases in
    let count = c.length.ensures in omega arith

pub returns-in-None-clause-value : goal.returns-in-None-clause-value
returns-in-None-clause-value c = sym (missing_is c.args.text.now c.args.part.now c.utf8.text c.utf8.part c.in-None.ensures.cases)
