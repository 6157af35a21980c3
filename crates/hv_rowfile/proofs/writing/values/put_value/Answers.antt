use Rattle.std.proofs.Common.{ℕ, List, sym, subst}
use Rattle.hv_bytes.specs.Writing.{HasRoom}
use Rattle.hv_bytes.proofs.WritingLemmas.{appends_as}
use Rattle.hv_rowfile.proofs.Values.{plain_spelled, plain_can, plain_is}
use Rattle.hv_rowfile.proofs.writing.values.put_value.Goals as goal

pub put_element-requires : goal.put_element-requires
put_element-requires c =
    let spelled = plain_spelled c.args.value.now c.in_default.not-Array in
    record { room = subst (λ (bytes : List ℕ). HasRoom c.args.out.now bytes) spelled c.requires.room; can = plain_can c.args.value.now c.in_default.not-Array c.requires.can }

pub returns-in_default : goal.returns-in_default
returns-in_default c =
    let spelled = plain_spelled c.args.value.now c.in_default.not-Array in
    record { appended = appends_as _ _ _ _ (sym spelled) c.put_element.ensures.appended; has = plain_is c.args.value.now c.put_element.ensures.has }
