use Rattle.std.proofs.Common.{◌≡◌, ◌∙◌, ap, sym, subst}
use Rattle.hv_script.specs.Items.{items_of}
use Rattle.hv_script.specs.Script.{HaveUtf8, broken_line, bytes_line, earlier}
use Rattle.hv_script.proofs.Utf8.{utf8-unrefused}
use Rattle.hv_script.proofs.script.cut_script.Goals as goal

pub returns-clause-utf8 : goal.returns-clause-utf8
returns-clause-utf8 c = λ none.
    let broken = c.first_broken.ensures.value ∙ ap broken_line c.readable-before.ensures.value in
    let fault : c.earlier_of.result ≡ bytes_line c.args.script.now = c.earlier_of.ensures.value ∙ (λ i. earlier (broken i) (c.first_beyond.ensures.value i)) in
    let same = c.from_vec.ensures ∙ c.in_ok-items.ensures.value ∙ ap items_of c.readable-before.ensures.value in
    subst HaveUtf8 (sym same) (utf8-unrefused c.args.script.now (sym fault ∙ none))
