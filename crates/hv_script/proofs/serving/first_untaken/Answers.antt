use Rattle.std.proofs.Common.{◌≡◌, ◌∷◌, ◌∙◌, ◌+◌, ℕ, Option, List, ap, drop, sym}
use Rattle.std.proofs.lemmas.List.{drop_more}
use Rattle.hv_script.specs.Script.{earlier}
use Rattle.hv_script.specs.declared.items.Item.{Item}
use Rattle.hv_script.specs.declared.kinds.Kind.{Kind}
use Rattle.hv_script.specs.Actions.{least, untaken_line, untaken_lines}
use Rattle.hv_script.specs.Kinds.{kind_of}
use Rattle.hv_script.proofs.Untaken.{untaken-more}
use Rattle.hv_script.proofs.serving.first_untaken.Goals as goal

pub loop-item-preserved : goal.loop-item-preserved
loop-item-preserved c =
    let all = c.args.items.now in
    let place = c.loop-item.item-index in
    let item = c.item-item.result in
    let line = c.loop-item.line in
    let more = drop (place + 1) all in
    let kind = c.in_ok-kind.ensures.value ∙ ap kind_of c.as_slice.ensures in
    let split : drop place all ≡ item ∷ more = drop_more all place item c.loop-item-test.true ∙ ap (λ (x : Item). x ∷ more) (sym c.item-item.is) in
    ap (λ (l : Option ℕ). earlier l (least (untaken_lines more)))
    (c.earlier_of-line.ensures.value
    ∙ ap (λ (l : Option ℕ). earlier line l) (c.untaken_line.ensures.value ∙ ap (λ (k : Kind). untaken_line item k) kind))
    ∙ untaken-more line item more
    ∙ sym (ap (λ (rest : List Item). earlier line (least (untaken_lines rest))) split)
    ∙ c.loop-item.invariant
