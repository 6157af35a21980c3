use Rattle.std.proofs.Common.{◌≡◌, ◌∷◌, ◌++◌, ◌∙◌, ◌+◌, List, ap, drop, subst, sym}
use Rattle.std.proofs.lemmas.List.{drop_more}
use Rattle.std.specs.Str.{IsUtf8}
use Rattle.hv_script.specs.Script.{earlier}
use Rattle.hv_script.specs.declared.items.Item.{Item}
use Rattle.hv_script.proofs.Utf8.{utf8_at}
use Rattle.hv_script.specs.Actions.{actions_from, least}
use Rattle.hv_script.specs.Standing.{fault_lines}
use Rattle.hv_script.proofs.reading.read_items.Goals as goal

pub loop-item-preserved : goal.loop-item-preserved
loop-item-preserved c =
    let all = c.args.items.now in
    let place = c.loop-item.item-index in
    let item = c.item-item.result in
    let old = c.loop-item.reader in
    let more = drop (place + 1) all in
    let taken = c.in_ok-take.ensures.taken in
    let split : drop place all ≡ item ∷ more = drop_more all place item c.loop-item-test.true ∙ ap (λ (x : Item). x ∷ more) (sym c.item-item.is) in (
      taken.fault more ∙ sym (ap (λ (rest : List Item). earlier old.fault (least (fault_lines old.sessions rest))) split) ∙ c.loop-item.invariant.0,
      λ utf8. taken.actions more (subst IsUtf8 (sym (ap (λ (x : Item). x.bytes) c.item-item.is)) (utf8_at all place item utf8 c.loop-item-test.true))
          ∙ sym (ap (λ (rest : List Item). old.actions.items ++ actions_from old.sessions rest) split) ∙ c.loop-item.invariant.1 utf8,
    )
