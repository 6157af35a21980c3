use Rattle.std.proofs.Common.{◌≡◌, ◌++◌, ◌∙◌, List, filter, ap, subst, OnOk}
use Rattle.hv_choosing.specs.Taken.{is_in_one}
use Rattle.hv_choosing.proofs.Texts.{files-sorted}
use Rattle.hv_choosing.proofs.taken.push_at.Goals as goal

pub returns : goal.returns
returns c =
    subst (λ (kept : List _). OnOk c.push_files.result (c.push_files.new.files.items ≡ c.args.files.now.items ++ kept))
    (ap (λ texts. filter (is_in_one texts) c.args.run.now) c.deref.ensures.value
    ∙ files-sorted c.in_ok-texts_at.field-0.items c.in_ok-texts.texts.items c.args.run.now c.in_ok-texts.ensures.same
    ∙ ap (λ texts. filter (is_in_one texts) c.args.run.now) c.in_ok-texts_at.ensures)
    c.push_files.ensures
