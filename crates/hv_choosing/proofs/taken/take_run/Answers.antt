use Rattle.std.proofs.Common.{◌≡◌, ◌++◌, ◌∙◌, None, List, filter, sym, ap, subst, OnOk}
use Rattle.std.specs.List.{All}
use Rattle.std.proofs.lemmas.List.Elements.{All-from_recursion}
use Rattle.hv_dirs.specs.Names.{IsName}
use Rattle.hv_dirs.specs.Choice.{sight_of}
use Rattle.hv_choosing.specs.Taken.{names_of, is_in_one, texts_at}
use Rattle.hv_choosing.proofs.Texts.{names-all, on-ok, taken-deltas, taken-deletes}
use Rattle.hv_choosing.proofs.taken.take_run.Goals as goal

pub choose-requires : goal.choose-requires
choose-requires c =
    subst (All IsName) (sym (c.deref.ensures.value ∙ c.in_ok-names.ensures))
    (All-from_recursion IsName (names_of c.args.run.now) (names-all c.args.run.now c.requires))

pub returns-clause-inserts : goal.returns-clause-inserts
returns-clause-inserts c =
    on-ok c.push_at-2.result _
    (c.in_ok-push_at.ensures
    ∙ ap (λ (kept : List _). c.args.taken.now.inserts.items ++ kept)
    (ap (λ deltas. filter (is_in_one (texts_at c.args.run.now c.in_ok-choice.choice.base deltas)) c.args.run.now) c.deref-2.ensures.value
    ∙ taken-deltas (sight_of c.args.list.now) c.args.run.now c.deref.result.now c.in_ok-choice.choice.base c.in_ok-choice.choice.deltas.items c.in_ok-choice.choice.deletes.items
    c.requires (c.deref.ensures.value ∙ c.in_ok-names.ensures) c.in_ok-choice.ensures))

pub returns-clause-deletes : goal.returns-clause-deletes
returns-clause-deletes c =
    subst (λ (kept : List _). OnOk c.push_at-2.result (c.push_at-2.new.files.items ≡ c.args.taken.now.deletes.items ++ kept))
    (ap (λ deltas. filter (is_in_one (texts_at c.args.run.now None deltas)) c.args.run.now) c.deref-3.ensures.value
    ∙ taken-deletes (sight_of c.args.list.now) c.args.run.now c.deref.result.now c.in_ok-choice.choice.base c.in_ok-choice.choice.deltas.items c.in_ok-choice.choice.deletes.items
    c.requires (c.deref.ensures.value ∙ c.in_ok-names.ensures) c.in_ok-choice.ensures)
    c.push_at-2.ensures
