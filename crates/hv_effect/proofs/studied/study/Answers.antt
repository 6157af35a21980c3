use Rattle.std.proofs.Common.{List, Result, sym, subst, ap, ◌∙◌}
use Rattle.hv_base.specs.declared.refusal.Refusal.{Refusal}
use Rattle.hv_typing.specs.declared.logic.Logic.{Logic}
use Rattle.hv_typing.specs.Analysis.{analysed}
use Rattle.hv_logic.specs.declared.catalog.TableInfo.{TableInfo}
use Rattle.hv_meaning.specs.Needs.{KeepMeaning}
use Rattle.hv_effect.specs.Needs.{needs_of}
use Rattle.hv_effect.proofs.Needed.{needs-keep}
use Rattle.hv_effect.proofs.studied.study.Goals as goal

pub returns-clause-keeps : goal.returns-clause-keeps
returns-clause-keeps c =
    let infos : List TableInfo = c.args.infos.items in
    subst (λ (typed : Result Logic Refusal). KeepMeaning c.args.tree.now infos (needs_of infos typed))
    (sym (c.in_ok-typed.ensures ∙ ap (λ (all : List TableInfo). analysed all c.args.tree.now) c.as_slice.ensures.value))
    (needs-keep infos c.args.tree.now)
