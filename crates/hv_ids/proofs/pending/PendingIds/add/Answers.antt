use Rattle.std.proofs.Common.{List, ◌≤◌, length, ap, ◌∙◌, subst}
use Rattle.std.specs.Result.{is_ok}
use Rattle.std.specs.Prelude.{if◌then◌else◌}
use Rattle.std.specs.List.{insert}
use Rattle.hv_ids.specs.declared.notes.IdNote.{IdNote}
use Rattle.hv_ids.specs.Ids.{Pending, put_id}
use Rattle.hv_ids.proofs.PendingLaws.{IsUpTo, put-insert}
use Rattle.hv_ids.proofs.pending.PendingIds.add.Goals as goal

pub returns-clause-ids : goal.returns-clause-ids
returns-clause-ids c =
    c.insert.ensures.items
    ∙ ap (λ r. if is_ok r then insert c.self.inside.ids.items c.up_to-at.result c.args.id else c.self.inside.ids.items) c.unwrap.ensures
    ∙ put-insert c.args.id c.self.inside.ids.items c.up_to-at.result (subst (λ (xs : List IdNote). c.up_to-at.result ≤ length xs) c.deref.ensures.value c.up_to-at.ensures.bound)
    (subst (λ (xs : List IdNote). IsUpTo c.args.id.table xs c.up_to-at.result) c.deref.ensures.value c.up_to-at.ensures.point)
    ∙ ap (λ (p : Pending). put_id c.args.id p.ids) c.self.view_is
