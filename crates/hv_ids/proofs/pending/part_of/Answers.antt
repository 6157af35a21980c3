use Rattle.std.proofs.Common.{List, ◌≤◌, length, take, ap, ◌∙◌, subst}
use Rattle.hv_ids.specs.declared.notes.IdNote.{IdNote}
use Rattle.hv_ids.proofs.PendingLaws.{IsUpTo, middle-of, rest-all}
use Rattle.hv_ids.proofs.pending.part_of.Goals as goal

pub returns : goal.returns
returns c =
    let ids = c.args.ids.now in
    let low = c.below.result in
    let high = c.up_to.result in
    let rest = rest-all low ids in
    record {
      ids =
          ap (take high) rest
          ∙ middle-of c.args.table ids low high c.below.ensures.bound c.below.ensures.point
          (subst (λ (xs : List IdNote). high ≤ length xs) rest c.up_to.ensures.bound)
          (subst (λ (xs : List IdNote). IsUpTo c.args.table xs high) rest c.up_to.ensures.point);
    }
