use Rattle.std.proofs.Common.{◌∙◌}
use Rattle.hv_telling.specs.hv_house.specs.House.{entries_of}
use Rattle.hv_job_calls.proofs.Lists.{note-rises, note-within, note-list}
use Rattle.hv_job_calls.proofs.OnOk.{ok-weaker}
use Rattle.hv_job_calls.proofs.listing.job_list.Goals as goal

pub cut_list-requires-clause-rises : goal.cut_list-requires-clause-rises
cut_list-requires-clause-rises g c =
    note-rises (entries_of c.args.house.now) c.requires.whole.ready.fit c.args.note.now c.requires.noted c.mark_of.result c.mark_of.ensures c.book.result.now.entries
    c.book.ensures.entries c.in_ok-ids.ids.given c.in_ok-ids.ids.lost.items c.in_ok-ids.ensures.given c.in_ok-ids.ensures.lost

pub cut_list-requires-clause-within : goal.cut_list-requires-clause-within
cut_list-requires-clause-within g c =
    note-within (entries_of c.args.house.now) c.requires.whole.ready.fit c.args.note.now c.requires.noted c.mark_of.result c.mark_of.ensures c.book.result.now.entries
    c.book.ensures.entries c.in_ok-ids.ids.given c.in_ok-ids.ids.lost.items c.in_ok-ids.ensures.given c.in_ok-ids.ensures.lost

pub returns : goal.returns
returns g c = record {
  list =
      ok-weaker c.cut_list.result _ _
      (λ list is. is
      ∙ note-list (entries_of c.args.house.now) c.requires.whole.ready.fit c.args.note.now c.requires.noted c.mark_of.result c.mark_of.ensures
      c.book.result.now.entries c.book.ensures.entries c.in_ok-ids.ids.given c.in_ok-ids.ids.lost.items c.in_ok-ids.ensures.given c.in_ok-ids.ensures.lost)
      c.cut_list.ensures.list;
}
