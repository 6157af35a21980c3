use Rattle.hv_house.proofs.EndSteps.{published-bare, published-short, as-published, as-failed}
use Rattle.hv_house.proofs.house.House.end_as.Goals as goal

pub note_end-requires-clause-bare : goal.note_end-requires-clause-bare
note_end-requires-clause-bare g c = published-bare c.args.number c.in-Published.range c.published_entry.result c.published_entry.ensures

pub note_end-requires-clause-short : goal.note_end-requires-clause-short
note_end-requires-clause-short g c = published-short c.args.number c.in-Published.range c.published_entry.result c.published_entry.ensures

pub returns-in-Published : goal.returns-in-Published
returns-in-Published g c = record {
  step =
      as-published g.D.Shelf.told g.D.Shelf.faults g.D.Shelf.hard c.args.number c.args.end c.args.self.now c.note_end.new.self c.note_end.result
      c.in-Published.range c.published_entry.result c.in-Published.is c.published_entry.ensures c.note_end.ensures.step;
}

pub returns-in-Failed : goal.returns-in-Failed
returns-in-Failed g c = record {
  step =
      as-failed g.D.Shelf.told g.D.Shelf.faults g.D.Shelf.hard c.args.number c.args.end c.args.self.now c.give_up.new.self c.give_up.result c.in-Failed.gone
      c.in-Failed.is c.give_up.ensures.step;
}
