use Rattle.std.proofs.Common.{inl, refl}
use Rattle.hv_acts.specs.hv_telling.specs.hv_house.specs.Steps.{seen_of}
use Rattle.hv_acts.specs.hv_telling.specs.hv_house.proofs.Hards.{shuts_later}
use Rattle.hv_job_acts.proofs.Notings.{ask-step}
use Rattle.hv_job_acts.proofs.noting.ask_kind.Goals as goal

pub ask-requires-clause-asker : goal.ask-requires-clause-asker
ask-requires-clause-asker g c = inl refl

pub ask-requires-clause-truly : goal.ask-requires-clause-truly
ask-requires-clause-truly g c = λ told. inl refl

pub returns : goal.returns
returns g c = record {
  asked =
      ask-step g.D.Shelf.told g.D.Shelf.faults c.args.house.now c.ask.new.house c.requires.whole c.args.table c.args.partition c.args.kind c.requires.due
      c.ask.result c.asked_in.result c.asked_in.ensures c.ask.ensures.step c.ask.ensures.job c.ask.ensures.gone c.ask.ensures.none c.ask.ensures.full
      c.ask.ensures.others;
  hard =
      shuts_later g.D.Shelf.told g.D.Shelf.faults g.D.Shelf.hard _ _ (seen_of c.args.house.now) (seen_of c.ask.new.house) c.ask.ensures.step.step
      c.ask.ensures.hard c.requires.hard;
}
