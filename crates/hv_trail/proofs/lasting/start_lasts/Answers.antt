use Rattle.hv_trail.specs.Lasting.{IsStarted}
use Rattle.hv_trail.proofs.LastingLaws.{lasts, started-keeps}
use Rattle.hv_trail.proofs.lasting.start_lasts.Goals as goal

pub returns : goal.returns
returns c = record {
  law = λ before now txn snapshot means goes has.
      lasts (IsStarted snapshot means) (started-keeps snapshot means) before now txn goes has;
}
