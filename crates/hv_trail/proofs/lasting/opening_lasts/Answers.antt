use Rattle.hv_trail.specs.Lasting.{IsOpened}
use Rattle.hv_trail.proofs.LastingLaws.{lasts, opened-keeps}
use Rattle.hv_trail.proofs.lasting.opening_lasts.Goals as goal

pub returns : goal.returns
returns c = record {
  law = λ before now txn session number text goes has.
      lasts (IsOpened session number text) (opened-keeps session number text) before now txn goes has;
}
