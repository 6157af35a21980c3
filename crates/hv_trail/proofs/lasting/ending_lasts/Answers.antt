use Rattle.hv_trail.specs.Lasting.{IsEnded}
use Rattle.hv_trail.proofs.LastingLaws.{lasts, ended-keeps, ended-same}
use Rattle.hv_trail.proofs.lasting.ending_lasts.Goals as goal

pub returns : goal.returns
returns c = record {
  law = λ before now txn ending goes has. lasts (IsEnded ending) (ended-keeps ending) before now txn goes has;
  same = ended-same;
}
