use Rattle.hv_trail.specs.Lasting.{IsGiven}
use Rattle.hv_trail.proofs.LastingLaws.{lasts, given-keeps}
use Rattle.hv_trail.proofs.lasting.write_id_lasts.Goals as goal

pub returns : goal.returns
returns c = record {
  law = λ before now txn table write goes has.
      lasts (IsGiven table write) (given-keeps table write) before now txn goes has;
}
