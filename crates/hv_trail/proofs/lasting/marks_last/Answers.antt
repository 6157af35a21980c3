use Rattle.std.proofs.lemmas.List.Elements.{Contains-append_left}
use Rattle.hv_trail.specs.declared.trail.Mark.TheVariants as mark
use Rattle.hv_trail.specs.declared.trail.TrailItem.TheVariants as item
use Rattle.hv_trail.proofs.LastingLaws.{fault-stays}
use Rattle.hv_trail.proofs.lasting.marks_last.Goals as goal

pub returns : goal.returns
returns c = record {
  written = λ trail more by place has. Contains-append_left trail more (item.Marked (mark.Wrote by place)) has;
  gone = λ trail more dir has. Contains-append_left trail more (item.Marked (mark.Went dir)) has;
  fault = λ trail more by why e. fault-stays by trail more why e;
}
