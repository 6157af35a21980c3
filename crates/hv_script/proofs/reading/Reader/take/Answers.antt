use Rattle.std.proofs.Common.{◌∙◌, ap, refl, sym}
use Rattle.hv_script.specs.Kinds.{kind_of}
use Rattle.hv_script.proofs.Taking.{took_kept}
use Rattle.hv_script.proofs.reading.Reader.take.Goals as goal

pub returns : goal.returns
returns c =
    record {
      taken = took_kept c.args.self.now _ c.args.item.now c.in_ok-kind.kind c.in_ok-action.action
          (c.in_ok-kind.ensures.value ∙ ap kind_of c.as_slice.ensures) (sym c.refuses.ensures.value ∙ c.if-refuses.false)
          c.in_ok-pass.ensures.after c.in_ok-push_some.ensures.pushed refl c.in_ok-action.ensures.value;
    }
