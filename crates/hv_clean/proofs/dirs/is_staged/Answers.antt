use Rattle.std.proofs.Common.{Option, true≢false, sym, subst}
use Rattle.std.specs.Prelude.{◌≡◌, IfSome}
use Rattle.hv_dirs.specs.declared.names.DirName.{DirName}
use Rattle.hv_dirs.specs.Names.{IsName, text_of}
use Rattle.hv_clean.specs.Dirs.{IsStagedIf}
use Rattle.hv_clean.proofs.Texts.{staged-if}
use Rattle.hv_clean.proofs.dirs.is_staged.Goals as goal

pub returns-in-Some : goal.returns-in-Some
returns-in-Some c =
    let is =
    subst (λ (o : Option DirName). IfSome o (λ (name : DirName). IsName name × (text_of name ≡ c.args.text.now))) c.in-Some.is c.in_ok-found.ensures.found in
    record {
      staged =
          subst (IsStagedIf c.args.text.now) (sym c.is_staged_name.ensures) (staged-if c.args.text.now c.in-Some.name is.0 is.1);
    }

pub returns-in-None : goal.returns-in-None
returns-in-None c = record { staged = λ so. absurd (true≢false (sym so)) }
