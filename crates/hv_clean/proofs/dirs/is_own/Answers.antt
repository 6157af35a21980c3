use Rattle.std.proofs.Common.{Option, true≢false, sym, subst}
use Rattle.std.specs.Prelude.{◌≡◌, IfSome}
use Rattle.hv_dirs.specs.declared.names.DirName.{DirName}
use Rattle.hv_dirs.specs.Names.{IsName, text_of}
use Rattle.hv_clean.specs.Dirs.{IsOwnIf}
use Rattle.hv_clean.proofs.Texts.{own-if}
use Rattle.hv_clean.proofs.dirs.is_own.Goals as goal

pub returns-in-Some : goal.returns-in-Some
returns-in-Some c =
    let is =
    subst (λ (o : Option DirName). IfSome o (λ (name : DirName). IsName name × (text_of name ≡ c.args.text.now))) c.in-Some.is c.in_ok-found.ensures.found in
    record {
      own =
          subst (IsOwnIf c.args.id.write.0 c.args.text.now) (sym c.is_own_name.ensures) (own-if c.args.id.write.0 c.args.text.now c.in-Some.name is.1);
    }

pub returns-in-None : goal.returns-in-None
returns-in-None c = record { own = λ so. absurd (true≢false (sym so)) }
