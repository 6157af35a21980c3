use Rattle.std.proofs.Common.{◌≡◌, Bool, Option, Some, sym, subst}
use Rattle.std.specs.Prelude.{IfSome}
use Rattle.hv_dirs.specs.declared.names.DirName.{DirName}
use Rattle.hv_dirs.specs.Names.{IsName, text_of}
use Rattle.hv_job_calls.specs.Forgetting.{IsOwnNamed}
use Rattle.hv_job_calls.proofs.Forgets.{own-told, own-nameless}
use Rattle.hv_job_calls.proofs.forgetting.is_own.Goals as goal

pub returns-in-Some : goal.returns-in-Some
returns-in-Some c =
    let is =
    subst (λ (o : Option DirName). IfSome o (λ (name : DirName). IsName name × (text_of name ≡ c.args.text.now))) c.in-Some.is c.in_ok-found.ensures.found in
    record {
      own =
          subst (λ (b : Bool). IsOwnNamed c.args.write.0 c.args.text.now b) (sym c.is_own_name.ensures)
          (own-told c.args.write.0 c.args.text.now c.in-Some.name c.requires.number is.0 is.1);
    }

pub returns-in-None : goal.returns-in-None
returns-in-None c = record {
  own =
      own-nameless c.args.write.0 c.args.text.now c.requires.number
      (subst (λ (o : Option DirName). (name : DirName) → IsName name → text_of name ≡ c.args.text.now → o ≡ Some name) c.in-None.is c.in_ok-found.ensures.every);
}
