use Rattle.std.proofs.Common.{◌≡◌, Option, Some, sym, subst}
use Rattle.std.specs.Prelude.{IfSome}
use Rattle.hv_base.specs.declared.ids.JobId.{JobId}
use Rattle.hv_dirs.specs.declared.names.DirName.{DirName}
use Rattle.hv_dirs.specs.Names.{IsName, text_of}
use Rattle.hv_job_calls.specs.Sweeping.{IsStagerOf}
use Rattle.hv_job_calls.proofs.Sweeps.{stager-told, no-stager}
use Rattle.hv_job_calls.proofs.sweeping.stager_of.Goals as goal

pub returns-in-Some : goal.returns-in-Some
returns-in-Some c =
    let is =
    subst (λ (o : Option DirName). IfSome o (λ (name : DirName). IsName name × (text_of name ≡ c.args.text.now))) c.in-Some.is c.in_ok-found.ensures.found in
    record {
      stager =
          subst (λ (o : Option JobId). IsStagerOf c.args.text.now o) (sym c.stager_in.ensures) (stager-told c.args.text.now c.in-Some.name is.0 is.1);
    }

pub returns-in-None : goal.returns-in-None
returns-in-None c = record {
  stager =
      no-stager c.args.text.now
      (subst (λ (o : Option DirName). (name : DirName) → IsName name → text_of name ≡ c.args.text.now → o ≡ Some name) c.in-None.is c.in_ok-found.ensures.every);
}
