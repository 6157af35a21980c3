use Rattle.std.proofs.Common.{List, ℕ, sym, subst}
use Rattle.hv_law_made.specs.Standing.{IsEncodingOf}
use Rattle.hv_job_acts.specs.Doing.{IsMadeOf}
use Rattle.hv_compact.proofs.reading.records_in.Goals as goal

pub returns-in-Some-clause-made : goal.returns-in-Some-clause-made
returns-in-Some-clause-made c = λ recs made.
    c.records_of.ensures.made recs
    (subst (λ (bytes : List ℕ). IsEncodingOf c.args.deletes c.args.file.now.place.bucket recs bytes) (sym c.deref.ensures.value)
    (subst (IsMadeOf c.args.deletes recs c.args.file.now.place) c.in-Some.is made))
