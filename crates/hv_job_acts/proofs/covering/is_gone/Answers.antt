use Rattle.std.proofs.Common.{true≢false, sym, subst, ◌∙◌}
use Rattle.hv_shelf.specs.declared.place.DirAt.{DirAt}
use Rattle.hv_trail.specs.Kept.{trail_of}
use Rattle.hv_trail.specs.Trail.{HasGone}
use Rattle.hv_job_acts.proofs.Gone.{away-now, marked-now}
use Rattle.hv_job_acts.proofs.covering.is_gone.Goals as goal

pub returns-then-not-is_named : goal.returns-then-not-is_named
returns-then-not-is_named g c = record {
  gone = λ so. absurd (true≢false (sym so));
  left = λ so plain gone. true≢false (sym (c.is_named.ensures.1 plain) ∙ c.if-not-is_named.true);
}

pub returns-then-is_cleaned_away : goal.returns-then-is_cleaned_away
returns-then-is_cleaned_away g c = record {
  gone = λ so.
      away-now c.args.house.now c.args.table c.args.partition.now c.args.name.now c.book.result.now.entries c.is_cleaned_away.result c.book.ensures.entries
      c.is_cleaned_away.ensures c.if-is_cleaned_away.true;
  left = λ so. absurd (true≢false so);
}

pub returns : goal.returns
returns g c =
    let trail = trail_of c.args.house.now.trail in
    record {
      gone = λ so left. subst (λ (dir : DirAt). HasGone trail dir) c.in_ok-dir.ensures (c.has_gone.ensures.gone.0 so);
      left = λ so plain.
          marked-now c.args.house.now c.args.table c.args.partition.now c.args.name.now c.book.result.now.entries c.is_cleaned_away.result
          c.book.ensures.entries c.is_cleaned_away.ensures c.if-is_cleaned_away.false
          (λ has. true≢false (sym (c.has_gone.ensures.gone.1 (subst (λ (dir : DirAt). HasGone trail dir) (sym c.in_ok-dir.ensures) has)) ∙ so));
    }

pub dir_named-requires : goal.dir_named-requires
dir_named-requires g c = record { named = c.is_named.ensures.0 c.if-not-is_named.false }
