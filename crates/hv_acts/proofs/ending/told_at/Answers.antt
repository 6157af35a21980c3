use Rattle.std.proofs.Common.{◌∙◌}
use Rattle.std.specs.Option.{option_copied}
use Rattle.hv_acts.proofs.Endings.{told-there}
use Rattle.hv_acts.proofs.ending.told_at.Goals as goal

pub returns : goal.returns
returns g c = record {
  told =
      told-there c.args.house.now c.args.at (option_copied c.cause_at.result) c.entries-entries.result.now c.told_so.result (c.entries-entries.ensures.entries ∙ c.book.ensures.entries)
      c.cause_at.ensures.cause c.told_so.ensures.told;
}
