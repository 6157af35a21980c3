-- The directories that a job at work is to make, by what commits say of its range, are those that its writes make.
use Rattle.std.specs.Prelude.{List}
use Rattle.hv_base.specs.declared.ids.Limits.{Limits}
use Rattle.hv_history.specs.declared.entry.Entry.{Entry}
use Rattle.hv_history.specs.State.{nothing_yet, state_of}
use Rattle.hv_history.specs.Legal.{AllFit, AllTruthful}
use Rattle.hv_law_made.specs.Opening.{FinalsAgree}

-- Where commits say the truth an opening, which goes by what they say, looks for just the directories that the job makes.
abbrev pub FinalsAreSaid : Type 0
FinalsAreSaid =
    (limits : Limits) (entries : List Entry) → AllFit limits nothing_yet entries → AllTruthful nothing_yet entries → FinalsAgree (state_of entries)
