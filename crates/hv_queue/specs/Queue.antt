-- What is said of jobs and of what is due, by what walks have counted.
use Rattle.std.specs.Prelude.{if◌then◌else◌, ◌≡◌, ℕ, ◌+◌, ◌-◌, ◌*◌, ◌<◌, ◌&&◌, nat_lt, Bool, false, not, is_none, is_some, Option, Some, None, List, length, filter, sum_by}
use Rattle.hv_history.specs.declared.entry.JobKind.{JobKind}
use Rattle.hv_history.specs.declared.entry.JobKind.TheVariants as kind
use Rattle.hv_history.specs.State.{State, Job, numbered}
use Rattle.hv_history.specs.Legal.{is_working}
use Rattle.hv_history.specs.Jobs.{Events, Pieces, is_ready, has_succeeded, is_failed, is_up_to, ids_of, events_in, watermark, is_live_one, unless_empty, kind_over}
use Rattle.hv_history.specs.Thresholds.{is_behind_place}
use Rattle.hv_tallies.specs.hv_earlier.specs.hv_meta.specs.hv_book.specs.declared.jobs.JobNote.{JobNote}
use Rattle.hv_queue.specs.declared.queue.JobPieces.{JobPieces}
use Rattle.hv_queue.specs.declared.queue.JobState.{JobState}
use Rattle.hv_queue.specs.declared.queue.JobState.TheVariants as job
use Rattle.hv_tallies.specs.declared.survey.Survey.{Survey}
use Rattle.hv_tallies.specs.declared.tally.Reach.{Reach}
use Rattle.hv_tallies.specs.declared.tally.Tally.{Tally}
use Rattle.hv_tallies.specs.Tallies.{top, one_more}

-- ---- how far a job has come

abbrev pub state_if : Bool → Bool → Bool → Bool → Bool → JobState
state_if failed empty published cleaned picked =
    if failed then job.Failed
    else (if empty then job.Succeeded
    else (if published then (if cleaned then job.Succeeded else job.Ready)
    else (if picked then job.Working else job.Initiated)))

abbrev pub state_by : Job → JobState
state_by j = state_if (is_failed j) j.is_empty (is_some j.published) j.is_cleaned (is_some j.watermark)

abbrev pub note_state : JobNote → JobState
note_state note = state_if note.is_failed note.is_empty (is_some note.published) note.is_cleaned (is_some note.watermark)

-- nobody took it up, and it has no end
abbrev pub is_unstarted : Job → Bool
is_unstarted j = is_none j.watermark && (is_none j.published && (not j.is_empty && is_none j.failure))

-- what a state says of a job, in the history's words
abbrev pub says : JobState → Job → Bool
says job.Initiated j = is_unstarted j
says job.Working j = is_working j
says job.Ready j = is_ready j
says job.Succeeded j = has_succeeded j
says job.Failed j = is_failed j

-- ---- the watermark, by the least write id that is open

abbrev pub front_by : ℕ → Option ℕ → ℕ
front_by high None = high
front_by high (Some write) = write - 1

-- ---- how far a walk counts

pub record IsReach (state : State) (table : ℕ) (jobs : Survey) (mark : ℕ) (reach : Reach) : Type 0 where
  pub base : reach.base ≡ jobs.base
  pub compacted : reach.compacted ≡ jobs.compacted
  pub mark_is : reach.mark ≡ mark
  pub given : reach.given ≡ length (ids_of (numbered state.tables table))

-- ---- pieces

abbrev pub pieces_in : JobPieces → Pieces
pieces_in pieces = record { ins = pieces.ins; del = pieces.del; base = pieces.base; low = pieces.low.0; high = pieces.high.0 }

-- nothing is merged
abbrev pub no_pieces : JobPieces
no_pieces = record { ins = 0; del = 0; base = false; low = record { 0 = 0 }; high = record { 0 = 0 } }

abbrev pub number_or : ℕ → Option ℕ → ℕ
number_or default None = default
number_or default (Some n) = n

abbrev pub low_by : JobKind → Option ℕ → Option ℕ → ℕ
low_by kind.Minor low first = number_or (number_or 0 first) low
low_by kind.Major low first = 1

abbrev pub pieces_by : Reach → JobKind → Option ℕ → Tally → JobPieces
pieces_by reach kind low tally = record {
  ins = one_more reach.given tally.merged_ins tally.ins;
  del = one_more reach.given tally.merged_del tally.del;
  base = nat_lt 0 reach.base;
  low = record { 0 = low_by kind low tally.first };
  high = record { 0 = tally.high };
}

-- ---- how many rows there are

-- that commits say of the partition, under the write ids up to a mark
abbrev pub rows_up_to : State → ℕ → List ℕ → ℕ → ℕ
rows_up_to state table partition mark =
    sum_by (λ (events : Events). events.inserted + events.deleted) (filter (is_up_to mark) (events_in state table partition))

-- there is room for their numbers
abbrev pub HasFewRows : State → ℕ → List ℕ → Type 0
HasFewRows state table partition = rows_up_to state table partition (watermark state table) < top

-- ---- what is due

abbrev pub failed_by : Option ℕ → Bool → Option ℕ → Bool
failed_by opening failed None = false
failed_by opening failed (Some place) = failed && is_behind_place opening place

abbrev pub failed_note : Option ℕ → Option JobNote → Bool
failed_note opening None = false
failed_note opening (Some note) = failed_by opening note.is_failed note.ended

abbrev pub may_ask_by : State → ℕ → Survey → Bool
may_ask_by state table jobs =
    is_live_one (numbered state.tables table) && (not jobs.busy && not (failed_note state.openings.last jobs.last))

abbrev pub is_counted : Tally → Bool
is_counted tally = nat_lt tally.kept top && (nat_lt tally.gone top && nat_lt tally.above top)

abbrev pub is_much_by : ℕ → ℕ → Tally → Bool
is_much_by percent base tally = nat_lt 0 base && nat_lt (percent * (tally.kept - tally.gone)) (1000 * tally.above)

abbrev pub kind_by : ℕ → ℕ → ℕ → Pieces → Tally → Option JobKind
kind_by number percent base pieces tally =
    if is_much_by percent base tally then Some kind.Major
    else if nat_lt number (pieces.ins + pieces.del) then Some (kind_over base) else None

abbrev pub due_by : ℕ → ℕ → Reach → Tally → Option JobKind
due_by number percent reach tally =
    unless_empty (pieces_in (pieces_by reach kind.Major None tally))
    (kind_by number percent reach.base (pieces_in (pieces_by reach kind.Major None tally)) tally)
