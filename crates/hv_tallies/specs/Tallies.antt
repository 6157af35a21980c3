-- What a walk over the write ids of a table counts, whatever order it goes in. Numbers stop at the greatest one that there is room for.
use Rattle.std.specs.Prelude.{if◌then◌else◌, ℕ, ◌+◌, ◌-◌, ◌^◌, ◌&&◌, ◌||◌, nat_lt, nat_le, Bool, false, Option, Some, None, List, find, fold}
use Rattle.hv_base.specs.declared.ids.Touch.{Touch}
use Rattle.hv_jobs.specs.hv_history.specs.State.{State, numbered}
use Rattle.hv_jobs.specs.hv_history.specs.Jobs.{Events, is_touch_of, larger, is_open_one, events_at, inserts, deletes, is_above, is_between, is_up_to}
use Rattle.hv_ids.specs.declared.notes.IdNote.{IdNote}
use Rattle.hv_tallies.specs.declared.tally.Reach.{Reach}
use Rattle.hv_tallies.specs.declared.tally.Tally.{Tally}

abbrev pub top : ℕ
top = 2 ^ 64 - 1

abbrev pub no_tally : Tally
no_tally = record {
  unended = None;
  ins = 0;
  del = 0;
  merged_ins = false;
  merged_del = false;
  first = None;
  high = 0;
  kept = 0;
  gone = 0;
  above = 0;
}

abbrev pub least : Option ℕ → ℕ → Option ℕ
least None write = Some write
least (Some before) write = if nat_lt write before then Some write else Some before

abbrev pub noted_open : Bool → ℕ → Tally → Tally
noted_open is_open write tally = if is_open then record tally { unended = least tally.unended write } else tally

-- no count is above that of the write ids that were given
abbrev pub one_more : ℕ → Bool → ℕ → ℕ
one_more given test count = if test && nat_lt count given then count + 1 else count

abbrev pub first_if : Bool → ℕ → Option ℕ → Option ℕ
first_if test write first = if test then least first write else first

abbrev pub more : ℕ → ℕ → ℕ
more sum rows = if nat_le rows (top - sum) then sum + rows else top

abbrev pub more_if : Bool → ℕ → ℕ → ℕ
more_if test sum rows = if test then more sum rows else sum

abbrev pub more_both : Bool → ℕ → ℕ → ℕ → ℕ
more_both test sum inserted deleted = if test then more (more sum inserted) deleted else sum

-- ---- what a commit wrote under one write id

abbrev pub counted : Reach → Tally → Events → Tally
counted reach tally events = record {
  unended = tally.unended;
  ins = one_more reach.given (is_above reach.compacted events && inserts events) tally.ins;
  del = one_more reach.given (is_above reach.compacted events && deletes events) tally.del;
  merged_ins = tally.merged_ins || (is_between reach.base reach.compacted events && inserts events);
  merged_del = tally.merged_del || (is_between reach.base reach.compacted events && deletes events);
  first = first_if (is_above reach.base events) events.write tally.first;
  high = larger tally.high events.write;
  kept = more_if (is_up_to reach.base events) tally.kept events.inserted;
  gone = more_if (is_up_to reach.base events) tally.gone events.deleted;
  above = more_both (is_above reach.base events) tally.above events.inserted events.deleted;
}

-- no further than the mark
abbrev pub tallied : Reach → Tally → Events → Tally
tallied reach tally events = if is_up_to reach.mark events then counted reach tally events else tally

-- the touch of the partition, if these have one
abbrev pub touch_in : ℕ → List ℕ → Option (List Touch) → Option Touch
touch_in table partition None = None
touch_in table partition (Some wrote) = find (is_touch_of table partition) wrote

unfoldable pub visited : State → ℕ → List ℕ → Reach → Tally → IdNote → Tally
visited state table partition reach tally id =
    fold (tallied reach) (noted_open (is_open_one (numbered state.transactions id.txn)) id.write tally)
    (events_at table partition id.write (numbered state.transactions id.txn))
