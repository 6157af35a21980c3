-- Books with compaction jobs, worked out by hand.
use Rattle.std.proofs.Common.{refl}
use Rattle.hv_history.specs.State.{acted}
use Rattle.hv_law_jobs.specs.Worked.{MergedByHand, EmptyByHand, DueByHand, ValuesByHand, StatesByHand, JobsByHand}

merged-by-hand : MergedByHand
unfolding acted
merged-by-hand = record {
  events_four = refl;
  minor_four = refl;
  major_four = refl;
  minor_above = refl;
  minor_full = refl;
  major_above = refl;
  aborted_mark = refl;
  aborted_major = refl;
  aborted_full = refl;
  open_mark = refl;
  open_major = refl;
  open_empty = refl;
  below_mark = refl;
  below_major = refl;
  below_full = refl;
  below_due = refl;
  north_events = refl;
  south_events = refl;
  north_pieces = refl;
  second_minor = refl;
  three_more = refl;
  minor_behind_both = refl;
}

empty-by-hand : EmptyByHand
unfolding acted
empty-by-hand = record {
  one_minor = refl;
  one_major = refl;
  based_major = refl;
  based_minor = refl;
  nothing_above = refl;
}

due-by-hand : DueByHand
unfolding acted
due-by-hand = record {
  at_ten = refl;
  at_eleven = refl;
  at_one_over_none = refl;
  at_two_over_none = refl;
  at_threshold = refl;
  past_threshold = refl;
  many_deltas = refl;
  few_rows = refl;
  many_rows = refl;
  fewer_thousandths = refl;
  open_due = refl;
}

values-by-hand : ValuesByHand
values-by-hand = record {
  six_digits = refl;
  seven_digits = refl;
  no_digits = refl;
  no_count = refl;
  tenth = refl;
  two_and_half = refl;
  fine = refl;
  whole = refl;
  point_last = refl;
  too_wide = refl;
}

states-by-hand : StatesByHand
unfolding acted
states-by-hand = record {
  busy = refl;
  elsewhere = refl;
  at_work = refl;
  ended = refl;
  failed = refl;
  failed_before = refl;
  done = refl;
  over = refl;
  failed_never = refl;
  busy_before = refl;
  busy_after = refl;
  busy_still = refl;
  busy_never = refl;
  has_it = refl;
  has_other = refl;
  has_kind = refl;
  held = refl;
  free = refl;
}

pub jobs-by-hand : JobsByHand
jobs-by-hand = record { merged = merged-by-hand; empty = empty-by-hand; due = due-by-hand; values = values-by-hand; states = states-by-hand }
