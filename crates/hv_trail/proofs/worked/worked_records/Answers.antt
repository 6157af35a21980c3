use Rattle.hv_trail.proofs.WorkedRows as row
use Rattle.hv_trail.proofs.worked.worked_records.Goals as goal

pub returns : goal.returns
returns c = record {
  first_snapshot = row.first-snapshot;
  second_snapshot = row.second-snapshot;
  first_open = row.first-open;
  first_ids = row.first-ids;
  second_ids = row.second-ids;
  first_ending = row.first-ending;
  second_ending = row.second-ending;
}
