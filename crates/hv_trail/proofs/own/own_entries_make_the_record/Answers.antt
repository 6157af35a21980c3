use Rattle.hv_trail.proofs.OwnLaws.{own-record, same-record}
use Rattle.hv_trail.proofs.own.own_entries_make_the_record.Goals as goal

pub returns : goal.returns
returns c = record { made = own-record; same = same-record }
