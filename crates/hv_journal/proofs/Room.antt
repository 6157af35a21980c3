-- How long what is written is.
use Rattle.std.proofs.Common.{append_assoc, arith}
use Rattle.std.proofs.lemmas.List.{length-append}
use Rattle.hv_bytes.proofs.Lengths.{length-four, length-eight, length-text}
use Rattle.hv_journal.proofs.Lengths.{length-row, length-record, place_gated}

pub ruleset room = (length-append, length-four, length-eight, length-text, length-row, append_assoc)

-- and how far entries go behind one another
pub ruleset places = (length-append, place_gated)

-- how long a record is
pub ruleset records = (arith, length-record)
