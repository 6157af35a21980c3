use Rattle.hv_lex.proofs.Runs.{lowered_utf8}
use Rattle.hv_lex.proofs.words.lower_case.Goals as goal

pub from_bytes-requires : goal.from_bytes-requires
from_bytes-requires c = lowered_utf8 _ _ c.requires c.in_ok-lowered.ensures
