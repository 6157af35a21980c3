-- How long what is written is.
use Rattle.std.proofs.Common.{append_assoc}
use Rattle.std.proofs.lemmas.List.{length-append}
use Rattle.hv_bytes.proofs.Lengths.{length-two, length-four, length-eight, length-text}

pub ruleset fields = (length-append, length-two, length-four, length-eight, length-text, append_assoc)
