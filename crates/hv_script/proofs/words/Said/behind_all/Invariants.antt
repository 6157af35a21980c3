use Rattle.std.proofs.Common.{◌≡◌, drop, map}
use Rattle.std.specs.String.{string_bytes}
use Rattle.hv_script.specs.Words.{said_of_all}
use Rattle.hv_script.proofs.words.Said.behind_all.Given as goal

abbrev pub invariant-loop-word : goal.invariant-loop-word
invariant-loop-word l = said_of_all l.said (map string_bytes (drop l.word-index l.words)) ≡ said_of_all l.fn.self (map string_bytes l.words)
