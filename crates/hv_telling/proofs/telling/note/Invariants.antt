use Rattle.hv_history.specs.Legal.{profile}
use Rattle.hv_telling.proofs.telling.note.Given as goal

abbrev pub ghost-note : goal.ghost-note
ghost-note g a = profile
