use Rattle.tests_house.proofs.compacting.note_asked.Given as goal

abbrev pub ghost-fits : goal.ghost-fits
ghost-fits g a = a.self.now.limits

abbrev pub ghost-note : goal.ghost-note
ghost-note g a = a.self.now.limits
