use Rattle.hv_choosing.proofs.Turns.{no-text}
use Rattle.hv_choosing.proofs.taken.push_text.Goals as goal

pub returns-in-None : goal.returns-in-None
returns-in-None c = no-text c.args.run.now c.args.place c.args.texts.now.items c.in-None.ensures.lookup.0
