use Rattle.hv_rowfile.proofs.Values.{no_element}
use Rattle.hv_rowfile.proofs.writing.values.put_element.Goals as goal

pub returns-in-Array-clause-appended : goal.returns-in-Array-clause-appended
returns-in-Array-clause-appended c = absurd (no_element c.args.value.now _ c.in-Array.is c.requires.can.0)
