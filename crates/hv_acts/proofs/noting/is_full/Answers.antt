use Rattle.hv_acts.proofs.Notes.{full-trail}
use Rattle.hv_acts.proofs.noting.is_full.Goals as goal

pub returns : goal.returns
returns g c = record { full = full-trail c.args.house.now c.args.txn c.fits.result c.fits.ensures.fits }
