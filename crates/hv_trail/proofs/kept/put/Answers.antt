use Rattle.std.proofs.Common.{◌≤◌, subst, sym}
use Rattle.hv_trail.specs.Spare.{open_count}
use Rattle.hv_trail.proofs.SpareLaws.{place-there, place-taken}
use Rattle.hv_trail.proofs.kept.put.Goals as goal

pub put-requires-clause-room : goal.put-requires-clause-room
put-requires-clause-room c = place-there c.args.book.now.entries c.args.entry c.args.book.now.spare c.requires.spare c.requires.place

pub returns-clause-spare : goal.returns-clause-spare
returns-clause-spare c =
    subst (λ es. open_count es ≤ c.put.new.self.spare) (sym c.put.ensures.entries)
    (place-taken c.args.book.now.entries c.args.entry c.args.book.now.spare c.put.new.self.spare c.requires.spare c.requires.place c.put.ensures.spare)
