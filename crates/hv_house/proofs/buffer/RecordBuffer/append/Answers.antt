use Rattle.std.proofs.Common.{◌≤◌, ◌∷◌, subst, sym, arith}
use Rattle.hv_history.specs.Journal.{place_of}
use Rattle.hv_house.proofs.buffer.RecordBuffer.append.Goals as goal

pub append-requires-clause-room : goal.append-requires-clause-room
append-requires-clause-room g c = subst (λ n. place_of (c.args.first.now ∷ c.args.more.now) ≤ n) (sym c.self.view_is) c.requires.room

pub invariant_of-self : goal.invariant_of-self
invariant_of-self g c = omega (arith, c.self.invariant, c.append.ensures.buffer)
