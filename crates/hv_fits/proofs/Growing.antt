-- Where an entry fits behind entries that all fit, all fit.
use Rattle.std.proofs.Common.{List, [], ◌∷◌, ◌++◌, fold}
use Rattle.hv_base.specs.declared.ids.Limits.{Limits}
use Rattle.hv_history.specs.declared.entry.Entry.{Entry}
use Rattle.hv_history.specs.State.{State, after, nothing_yet, state_of}
use Rattle.hv_history.specs.Legal.{Fits, AllFit}

fit-snoc : (limits : Limits) (state : State) (xs : List Entry) (x : Entry) → AllFit limits state xs → Fits limits (fold after state xs) x
    → AllFit limits state (xs ++ x ∷ [])
fit-snoc limits state [] x all fit = (fit, tt)
fit-snoc limits state (y ∷ xs) x all fit = (all.0, fit-snoc limits (after state y) xs x all.1 fit)

pub fit-more : (limits : Limits) (xs : List Entry) (x : Entry) → AllFit limits nothing_yet xs → Fits limits (state_of xs) x
    → AllFit limits nothing_yet (xs ++ x ∷ [])
fit-more limits xs x all fit = fit-snoc limits nothing_yet xs x all fit
