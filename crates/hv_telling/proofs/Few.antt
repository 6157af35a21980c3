-- A legal book is as long as the profile lets it be, so that its write ids have names.
use Rattle.std.proofs.Common.{◌+◌, ◌<◌, ◌≤◌, List, arith}
use Rattle.hv_dirs.specs.Names.{write_end}
use Rattle.hv_history.specs.declared.entry.Entry.{Entry}
use Rattle.hv_history.specs.State.{nothing_yet, state_of}
use Rattle.hv_history.specs.Legal.{profile, load, AllFit}
use Rattle.hv_stands.specs.Statements.{AllFitting}
use Rattle.hv_stands.proofs.Behind.{entries-are}
use Rattle.hv_stands.proofs.Fitting.{load-within}
use Rattle.hv_trail.specs.declared.trail.TrailItem.{TrailItem}
use Rattle.hv_trail.specs.Trail.{book_of}
use Rattle.hv_law_work.specs.Laws.{IsShort}

small-entries : (book : List Entry) → AllFit profile nothing_yet book → (state_of book).entries + 2 < write_end
small-entries book fit =
    let none : load nothing_yet ≤ profile.entries = omega arith in
    let small : load (state_of book) ≤ profile.entries = load-within profile book nothing_yet fit none in
    omega (arith, small)

pub few-entries : (book : List Entry) → AllFit profile nothing_yet book → (state_of book).entries + 1 < write_end
few-entries book fit = let small = small-entries book fit in omega (arith, small)

pub is-short : (trail : List TrailItem) → AllFitting (book_of trail) → IsShort profile trail
is-short trail fit = record { fit = fit; few = omega (arith, small-entries (book_of trail) fit, entries-are (book_of trail)) }
