use Rattle.std.proofs.Common.{◌≡◌, ◌∙◌, true, List, None, sym, ap, subst}
use Rattle.hv_base.specs.declared.ids.Limits.{Limits}
use Rattle.hv_history.specs.declared.entry.Entry.{Entry}
use Rattle.hv_history.specs.State.{state_of}
use Rattle.hv_history.specs.Legal.{HasRoom}
use Rattle.hv_house.specs.House.{entries_of}
use Rattle.hv_house.specs.Asking.{holder_against, lock_state}
use Rattle.hv_house.proofs.Beginning.{begin-fits, free-of}
use Rattle.hv_house.proofs.house.House.can_begin.Goals as goal

pub returns-then-room : goal.returns-then-room
returns-then-room g c =
    let book = entries_of c.args.self.now in
    let tree = c.args.tree.now in
    let room : HasRoom g.limits (state_of book) 3 =
    subst (λ (l : Limits). HasRoom l (state_of book) 3) c.requires.1.limits_are
    (subst (λ (b : List Entry). HasRoom c.args.self.now.limits (state_of b) 3) c.book.ensures.entries (c.has_room-room.ensures.room.0 c.if-room.true)) in
    let free : (is : c.is_granted-free.result ≡ true) → holder_against book tree ≡ None =
    (λ is. free-of (holder_against book tree) (sym c.check.ensures.state ∙ c.is_granted-free.ensures.granted.0 is)) in
    record {
      can = (λ is. (room, free is), λ can. c.is_granted-free.ensures.granted.1 (c.check.ensures.state ∙ ap lock_state can.1));
      fits = λ is. begin-fits g.limits book tree room (free is);
    }
