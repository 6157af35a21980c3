use Rattle.std.proofs.Common.{ap, ◌∙◌}
use Rattle.hv_seated.specs.Seats.{fixed_of, seated_free, seated_same}
use Rattle.tests_seats.proofs.apart.sit.Goals as goal

pub say-done-requires : goal.say-done-requires
say-done-requires g c = record { keeps = c.new-chair.ensures.seated }

pub returns-clause-free : goal.returns-clause-free
returns-clause-free g c =
    let chair = c.say-done.new.actor in
    ap (λ t. t.has_turn) c.into_seat.ensures.seat
    ∙ seated_free chair.turn.now chair.seat chair.seen.value _ _ g.K.SeatKey.fixed c.say-done.ensures.keeps

pub returns-clause-fixed : goal.returns-clause-fixed
returns-clause-fixed g c =
    let chair = c.say-done.new.actor in
    ap (λ t. fixed_of t) c.into_seat.ensures.seat
    ∙ seated_same chair.turn.now chair.seat chair.seen.value _ _ g.K.SeatKey.fixed c.say-done.ensures.keeps
