use Rattle.std.proofs.Common.{◌≡◌, ◌+◌, length, ap, ◌∙◌, arith}
use Rattle.hv_turn.specs.Counts.{within}
use Rattle.hv_turn.proofs.Many.{how_many}
use Rattle.tests_turn.proofs.work.by_threads.Goals as goal

pub returns-in-Ok-clause-items : goal.returns-in-Ok-clause-items
returns-in-Ok-clause-items g c =
    let log = c.close.result.items.items in
    let own = c.spread-seat.result.0.own in
    let start = c.spread-seat.ensures.seat.start ∙ (ap (λ t. t.start) c.in-Ok.ensures.seat ∙ ap (λ l. length l) c.new.ensures.1) in
    let none = ap (λ t. length t.own) c.in-Ok.ensures.seat in
    let z : length log ≡ 0 + length log = omega arith in
    let many = how_many (length log) 0 own (λ p. c.close.ensures.places p ∙ (ap (λ n. within n (length log) p) start ∙ ap (λ n. within 0 n p) z)) in
    let sum = c.spread-seat.ensures.seat.own in
    omega (arith, many, sum, none)
