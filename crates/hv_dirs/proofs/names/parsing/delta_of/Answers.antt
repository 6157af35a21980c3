use Rattle.std.proofs.Common.{refl, ◌≤◌, inl, inr, arith}
use Rattle.hv_dirs.proofs.ParsingLemmas.{if-none, some-number, nil, not-nil, no-range, bad-range, two-ids, no-own, is-wide, is-own}
use Rattle.hv_dirs.proofs.names.parsing.delta_of.Goals as goal

pub returns-in_err-low-clause-none : goal.returns-in_err-low-clause-none
returns-in_err-low-clause-none c = if-none c.from_residual.result _ (no-range c.args.deletes c.args.bytes.now c.in_err-low.ensures.none)

pub returns-then-low-eq0-clause-none : goal.returns-then-low-eq0-clause-none
returns-then-low-eq0-clause-none c = bad-range c.args.deletes c.args.bytes.now c.in_ok-low.rest.now c.in_ok-low.low c.in_ok-low.high
    (record { low_fits = c.in_ok-low.ensures.found.0; high_fits = c.in_ok-low.ensures.found.1; text = c.in_ok-low.ensures.found.2 })
    (elim c.then-low-eq0.either [ inl none ↦ inl none | inr less ↦ inr less.1 ])

pub returns-then-is_empty-clause-found : goal.returns-then-is_empty-clause-found
returns-then-is_empty-clause-found c = (
  (refl, (some-number c.in_ok-low.low c.if-low-eq0.false, c.if-high-low.false, c.in_ok-low.ensures.found.1)),
  is-wide c.args.deletes c.args.bytes.now c.in_ok-low.rest.now c.in_ok-low.low c.in_ok-low.high
      (record { low_fits = c.in_ok-low.ensures.found.0; high_fits = c.in_ok-low.ensures.found.1; text = c.in_ok-low.ensures.found.2 })
      (nil c.is_empty.result c.in_ok-low.rest.now c.is_empty.ensures c.if-is_empty.true),
)

pub returns-then-low-high-clause-none : goal.returns-then-low-high-clause-none
returns-then-low-high-clause-none c = two-ids c.args.deletes c.args.bytes.now c.in_ok-low.rest.now c.in_ok-low.low c.in_ok-low.high
    (record { low_fits = c.in_ok-low.ensures.found.0; high_fits = c.in_ok-low.ensures.found.1; text = c.in_ok-low.ensures.found.2 })
    (not-nil c.is_empty.result c.in_ok-low.rest.now c.is_empty.ensures c.if-is_empty.false) c.if-low-high.true

pub returns-in_err-statement-clause-none : goal.returns-in_err-statement-clause-none
returns-in_err-statement-clause-none c = if-none c.from_residual-in_err-statement.result _
    (no-own c.args.deletes c.args.bytes.now c.in_ok-low.rest.now c.in_ok-low.low c.in_ok-low.high
    (record { low_fits = c.in_ok-low.ensures.found.0; high_fits = c.in_ok-low.ensures.found.1; text = c.in_ok-low.ensures.found.2 })
    (not-nil c.is_empty.result c.in_ok-low.rest.now c.is_empty.ensures c.if-is_empty.false) c.in_err-statement.ensures.none)

pub returns-clause-found : goal.returns-clause-found
returns-clause-found c = let under : c.in_ok-low.low ≤ c.in_ok-low.high = c.if-high-low.false in
    let over : c.in_ok-low.high ≤ c.in_ok-low.low = c.if-low-high.false in (
      (refl, (some-number c.in_ok-low.low c.if-low-eq0.false, c.in_ok-low.ensures.found.0), c.in_ok-statement.ensures.found.0),
      is-own c.args.deletes c.args.bytes.now c.in_ok-low.rest.now c.in_ok-low.low c.in_ok-low.high c.in_ok-statement.statement
          (record { low_fits = c.in_ok-low.ensures.found.0; high_fits = c.in_ok-low.ensures.found.1; text = c.in_ok-low.ensures.found.2 })
          (omega arith) c.in_ok-statement.ensures.found.1,
    )
