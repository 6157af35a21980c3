use Rattle.std.proofs.Common.{◌≡◌, ℕ, take, subst}
use Rattle.std.specs.Prelude.{IfOk}
use Rattle.hv_history.specs.Legal.{profile}
use Rattle.hv_history.specs.Shown.{show_listed}
use Rattle.hv_history.specs.State.{state_of}
use Rattle.hv_showing.proofs.Thens.{texts-then}
use Rattle.hv_showing.proofs.showing.show_at.Goals as goal

pub show_before-requires-clause-texts : goal.show_before-requires-clause-texts
show_before-requires-clause-texts c = texts-then profile c.args.book.now.entries c.front_at-front.result.position c.requires.fit

pub returns : goal.returns
returns c = record {
  shown =
      subst (λ (n : ℕ). IfOk c.show_before.result (λ shown. shown ≡ show_listed (state_of (take n c.args.book.now.entries)) c.args.what.now))
      c.front_at-front.ensures.position c.show_before.ensures;
}
