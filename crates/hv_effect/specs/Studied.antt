-- A statement that was typed, as its definition gives it.
use Rattle.std.specs.Prelude.{Result, Ok, Err}
use Rattle.hv_base.specs.declared.refusal.Refusal.{Refusal}
use Rattle.hv_typing.specs.declared.logic.Logic.{Logic}
use Rattle.hv_effect.specs.declared.studied.Typed.{Typed}
use Rattle.hv_effect.specs.declared.studied.Typed.TheVariants as typed

abbrev pub typed_in : Typed → Result Logic Refusal
typed_in (typed.As logic) = Ok logic
typed_in (typed.Refused why) = Err why
