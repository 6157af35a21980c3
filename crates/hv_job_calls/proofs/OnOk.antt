-- What holds of an answer, weakened.
use Rattle.std.proofs.Common.{Result, Ok, Err}
use Rattle.std.specs.Prelude.{IfOk}

pub ok-weaker : {T E : Type 0} (r : Result T E) (P Q : T → Type 0) → ((x : T) → P x → Q x) → IfOk r P → IfOk r Q
ok-weaker (Ok x) P Q on is = on x is
ok-weaker (Err e) P Q on is = tt
