use Rattle.std.proofs.Common.{ℕ, ◌+◌, ◌-◌, List, ◌++◌, length, take, drop, Option, sym, ◌∙◌, ap, append_assoc}
use Rattle.std.proofs.lemmas.List.{take_rest}
use Rattle.std.proofs.Math.Seq.{take-add}
use Rattle.hv_base.specs.Sink.{Gains}
use Rattle.hv_base.specs.Told.{Moves}
use Rattle.hv_base.proofs.ToldLemmas.{Moves-then}

-- a front of the bytes was added, and then a front of the rest
pub Gains-more : (bytes : List ℕ) (done more : ℕ) (a b c : Option (List ℕ)) →
    Moves (Gains (take done bytes)) a b → Moves (Gains (take more (take (length bytes - done) (drop done bytes)))) b c →
    Moves (Gains (take (done + more) bytes)) a c
Gains-more bytes done more a b c =
    Moves-then (Gains (take done bytes)) (Gains (take more (take (length bytes - done) (drop done bytes)))) (Gains (take (done + more) bytes))
    (λ x y z p q.
    q ∙ ap (λ w. w ++ take more (take (length bytes - done) (drop done bytes))) p
    ∙ ap (λ w. (x ++ take done bytes) ++ take more w) (take_rest bytes done)
    ∙ append_assoc x (take done bytes) (take more (drop done bytes))
    ∙ ap (λ w. x ++ w) (sym (take-add done more bytes)))
    a b c
