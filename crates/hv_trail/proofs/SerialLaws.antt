-- One thread's statements, put together.
use Rattle.std.proofs.Common.{◌≡◌, ℕ, Some, List, [], ◌∷◌, ◌++◌, refl, ap, ◌∙◌}
use Rattle.hv_book.specs.hv_history.specs.Answers.{answer}
use Rattle.hv_book.specs.hv_history.specs.State.{state_of}
use Rattle.hv_book.specs.hv_history.proofs.StateLaws.{answer-stays}
use Rattle.hv_trail.specs.declared.trail.TrailItem.{TrailItem}
use Rattle.hv_trail.specs.Trail.{book_of, state_at}
use Rattle.hv_trail.specs.Serial.{Alone, Serial}
use Rattle.hv_trail.proofs.LastingLaws.{book-append}

pub answer-lasts : (trail more : List TrailItem) (txn : ℕ) (reply : List ℕ) → answer (state_at trail) txn ≡ Some reply → answer (state_at (trail ++ more)) txn ≡ Some reply
answer-lasts trail more txn reply e =
    ap (λ book. answer (state_of book) txn) (book-append trail more) ∙ answer-stays (book_of trail) (book_of more) txn reply e

-- an answer over a front is that over the whole
answer-front : (end now : List TrailItem) (own : List TrailItem) (txn : ℕ) (reply : List ℕ) → now ≡ end ++ own
    → answer (state_at end) txn ≡ Some reply → answer (state_at now) txn ≡ Some reply
answer-front end now own txn reply adds e = ap (λ trail. answer (state_at trail) txn) adds ∙ answer-lasts end own txn reply e

-- one statement more
pub serial-more : (replies : List (List ℕ)) (first before now : List TrailItem) (reply : List ℕ)
    → Serial before replies first → Alone now reply before now → Serial now (replies ++ reply ∷ []) first
serial-more [] first before now reply done more = (
  now,
  record {
    txn = more.txn;
    own = more.own;
    adds = more.adds ∙ ap (λ trail. trail ++ more.own) done;
    is_own = more.is_own;
    answered = more.answered;
  },
  refl,
)
serial-more (r ∷ replies) first before now reply done more =
    let one = done.1
    in (
      done.0,
      record {
        txn = one.txn;
        own = one.own;
        adds = one.adds;
        is_own = one.is_own;
        answered = answer-front before now more.own one.txn r more.adds one.answered;
      },
      serial-more replies done.0 before now reply done.2 more,
    )
