-- Two values of one thing: as it was, and as it is now.
pub record Change (T : Type 0) : Type 0 where
  pub was : T
  pub now : T

abbrev pub from_to : {T : Type 0} → T → T → Change T
from_to was now = record { was = was; now = now }
