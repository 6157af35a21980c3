-- A reader, and the token behind what it reads.
use Rattle.hv_grammar.specs.declared.kind.Kind.{Kind}
use Rattle.hv_grammar.specs.Readers.{Reader, ◌>>=◌, ◌>>◌, give, expect}

-- what is read, up to a token of this kind, which is passed
unfoldable pub up_to : {A : Type 0} → Kind → Reader A → Reader A
up_to kind r = do
  a ← r
  expect kind
  give a
