-- What the senders of a queue that has run to the end have counted, where its items bring values.
use Rattle.std.specs.Prelude.{List, Option}
use Rattle.wq_ledger.specs.Book.{BookState}

-- what it is without values, and what each accepted number brought, in their order
pub record ValueBookState (V : Type 0) : Type 0 where
  pub book : BookState
  pub brought : List (Option V)
