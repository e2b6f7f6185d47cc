-- What a new version says, lent as a value or as none. Assumes nothing.
use Rattle.std.specs.Prelude.{ℕ, List, Option, Some, None}
use Rattle.std.specs.Borrow.{Bor}
use Rattle.meaning.specs.Object.{Contents, value, deleted}

-- none deletes
abbrev pub contents_of : Option (Bor (List ℕ)) → Contents
contents_of (Some v) = value v.now
contents_of None = deleted
