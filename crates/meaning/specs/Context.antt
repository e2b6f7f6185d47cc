-- Contexts: "one counter per controller, 0 for none". Assumes nothing.
use Rattle.std.specs.Prelude.{ℕ, ◌-◌, max, Bool, List, get_or, leb, eqb, if◌then◌else◌}
use Rattle.numbers.specs.declared.Controller.{Controller}
use Rattle.numbers.specs.declared.Counter.{Counter}
use Rattle.numbers.specs.declared.Dot.{Dot}
use Rattle.numbers.specs.Words.{all?}
use Rattle.numbers.specs.Numbers.{counter, each}
use Rattle.meaning.specs.CrewTable.{CrewTable, holds}
use Rattle.meaning.specs.Clock.{Clock, row}

abbrev pub Context : Type 0
Context = List Counter

abbrev pub entry : Context → Controller → Counter
entry c n = get_or c (n.0 - 1) (counter 0)

abbrev pub no_context : Context
no_context = each (λ n. counter 0)

-- the context is empty: all its entries are 0
unfoldable pub is_empty : Context → Bool
is_empty c = all? (λ e. eqb e.0 0) c

-- "A context covers dot (n,c) when c is at most its entry for n."
unfoldable pub covers : Context → Dot → Bool
covers c d = leb d.count.0 (entry c d.who).0

-- "Fill raises each context entry n, for n holding the point's job, to the base of row n."
unfoldable pub fill_context : CrewTable → ℕ → Clock → Context → Context
fill_context t job k c = each (λ n. if holds t n job then counter (max (entry c n).0 (row k n).base) else entry c n)

-- "Strip sets to 0 each entry not above its base."
unfoldable pub strip_context : Clock → Context → Context
strip_context k c = each (λ n. if leb (entry c n).0 (row k n).base then counter 0 else entry c n)

-- Merge "takes the higher context entries".
unfoldable pub higher : Context → Context → Context
higher a b = each (λ n. counter (max (entry a n).0 (entry b n).0))
