-- A reply's point, filled with the sender's clock: its context as it is read, and what its merge gives. Assumes nothing.
use Prim.Native.Nat.{ℕ}
use mathlib.Core.Path.{◌≡◌, ap, ap₂, sym, ◌∙◌}
use mathlib.Core.List.{List}
use lib.ListN.{length}
use Rattle.numbers.specs.declared.Key.{Key}
use Rattle.numbers.specs.Words.{map}
use Rattle.numbers.specs.Numbers.{counter}
use Rattle.block.specs.Fields.{cut}
use Rattle.meaning.specs.CrewTable.{CrewTable}
use Rattle.meaning.specs.Clock.{Clock}
use Rattle.meaning.specs.Context.{Context, fill_context}
use Rattle.meaning.specs.Object.{Object, fill, merge}
use Rattle.meaning.specs.State.{State, local}
use Rattle.layout.specs.PointBlock.{form_1, decode_context, decode_point, decode_stored}
use Rattle.layout.specs.Image.{image_length, decode}
use Rattle.store.proofs.Lent.{table_part}
use Rattle.store.proofs.Record.{context_of}
use Rattle.merging.specs.Merging.{theirs}
use Rattle.weighing.specs.Weighed.{key_in, result_of}
use Rattle.mending.specs.Mended.{filled, mend}

-- the message's context, filled with the sender's clock, as it was read
pub there_filled : (img : List ℕ) → length img ≡ image_length → (b : List ℕ) (x : Key) → x ≡ key_in b → (k : Clock) (c : Context) → c ≡ fill_context (cut img 8 8) x.job k (decode_context (cut b 8 32))
    → c ≡ (filled (decode img) k (decode_stored form_1 b)).context
unfolding fill decode_stored
there_filled img size b x e k c h =
    h ∙ ap₂ (λ (t : CrewTable) (y : Key). fill_context t y.job k (decode_context (cut b 8 32))) (table_part img size) e
    ∙ ap (fill_context (decode img).table (key_in b).job k) (sym (context_of b))

-- with that context beside it, its object is the filled one, and its result the one that the definitions give
module _ (s : State) (k : Clock) (b there : List ℕ) (same : map counter there ≡ (filled s k (decode_stored form_1 b)).context) where
  pub theirs_filled : theirs b there ≡ filled s k (decode_stored form_1 b)
  unfolding fill decode_stored
  theirs_filled = λ i. record { versions = (decode_point form_1 b).object.versions; context = same i }

  pub result_mended : result_of s b there ≡ mend s k (decode_stored form_1 b)
  unfolding decode_stored
  result_mended = ap (λ (o : Object). record { key = key_in b; object = merge (local s (key_in b)) o }) theirs_filled
