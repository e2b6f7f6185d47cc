-- What the code asks of a record, or of none, is what `judged` asks of the state. Assumes nothing.
use Prim.Native.Nat.{ℕ, ◌<◌}
use mathlib.Core.Path.{◌≡◌, ap, ap₂, sym, ◌∙◌}
use mathlib.Core.Bool.{Bool, true, false, ◌&&◌, not}
use mathlib.Core.List.{List}
use native.Mathlib.Omega.{arith}
use lib.ListN.{length}
use lib.Dec.{leb, ltb}
use Rattle.numbers.specs.declared.Key.{Key}
use Rattle.numbers.specs.Words.{keep, some?}
use Rattle.numbers.specs.Numbers.{controllers}
use Rattle.numbers.proofs.Tests.{by_test}
use Rattle.block.specs.Fields.{cut}
use Rattle.meaning.specs.CrewTable.{CrewTable}
use Rattle.meaning.specs.Clock.{Clock}
use Rattle.meaning.specs.Context.{Context, entry, covers, fill_context}
use Rattle.meaning.specs.Object.{Object, fill}
use Rattle.meaning.specs.State.{Stored, State, look_up, local}
use Rattle.meaning.specs.Settle.{most_points}
use Rattle.meaning.specs.OwnSteps.{context_ahead}
use Rattle.layout.specs.Clocks.{decode_clock}
use Rattle.layout.specs.PointBlock.{decode_context}
use Rattle.layout.specs.Image.{image_length, decode}
use Rattle.store.proofs.Lent.{table_part, clock_part}
use Rattle.store.proofs.Record.{look_up_none}
use Rattle.store.specs.HasRecord.{has_record}
use Rattle.writing.specs.Judged.{staying}

-- ---- 8 and 12

module _ (img : List ℕ) (size : length img ≡ image_length) (k : Key) (c : Context) where
  abbrev s : State
  s = decode img

  pub ahead_is : (stored : List ℕ) (job : ℕ) (r : Bool) → (look_up k (decode img).points).context ≡ decode_context stored → job ≡ k.job
      → r ≡ some? (λ n. ltb (entry (fill_context (cut img 8 8) job (decode_clock (cut img 16 96)) (decode_context stored)) n).0 (entry c n).0) controllers → r ≡ context_ahead (decode img) k c
  unfolding context_ahead local fill
  ahead_is stored job r e j h =
      h ∙ ap₂ (λ (t : CrewTable) (q : Clock). some? (λ n. ltb (entry (fill_context t job q (decode_context stored)) n).0 (entry c n).0) controllers) (table_part img size) (clock_part img size)
      ∙ ap₂ (λ (m : ℕ) (x : Context). some? (λ n. ltb (entry (fill_context s.table m s.clock x) n).0 (entry c n).0) controllers) j (sym e)

  pub staying_is : (o : Object) (n : ℕ) → look_up k (decode img).points ≡ o → n ≡ length (keep (λ v. not (covers c v.dot)) o.versions) → n ≡ length (staying (decode img) k c)
  staying_is o n e h = h ∙ ap (λ (x : Object). length (keep (λ v. not (covers c v.dot)) x.versions)) (sym e)

  -- ---- none

  module _ (none : has_record k (decode img).points ≡ false) where
    pub none_stays : length (staying (decode img) k c) < 8
    none_stays = omega (arith, ap (λ (o : Object). length (keep (λ v. not (covers c v.dot)) o.versions)) (look_up_none k (decode img).points none))

    -- a point without a record needs a place for a value
    pub place_needed : (v b : Bool) (n : ℕ) → n ≡ length (decode img).points → b ≡ (v && leb most_points n) → (v && (not (has_record k (decode img).points) && leb most_points (length (decode img).points))) ≡ b
    place_needed v b n e q = ap (λ (x : Bool). v && (not x && leb most_points (length (decode img).points))) none ∙ ap (λ (m : ℕ). v && leb most_points m) (sym e) ∙ sym q

-- a record has its place
pub has_place : (k : Key) (ps : List Stored) (v : Bool) → has_record k ps ≡ true → (v && (not (has_record k ps) && leb most_points (length ps))) ≡ false
has_place k ps v t = by_test v (λ u. rw (u, t)) (λ u. rw u)
