-- The two contexts of a merge, read from the lent bytes. Assumes nothing.
use Prim.Native.Nat.{ℕ, ◌+◌, ◌-◌, ◌*◌, ◌<◌}
use mathlib.Core.Path.{◌≡◌, ap, ap₂, sym, ◌∙◌}
use mathlib.Core.Bool.{true}
use mathlib.Core.List.{List}
use native.Mathlib.Omega.{arith}
use lib.ListN.{length, take, drop}
use Rattle.numbers.specs.declared.Controller.{Controller}
use Rattle.numbers.specs.declared.Counter.{Counter}
use Rattle.numbers.specs.declared.Key.{Key}
use Rattle.numbers.specs.Words.{ascends?}
use Rattle.numbers.specs.Numbers.{controller, counter, each}
use Rattle.numbers.proofs.Controllers.{each_entry}
use Rattle.block.specs.Fields.{cut, field, upto}
use Rattle.block.proofs.Numbers.{Bytes}
use Rattle.block.proofs.Parts.{part_is, cut_cut}
use Rattle.block.proofs.Arrays.{upto_length}
use Rattle.meaning.specs.CrewTable.{CrewTable}
use Rattle.meaning.specs.Clock.{Clock}
use Rattle.meaning.specs.Context.{Context, entry, fill_context}
use Rattle.meaning.specs.Object.{Object, fill}
use Rattle.meaning.specs.State.{stored_before, look_up, local}
use Rattle.layout.specs.PointBlock.{decode_context}
use Rattle.layout.specs.Clocks.{decode_clock}
use Rattle.layout.specs.Image.{image_length, decode}
use Rattle.record.proofs.Reading.{context_field}
use Rattle.image.specs.Places.{PointIn}
use Rattle.store.proofs.Lent.{table_part, clock_part}
use Rattle.store.proofs.Record.{context_of}
use Rattle.arriving.proofs.Arrivals.{object_there}
use Rattle.image_edits.specs.Edits.{Canonical}
use Rattle.std.specs.Prelude.{Ok}

module _ (img : List ℕ) (size : length img ≡ image_length) (k : Key) where
  pub local_is : (stored : List ℕ) → (look_up k (decode img).points).context ≡ decode_context stored → (c : Context) → c ≡ fill_context (cut img 8 8) k.job (decode_clock (cut img 16 96)) (decode_context stored) → c ≡ (local (decode img) k).context
  unfolding local fill
  local_is stored e c h =
      h ∙ ap₂ (λ (t : CrewTable) (q : Clock). fill_context t k.job q (decode_context stored)) (table_part img size) (clock_part img size)
      ∙ ap (fill_context (decode img).table k.job (decode img).clock) (sym e)

-- ---- in the record that was found

module _ (img : List ℕ) (small : Bytes img) (size : length img ≡ image_length) (canonical : Canonical img) (up : ascends? stored_before (decode img).points ≡ true) (k : Key) (i : ℕ) (at : PointIn (decode img).points k (Ok i)) where
  pub found_context : (look_up k (decode img).points).context ≡ decode_context (take (512 * (3 + i) + 40 - (512 * (3 + i) + 8)) (drop (512 * (3 + i) + 8) img))
  found_context =
      ap (λ (o : Object). o.context) (object_there img small size canonical up k i at) ∙ context_of lent
      ∙ ap (λ (b : List ℕ). decode_context (cut b 8 32)) (part_is img (512 * (3 + i)) 512)
      ∙ ap decode_context (cut_cut img (512 * (3 + i)) 512 8 32 (omega arith) ∙ sym (part_is img (512 * (3 + i) + 8) 32) ∙ ap (λ (e : ℕ). take (e - (512 * (3 + i) + 8)) (drop (512 * (3 + i) + 8) img)) there)
    where
      lent : List ℕ
      lent = take (512 * (3 + i) + 512 - 512 * (3 + i)) (drop (512 * (3 + i)) img)

      there : 512 * (3 + i) + 8 + 32 ≡ 512 * (3 + i) + 40
      there = omega arith

-- ---- as it stands

abbrev pub given : List ℕ → Controller → Counter
given s n = entry (decode_context s) n

pub entry_at : (s : List ℕ) (i : ℕ) → i < 8 → {v : ℕ} → v ≡ field s (4 * i) 4 → counter v ≡ given s (controller (i + 1))
entry_at s i l e = ap counter (e ∙ ap (λ (j : ℕ). field s (4 * j) 4) back) ∙ sym (context_field s (controller (i + 1)) (omega arith, omega arith))
  where
    back : i ≡ i + 1 - 1
    back = omega arith

pub context_whole : (s : List ℕ) → each (given s) ≡ decode_context s
unfolding decode_context
context_whole s = each_entry (counter 0) (upto 8 (λ i. counter (field s (4 * i) 4))) (upto_length 8 (λ i. counter (field s (4 * i) 4)))
