-- One row of eight put anew in its bytes. Assumes nothing.
use Prim.Native.Nat.{ℕ, ◌+◌, ◌-◌, ◌*◌}
use mathlib.Core.Path.{◌≡◌, refl, ap, sym, ◌∙◌}
use mathlib.Core.List.{List, [], ◌∷◌, append-nil}
use native.Mathlib.Omega.{arith}
use lib.ListN.{length}
use Rattle.numbers.specs.declared.Controller.{Controller}
use Rattle.numbers.specs.Words.{concat_map}
use Rattle.numbers.specs.Numbers.{Crew}
use Rattle.block.specs.Fields.{le, splice, put_at}
use Rattle.block.proofs.Numbers.{Bytes, le_length}
use Rattle.block.proofs.Parts.{splice_append, splice_length}
use Rattle.block.proofs.Arrays.{all_of_splice, only}
use Rattle.block.proofs.Edits.{array_put}
use Rattle.row.specs.declared.Row.{Row}
use Rattle.meaning.specs.Clock.{Clock}
use Rattle.layout.specs.Clocks.{encode_row, encode_clock, decode_clock}
use Rattle.layout.proofs.ImageBack.{RowSized, ClockSized, row_length, clock_back}
use Rattle.layout.proofs.Decoded.{clock_decoded}
use Rattle.head.proofs.Again.{clock_again}

module _ (rows : List ℕ) (small : Bytes rows) (size : length rows ≡ 96) (n : Controller) (crew : Crew n) (r : Row) (sized : RowSized r) where
  abbrev k : Clock
  k = decode_clock rows

  S : ClockSized (decode_clock rows)
  S = clock_decoded rows small size

  put_sized : ClockSized (put_at k (n.0 - 1) r)
  put_sized = record {
    eight = splice_length k (n.0 - 1) 1 (r ∷ []) (omega (arith, crew.0, crew.1, S.eight)) refl ∙ S.eight;
    rows = all_of_splice RowSized k (n.0 - 1) 1 (r ∷ []) S.rows (only RowSized r sized);
  }

  pub row_put : (y x : List ℕ) → y ≡ splice rows (12 * (n.0 - 1)) 4 (le 4 r.base) → x ≡ splice y (12 * (n.0 - 1) + 4) 8 (le 8 r.bits) → decode_clock x ≡ put_at (decode_clock rows) (n.0 - 1) r
  row_put y x d e = ap decode_clock (e ∙ both ∙ whole) ∙ clock_back (put_at k (n.0 - 1) r) put_sized
    where
      both : splice y (12 * (n.0 - 1) + 4) 8 (le 8 r.bits) ≡ splice rows (12 * (n.0 - 1)) 12 (encode_row r)
      both = unfold encode_row in
          (ap (λ (z : List ℕ). splice z (12 * (n.0 - 1) + 4) 8 (le 8 r.bits)) d
          ∙ splice_append rows (12 * (n.0 - 1)) 4 8 (le 4 r.base) (le 8 r.bits) (omega (arith, crew.0, crew.1)) (le_length 4 r.base) (le_length 8 r.bits))

      whole : splice rows (12 * (n.0 - 1)) 12 (encode_row r) ≡ encode_clock (put_at k (n.0 - 1) r)
      whole = unfold encode_clock in
          (ap (λ (z : List ℕ). splice z (12 * (n.0 - 1)) 12 (encode_row r)) (sym (clock_again rows size small) ∙ sym (append-nil (encode_clock k)))
          ∙ array_put 12 encode_row k (λ x m. row_length x) r (n.0 - 1) [] (omega (arith, crew.0, crew.1, S.eight))
          ∙ append-nil (concat_map encode_row (put_at k (n.0 - 1) r)))
