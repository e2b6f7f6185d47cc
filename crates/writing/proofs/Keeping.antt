-- A write recorded in the image, edit by edit. Assumes nothing.
use Prim.Native.Nat.{ℕ, ◌≤◌}
use mathlib.Core.Path.{◌≡◌, ap, ap₂, sym, ◌∙◌, subst}
use mathlib.Core.Bool.{true}
use mathlib.Core.List.{List}
use lib.ListN.{length}
use Rattle.numbers.specs.declared.Dot.{Dot}
use Rattle.numbers.specs.declared.Key.{Key}
use Rattle.numbers.specs.Words.{ascends?}
use Rattle.block.specs.Fields.{cut, splice, insert_at}
use Rattle.meaning.specs.Clock.{Clock}
use Rattle.meaning.specs.State.{Stored, Listed, State, stored_before}
use Rattle.meaning.specs.Settle.{most_points, put}
use Rattle.meaning.specs.OwnSteps.{next_dot}
use Rattle.layout.specs.PointBlock.{form_1, decode_point, decode_stored}
use Rattle.layout.specs.Clocks.{decode_clock}
use Rattle.layout.specs.Image.{image_length, head_of, encode, decode}
use Rattle.head.specs.HeadEdits.{put_row}
use Rattle.image_edits.specs.Edits.{Canonical, with_head, with_points, list_of, with_list}
use Rattle.store.proofs.Lent.{rows_copied}
use Rattle.writing.specs.Recorded.{next_row, next_clock, recorded}

-- a dot of the own list, of this point
abbrev listed : Dot → Key → Listed
listed d k = record { dot = d; key = k }

module _ (s : State) (d : Dot) (next : d ≡ next_dot s) where
  pub who_is : d.who ≡ s.own
  unfolding next_dot
  who_is = ap (λ (x : Dot). x.who) next

  -- the own row
  module _ (x1 : List ℕ) (e1 : (decode x1 ≡ with_head s (put_row (head_of s) d.who (record { base = d.count.0; bits = 0 }))) × Canonical x1) where
    first : decode x1 ≡ with_head s (put_row (head_of s) s.own (next_row s))
    unfolding next_dot
    first = e1.0 ∙ ap (λ (x : Dot). with_head s (put_row (head_of s) x.who (record { base = x.count.0; bits = 0 }))) next

    pub same_list : (decode x1).own_dots ≡ s.own_dots
    same_list = ap (λ (t : State). t.own_dots) first

    -- the own list
    module _ (m : ℕ) (behind : m ≡ length (decode x1).own_dots) (k : Key) (x2 : List ℕ) (e2 : (decode x2 ≡ with_list (decode x1) 1 (insert_at (list_of (decode x1) 1) m (listed d k))) × Canonical x2) where
      second : decode x2 ≡ with_list (with_head s (put_row (head_of s) s.own (next_row s))) 1 (insert_at s.own_dots (length s.own_dots) (listed (next_dot s) k))
      second =
          e2.0 ∙ ap₂ (λ (t : State) (x : Dot). with_list t 1 (insert_at (list_of t 1) m (listed x k))) first next
          ∙ ap (λ (n : ℕ). with_list (with_head s (put_row (head_of s) s.own (next_row s))) 1 (insert_at s.own_dots n (listed (next_dot s) k))) (behind ∙ ap length same_list)

      pub clock_now : (decode x2).clock ≡ next_clock s
      clock_now = ap (λ (t : State). t.clock) second

      pub points_now : (decode x2).points ≡ s.points
      points_now = ap (λ (t : State). t.points) second

      pub points_ascend : ascends? stored_before s.points ≡ true → ascends? stored_before (decode x2).points ≡ true
      points_ascend up = ap (ascends? stored_before) points_now ∙ up

      -- the record
      module _ (r : Stored) (key : k ≡ r.key) (c : Clock) (copied : c ≡ (decode x2).clock) where
        pub points_few : length (put (next_clock s) s.points r) ≤ most_points → length (put c (decode x2).points r) ≤ most_points
        points_few h = subst (λ (n : ℕ). n ≤ most_points) (ap₂ (λ (q : Clock) (ps : List Stored). length (put q ps r)) (sym (copied ∙ clock_now)) (sym points_now)) h

        pub kept : (x3 : List ℕ) → (decode x3 ≡ with_points (decode x2) (put c (decode x2).points r)) × Canonical x3 → x3 ≡ encode (recorded s r)
        kept x3 e3 =
            sym e3.1
            ∙ ap encode
            (e3.0 ∙ ap₂ (λ (t : State) (q : Clock). with_points t (put q t.points r)) second (copied ∙ clock_now)
            ∙ ap (λ (x : Key). with_points (with_list (with_head s (put_row (head_of s) s.own (next_row s))) 1 (insert_at s.own_dots (length s.own_dots) (listed (next_dot s) x))) (put (next_clock s) s.points r)) key)

pub key_kept : (b : List ℕ) {k : Key} → k ≡ (decode_point form_1 b).key → k ≡ (decode_stored form_1 b).key
unfolding decode_stored
key_kept b e = e

-- the rows of an image that an edit has left, in a buffer of their own
pub rows_kept : (x z y : List ℕ) → Canonical x → y ≡ splice z 0 (length (cut x 16 96)) (cut x 16 96) → length x ≡ image_length → length z ≡ 96 → (length y ≡ 96) × (decode_clock y ≡ (decode x).clock)
rows_kept x z y c = rows_copied x z y
