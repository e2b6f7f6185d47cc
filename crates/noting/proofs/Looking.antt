-- Which dots arrive new, as the code asks it, and the points of a message one after the other. Assumes nothing.
use Rattle.std.specs.Prelude.{if◌then◌else◌, Option}
use Prim.Native.Nat.{ℕ, ◌+◌, ◌-◌, ◌*◌, ◌/◌, ◌≤◌, ◌<◌}
use mathlib.Core.Path.{◌≡◌, refl, ap, sym, ◌∙◌, subst}
use mathlib.Core.Bool.{Bool, true, false, ◌&&◌, not}
use mathlib.Core.List.{List, [], ◌∷◌}
use lib.ListN.{length, take, drop}
use lib.Dec.{leb, ltb}
use borrow.Author.Tests.{leb-true, leb-false, lt-ltb, le-ltb}
use Rattle.numbers.specs.declared.Counter.{Counter}
use Rattle.numbers.specs.declared.Dot.{Dot}
use Rattle.numbers.specs.declared.Key.{Key}
use Rattle.numbers.specs.Words.{cons_if, keep, map, concat_map, fold}
use Rattle.numbers.proofs.Tests.{by_test, and_one}
use Rattle.block.specs.Fields.{cut, field, upto}
use Rattle.block.specs.Block.{block_at}
use Rattle.block.proofs.Numbers.{Bytes}
use Rattle.meaning.specs.Clock.{Clock, in_clock}
use Rattle.meaning.specs.Context.{entry, covers}
use Rattle.meaning.specs.Object.{Version}
use Rattle.meaning.specs.State.{Stored, Listed, State, local}
use Rattle.layout.specs.Clocks.{decode_clock}
use Rattle.layout.specs.PointBlock.{form_1, decode_point, decode_stored}
use Rattle.layout.specs.Image.{image_length, decode}
use Rattle.record.specs.Crewed.{crewed}
use Rattle.record.proofs.Reading.{version_at, versions_are}
use Rattle.store.proofs.Lent.{clock_part}
use Rattle.arriving.proofs.Folding.{Folded, folded_more, fold_append}
use Rattle.block.proofs.Runs.{block_part}
use Rattle.noting.specs.Noted.{arrives_new, new_of, newly_arrived, Crewed}
use Rattle.noting.specs.Nearest.{closer, with_new, nearest}

-- ---- one dot

and_none : (a : Bool) → (a && false) ≡ false
and_none true = refl
and_none false = refl

above_is : (a b : ℕ) → ltb a b ≡ not (leb b a)
above_is a b =
    by_test (leb b a) (λ t. le-ltb a b (leb-true b a t) ∙ sym (ap not t)) (λ t. lt-ltb a b (leb-false b a t) ∙ sym (ap not t))

module _ (img : List ℕ) (size : length img ≡ image_length) (k : Key) (d : Dot) (r : Bool) (asked : r ≡ in_clock (decode_clock (cut img 16 96)) d) where
  clocked : r ≡ in_clock (decode img).clock d
  clocked = asked ∙ ap (λ (c : Clock). in_clock c d) (clock_part img size)

  -- it is in the clock
  pub known_already : r ≡ true → false ≡ arrives_new (decode img) k d
  known_already t =
      sym (ap (λ (b : Bool). not (covers (local (decode img) k).context d) && not b) (sym clocked ∙ t) ∙ and_none (not (covers (local (decode img) k).context d)))

  -- it is not: it arrives where it lies above the local entry
  pub not_known : r ≡ false → (here : Counter) → here ≡ entry (local (decode img) k).context d.who → ltb here.0 d.count.0 ≡ arrives_new (decode img) k d
  unfolding covers
  not_known t here e =
      ap (λ (c : Counter). ltb c.0 d.count.0) e
      ∙ above_is (entry (local (decode img) k).context d.who).0 d.count.0
      ∙ sym (ap (λ (b : Bool). not (leb d.count.0 (entry (local (decode img) k).context d.who).0) && not b) (sym clocked ∙ t)
      ∙ and_one (not (leb d.count.0 (entry (local (decode img) k).context d.who).0)))

-- ---- the versions of a point

abbrev pub look_at : State → Key → Dot → Option (Dot × Key) → Version → Option (Dot × Key)
look_at s k last best v = with_new s k last best v.dot

abbrev as_listed : Key → Version → Listed
as_listed k v = record { dot = v.dot; key = k }

looked_at : (s : State) (k : Key) (last : Dot) (best : Option (Dot × Key)) (vs : List Version)
    → fold (look_at s k last) best vs ≡ fold (closer last) best (map (λ v. record { dot = v.dot; key = k }) (keep (λ v. arrives_new s k v.dot) vs))
unfolding with_new
looked_at s k last best [] = refl
looked_at s k last best (v ∷ vs) =
    by_test (arrives_new s k v.dot)
    (λ t. ap (λ (b : Bool). fold (look_at s k last) (if b then closer last best (as_listed k v) else best) vs) t ∙ looked_at s k last (closer last best (as_listed k v)) vs
    ∙ sym (ap (λ (b : Bool). fold (closer last) best (map (as_listed k) (cons_if b v (keep (λ w. arrives_new s k w.dot) vs)))) t))
    (λ t. ap (λ (b : Bool). fold (look_at s k last) (if b then closer last best (as_listed k v) else best) vs) t ∙ looked_at s k last best vs
    ∙ sym (ap (λ (b : Bool). fold (closer last) best (map (as_listed k) (cons_if b v (keep (λ w. arrives_new s k w.dot) vs)))) t))

pub point_looked : (s : State) (b : List ℕ) → field b 5 1 ≤ 8 → (last : Dot) (start r : Option (Dot × Key)) (k : Key) → k ≡ (decode_point form_1 b).key
    → r ≡ fold (look_at s k last) start (upto (field b 5 1) (version_at b)) → r ≡ nearest last start (new_of s (decode_stored form_1 b))
unfolding nearest decode_stored
point_looked s b few last start r k e f =
    f ∙ ap (fold (look_at s k last) start) (sym (versions_are b few))
    ∙ ap (λ (x : Key). fold (look_at s x last) start (decode_point form_1 b).object.versions) e
    ∙ looked_at s (decode_point form_1 b).key last start (decode_point form_1 b).object.versions

-- ---- the points

abbrev pub look_into : State → Dot → Option (Dot × Key) → Stored → Option (Dot × Key)
look_into s last best p = nearest last best (new_of s p)

looked_into : (s : State) (last : Dot) (best : Option (Dot × Key)) (ps : List Stored) → fold (look_into s last) best ps ≡ fold (closer last) best (concat_map (new_of s) ps)
unfolding nearest
looked_into s last best [] = refl
looked_into s last best (p ∷ ps) =
    looked_into s last (fold (closer last) best (new_of s p)) ps ∙ sym (fold_append (closer last) best (new_of s p) (concat_map (new_of s) ps))

pub all_looked : (s : State) (last : Dot) (best : Option (Dot × Key)) (ps : List Stored) → fold (look_into s last) best ps ≡ nearest last best (newly_arrived s ps)
unfolding nearest newly_arrived
all_looked s last best ps = looked_into s last best ps

module _ (run : List ℕ) (small : Bytes run) where
  pub lent_crewed : Crewed run → (j : ℕ) → j < length run / 512 → crewed (decode_point form_1 (take (512 * j + 512 - 512 * j) (drop (512 * j) run))).object.versions ≡ true
  unfolding decode_stored
  lent_crewed ok j l = subst (λ (b : List ℕ). crewed (decode_point form_1 b).object.versions ≡ true) (sym (block_part run j)) (ok j l)

  -- one point more was looked into
  pub one_looked : (s : State) (last : Dot) (b₀ : Option (Dot × Key)) (j : ℕ) (best : Option (Dot × Key)) → Folded (look_into s last) (length run / 512) (λ i. decode_stored form_1 (block_at run i)) b₀ j best
      → j < length run / 512 → (r : Option (Dot × Key)) → r ≡ nearest last best (new_of s (decode_stored form_1 (take (512 * j + 512 - 512 * j) (drop (512 * j) run))))
      → Folded (look_into s last) (length run / 512) (λ i. decode_stored form_1 (block_at run i)) b₀ (j + 1) r
  one_looked s last b₀ j best F l r e = folded_more F l r (e ∙ ap (λ (b : List ℕ). look_into s last best (decode_stored form_1 b)) (block_part run j))
