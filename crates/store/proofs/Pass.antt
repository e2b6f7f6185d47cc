-- Every stored point stripped: what the pass leaves, said record by record. Assumes nothing.
use Rattle.std.specs.Prelude.{if◌then◌else◌}
use Prim.Native.Nat.{ℕ, suc, ◌<◌}
use mathlib.Core.Path.{◌≡◌, refl, ap, ap₂, sym, ◌∙◌, subst}
use mathlib.Core.Logic.{⊎_elim}
use mathlib.Core.Bool.{Bool, true, false, not}
use mathlib.Core.List.Memᴰ
use mathlib.Core.List.{List, [], ◌∷◌, ◌++◌, append_assoc, append-nil}
use native.Mathlib.Omega.{arith}
use lib.ListN.{length, take, drop, get_or, length-take, drop_of_length-le}
use lib.Seq.{take_all, take-suc, drop-cons, take_at, drop_at}
use Rattle.numbers.specs.declared.Key.{Key}
use Rattle.numbers.specs.Words.{cons_if, keep, all?, ascends?, place, map, fold}
use Rattle.numbers.specs.Key.{same_key, key_before}
use Rattle.numbers.proofs.Tests.{by_test, and_left, and_right, ◌∈◌, here, there}
use Rattle.numbers.proofs.Lists.{all_in}
use Rattle.numbers.proofs.Dots.{key_order, key_itself, before_other, other_before}
use Rattle.block.specs.Fields.{put_at, remove_at}
use Rattle.block.proofs.Arrays.{in_append}
use Rattle.meaning.specs.Clock.{Clock}
use Rattle.meaning.specs.Object.{strip, gone}
use Rattle.meaning.specs.State.{Stored, stored_before}
use Rattle.meaning.specs.Settle.{without, stripped, put}
use Rattle.image.specs.Places.{no_point}
use Rattle.store.specs.Restored.{restored}

module _ (k : Clock) where
  -- those that are needed still, stripped
  abbrev pub kept : List Stored → List Stored
  kept ps = keep (λ p. not (gone p.object)) (map (stripped k) ps)

  -- ---- one after the other, as the definition goes

  -- each of these comes before each of those
  abbrev Before : List Stored → List Stored → Type 0
  Before ds rs = (d r : Stored) → d ∈ ds → r ∈ rs → key_before d.key r.key ≡ true

  place_past : (ds ys : List Stored) (x : Stored) → ((d : Stored) → d ∈ ds → key_before d.key x.key ≡ true) → place stored_before x (ds ++ ys) ≡ ds ++ place stored_before x ys
  place_past [] ys x h = refl
  place_past (d ∷ ds) ys x h = ap (λ (b : Bool). if b then (d ∷ place stored_before x (ds ++ ys)) else (if stored_before x d then (x ∷ d ∷ (ds ++ ys)) else (x ∷ (ds ++ ys)))) (h d (here refl)) ∙ ap (λ (l : List Stored). d ∷ l) (place_past ds ys x (λ e m. h e (there m)))

  without_past : (ds ys : List Stored) (x : Key) → ((d : Stored) → d ∈ ds → key_before d.key x ≡ true) → without x (ds ++ ys) ≡ ds ++ without x ys
  unfolding without
  without_past [] ys x h = refl
  without_past (d ∷ ds) ys x h =
      ap (λ (b : Bool). cons_if (not b) d (keep (λ p. not (same_key x p.key)) (ds ++ ys))) (other_before d.key x (h d (here refl))) ∙ ap (λ (l : List Stored). d ∷ l) (without_past ds ys x (λ e m. h e (there m)))

  none_without : (ys : List Stored) (x : Key) → ((y : Stored) → y ∈ ys → key_before x y.key ≡ true) → without x ys ≡ ys
  unfolding without
  none_without [] x h = refl
  none_without (y ∷ ys) x h =
      ap (λ (b : Bool). cons_if (not b) y (keep (λ p. not (same_key x p.key)) ys)) (before_other x y.key (h y (here refl))) ∙ ap (λ (l : List Stored). y ∷ l) (none_without ys x (λ e m. h e (there m)))

  without_first : (r : Stored) (rs : List Stored) → ((y : Stored) → y ∈ rs → key_before r.key y.key ≡ true) → without r.key (r ∷ rs) ≡ rs
  unfolding without
  without_first r rs h = ap (λ (b : Bool). cons_if (not b) r (keep (λ p. not (same_key r.key p.key)) rs)) (key_itself r.key) ∙ none_without rs r.key h

  place_first : (r : Stored) (rs : List Stored) → place stored_before (stripped k r) (r ∷ rs) ≡ stripped k r ∷ rs
  place_first r rs = rw (key_order.itself r.key)

  put_gone : (ps : List Stored) (r : Stored) → gone (strip k r.object) ≡ true → put k ps r ≡ without r.key ps
  unfolding put
  put_gone ps r g = rw g

  put_stays : (ps : List Stored) (r : Stored) → gone (strip k r.object) ≡ false → put k ps r ≡ place stored_before (stripped k r) ps
  unfolding put
  put_stays ps r g = rw g

  passed : (ds rs : List Stored) → Before ds rs → ascends? stored_before rs ≡ true → fold (put k) (ds ++ rs) rs ≡ ds ++ kept rs
  passed ds [] h t = refl
  passed ds (r ∷ rs) h t =
      by_test (gone (strip k r.object))
      (λ g. ap (λ (l : List Stored). fold (put k) l rs) (went g) ∙ passed ds rs (λ d y m n. h d y m (there n)) up
      ∙ ap (λ (b : Bool). ds ++ cons_if (not b) (stripped k r) (kept rs)) (sym g))
      (λ g. ap (λ (l : List Stored). fold (put k) l rs) (stayed g) ∙ passed (ds ++ (stripped k r ∷ [])) rs more up ∙ append_assoc ds (stripped k r ∷ []) (kept rs)
      ∙ ap (λ (b : Bool). ds ++ cons_if (not b) (stripped k r) (kept rs)) (sym g))
    where
      up : ascends? stored_before rs ≡ true
      up = and_right (all? (stored_before r) rs) (ascends? stored_before rs) t

      next : (y : Stored) → y ∈ rs → key_before r.key y.key ≡ true
      next y m = all_in (stored_before r) rs (and_left (all? (stored_before r) rs) (ascends? stored_before rs) t) m

      went : gone (strip k r.object) ≡ true → put k (ds ++ (r ∷ rs)) r ≡ ds ++ rs
      went g = put_gone (ds ++ (r ∷ rs)) r g ∙ without_past ds (r ∷ rs) r.key (λ d m. h d r m (here refl)) ∙ ap (λ (l : List Stored). ds ++ l) (without_first r rs next)

      stayed : gone (strip k r.object) ≡ false → put k (ds ++ (r ∷ rs)) r ≡ (ds ++ (stripped k r ∷ [])) ++ rs
      stayed g =
          put_stays (ds ++ (r ∷ rs)) r g ∙ place_past ds (r ∷ rs) (stripped k r) (λ d m. h d r m (here refl)) ∙ ap (λ (l : List Stored). ds ++ l) (place_first r rs) ∙ sym (append_assoc ds (stripped k r ∷ []) rs)

      more : Before (ds ++ (stripped k r ∷ [])) rs
      more d y m n =
          ⊎_elim (λ q. h d y q (there n)) (λ q. ⊎_elim (λ e. subst (λ (x : Stored). key_before x.key y.key ≡ true) (sym e) (next y n)) (λ z. absurd (Memᴰ.not-nil z)) (Memᴰ.cases_cons q)) (in_append ds (stripped k r ∷ []) m)

  -- "every stored point is stripped": the records that are needed still, in their order
  pub pass_is : (ps : List Stored) → ascends? stored_before ps ≡ true → fold (put k) ps ps ≡ kept ps
  pass_is ps t = passed [] ps (λ d r m. absurd (Memᴰ.not-nil m)) t

  -- ---- from the last to the first, as the code goes

  module _ (ps : List Stored) where
    abbrev pub from : ℕ → List Stored
    from i = take i ps ++ kept (drop i ps)

    pub from_none : from (length ps) ≡ ps
    from_none = ap (λ (l : List Stored). take (length ps) ps ++ kept l) (drop_of_length-le ps {i = length ps} (omega arith)) ∙ append-nil (take (length ps) ps) ∙ take_all (length ps) ps (omega arith)

    module _ (j : ℕ) (l : j < length ps) where
      r₀ : Stored
      r₀ = get_or ps j no_point

      parts : from (suc j) ≡ take j ps ++ (get_or ps j no_point ∷ kept (drop (suc j) ps))
      parts = ap (λ (u : List Stored). u ++ kept (drop (suc j) ps)) (take-suc ps j no_point l) ∙ append_assoc (take j ps) (get_or ps j no_point ∷ []) (kept (drop (suc j) ps))

      front : length (take j ps) ≡ j
      front = length-take j ps ∙ omega arith

      pub from_at : get_or (from (suc j)) j no_point ≡ get_or ps j no_point
      from_at = ap (λ (u : List Stored). get_or u j no_point) parts ∙ lib.Seq.get_or_at (take j ps) (get_or ps j no_point) (kept (drop (suc j) ps)) no_point j front

      next_kept : kept (drop j ps) ≡ cons_if (not (gone (strip k (get_or ps j no_point).object))) (stripped k (get_or ps j no_point)) (kept (drop (suc j) ps))
      next_kept = ap kept (drop-cons ps j no_point l)

      pub from_more : restored k (from (suc j)) j ≡ from j
      from_more =
          ap (λ (x : Stored). if gone (strip k x.object) then remove_at (from (suc j)) j else put_at (from (suc j)) j (stripped k x)) from_at
          ∙ by_test (gone (strip k (get_or ps j no_point).object))
          (λ g. (rw g) ∙ ap (λ (u : List Stored). remove_at u j) parts
          ∙ ap₂ (λ (u v : List Stored). u ++ drop 1 v) (take_at (take j ps) (get_or ps j no_point ∷ kept (drop (suc j) ps)) j front) (drop_at (take j ps) (get_or ps j no_point ∷ kept (drop (suc j) ps)) j front)
          ∙ ap (λ (b : Bool). take j ps ++ cons_if (not b) (stripped k (get_or ps j no_point)) (kept (drop (suc j) ps))) (sym g) ∙ ap (λ (u : List Stored). take j ps ++ u) (sym next_kept))
          (λ g. (rw g) ∙ ap (λ (u : List Stored). put_at u j (stripped k (get_or ps j no_point))) parts
          ∙ ap₂ (λ (u v : List Stored). u ++ (stripped k (get_or ps j no_point) ∷ drop 1 v)) (take_at (take j ps) (get_or ps j no_point ∷ kept (drop (suc j) ps)) j front) (drop_at (take j ps) (get_or ps j no_point ∷ kept (drop (suc j) ps)) j front)
          ∙ ap (λ (b : Bool). take j ps ++ cons_if (not b) (stripped k (get_or ps j no_point)) (kept (drop (suc j) ps))) (sym g) ∙ ap (λ (u : List Stored). take j ps ++ u) (sym next_kept))
