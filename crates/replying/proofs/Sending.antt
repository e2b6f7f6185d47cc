-- The points sent so far: the loop that writes them. Assumes nothing.
use Prim.Native.Nat.{ℕ, ◌+◌, ◌*◌, ◌-◌, ◌≤◌, ◌<◌}
use mathlib.Core.Path.{◌≡◌, refl, sym, ap, ap₂, ◌∙◌, subst}
use mathlib.Core.Logic.{inl, inr, ◌↔◌, ⊎_elim}
use mathlib.Core.Bool.{true}
use mathlib.Core.List.Memᴰ
use mathlib.Core.List.{List, [], ◌∷◌, ◌++◌, append_assoc, append-nil}
use native.Mathlib.Omega.{arith}
use lib.ListN.{length, take, drop, length-append, take-append-drop}
use lib.Dec.{eqb, ltb}
use borrow.Author.Tests.{eqb-true, eqb-false, ltb-true, ltb-false}
use Rattle.numbers.specs.declared.Key.{Key}
use Rattle.numbers.specs.Words.{map, place_all}
use Rattle.numbers.specs.Numbers.{controller}
use Rattle.numbers.specs.Key.{key, key_before}
use Rattle.numbers.proofs.Tests.{by_test, never, ◌∈◌, here, there}
use Rattle.numbers.proofs.Lists.{in_map, map_length, in_keep, in_place_all, place_all_in}
use Rattle.numbers.proofs.Orders.{Ascends, ascends_first, ascends_rest, place_all_ascends, lt_pair}
use Rattle.numbers.proofs.Dots.{key_order, tied_keys}
use Rattle.block.specs.Fields.{splice}
use Rattle.block.proofs.Parts.{splice_append, splice_length, part_back}
use Rattle.meaning.specs.State.{State, listed, look_up}
use Rattle.meaning.specs.Message.{Ask}
use Rattle.meaning.specs.Exchange.{lacking, as_stored}
use Rattle.laws.proofs.Goodness.{Good}
use Rattle.laws.proofs.Sends.{sent_few}
use Rattle.layout.specs.PointBlock.{form_1, encode_stored, decode_stored}
use Rattle.layout.specs.Image.{encode_points}
use Rattle.record_edits.specs.Written.{Written, point_block}
use Rattle.replying.specs.Nearest.{nearest}
use Rattle.replying.specs.Sent.{sent_keys, sent_points}
use Rattle.replying.proofs.Choosing.{IsNext, chosen}
use Rattle.replying.proofs.Lacking.{point_from_1}
use Rattle.std.specs.Prelude.{Option, Some, None}

-- ---- an ascending list, one by one

-- i of them are done, and the rest are those behind the last one
pub record Progress (all : List Key) (last : Key) (i : ℕ) : Type 0 where
  pub done : List Key
  pub rest : List Key
  pub parts : done ++ rest ≡ all
  pub count : length done ≡ i
  pub behind : (v : Key) → (v ∈ rest) ↔ ((v ∈ all) × (key_before last v ≡ true))

rest_ascends : (xs ys : List Key) → Ascends key_before (xs ++ ys) → Ascends key_before ys
rest_ascends [] ys t = t
rest_ascends (x ∷ xs) ys t = rest_ascends xs ys (ascends_rest key_before x (xs ++ ys) t)

module _ (all : List Key) (up : Ascends key_before all) where
  -- the first of the rest is the next one
  next_first : (last k : Key) (rest : List Key) → Ascends key_before rest → ((v : Key) → (v ∈ rest) ↔ ((v ∈ all) × (key_before last v ≡ true))) → IsNext all last (Some k) → (xs : List Key) × (rest ≡ k ∷ xs)
  next_first last k [] t h I = absurd (Memᴰ.not-nil ((h k).1 (I.0, I.1)))
  next_first last k (x ∷ xs) t h I = (xs, ap (λ (y : Key). y ∷ xs) same)
    where
      same : x ≡ k
      same =
          ⊎_elim (λ e. sym e) (λ m. never (ascends_first key_before x xs t m) (I.2 x ((h x).0 (here refl)).0 ((h x).0 (here refl)).1))
          (Memᴰ.cases_cons ((h k).1 (I.0, I.1)))

  module _ {last : Key} {i : ℕ} (P : Progress all last i) where
    upward : Ascends key_before P.rest
    upward = rest_ascends P.done P.rest (subst (Ascends key_before) (sym P.parts) up)

    module _ (k : Key) (I : IsNext all last (Some k)) where
      left : (xs : List Key) × (P.rest ≡ k ∷ xs)
      left = next_first last k P.rest upward P.behind I

      pub one_left : i < length all
      one_left = omega (arith, ap length (sym P.parts), length-append P.done P.rest, ap length left.1, P.count)

      pub one_done : Progress all k (i + 1)
      one_done = record {
        done = P.done ++ (k ∷ []);
        rest = left.0;
        parts = append_assoc P.done (k ∷ []) left.0 ∙ ap (λ (l : List Key). P.done ++ l) (sym left.1) ∙ P.parts;
        count = length-append P.done (k ∷ []) ∙ omega (arith, P.count);
        behind = λ v. (
          λ m. (((P.behind v).0 (in_rest v m)).0, ascends_first key_before k left.0 (subst (Ascends key_before) left.1 upward) m),
          λ w. ⊎_elim (λ e. never w.1 (ap (key_before k) e ∙ key_order.itself k)) (λ m. m)
              (Memᴰ.cases_cons (subst (λ (l : List Key). v ∈ l) left.1 ((P.behind v).1 (w.0, key_order.through last k v I.1 w.1)))),
        );
      }
        where
          in_rest : (v : Key) → v ∈ left.0 → v ∈ P.rest
          in_rest v m = subst (λ (l : List Key). v ∈ l) (sym left.1) (there m)

    pub all_done : IsNext all last None → P.done ≡ all
    all_done I = sym (append-nil P.done) ∙ ap (λ (l : List Key). P.done ++ l) (sym (none P.rest (λ v m. (P.behind v).0 m))) ∙ P.parts
      where
        none : (xs : List Key) → ((v : Key) → v ∈ xs → (v ∈ all) × (key_before last v ≡ true)) → xs ≡ []
        none [] h = refl
        none (x ∷ xs) h = let q = h x (here refl) in never q.1 (I x q.0)

-- ---- the points sent

module _ (s : State) (a : Ask) where
  abbrev found_keys : List Key
  found_keys = map (λ l. l.key) (lacking s a)

  -- those that are sent are those that are lacking
  sent_in : (k : Key) → k ∈ sent_keys s a → k ∈ found_keys
  unfolding sent_keys
  sent_in k m = ⊎_elim (λ h. h) (λ h. absurd (Memᴰ.not-nil h)) (in_place_all key_before found_keys [] m)

  in_sent : (k : Key) → k ∈ found_keys → k ∈ sent_keys s a
  unfolding sent_keys
  in_sent k m = place_all_in key_before (λ v. Unit {0}) (λ v w p q t. tied_keys v w t) found_keys [] (λ v h. tt) (λ v h. tt) (inl m)

  sent_up : Ascends key_before (sent_keys s a)
  unfolding sent_keys
  sent_up = place_all_ascends key_before key_order found_keys [] refl

  next_sent : (last : Key) (r : Option Key) → IsNext found_keys last r → IsNext (sent_keys s a) last r
  next_sent last (Some k) I = (in_sent k I.0, I.1, λ j m. I.2 j (sent_in j m))
  next_sent last None I = λ j m. I j (sent_in j m)

  pub is_next : (last : Key) (r : Option Key) → r ≡ nearest last None (lacking s a) → IsNext (sent_keys s a) last r
  unfolding nearest
  is_next last r e = next_sent last r (subst (IsNext found_keys last) (sym e) (chosen last found_keys))

  -- ---- the loop that writes them

  abbrev pub bytes_of_keys : List Key → List ℕ
  bytes_of_keys ks = encode_points 1 (map (as_stored s) ks)

  -- i points are written, behind a first block
  pub record Sending (before : List ℕ) (last : Key) (i : ℕ) (out : List ℕ) : Type 0 where
    pub so_far : Progress (sent_keys s a) last i
    pub size : length (bytes_of_keys so_far.done) ≡ 512 * i
    pub written : out ≡ splice before 512 (512 * i) (bytes_of_keys so_far.done)

  one_more_bytes : (position : ℕ) (ks : List Key) (k : Key)
      → encode_points position (map (as_stored s) (ks ++ (k ∷ []))) ≡ encode_points position (map (as_stored s) ks) ++ encode_stored form_1 (position + length ks) (as_stored s k)
  unfolding encode_points
  one_more_bytes position [] k = append-nil (encode_stored form_1 position (as_stored s k)) ∙ ap (λ (n : ℕ). encode_stored form_1 n (as_stored s k)) (omega arith)
  one_more_bytes position (x ∷ ks) k =
      ap (λ (l : List ℕ). encode_stored form_1 position (as_stored s x) ++ l)
      (one_more_bytes (position + 1) ks k ∙ ap (λ (n : ℕ). encode_points (position + 1) (map (as_stored s) ks) ++ encode_stored form_1 n (as_stored s k)) (omega arith))
      ∙ sym (append_assoc (encode_stored form_1 position (as_stored s x)) (encode_points (position + 1) (map (as_stored s) ks)) (encode_stored form_1 (position + length (x ∷ ks)) (as_stored s k)))

  module _ (G : Good s) where
    few : length (sent_keys s a) ≤ 120
    unfolding sent_keys
    few = omega (arith, sent_few s G a, map_length (as_stored s) (place_all key_before found_keys []))

    from_zero : (k : Key) → k ∈ sent_keys s a → key_before (key 0 0) k ≡ true
    unfolding lacking
    from_zero k m =
        let q = in_map (λ l. l.key) (lacking s a) (sent_in k m) in
        let low : 1 ≤ k.point.0 = subst (λ (x : Key). 1 ≤ x.point.0) (sym q.2) (point_from_1 s.table q.0 (G.lists q.0 (in_keep _ (listed s) q.1).0).formed) in
        lt_pair 0 0 k.job k.point.0 (by_test (eqb k.job 0) (λ e. inr (sym (eqb-true k.job 0 e), omega arith)) (λ e. inl (above k.job (eqb-false k.job 0 e))))
      where
        above : (n : ℕ) → (n ≡ 0 → ⊥) → 0 < n
        above n h = by_test (ltb 0 n) (λ t. ltb-true 0 n t) (λ t. absurd (h (omega (arith, ltb-false 0 n t))))

    pub none_sent : (before : List ℕ) → Sending before (key 0 0) 0 before
    unfolding encode_points
    none_sent before = record {
      so_far = record { done = []; rest = sent_keys s a; parts = refl; count = refl; behind = λ v. (λ m. (m, from_zero v m), λ w. w.0) };
      size = refl;
      written = sym (take-append-drop 512 before);
    }

    module _ (before : List ℕ) (room : 61952 ≤ length before) (last : Key) (i : ℕ) (out : List ℕ) (S : Sending before last i out) where
      pub fits_still : i ≤ 120
      fits_still = omega (arith, few, ap length S.so_far.parts, length-append S.so_far.done S.so_far.rest, S.so_far.count)

      pub as_long : length out ≡ length before
      as_long = ap length S.written ∙ splice_length before 512 (512 * i) (bytes_of_keys S.so_far.done) (omega (arith, fits_still)) S.size

      module _ (r : Option Key) (next : r ≡ nearest last None (lacking s a)) where
        pub ends : r ≡ None → (i ≡ length (sent_points s a)) × (out ≡ splice before 512 (512 * length (sent_points s a)) (encode_points 1 (sent_points s a)))
        ends e = (
          counted,
          S.written ∙ ap₂ (λ (n : ℕ) (ks : List Key). splice before 512 (512 * n) (bytes_of_keys ks)) counted finished,
        )
          where
            finished : S.so_far.done ≡ sent_keys s a
            finished = all_done (sent_keys s a) sent_up S.so_far (subst (IsNext (sent_keys s a) last) e (is_next last r next))

            counted : i ≡ length (sent_points s a)
            counted = sym S.so_far.count ∙ ap length finished ∙ sym (map_length (as_stored s) (sent_keys s a))

        module _ (k : Key) (e : r ≡ Some k) where
          is_k : IsNext (sent_keys s a) last (Some k)
          is_k = subst (IsNext (sent_keys s a) last) e (is_next last r next)

          pub one_fits : i < 120
          one_fits = omega (arith, few, one_left (sent_keys s a) sent_up S.so_far k is_k)

          pub one_sent : (b x : List ℕ) → length b ≡ 512 → b ≡ encode_stored form_1 (1 + i) (as_stored s k)
              → x ≡ take (512 + 512 * i) out ++ (b ++ drop (512 + 512 * i + 512 - (512 + 512 * i)) (drop (512 + 512 * i) out)) → Sending before k (i + 1) x
          unfolding one_done
          one_sent b x long d w = record {
            so_far = one_done (sent_keys s a) sent_up S.so_far k is_k;
            size = ap length bytes ∙ length-append (bytes_of_keys S.so_far.done) b ∙ omega (arith, S.size, long);
            written =
                w ∙ part_back out (512 + 512 * i) 512 b
                ∙ ap (λ (l : List ℕ). splice l (512 + 512 * i) 512 b) S.written
                ∙ splice_append before 512 (512 * i) 512 (bytes_of_keys S.so_far.done) b (omega (arith, one_fits)) S.size long
                ∙ ap₂ (λ (n : ℕ) (l : List ℕ). splice before 512 n l) blocks (sym bytes);
          }
            where
              blocks : 512 * i + 512 ≡ 512 * (i + 1)
              blocks = omega arith

              bytes : bytes_of_keys (S.so_far.done ++ (k ∷ [])) ≡ bytes_of_keys S.so_far.done ++ b
              bytes = one_more_bytes 1 S.so_far.done k ∙ ap (λ (l : List ℕ). bytes_of_keys S.so_far.done ++ l) (ap (λ (n : ℕ). encode_stored form_1 (1 + n) (as_stored s k)) S.so_far.count ∙ sym d)

-- ---- one point

-- fetched, and given its place
pub point_written : (s : State) (k : Key) (position : ℕ) (b x : List ℕ)
    → point_block b ≡ record { kind = 3; position = 0; point = record { sender = controller 0; key = k; object = look_up k s.points } }
    → x ≡ encode_stored form_1 position (decode_stored form_1 b) → x ≡ encode_stored form_1 position (as_stored s k)
unfolding decode_stored as_stored
point_written s k position b x p e = e ∙ ap (λ (w : Written). encode_stored form_1 position (record { key = w.point.key; object = w.point.object })) p
