-- A message of one point: its block as a run, what of it is carried, and the state that it leaves. Assumes nothing.
use Prim.Native.Nat.{ℕ, ◌*◌, ◌/◌, ◌≤◌, ◌<◌}
use mathlib.Core.Path.{◌≡◌, refl, ap, ap₂, sym, ◌∙◌, subst}
use mathlib.Core.Logic.{⊎_elim}
use mathlib.Core.Bool.{true}
use mathlib.Core.List.Memᴰ
use mathlib.Core.List.{List, [], ◌∷◌}
use native.Mathlib.Omega.{arith}
use native.Mathlib.Nat.{le_refl}
use lib.ListN.{length}
use Rattle.numbers.specs.declared.Key.{Key}
use Rattle.numbers.specs.Words.{map}
use Rattle.numbers.specs.Numbers.{counter}
use Rattle.numbers.proofs.Tests.{◌∈◌}
use Rattle.block.specs.Fields.{cut, field, upto}
use Rattle.block.specs.Block.{block_at}
use Rattle.block.proofs.Parts.{cut_whole}
use Rattle.meaning.specs.Clock.{Clock}
use Rattle.meaning.specs.Object.{Version, Object, merge}
use Rattle.meaning.specs.State.{Stored, State, local}
use Rattle.meaning.specs.Settle.{most_points, entered, own_listed, foreign_listed, put, settled}
use Rattle.laws.proofs.Goodness.{Good}
use Rattle.laws.proofs.Merging.{Carried, Clocked}
use Rattle.layout.specs.PointBlock.{form_1, decode_point, decode_stored}
use Rattle.layout.specs.Image.{encode, decode}
use Rattle.layout.specs.Messages.{decode_outgoing}
use Rattle.record.specs.Crewed.{crewed}
use Rattle.image_edits.specs.Edits.{Canonical, with_points, with_list}
use Rattle.arriving.specs.Sent.{points_in, Few, with_arrivals}
use Rattle.arriving.proofs.Merged.{entered_is}
use Rattle.noting.specs.Noted.{noted, Crewed}
use Rattle.merging.specs.Merging.{theirs}
use Rattle.weighing.specs.Weighed.{key_in, result_of, Takable}
use Rattle.joining.specs.Joined.{with_clock}
use Rattle.taking.specs.Taken.{taken}
use Rattle.weighing.proofs.Takings.{carried}
use Rattle.joining.proofs.Noted.{own_kept, foreign_is}

-- ---- a run of one block

module _ (m : List ℕ) (size : length m ≡ 512) where
  one_block : length m / 512 ≡ 1
  one_block = omega arith

  alone : (i : ℕ) → i < length m / 512 → block_at m i ≡ m
  unfolding block_at
  alone i l = ap (λ (j : ℕ). cut m (512 * j) 512) first ∙ cut_whole m 512 size
    where
      first : i ≡ 0
      first = omega (arith, l, one_block)

  pub one_few : field m 5 1 ≤ 8 → Few m
  one_few few i l = subst (λ (b : List ℕ). field b 5 1 ≤ 8) (sym (alone i l)) few

  pub one_crewed : crewed (decode_point form_1 m).object.versions ≡ true → Crewed m
  unfolding decode_stored
  one_crewed c i l = subst (λ (b : List ℕ). crewed (decode_point form_1 b).object.versions ≡ true) (sym (alone i l)) c

  pub one_point : points_in m ≡ decode_stored form_1 m ∷ []
  one_point =
      ap (λ (n : ℕ). upto n (λ i. decode_stored form_1 (block_at m i))) one_block ∙ ap (λ (b : List ℕ). decode_stored form_1 b ∷ []) (alone 0 (omega (arith, one_block)))

-- ---- its object as it stands

module _ (s : State) (m there : List ℕ) (same : map counter there ≡ (decode_point form_1 m).object.context) where
  pub theirs_is : theirs m there ≡ (decode_point form_1 m).object
  theirs_is = λ i. record { versions = (decode_point form_1 m).object.versions; context = same i }

  pub result_is : result_of s m there ≡ taken s m
  unfolding decode_outgoing
  result_is = ap (λ (o : Object). record { key = key_in m; object = merge (local s (key_in m)) o }) theirs_is

-- ---- the state that it leaves

module _ (s : State) (G : Good s) (m here there : List ℕ) (same : map counter there ≡ (decode_point form_1 m).object.context) (T : Takable s m here there) where
  abbrev P : Stored
  P = record { key = key_in m; object = (decode_point form_1 m).object }

  abbrev r : Stored
  r = result_of s m there

  is_one : {p : Stored} → p ∈ P ∷ [] → p ≡ P
  is_one h = ⊎_elim (λ e. e) (λ k. absurd (Memᴰ.not-nil k)) (Memᴰ.cases_cons h)

  C : (p : Stored) → p ∈ P ∷ [] → Carried s p.key p.object
  C p h =
      subst (λ (q : Stored). Carried s q.key q.object) (sym (is_one h))
      (subst (λ (o : Object). Carried s (key_in m) o) (theirs_is s m there same) (carried s G (key_in m) (theirs m there) T.5))

  apart : (p q : Stored) (v w : Version) → p ∈ P ∷ [] → q ∈ P ∷ [] → v ∈ p.object.versions → w ∈ q.object.versions → v.dot ≡ w.dot → p.key ≡ q.key
  apart p q v w mp mq mv mw e = ap (λ (x : Stored). x.key) (is_one mp ∙ sym (is_one mq))

  K : Clocked s s.clock
  K = record {
    eight = G.clock_eight;
    rows = λ n c. (G.row_sound n c).1;
    rising = λ n c. le_refl _;
    growing = λ d c h. h;
    own_row = refl;
    of_peers = G.rows_peers;
  }

  abbrev made : Stored
  made = record { key = key_in m; object = merge (local s (key_in m)) (decode_point form_1 m).object }

  r_is : r ≡ made
  r_is = ap (λ (o : Object). record { key = key_in m; object = merge (local s (key_in m)) o }) (theirs_is s m there same)

  points : points_in m ≡ P ∷ []
  points = one_point m T.0 ∙ (unfold decode_stored in refl)

  pub clock_is : entered s.clock (result_of s m there ∷ []) ≡ with_arrivals s s.clock (points_in m)
  clock_is =
      ap (λ (x : Stored). entered s.clock (x ∷ [])) r_is ∙ entered_is s G s.clock K (P ∷ []) (λ p. p.object) (λ p. refl) C apart
      ∙ ap (with_arrivals s s.clock) (sym points)

  own_is : own_listed s (r ∷ []) ≡ s.own_dots
  own_is = ap (λ (x : Stored). own_listed s (x ∷ [])) r_is ∙ own_kept s G (P ∷ []) (λ p. p.object) (λ p. refl) C apart

  lists_is : foreign_listed s (r ∷ []) ≡ noted s (points_in m)
  lists_is = ap (λ (x : Stored). foreign_listed s (x ∷ [])) r_is ∙ foreign_is s G (P ∷ []) (λ p. p.object) (λ p. refl) C apart ∙ ap (noted s) (sym points)

  module _ (c : Clock) (is : c ≡ with_arrivals s s.clock (points_in m)) where
    left : settled s s.clock (r ∷ []) ≡ with_clock (with_points (with_list s 2 (noted s (points_in m))) (put c s.points r)) c
    unfolding settled
    left = λ i. record {
      own = s.own;
      table = s.table;
      clock = to i;
      watermark = s.watermark;
      own_dots = own_is i;
      foreign_dots = lists_is i;
      points = put (to i) s.points r;
    }
      where
        to : entered s.clock (r ∷ []) ≡ c
        to = clock_is ∙ sym is

    pub clock_left : entered s.clock (result_of s m there ∷ []) ≡ c
    clock_left = clock_is ∙ sym is

    module _ (x₁ x₂ x₃ : List ℕ) (listed : (decode x₁ ≡ with_list s 2 (noted s (points_in m))) × Canonical x₁) where
      -- the lists say nothing of a point
      pub local_now : (k : Key) → local (decode x₁) k ≡ local s k
      local_now k = ap (λ (z : State). local z k) listed.0 ∙ (unfold local in refl)

      pub points_now : (decode x₁).points ≡ s.points
      points_now = ap (λ (z : State). z.points) listed.0

      pub result_now : result_of (decode x₁) m there ≡ result_of s m there
      result_now = ap (λ (o : Object). record { key = key_in m; object = merge o (theirs m there) }) (local_now (key_in m))

      pub room_now : length (put c s.points (result_of s m there)) ≤ most_points → length (put c (decode x₁).points (result_of (decode x₁) m there)) ≤ most_points
      room_now h =
          subst (λ (ps : List Stored). length (put c ps (result_of (decode x₁) m there)) ≤ most_points) (sym points_now)
          (subst (λ (q : Stored). length (put c s.points q) ≤ most_points) (sym result_now) h)

      pub taken_in : (decode x₂ ≡ with_points (decode x₁) (put c (decode x₁).points (result_of (decode x₁) m there))) × Canonical x₂ → (decode x₃ ≡ with_clock (decode x₂) c) × Canonical x₃
          → x₃ ≡ encode (settled s s.clock (result_of s m there ∷ []))
      taken_in placed set =
          sym set.1
          ∙ ap encode (set.0 ∙ ap (λ (z : State). with_clock z c) (placed.0 ∙ ap₂ (λ (ps : List Stored) (q : Stored). with_points (decode x₁) (put c ps q)) points_now result_now ∙ ap (λ (z : State). with_points z (put c s.points r)) listed.0) ∙ sym left)
