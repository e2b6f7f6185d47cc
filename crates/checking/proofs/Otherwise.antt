-- A message's versions against all records and both lists: the tests are turned round, and stand for refusal 10. Assumes nothing.
use Prim.Native.Nat.{ℕ}
use mathlib.Core.Path.{◌≡◌, refl, ap, ap₂, sym, ◌∙◌, subst}
use mathlib.Core.Logic.{⊎_elim}
use mathlib.Core.Bool.{Bool, true, false, ◌&&◌, ◌||◌, not}
use mathlib.Core.List.Memᴰ
use mathlib.Core.List.{List, [], ◌∷◌, ◌++◌}
use borrow.Author.Tests.{not-true, not-false}
use Rattle.numbers.specs.declared.Dot.{Dot}
use Rattle.numbers.specs.declared.Key.{Key}
use Rattle.numbers.specs.Words.{some?, all?, ascends?}
use Rattle.numbers.specs.Dot.{same_dot}
use Rattle.numbers.specs.Key.{same_key}
use Rattle.numbers.proofs.Tests.{by_test, never, same_test, and_left, and_right, and_both, and_false, or_cases, or_inl, or_inr, ◌∈◌}
use Rattle.numbers.proofs.Lists.{in_left, in_right, some_in, in_some, none_in, all_in, in_all}
use Rattle.numbers.proofs.Dots.{same_dots, dot_itself, same_keys, key_itself}
use Rattle.block.specs.Fields.{cut}
use Rattle.meaning.specs.Object.{Version}
use Rattle.meaning.specs.State.{Stored, Listed, listed_before, State, listed}
use Rattle.meaning.specs.Exchange.{clashes}
use Rattle.layout.specs.PointBlock.{form_1, decode_point, decode_stored}
use Rattle.layout.specs.Image.{decode_dots, decode, good_image}
use Rattle.image.specs.Apart.{listed_for}
use Rattle.store.proofs.Lent.{good_now}
use Rattle.store.proofs.ListsLent.{own_list, foreign_list}
use Rattle.checking.specs.Points.{versions_clash, record_clashes, list_clashes}

-- ---- one of a list, and one of another

module _ {A B : Type 0} where
  pub some_turned : (h : A → B → Bool) (xs : List A) (ys : List B) → some? (λ x. some? (h x) ys) xs ≡ some? (λ y. some? (λ x. h x y) xs) ys
  some_turned h xs ys =
      same_test (some? (λ x. some? (h x) ys) xs) (some? (λ y. some? (λ x. h x y) xs) ys)
      (λ t. let p = some_in (λ x. some? (h x) ys) xs t in
      let q = some_in (h p.0) ys p.2 in
      in_some (λ y. some? (λ x. h x y) xs) ys q.1 (in_some (λ x. h x q.0) xs p.1 q.2))
      (λ t. let p = some_in (λ y. some? (λ x. h x y) xs) ys t in
      let q = some_in (λ x. h x p.0) xs p.2 in
      in_some (λ x. some? (h x) ys) xs q.1 (in_some (h q.0) ys p.1 q.2))

pub some_either : {A : Type 0} (f g : A → Bool) (xs : List A) → some? (λ x. f x || g x) xs ≡ (some? f xs || some? g xs)
some_either f g [] = refl
some_either f g (x ∷ xs) = ap (λ (t : Bool). (f x || g x) || t) (some_either f g xs) ∙ regroup (f x) (g x) (some? f xs) (some? g xs)
  where
    regroup : (a b c d : Bool) → ((a || b) || (c || d)) ≡ ((a || c) || (b || d))
    regroup true b c d = refl
    regroup false true true d = refl
    regroup false true false d = refl
    regroup false false c d = refl

-- ---- the lists as they are lent

module _ (img : List ℕ) (good : good_image img ≡ true) where
  pub own_ascends : ascends? listed_before (decode_dots (cut img 512 512)) ≡ true
  own_ascends = ap (ascends? listed_before) (own_list img) ∙ (good_now img good).own_asc

  pub foreign_ascends : ascends? listed_before (decode_dots (cut img 1024 512)) ≡ true
  foreign_ascends = ap (ascends? listed_before) (foreign_list img) ∙ (good_now img good).foreign_asc

-- ---- listed for another point: the code asks of each list whether all is as it should be

module _ (ls ms : List Listed) (p : Stored) where
  abbrev vs : List Version
  vs = p.object.versions

  abbrev another : Version → Listed → Bool
  another v l = same_dot v.dot l.dot && not (same_key p.key l.key)

  abbrev for_point : Version → Listed → Bool
  for_point v l = not (same_dot l.dot v.dot) || same_key l.key p.key

  dots_turned : (d e : Dot) → same_dot d e ≡ true → same_dot e d ≡ true
  dots_turned d e t = subst (λ (x : Dot). same_dot e x ≡ true) (sym (same_dots d e t)) (dot_itself e)

  keys_turned : (a b : Key) → same_key a b ≡ true → same_key b a ≡ true
  keys_turned a b t = subst (λ (x : Key). same_key b x ≡ true) (sym (same_keys a b t)) (key_itself b)

  -- an entry that is no other point's is for the point, and the other way round
  is_for : (v : Version) (l : Listed) → another v l ≡ false → for_point v l ≡ true
  is_for v l f =
      by_test (same_dot l.dot v.dot)
      (λ t. or_inr (not (same_dot l.dot v.dot)) (same_key l.key p.key)
      (keys_turned p.key l.key (not-false (same_key p.key l.key) (and_false (same_dot v.dot l.dot) (not (same_key p.key l.key)) f (dots_turned l.dot v.dot t)))))
      (λ t. or_inl (not (same_dot l.dot v.dot)) (same_key l.key p.key) (ap not t))

  no_other : (v : Version) (l : Listed) → for_point v l ≡ true → another v l ≡ true → ⊥
  no_other v l f t =
      ⊎_elim
      (λ x. never (dots_turned v.dot l.dot (and_left (same_dot v.dot l.dot) (not (same_key p.key l.key)) t)) (not-true (same_dot l.dot v.dot) x))
      (λ x. never (keys_turned l.key p.key x) (not-true (same_key p.key l.key) (and_right (same_dot v.dot l.dot) (not (same_key p.key l.key)) t)))
      (or_cases (not (same_dot l.dot v.dot)) (same_key l.key p.key) f)

  abbrev elsewhere : Bool
  elsewhere = some? (λ v. some? (another v) (ls ++ ms)) vs

  abbrev both : Bool
  both = listed_for ls p && listed_for ms p

  all_for : (ns : List Listed) → ((l : Listed) → l ∈ ns → l ∈ ls ++ ms) → elsewhere ≡ false → listed_for ns p ≡ true
  unfolding listed_for
  all_for ns within f =
      in_all (λ v. all? (for_point v) ns) vs
      (λ v mv. in_all (for_point v) ns (λ l ml. is_for v l (none_in (another v) (ls ++ ms) (none_in (λ w. some? (another w) (ls ++ ms)) vs f mv) (within l ml))))

  for_at : (ns : List Listed) → listed_for ns p ≡ true → (v : Version) (l : Listed) → v ∈ vs → l ∈ ns → for_point v l ≡ true
  unfolding listed_for
  for_at ns t v l mv ml = all_in (for_point v) ns (all_in (λ w. all? (for_point w) ns) vs t mv) ml

  none_elsewhere : both ≡ true → elsewhere ≡ false
  none_elsewhere t =
      by_test elsewhere
      (λ e. let a = some_in (λ v. some? (another v) (ls ++ ms)) vs e in
      let b = some_in (another a.0) (ls ++ ms) a.2 in
      absurd (⊎_elim
      (λ m. no_other a.0 b.0 (for_at ls (and_left (listed_for ls p) (listed_for ms p) t) a.0 b.0 a.1 m) b.2)
      (λ m. no_other a.0 b.0 (for_at ms (and_right (listed_for ls p) (listed_for ms p) t) a.0 b.0 a.1 m) b.2)
      (Memᴰ.append_cases ls b.1)))
      (λ e. e)

  elsewhere_is : not both ≡ some? (list_clashes p.key (ls ++ ms)) p.object.versions
  unfolding list_clashes
  elsewhere_is =
      same_test (not both) elsewhere
      (λ n. by_test elsewhere (λ e. e) (λ e. never (and_both (listed_for ls p) (listed_for ms p) (all_for ls (λ l m. in_left ls ms m) e) (all_for ms (λ l m. in_right ls ms m) e)) (not-true both n)))
      (λ e. by_test both (λ t. never e (none_elsewhere t)) (λ t. ap not t))

module _ (img b : List ℕ) (r : Bool) (own : r ≡ listed_for (decode_dots (cut img 512 512)) (decode_stored form_1 b)) where
  abbrev versions : List Version
  versions = (decode_point form_1 b).object.versions

  abbrev at : Key
  at = (decode_point form_1 b).key

  lists_are : not (listed_for (decode_dots (cut img 512 512)) (decode_stored form_1 b) && listed_for (decode_dots (cut img 1024 512)) (decode_stored form_1 b))
      ≡ some? (list_clashes (decode_point form_1 b).key (listed (decode img))) (decode_point form_1 b).object.versions
  unfolding decode_stored
  lists_are =
      elsewhere_is (decode_dots (cut img 512 512)) (decode_dots (cut img 1024 512)) (decode_stored form_1 b)
      ∙ ap₂ (λ (ls ms : List Listed). some? (list_clashes at (ls ++ ms)) versions) (own_list img) (foreign_list img)

  pub own_otherwise : not r ≡ true → true ≡ some? (list_clashes (decode_point form_1 b).key (listed (decode img))) (decode_point form_1 b).object.versions
  own_otherwise n =
      sym (ap (λ (t : Bool). not (t && listed_for (decode_dots (cut img 1024 512)) (decode_stored form_1 b))) (sym own ∙ not-true r n)) ∙ lists_are

  pub foreign_otherwise : not r ≡ false → (t : Bool) → t ≡ listed_for (decode_dots (cut img 1024 512)) (decode_stored form_1 b)
      → not t ≡ some? (list_clashes (decode_point form_1 b).key (listed (decode img))) (decode_point form_1 b).object.versions
  foreign_otherwise y t e =
      ap not e ∙ sym (ap (λ (u : Bool). not (u && listed_for (decode_dots (cut img 1024 512)) (decode_stored form_1 b))) (sym own ∙ not-false r y)) ∙ lists_are

-- ---- both

module _ (s : State) (k : Key) (vs : List Version) where
  both_halves : (some? (λ p. some? (record_clashes k p) vs) s.points || some? (list_clashes k (listed s)) vs) ≡ some? (clashes s k) vs
  unfolding clashes record_clashes list_clashes versions_clash
  both_halves =
      ap (λ (t : Bool). t || some? (list_clashes k (listed s)) vs) (some_turned (λ p v. record_clashes k p v) s.points vs)
      ∙ sym (some_either (λ v. some? (λ p. record_clashes k p v) s.points) (list_clashes k (listed s)) vs)

  module _ (r : Bool) (stored : r ≡ some? (λ p. some? (record_clashes k p) vs) s.points) where
    pub by_a_record : r ≡ true → true ≡ some? (clashes s k) vs
    by_a_record t = sym (ap (λ (u : Bool). u || some? (list_clashes k (listed s)) vs) (sym stored ∙ t)) ∙ both_halves

    pub by_a_list : r ≡ false → (t : Bool) → t ≡ some? (list_clashes k (listed s)) vs → t ≡ some? (clashes s k) vs
    by_a_list f t e = e ∙ sym (ap (λ (u : Bool). u || some? (list_clashes k (listed s)) vs) (sym stored ∙ f)) ∙ both_halves
