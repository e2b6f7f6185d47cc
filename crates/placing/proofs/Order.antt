-- The results of a step, put one after the other: a point that no result is of keeps its record, and the order does not matter. Assumes nothing.
use Rattle.std.specs.Prelude.{if◌then◌else◌}
use mathlib.Core.Path.{◌≡◌, refl, sym, ap, ◌∙◌, subst}
use mathlib.Core.Logic.{◌⊎◌, inl, inr, ⊎_elim}
use mathlib.Core.Bool.{Bool, true, false, ◌||◌, not}
use mathlib.Core.List.Memᴰ
use mathlib.Core.List.{List, [], ◌∷◌}
use Rattle.numbers.specs.declared.Key.{Key}
use Rattle.numbers.specs.Words.{keep, ascends?, place, fold}
use Rattle.numbers.specs.Key.{same_key}
use Rattle.numbers.proofs.Tests.{by_test, never, ◌∈◌, here, there}
use Rattle.numbers.proofs.Lists.{in_keep, keep_in, in_all, none_in, place_here, place_there}
use Rattle.numbers.proofs.Orders.{ascends_first, ascends_rest, ascending_same}
use Rattle.numbers.proofs.Dots.{same_keys, key_itself, tied_keys, other_way, before_other}
use Rattle.block.proofs.Placed.{keep_all}
use Rattle.meaning.specs.Clock.{Clock}
use Rattle.meaning.specs.Object.{Object, strip, gone, fill}
use Rattle.meaning.specs.State.{Stored, stored_before, State, look_up, local}
use Rattle.meaning.specs.Settle.{without, stripped, put}
use Rattle.laws.proofs.Putting.{stored_order, From, stays, comes, put_all_ascends, in_put_all}
use Rattle.image_edits.specs.Edits.{with_points}
use Rattle.store.specs.HasRecord.{has_record}

-- none of these results is the point's
abbrev pub NoneOf : Key → List Stored → Type 0
NoneOf k rs = (r : Stored) → r ∈ rs → same_key k r.key ≡ false

-- the first of an ascending list is another point than those after it
pub first_apart : (r : Stored) (rs : List Stored) → ascends? stored_before (r ∷ rs) ≡ true → NoneOf r.key rs
first_apart r rs t q m = before_other r.key q.key (ascends_first stored_before r rs t m)

-- ---- what a put leaves as it was

module _ (c : Clock) where
  pub put_ascends : (ps : List Stored) (r : Stored) → ascends? stored_before ps ≡ true → ascends? stored_before (put c ps r) ≡ true
  put_ascends ps r up = put_all_ascends c ps (r ∷ []) up

  -- whatever does not look at the records of one point stays the same when that point's result is put
  module _ {B : Type 0} (k : Key) (g : List Stored → B) (past : (p : Stored) (ps : List Stored) → same_key k p.key ≡ true → g (p ∷ ps) ≡ g ps)
      (under : (p : Stored) (ps qs : List Stored) → g ps ≡ g qs → g (p ∷ ps) ≡ g (p ∷ qs)) where
    without_unseen : (ps : List Stored) → g (without k ps) ≡ g ps
    unfolding without
    without_unseen [] = refl
    without_unseen (p ∷ ps) =
        let rest = without_unseen ps in
        by_test (same_key k p.key) (λ t. rw t (rest ∙ sym (past p ps t))) (λ t. rw t (under p (without k ps) ps rest))

    place_unseen : (x : Stored) → x.key ≡ k → (ps : List Stored) → g (place stored_before x ps) ≡ g ps
    place_unseen x e [] = past x [] (ap (same_key k) e ∙ key_itself k)
    place_unseen x e (p ∷ ps) =
        let rest = place_unseen x e ps in
        let own : same_key k x.key ≡ true = ap (same_key k) e ∙ key_itself k in
        by_test (stored_before p x) (λ t. rw t (under p (place stored_before x ps) ps rest))
        (λ t. by_test (stored_before x p) (λ u. rw (t, u) (past x (p ∷ ps) own))
        (λ u. rw (t, u) (past x ps own ∙ sym (past p ps (subst (λ (y : Key). same_key k y ≡ true) (tied_keys x.key p.key (u, t)) own)))))

    put_unseen : (ps : List Stored) (r : Stored) → r.key ≡ k → g (put c ps r) ≡ g ps
    unfolding put
    put_unseen ps r e =
        by_test (gone (strip c r.object)) (λ t. rw t (ap (λ (y : Key). g (without y ps)) e ∙ without_unseen ps)) (λ t. rw t (place_unseen (stripped c r) e ps))

  -- a point of another key keeps its record
  module _ (ps : List Stored) (r : Stored) (k : Key) (other : same_key k r.key ≡ false) where
    not_its : (p : Stored) → same_key r.key p.key ≡ true → same_key k p.key ≡ false
    not_its p t = subst (λ (x : Key). same_key k x ≡ false) (same_keys r.key p.key t) other

    pub other_stays : look_up k (put c ps r) ≡ look_up k ps
    unfolding look_up
    other_stays =
        put_unseen r.key (look_up k) (λ p qs t. ap (λ (b : Bool). if b then p.object else look_up k qs) (not_its p t))
        (λ p qs os e. ap (λ (o : Object). if same_key k p.key then p.object else o) e) ps r refl

    pub other_recorded : has_record k (put c ps r) ≡ has_record k ps
    unfolding has_record
    other_recorded =
        put_unseen r.key (has_record k) (λ p qs t. ap (λ (b : Bool). b || has_record k qs) (not_its p t))
        (λ p qs os e. ap (λ (b : Bool). same_key k p.key || b) e) ps r refl

  pub others_stay : (ps rs : List Stored) (k : Key) → NoneOf k rs → look_up k (fold (put c) ps rs) ≡ look_up k ps
  others_stay ps [] k h = refl
  others_stay ps (r ∷ rs) k h = others_stay (put c ps r) rs k (λ q m. h q (there m)) ∙ other_stays ps r k (h r (here refl))

  pub others_recorded : (ps rs : List Stored) (k : Key) → NoneOf k rs → has_record k (fold (put c) ps rs) ≡ has_record k ps
  others_recorded ps [] k h = refl
  others_recorded ps (r ∷ rs) k h = others_recorded (put c ps r) rs k (λ q m. h q (there m)) ∙ other_recorded ps r k (h r (here refl))

  -- and so what is local for it is what it was
  pub others_local : (s : State) (rs : List Stored) (k : Key) → NoneOf k rs → local (with_points s (fold (put c) s.points rs)) k ≡ local s k
  unfolding local
  others_local s rs k h = ap (fill s.table k.job s.clock) (others_stay s.points rs k h)

  -- ---- a result that neither has a record nor needs one

  pub put_idle : (ps : List Stored) (r : Stored) → has_record r.key ps ≡ false → gone (strip c r.object) ≡ true → put c ps r ≡ ps
  unfolding put without has_record
  put_idle ps r none t =
      rw t (keep_all (λ p. not (same_key r.key p.key)) ps
      (in_all (λ p. not (same_key r.key p.key)) ps (λ p m. ap not (none_in (λ q. same_key r.key q.key) ps none m))))

  -- ---- what stands in the list after a put

  module _ (ps : List Stored) (r : Stored) where
    -- the record that the result leaves, where it leaves one, and those of other points
    abbrev Left : Stored → Type 0
    Left p = ((p ≡ stripped c r) × (gone (strip c r.object) ≡ false)) ⊎ ((p ∈ ps) × (same_key r.key p.key ≡ false))

    in_put : ascends? stored_before ps ≡ true → {p : Stored} → p ∈ put c ps r → Left p
    in_put up {p} m = told (in_put_all c ps (r ∷ []) up m)
      where
        told : From c ps (r ∷ []) p → Left p
        told (stays q h) = inr (q, h r (here refl))
        told (comes a h e g) = let is : a ≡ r = ⊎_elim (λ z. z) (λ z. absurd (Memᴰ.not-nil z)) (Memᴰ.cases_cons h) in inl (e ∙ ap (stripped c) is, sym (ap (λ (z : Stored). gone (strip c z.object)) is) ∙ g)

    put_in : {p : Stored} → Left p → p ∈ put c ps r
    unfolding put without
    put_in {p} h = ⊎_elim own others h
      where
        own : (p ≡ stripped c r) × (gone (strip c r.object) ≡ false) → p ∈ put c ps r
        own q = rw q.1 (Memᴰ.cast q.0 (place_here stored_before (stripped c r) ps))

        beside : p ∈ ps → same_key r.key p.key ≡ false → p ∈ place stored_before (stripped c r) ps
        beside m f =
            ⊎_elim (λ z. z) (λ z. never (subst (λ (x : Key). same_key r.key x ≡ true) (sym (tied_keys p.key r.key z)) (key_itself r.key)) f)
            (place_there stored_before (stripped c r) ps m)

        others : (p ∈ ps) × (same_key r.key p.key ≡ false) → p ∈ put c ps r
        others q =
            by_test (gone (strip c r.object)) (λ t. rw t (keep_in (λ z. not (same_key r.key z.key)) ps q.0 (ap not q.1)))
            (λ t. rw t (beside q.0 q.1))

  -- ---- two results of different points, in either order

  swapped : (ps : List Stored) (a b : Stored) → ascends? stored_before ps ≡ true → same_key a.key b.key ≡ false → {p : Stored}
      → p ∈ put c (put c ps a) b → p ∈ put c (put c ps b) a
  swapped ps a b up f {p} m = ⊎_elim last (λ q. ⊎_elim (first q.1) (beside q.1) (in_put ps a up q.0)) (in_put (put c ps a) b (put_ascends ps a up) m)
    where
      last : (p ≡ stripped c b) × (gone (strip c b.object) ≡ false) → p ∈ put c (put c ps b) a
      last q = put_in (put c ps b) a (inr (put_in ps b (inl q), ap (λ (z : Stored). same_key a.key z.key) q.0 ∙ f))

      first : same_key b.key p.key ≡ false → (p ≡ stripped c a) × (gone (strip c a.object) ≡ false) → p ∈ put c (put c ps b) a
      first g q = put_in (put c ps b) a (inl q)

      beside : same_key b.key p.key ≡ false → (p ∈ ps) × (same_key a.key p.key ≡ false) → p ∈ put c (put c ps b) a
      beside g q = put_in (put c ps b) a (inr (put_in ps b (inr (q.0, g)), q.1))

  pub swap : (ps : List Stored) (a b : Stored) → ascends? stored_before ps ≡ true → same_key a.key b.key ≡ false → put c (put c ps a) b ≡ put c (put c ps b) a
  swap ps a b up f =
      ascending_same stored_before stored_order (put c (put c ps a) b) (put c (put c ps b) a)
      (put_ascends (put c ps a) b (put_ascends ps a up)) (put_ascends (put c ps b) a (put_ascends ps b up))
      (λ p. (swapped ps a b up f, swapped ps b a up (other_way a.key b.key f)))

  -- a result of another point than the others may be put after them
  pub put_later : (ps : List Stored) (r : Stored) (rs : List Stored) → ascends? stored_before ps ≡ true → NoneOf r.key rs → fold (put c) (put c ps r) rs ≡ put c (fold (put c) ps rs) r
  put_later ps r [] up h = refl
  put_later ps r (q ∷ rs) up h =
      ap (λ (z : List Stored). fold (put c) z rs) (swap ps r q up (h q (here refl))) ∙ put_later (put c ps q) r rs (put_ascends ps q up) (λ z m. h z (there m))

  -- those that fail any test may be put first, and then those that pass
  pub two_passes : (f : Stored → Bool) (ps rs : List Stored) → ascends? stored_before ps ≡ true → ascends? stored_before rs ≡ true
      → fold (put c) ps rs ≡ fold (put c) (fold (put c) ps (keep (λ r. not (f r)) rs)) (keep f rs)
  two_passes f ps [] up t = refl
  two_passes f ps (r ∷ rs) up t =
      let rest = two_passes f (put c ps r) rs (put_ascends ps r up) (ascends_rest stored_before r rs t) in
      by_test (f r)
      (λ e. rw e (rest ∙ ap (λ (z : List Stored). fold (put c) z (keep f rs)) (put_later ps r (keep (λ q. not (f q)) rs) up (λ q m. first_apart r rs t q (in_keep (λ z. not (f z)) rs m).0))))
      (λ e. rw e rest)
