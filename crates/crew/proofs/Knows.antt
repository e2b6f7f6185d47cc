-- What a controller knows: its points are right for what it has seen, and its clock stands for nothing unseen. Storing keeps that. Assumes nothing.
use Prim.Native.Nat.{ℕ, zero, suc, ◌-◌, ◌≤◌}
use mathlib.Core.Path.{◌≡◌, refl, sym, ap, ◌∙◌, subst}
use mathlib.Core.Logic.{◌⊎◌, inl, inr, ⊎_elim}
use mathlib.Core.Bool.{true, false, not}
use mathlib.Core.List.Memᴰ
use mathlib.Core.List.{List, [], ◌∷◌}
use native.Mathlib.Omega.{arith}
use lib.ListN.{get_or}
use lib.Dec.{leb, eqb}
use borrow.Author.Tests.{leb-true, leb-false, eqb-true}
use Rattle.numbers.specs.declared.Controller.{Controller}
use Rattle.numbers.specs.declared.Key.{Key}
use Rattle.numbers.specs.Words.{some?, all?, fold}
use Rattle.numbers.specs.Numbers.{counter}
use Rattle.numbers.specs.Key.{same_key}
use Rattle.numbers.proofs.Tests.{by_test, never, and_left, and_right, not-true, ◌∈◌}
use Rattle.numbers.proofs.Lists.{in_some}
use Rattle.numbers.proofs.Controllers.{Crew}
use Rattle.row.proofs.Members.{low_has}
use Rattle.meaning.specs.CrewTable.{CrewTable, holds}
use Rattle.meaning.specs.Clock.{Clock, row, in_clock}
use Rattle.meaning.specs.Context.{Context, entry, no_context, is_empty, covers, fill_context, strip_context}
use Rattle.meaning.specs.Object.{has_value, Version, Object, no_object, fill, strip, gone}
use Rattle.meaning.specs.State.{Stored, State, look_up, local}
use Rattle.meaning.specs.Settle.{entered, put, settled}
use Rattle.meaning.specs.Write.{Write}
use Rattle.laws.proofs.ContextLaws.{Within, Rising, Named, covers_le, le_covers, no_entry, fill_holder, fill_other, fill_named, strip_cases, strip_named}
use Rattle.laws.proofs.Entering.{entered_base}
use Rattle.crew.specs.Demand.{version_of}
use Rattle.crew.proofs.Right.{Writes, At, version_contents, History, positive, Right}
use Rattle.crew.proofs.Looking.{kept, Distinct, look_others, look_result, find}

-- the clock stands for no unseen write of a job that n holds: invariant 5
abbrev pub Closed : Writes → Writes → CrewTable → Controller → Clock → Type 0
Closed All S t n c = (w : Write) → All w → holds t n w.key.job ≡ true → in_clock c w.dot ≡ true → S w

-- the set of seen writes may be put for another with the same members
pub right_set : (All S S' : Writes) (k : Key) (o : Object) → ((w : Write) → S w → S' w) → ((w : Write) → S' w → S w) → Right All k S o → Right All k S' o
right_set All S S' k o to from R = record {
  made = λ w h. R.made w (from w h);
  closed = λ w al e c. to w (R.closed w al e c);
  covered = λ w h. R.covered w (from w h);
  within = λ w h. R.within w (from w h);
  honest = λ v m. let p = R.honest v m in (p.0, to p.0 p.1, p.2, λ u h. p.3 u (from u h));
  complete = λ w h hv un. R.complete w (from w h) hv (λ u q. un u (to u q));
}

-- x is o but for what the bases of c make up for
abbrev pub Between : Clock → Context → Context → Type 0
Between c o x = (n : Controller) → Crew n → ((entry x n).0 ≤ (entry o n).0) × (((entry o n).0 ≤ (row c n).base) ⊎ ((entry x n).0 ≡ (entry o n).0))

-- and so filled with c it is nowhere below o
pub fill_up : (t : CrewTable) (j : ℕ) (c : Clock) (o x : Context) → Named t j o → Between c o x → Within o (fill_context t j c x)
fill_up t j c o x named mid n r =
    by_test (holds t n j)
    (λ h. ⊎_elim (λ l. omega (arith, fill_holder t j c x n r h)) (λ e. omega (arith, fill_holder t j c x n r h)) (mid n r).1)
    (λ h. omega (arith, named n r h))

-- right stays right where the context rises over seen writes only and no version with a value is lost
module _ (t : CrewTable) (All S : Writes) (H : History t All) (k : Key) where
  right_move : (o x : Object) → Right All k S o
      → Within o.context x.context
      → ((w : Write) → All w → w.key ≡ k → covers x.context w.dot ≡ true → S w)
      → ((v : Version) → v ∈ x.versions → v ∈ o.versions)
      → ((v : Version) → v ∈ o.versions → has_value v.contents ≡ true → v ∈ x.versions)
      → Right All k S x
  right_move o x R up cl fewer enough = record {
    made = R.made;
    closed = cl;
    covered = λ w s. le_covers x.context w.dot (omega (arith, covers_le o.context w.dot (R.covered w s), up w.dot.who (H.by_crew w (R.made w s).0)));
    within = λ w s n c. omega (arith, R.within w s n c, up n c);
    honest = λ v m. R.honest v (fewer v m);
    complete = λ w s hv un. enough (version_of w) (R.complete w s hv un) (ap has_value (version_contents w) ∙ hv);
  }

-- an object that was right is right again after it is filled
module _ (t : CrewTable) (All S : Writes) (H : History t All) (own : Controller) (c : Clock) (k : Key)
    (held : holds t own k.job ≡ true) (cl : Closed All S t own c) where
  by_clock : (w : Write) → All w → w.key ≡ k → w.dot.count.0 ≤ (row c w.dot.who).base → At S k w
  by_clock w al e l = (
    cl w al (subst (λ (z : Key). holds t own z.job ≡ true) (sym e) held)
        (unfold in_clock in (low_has (row c w.dot.who) w.dot.count (positive t All H w al) l)),
    e,
  )

  pub refill : (o x : Object) → Right All k (At S k) o → Named t k.job o.context → Between c o.context x.context
      → ((v : Version) → v ∈ x.versions → v ∈ o.versions)
      → ((v : Version) → v ∈ o.versions → has_value v.contents ≡ true → v ∈ x.versions)
      → Right All k (At S k) (fill t k.job c x)
  unfolding fill
  refill o x R named mid fewer enough = right_move t All (At S k) H k o (fill t k.job c x) R up closed fewer enough
    where
      up : Within o.context (fill_context t k.job c x.context)
      up = fill_up t k.job c o.context x.context named mid

      by_object : (w : Write) → All w → w.key ≡ k → w.dot.count.0 ≤ (entry x.context w.dot.who).0 → At S k w
      by_object w al e l = R.closed w al e (le_covers o.context w.dot (omega (arith, (mid w.dot.who (H.by_crew w al)).0)))

      closed : (w : Write) → All w → w.key ≡ k → covers (fill_context t k.job c x.context) w.dot ≡ true → At S k w
      closed w al e h =
          let n = w.dot.who in
          let r = H.by_crew w al in
          let l = covers_le (fill_context t k.job c x.context) w.dot h in
          by_test (holds t n k.job)
          (λ y. by_test (leb w.dot.count.0 (row c n).base) (λ z. by_clock w al e (leb-true w.dot.count.0 (row c n).base z))
          (λ z. by_object w al e (omega (arith, l, leb-false w.dot.count.0 (row c n).base z, fill_holder t k.job c x.context n r y))))
          (λ y. by_object w al e (omega (arith, l, fill_other t k.job c x.context n r y)))

-- ---- what is kept of a result

zeros : (l : Context) (i : ℕ) → all? (λ e. eqb e.0 0) l ≡ true → (get_or l i (counter 0)).0 ≡ 0
zeros [] i t = refl
zeros (x ∷ xs) zero t = eqb-true x.0 0 (and_left (eqb x.0 0) (all? (λ e. eqb e.0 0) xs) t)
zeros (x ∷ xs) (suc i) t = zeros xs i (and_right (eqb x.0 0) (all? (λ e. eqb e.0 0) xs) t)

pub strip_between : (c : Clock) (o : Object) → Between c o.context (strip c o).context
unfolding strip
strip_between c o n r = ⊎_elim (λ h. (omega (arith, h.0, h.1), inl h.0)) (λ h. (omega (arith, h.1), inr h.1)) (strip_cases c o.context n r)

-- a record that goes had no value, and nothing above the bases
pub gone_zero : (c : Clock) (o : Object) → gone (strip c o) ≡ true → (n : Controller) → (entry (strip c o).context n).0 ≡ 0
unfolding gone is_empty
gone_zero c o t n =
    zeros (strip c o).context (n.0 - 1) (and_left (all? (λ e. eqb e.0 0) (strip c o).context) (not (some? (λ v. has_value v.contents) (strip c o).versions)) t)

pub gone_empty : (c : Clock) (o : Object) → gone (strip c o) ≡ true → Between c o.context no_context
gone_empty c o t n r = (omega (arith, no_entry n r), inl (⊎_elim (λ l. l) (λ e. omega (arith, e, gone_zero c o t n)) (strip_between c o n r).1))

pub gone_valueless : (c : Clock) (o : Object) → gone (strip c o) ≡ true → (v : Version) → v ∈ o.versions → has_value v.contents ≡ false
unfolding gone strip
gone_valueless c o t v m =
    by_test (has_value v.contents)
    (λ h. never (in_some (λ w. has_value w.contents) o.versions m h)
    (not-true (some? (λ w. has_value w.contents) o.versions) (and_right (is_empty (strip_context c o.context)) (not (some? (λ w. has_value w.contents) o.versions)) t)))
    (λ h. h)

pub kept_between : (c : Clock) (o : Object) → Between c o.context (kept c o).context
kept_between c o n r = by_test (gone (strip c o)) (λ g. rw g (gone_empty c o g n r)) (λ g. rw g (strip_between c o n r))

module _ (t : CrewTable) (All S : Writes) (H : History t All) (own : Controller) (c : Clock) (k : Key)
    (held : holds t own k.job ≡ true) (cl : Closed All S t own c) where
  refill_kept : (o : Object) → Right All k (At S k) o → Named t k.job o.context → Right All k (At S k) (fill t k.job c (kept c o))
  refill_kept o R named =
      by_test (gone (strip c o))
      (λ g. rw g
      (refill t All S H own c k held cl o no_object R named (gone_empty c o g) (λ v m. absurd (Memᴰ.not-nil m)) (λ v m h. never h (gone_valueless c o g v m))))
      (λ g. rw g
      (refill t All S H own c k held cl o (strip c o) R named (strip_between c o) (λ v m. unfold strip in m) (λ v m h. unfold strip in m)))

-- ---- what a controller knows

pub record Knows (All S : Writes) (s : State) : Type 0 where
  pub right : (k : Key) → holds s.table s.own k.job ≡ true → Right All k (At S k) (local s k)
  pub closed : Closed All S s.table s.own s.clock
  pub named : (k : Key) → Named s.table k.job (look_up k s.points).context

pub local_named : (All S : Writes) (s : State) → Knows All S s → (k : Key) → Named s.table k.job (local s k).context
unfolding local fill
local_named All S s K k = fill_named s.table k.job s.clock (look_up k s.points).context (K.named k)

-- a step's results are right for the writes seen after it
pub record Results (All S S' : Writes) (s : State) (c : Clock) (rs : List Stored) : Type 0 where
  pub distinct : Distinct rs
  pub each_right : (r : Stored) → r ∈ rs → Right All r.key (At S' r.key) r.object
  pub each_named : (r : Stored) → r ∈ rs → Named s.table r.key.job r.object.context
  pub more : (w : Write) → S w → S' w
  pub elsewhere : (w : Write) → S' w → ((r : Stored) → r ∈ rs → same_key w.key r.key ≡ false) → S w
  pub closed_after : Closed All S' s.table s.own (entered c rs)
  pub rising : Rising s.clock c

-- the filled object is the stored one, but for what the bases make up for
pub fill_between : (t : CrewTable) (j : ℕ) (k c : Clock) (x : Object) → Rising k c → Between c (fill t j k x).context x.context
unfolding fill
fill_between t j k c x up n r =
    by_test (holds t n j)
    (λ h. by_test (leb (row k n).base (entry x.context n).0)
    (λ l. (omega (arith, fill_holder t j k x.context n r h), inr (omega (arith, fill_holder t j k x.context n r h, leb-true (row k n).base (entry x.context n).0 l))))
    (λ l. (
      omega (arith, fill_holder t j k x.context n r h),
      inl (omega (arith, fill_holder t j k x.context n r h, leb-false (row k n).base (entry x.context n).0 l, up n r)),
    )))
    (λ h. (omega (arith, fill_other t j k x.context n r h), inr (sym (fill_other t j k x.context n r h))))

-- storing keeps what a controller knows
module _ (All S S' : Writes) (s : State) (H : History s.table All) (K : Knows All S s) (c : Clock) (rs : List Stored) (Q : Results All S S' s c rs) where
  after : Clock
  after = entered c rs

  local_after : (k : Key) → local (settled s c rs) k ≡ fill s.table k.job after (look_up k (fold (put after) s.points rs))
  unfolding local settled after
  local_after k = refl

  local_before : (k : Key) → local s k ≡ fill s.table k.job s.clock (look_up k s.points)
  unfolding local
  local_before k = refl

  closed_then : Closed All S' s.table s.own after
  unfolding after
  closed_then = Q.closed_after

  rising_then : Rising s.clock after
  unfolding after
  rising_then n r = omega (arith, Q.rising n r, entered_base c rs n r)

  of_result : (r : Stored) → r ∈ rs → holds s.table s.own r.key.job ≡ true → Right All r.key (At S' r.key) (local (settled s c rs) r.key)
  of_result r m held =
      rw (local_after r.key, look_result after s.points rs Q.distinct r m)
      (refill_kept s.table All S' H s.own after r.key held closed_then r.object (Q.each_right r m) (Q.each_named r m))

  of_other : (k : Key) → holds s.table s.own k.job ≡ true → ((r : Stored) → r ∈ rs → same_key k r.key ≡ false)
      → Right All k (At S' k) (local (settled s c rs) k)
  of_other k held away =
      rw (local_after k, look_others k after s.points rs away)
      (refill s.table All S' H s.own after k held closed_then filled x
      (right_set All (At S k) (At S' k) k filled (λ w h. (Q.more w h.0, h.1))
      (λ w h. (Q.elsewhere w h.0 (λ r m. subst (λ (z : Key). same_key z r.key ≡ false) (sym h.1) (away r m)), h.1))
      (rw (local_before k) at (K.right k held)))
      (unfold fill in (fill_named s.table k.job s.clock x.context (K.named k))) (fill_between s.table k.job s.clock after x rising_then)
      (λ v m. unfold fill in m) (λ v m h. unfold fill in m))
    where
      x : Object
      x = look_up k s.points

      filled : Object
      filled = fill s.table k.job s.clock x

  settled_right : (k : Key) → holds s.table s.own k.job ≡ true → Right All k (At S' k) (local (settled s c rs) k)
  settled_right k held =
      ⊎_elim
      (λ f. subst (λ (z : Key). Right All z (At S' z) (local (settled s c rs) z)) (sym f.2)
      (of_result f.0 f.1 (subst (λ (z : Key). holds s.table s.own z.job ≡ true) f.2 held)))
      (of_other k held) (find k rs)

  kept_named : (o : Object) (j : ℕ) → Named s.table j o.context → Named s.table j (kept after o).context
  kept_named o j named n r h =
      by_test (gone (strip after o)) (λ g. rw g (no_entry n r))
      (λ g. rw g (unfold strip in (strip_named s.table j after o.context named n r h)))

  pub settled_knows : Knows All S' (settled s c rs)
  unfolding settled after
  settled_knows = record {
    right = λ k held. settled_right k held;
    closed = Q.closed_after;
    named = λ k. ⊎_elim
        (λ f. subst (λ (z : Key). Named s.table z.job (look_up z (fold (put after) s.points rs)).context) (sym f.2)
        (rw (look_result after s.points rs Q.distinct f.0 f.1) (kept_named f.0.object f.0.key.job (Q.each_named f.0 f.1))))
        (λ away. rw (look_others k after s.points rs away) (K.named k)) (find k rs);
  }
