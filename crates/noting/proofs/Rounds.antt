-- The dots listed so far: the loop that lists them. Assumes nothing.
use Prim.Native.Nat.{ℕ, ◌+◌, ◌-◌, ◌/◌, ◌≤◌, ◌<◌}
use mathlib.Core.Path.{◌≡◌, refl, ap, ap₂, sym, ◌∙◌, subst}
use mathlib.Core.Logic.{◌⊎◌, inl, inr, ⊎_elim}
use mathlib.Core.Bool.{Bool, true, false, not}
use mathlib.Core.List.Memᴰ
use mathlib.Core.List.{List, [], ◌∷◌, ◌++◌, append_assoc, append-nil}
use native.Mathlib.Omega.{arith}
use lib.ListN.{length, take, length-append}
use lib.Seq.{take_at, take_all}
use borrow.Author.Tests.{not-true}
use Rattle.numbers.specs.declared.Dot.{Dot}
use Rattle.numbers.specs.declared.Key.{Key}
use Rattle.numbers.specs.Words.{cons_if, keep, all?, ascends?, place, place_all}
use Rattle.numbers.specs.Numbers.{Crew}
use Rattle.numbers.specs.Dot.{dot, same_dot}
use Rattle.numbers.proofs.Tests.{by_test, never, and_right, ◌∈◌, here, there}
use Rattle.numbers.proofs.Lists.{Tied, in_left, in_right, in_keep, in_map, in_concat_map, in_all, in_place_all}
use Rattle.numbers.proofs.Orders.{Ascends, ascends_first, ascends_rest, place_all_ascends, one_place, lt_pair}
use Rattle.numbers.proofs.Dots.{same_dots, tied_dots, dots_tied}
use Rattle.block.specs.Fields.{cut, field}
use Rattle.block.specs.Block.{block_at, Laid}
use Rattle.block.proofs.Arrays.{in_upto}
use Rattle.block.proofs.Numbers.{Bytes, bytes_cut}
use Rattle.block.proofs.Parts.{length_cut, part_is}
use Rattle.meaning.specs.Clock.{in_clock}
use Rattle.meaning.specs.Context.{covers}
use Rattle.meaning.specs.Object.{Version}
use Rattle.meaning.specs.State.{Stored, stored_before, Listed, listed_before, State, local}
use Rattle.meaning.specs.Settle.{most_listed}
use Rattle.laws.proofs.Goodness.{Good}
use Rattle.laws.proofs.Putting.{listed_order}
use Rattle.layout.specs.PointBlock.{form_1, decode_stored}
use Rattle.layout.specs.Image.{image_length, decode_dots, decode}
use Rattle.dots.specs.DotsBlock.{lay_dots, dots_block}
use Rattle.dots.proofs.Edits.{count_is, few_dots}
use Rattle.object.proofs.Entries.{crewed_dot}
use Rattle.image_edits.specs.Edits.{Canonical, with_list}
use Rattle.image_edits.proofs.Lifting.{list_part_laid, list_part_says}
use Rattle.arriving.specs.Sent.{points_in}
use Rattle.noting.specs.Noted.{arrives_new, new_of, newly_arrived, fresh, noted, Crewed}
use Rattle.noting.specs.Nearest.{nearest}
use Rattle.noting.proofs.Choosing.{after, first, join_none, not_before, chosen}
use Rattle.noting.proofs.Placing.{place_adds, any_order, last_first, first_last}
use Rattle.std.specs.Prelude.{Option, Some, None}

-- ---- the foreign list, as it is lent

module _ (img : List ℕ) (small : Bytes img) (size : length img ≡ image_length) (canonical : Canonical img) where
  long : length (cut img 1024 512) ≡ 512
  long = length_cut img 1024 512 (omega arith)

  bytes : Bytes (cut img 1024 512)
  bytes = bytes_cut img 1024 512 small

  laid : Laid lay_dots dots_block (cut img 1024 512)
  laid = subst (Laid lay_dots dots_block) (part_is img 1024 512) (list_part_laid img small size canonical 2 (omega arith) (omega arith))

  pub foreign_list : decode_dots (cut img 1024 512) ≡ (decode img).foreign_dots
  foreign_list = ap decode_dots (sym (part_is img 1024 512)) ∙ list_part_says img small size canonical 2 (omega arith) (omega arith)

  pub foreign_count : field (cut img 1024 512) 4 2 ≡ length (decode img).foreign_dots
  foreign_count = count_is (cut img 1024 512) bytes long laid ∙ ap length foreign_list

  pub foreign_few : field (cut img 1024 512) 4 2 ≤ 60
  foreign_few = omega (arith, count_is (cut img 1024 512) bytes long laid, few_dots (cut img 1024 512) bytes long laid)

-- ---- an ascending list, one by one

keep_all : {A : Type 0} (f : A → Bool) (xs : List A) → ((x : A) → x ∈ xs → f x ≡ true) → keep f xs ≡ xs
keep_all f [] h = refl
keep_all f (x ∷ xs) h = ap₂ (λ (b : Bool) (l : List _). cons_if b x l) (h x (here refl)) (keep_all f xs (λ y m. h y (there m)))

-- those behind one of them are those that follow it
rest_behind : (xs : List Listed) (x : Listed) (ys : List Listed) → Ascends listed_before (xs ++ (x ∷ ys)) → keep (after x.dot) (xs ++ (x ∷ ys)) ≡ ys
rest_behind [] x ys up = ap₂ (λ (b : Bool) (l : List Listed). cons_if b x l) (listed_order.itself x) (keep_all (after x.dot) ys (λ y m. ascends_first listed_before x ys up m))
rest_behind (z ∷ xs) x ys up =
    ap₂ (λ (b : Bool) (l : List Listed). cons_if b z l) (not_before z x (ascends_first listed_before z (xs ++ (x ∷ ys)) up (in_right xs (x ∷ ys) (here refl))))
    (rest_behind xs x ys (ascends_rest listed_before z (xs ++ (x ∷ ys)) up))

-- those that stand before it come before it
earlier : (xs : List Listed) (x : Listed) (ys : List Listed) → Ascends listed_before (xs ++ (x ∷ ys)) → (v : Listed) → v ∈ xs → listed_before v x ≡ true
earlier [] x ys up v m = absurd (Memᴰ.not-nil m)
earlier (z ∷ xs) x ys up v m =
    let later = earlier xs x ys (ascends_rest listed_before z (xs ++ (x ∷ ys)) up) v in
    ⊎_elim (λ e. ap (λ (w : Listed). listed_before w x) e ∙ ascends_first listed_before z (xs ++ (x ∷ ys)) up (in_right xs (x ∷ ys) (here refl))) later (Memᴰ.cases_cons m)

first_none : (xs : List Listed) → first xs ≡ None → xs ≡ []
first_none [] e = refl
first_none (x ∷ xs) e = let z : ◌≡◌ {A = ℕ} 0 1 = cc in absurd (omega arith)

first_some : (xs : List Listed) (d : Dot) (k : Key) → first xs ≡ Some (d, k) → (ys : List Listed) × (xs ≡ record { dot = d; key = k } ∷ ys)
first_some [] d k e = let z : ◌≡◌ {A = ℕ} 0 1 = cc in absurd (omega arith)
first_some (x ∷ xs) d k e =
    let p : x.dot ≡ d = ap (λ (o : Option (Dot × Key)). (which o).0) e in
    let q : x.key ≡ k = ap (λ (o : Option (Dot × Key)). (which o).1) e in
    (xs, λ i. record { dot = p i; key = q i } ∷ xs)
  where
    which : Option (Dot × Key) → Dot × Key
    which None = (d, k)
    which (Some o) = o

-- ---- those that arrive new

module _ (s : State) (ps : List Stored) where
  fresh_up : Ascends listed_before (fresh s ps)
  unfolding fresh
  fresh_up = place_all_ascends listed_before listed_order (newly_arrived s ps) [] refl

  fresh_in : (l : Listed) → l ∈ fresh s ps → l ∈ newly_arrived s ps
  unfolding fresh
  fresh_in l m = ⊎_elim (λ h. h) (λ h. absurd (Memᴰ.not-nil h)) (in_place_all listed_before (newly_arrived s ps) [] m)

  -- the version that one is of
  of_version : (l : Listed) → l ∈ fresh s ps → (p : Stored) × (v : Version) × (p ∈ ps) × (v ∈ p.object.versions) × (l.dot ≡ v.dot) × (in_clock s.clock v.dot ≡ false)
  unfolding newly_arrived
  of_version l m =
      let q = in_concat_map (new_of s) ps (fresh_in l m) in
      let p = q.0 in
      let u = in_map (λ (v : Version). record { dot = v.dot; key = p.key }) (keep (λ v. arrives_new s p.key v.dot) p.object.versions) q.2 in
      let v = u.0 in
      let k = in_keep (λ (w : Version). arrives_new s p.key w.dot) p.object.versions u.1 in
      (p, v, q.1, k.0, ap (λ (x : Listed). x.dot) u.2, not-true (in_clock s.clock v.dot) (and_right (not (covers (local s p.key).context v.dot)) (not (in_clock s.clock v.dot)) k.1))

  unknown : (l : Listed) → l ∈ fresh s ps → in_clock s.clock l.dot ≡ false
  unknown l m = let q = of_version l m in ap (in_clock s.clock) q.4 ∙ q.5

  -- the lists are not asked
  same_new : (ls : List Listed) → newly_arrived (with_list s 2 ls) ps ≡ newly_arrived s ps
  unfolding newly_arrived local
  same_new ls = refl

  -- one of them, or one that is listed already
  abbrev Noticed : Listed → Type 0
  Noticed v = (v ∈ fresh s ps) ⊎ (v ∈ s.foreign_dots)

-- so many are listed, and the rest lie behind the last one
pub record Listing (s : State) (ps : List Stored) (last : Dot) (n : ℕ) (img : List ℕ) : Type 0 where
  pub done : List Listed
  pub rest : List Listed
  pub parts : done ++ rest ≡ fresh s ps
  pub behind : keep (after last) (fresh s ps) ≡ rest
  pub size : length img ≡ image_length
  pub canonical : Canonical img
  pub says : decode img ≡ with_list s 2 (place_all listed_before done s.foreign_dots)
  pub long : length (place_all listed_before done s.foreign_dots) ≡ n
  pub counted : n ≡ length s.foreign_dots + length done
  pub room : n ≤ 60

module _ (s : State) (G : Good s) (ps : List Stored) where
  listed_known : (l : Listed) → l ∈ s.foreign_dots → in_clock s.clock l.dot ≡ true
  listed_known l m = (G.lists l (in_right s.own_dots s.foreign_dots m)).known

  apart : (v w : Listed) → v ∈ fresh s ps → w ∈ s.foreign_dots → v.dot ≡ w.dot → ⊥
  apart v w m k e = never (ap (in_clock s.clock) e ∙ listed_known w k) (unknown s ps v m)

  one : (v w : Listed) → Noticed s ps v → Noticed s ps w → Tied listed_before v w → v ≡ w
  one v w p q t =
      ⊎_elim
      (λ a. ⊎_elim (λ b. one_place listed_before (fresh s ps) (fresh_up s ps) a b t) (λ b. absurd (apart v w a b (tied_dots v.dot w.dot t))) q)
      (λ a. ⊎_elim (λ b. absurd (apart w v b a (sym (tied_dots v.dot w.dot t)))) (λ b. one_place listed_before s.foreign_dots G.foreign_asc a b t) q) p

  pub none_listed : (crew : (l : Listed) → l ∈ fresh s ps → Crew l.dot.who) (img : List ℕ) (n : ℕ) → length img ≡ image_length → Canonical img → decode img ≡ s → n ≡ length s.foreign_dots → Listing s ps (dot 0 0) n img
  none_listed crew img n size canonical e count = record {
    done = [];
    rest = fresh s ps;
    parts = refl;
    behind = keep_all (after (dot 0 0)) (fresh s ps) (λ l m. lt_pair 0 0 l.dot.who.0 l.dot.count.0 (inl (omega (arith, (crew l m).0))));
    size = size;
    canonical = canonical;
    says = e;
    long = sym count;
    counted = omega arith;
    room = omega (arith, G.foreign_few);
  }

  module _ (last : Dot) (n : ℕ) (img : List ℕ) (L : Listing s ps last n img) where
    now_listed : (decode img).foreign_dots ≡ place_all listed_before L.done s.foreign_dots
    now_listed = ap (λ (x : State). x.foreign_dots) L.says

    pub same_points : (decode img).points ≡ s.points
    same_points = ap (λ (x : State). x.points) L.says

    pub still_ascend : ascends? stored_before (decode img).points ≡ true
    still_ascend = ap (ascends? stored_before) same_points ∙ G.points_asc

    -- there is no room for more
    pub full : 60 ≤ n → decode img ≡ with_list s 2 (noted s ps)
    unfolding noted
    full h = L.says ∙ ap (λ (ls : List Listed). with_list s 2 (place_all listed_before ls s.foreign_dots)) (sym taken)
      where
        many : length L.done ≡ most_listed - length s.foreign_dots
        many = omega (arith, L.counted, L.room)

        taken : take (most_listed - length s.foreign_dots) (fresh s ps) ≡ L.done
        taken = ap (take (most_listed - length s.foreign_dots)) (sym L.parts) ∙ take_at L.done L.rest (most_listed - length s.foreign_dots) many

    module _ (r : Option (Dot × Key)) (next : r ≡ nearest last None (newly_arrived (decode img) ps)) where
      is_first : r ≡ first L.rest
      unfolding fresh
      is_first =
          next ∙ ap (λ (x : State). nearest last None (newly_arrived x ps)) L.says
          ∙ ap (nearest last None) (same_new s ps (place_all listed_before L.done s.foreign_dots))
          ∙ chosen last None (newly_arrived s ps)
          ∙ join_none (first (keep (after last) (fresh s ps)))
          ∙ ap first L.behind

      -- there is none left
      pub ends : r ≡ None → decode img ≡ with_list s 2 (noted s ps)
      unfolding noted
      ends e = L.says ∙ ap (λ (ls : List Listed). with_list s 2 (place_all listed_before ls s.foreign_dots)) (all ∙ sym taken)
        where
          all : L.done ≡ fresh s ps
          all = sym (append-nil L.done) ∙ ap (λ (l : List Listed). L.done ++ l) (sym (first_none L.rest (sym is_first ∙ e))) ∙ L.parts

          taken : take (most_listed - length s.foreign_dots) (fresh s ps) ≡ fresh s ps
          taken = take_all (most_listed - length s.foreign_dots) (fresh s ps) (omega (arith, ap length all, L.counted, L.room))

      module _ (d : Dot) (k : Key) (e : r ≡ Some (d, k)) where
        abbrev it : Listed
        it = record { dot = d; key = k }

        left : (xs : List Listed) × (L.rest ≡ record { dot = d; key = k } ∷ xs)
        left = first_some L.rest d k (sym is_first ∙ e)

        whole : L.done ++ (record { dot = d; key = k } ∷ left.0) ≡ fresh s ps
        whole = ap (λ (l : List Listed). L.done ++ l) (sym left.1) ∙ L.parts

        up : Ascends listed_before (L.done ++ (record { dot = d; key = k } ∷ left.0))
        up = subst (Ascends listed_before) (sym whole) (fresh_up s ps)

        done_in : (v : Listed) → v ∈ L.done → v ∈ fresh s ps
        done_in v m = subst (λ (l : List Listed). v ∈ l) L.parts (in_left L.done L.rest m)

        it_in : record { dot = d; key = k } ∈ fresh s ps
        it_in = subst (λ (l : List Listed). it ∈ l) whole (in_right L.done (it ∷ left.0) (here refl))

        -- it is not listed yet
        new_here : (v : Listed) → v ∈ place_all listed_before L.done s.foreign_dots → v.dot ≡ d → ⊥
        new_here v m q =
            ⊎_elim (λ h. never (earlier L.done it left.0 up v h) (dots_tied v.dot d q).0) (λ h. apart it v it_in h (sym q))
            (in_place_all listed_before L.done s.foreign_dots m)

        pub not_listed : all? (λ l. not (same_dot d l.dot)) (decode img).foreign_dots ≡ true
        not_listed =
            ap (all? (λ l. not (same_dot d l.dot))) now_listed
            ∙ in_all (λ l. not (same_dot d l.dot)) (place_all listed_before L.done s.foreign_dots)
            (λ v m. by_test (same_dot d v.dot) (λ t. absurd (new_here v m (sym (same_dots d v.dot t)))) (λ t. ap not t))

        pub list_ascends : ascends? listed_before (decode img).foreign_dots ≡ true
        list_ascends = ap (ascends? listed_before) now_listed ∙ place_all_ascends listed_before listed_order L.done s.foreign_dots G.foreign_asc

        pub one_fits : n < 60 → length (decode img).foreign_dots < 60
        one_fits h = omega (arith, ap length now_listed, L.long)

        pub one_listed : n < 60 → (y : List ℕ) → length y ≡ image_length
            → (decode y ≡ with_list (decode img) 2 (place listed_before (record { dot = d; key = k }) (decode img).foreign_dots)) × Canonical y → Listing s ps d (n + 1) y
        one_listed h y size w = record {
          done = L.done ++ (it ∷ []);
          rest = left.0;
          parts = append_assoc L.done (it ∷ []) left.0 ∙ whole;
          behind = ap (keep (after d)) (sym whole) ∙ rest_behind L.done it left.0 up;
          size = size;
          canonical = w.1;
          says = w.0 ∙ ap (λ (x : State). with_list x 2 (place listed_before it x.foreign_dots)) L.says ∙ ap (with_list s 2) same;
          long = ap length (sym same) ∙ place_adds listed_before it (place_all listed_before L.done s.foreign_dots) (λ v m t. new_here v m (tied_dots v.dot d t)) ∙ omega (arith, L.long);
          counted = omega (arith, L.counted, length-append L.done (it ∷ []));
          room = omega arith;
        }
          where
            in_done : (v : Listed) → v ∈ it ∷ L.done → Noticed s ps v
            in_done v m = inl (⊎_elim (λ q. subst (λ (x : Listed). x ∈ fresh s ps) (sym q) it_in) (done_in v) (Memᴰ.cases_cons m))

            same : place listed_before it (place_all listed_before L.done s.foreign_dots) ≡ place_all listed_before (L.done ++ (it ∷ [])) s.foreign_dots
            same =
                any_order listed_before listed_order (Noticed s ps) one (it ∷ L.done) (L.done ++ (it ∷ [])) s.foreign_dots G.foreign_asc in_done
                (λ v m. in_done v (first_last L.done it v m)) (λ v m. inr m) (last_first L.done it) (first_last L.done it)

-- the dots of a run whose versions are crewed
pub fresh_crew : (s : State) (run : List ℕ) → Crewed run → (l : Listed) → l ∈ fresh s (points_in run) → Crew l.dot.who
fresh_crew s run ok l m =
    let q = of_version s (points_in run) l m in
    let u = in_upto (length run / 512) (λ i. decode_stored form_1 (block_at run i)) q.2 in
    crewed_dot q.0.object.versions (subst (λ (p : Stored). Rattle.record.specs.Crewed.crewed p.object.versions ≡ true) (sym u.2) (ok u.0 u.1)) q.4 q.3
