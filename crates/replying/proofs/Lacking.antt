-- What the asker lacks, listed dot by listed dot, and the loop over a list. Assumes nothing.
use Rattle.std.specs.Prelude.{if◌then◌else◌, Option, None}
use Prim.Native.Nat.{ℕ, ◌+◌, ◌≤◌, ◌<◌}
use mathlib.Core.Path.{◌≡◌, refl, sym, ap, ap₂, ◌∙◌}
use mathlib.Core.Bool.{Bool, true, false, ◌&&◌, not}
use mathlib.Core.List.{List, [], ◌∷◌, ◌++◌}
use native.Mathlib.Numerals.{add-one}
use native.Mathlib.Omega.{arith}
use lib.Dec.{leb}
use lib.ListN.{length, drop, drop_of_length-le}
use lib.Seq.{drop-cons}
use borrow.Author.Tests.{leb-true}
use Rattle.numbers.specs.declared.Controller.{Controller}
use Rattle.numbers.specs.declared.Key.{Key}
use Rattle.numbers.specs.Words.{keep}
use Rattle.numbers.specs.Numbers.{Crew, is_controller, is_counter, is_job, is_point, same_controller}
use Rattle.numbers.specs.Key.{is_key}
use Rattle.numbers.proofs.Tests.{by_test, never, and_left, and_right, and_both, or_inr, ◌∈◌}
use Rattle.numbers.proofs.Lists.{all_in, in_all, in_left, in_right, clause, keep_same}
use Rattle.numbers.proofs.Controllers.{crew_is}
use Rattle.block.specs.Fields.{cut, upto}
use Rattle.block.proofs.Arrays.{upto_length, upto_at}
use Rattle.row.specs.Row.{has}
use Rattle.meaning.specs.CrewTable.{CrewTable, holds, share_job}
use Rattle.meaning.specs.Clock.{Clock, row, in_clock}
use Rattle.meaning.specs.State.{Listed, State, peers, listed}
use Rattle.meaning.specs.Message.{Ask}
use Rattle.meaning.specs.Good.{listed_formed}
use Rattle.meaning.specs.Exchange.{lacking}
use Rattle.laws.proofs.Goodness.{ListedFacts, Good}
use Rattle.layout.specs.Clocks.{decode_clock}
use Rattle.layout.specs.Image.{image_length, decode_dots, decode, good_image}
use Rattle.layout.specs.Messages.{decode_ask}
use Rattle.head.proofs.Rounds.{some_job}
use Rattle.store.proofs.Lent.{table_part, good_now}
use Rattle.replying.specs.Nearest.{all_crew, lacks, closer, with_key, nearest}
use Rattle.store.proofs.ListsLent.{own_list, foreign_list}
use Rattle.replying.proofs.Judging.{clock_lent}

-- ---- the test of one listed dot

-- two that hold a job are peers
holders_peers : (s : State) (n m : Controller) (j : ℕ) → j < 8 → holds s.table n j ≡ true → holds s.table m j ≡ true → peers s n m ≡ true
unfolding peers share_job
holders_peers s n m j l p q =
    or_inr (same_controller n m) (share_job s.table n m)
    (sym (some_job (λ i. holds s.table n i && holds s.table m i) j l (and_both (holds s.table n j) (holds s.table m j) p q)))

module _ (t : CrewTable) (l : Listed) (e : listed_formed t l ≡ true) where
  formed_at : (i : ℕ) → lib.ListN.get_or (is_key l.key ∷ is_controller l.dot.who ∷ holds t l.dot.who l.key.job ∷ is_counter l.dot.count ∷ []) i true ≡ true
  unfolding listed_formed
  formed_at = clause (is_key l.key ∷ is_controller l.dot.who ∷ holds t l.dot.who l.key.job ∷ is_counter l.dot.count ∷ []) e

  job_small : l.key.job < 8
  unfolding is_key is_job
  job_small = omega (arith, leb-true l.key.job 7 (and_left (leb l.key.job 7) (is_point l.key.point) (formed_at 0)))

  pub point_from_1 : 1 ≤ l.key.point.0
  unfolding is_key is_point
  point_from_1 = leb-true 1 l.key.point.0 (and_left (leb 1 l.key.point.0) (leb l.key.point.0 65535) (and_right (is_job l.key.job) (leb 1 l.key.point.0 && leb l.key.point.0 65535) (formed_at 0)))

module _ (t : CrewTable) (asker : Controller) (k : Clock) (l : Listed) where
  pub has_it : in_clock k l.dot ≡ true → false ≡ lacks t asker k l
  unfolding lacks
  has_it e = sym (ap (λ (b : Bool). not b && holds t asker l.key.job) e)

  pub has_it_not : in_clock k l.dot ≡ false → (r : Bool) → r ≡ holds t asker l.key.job → r ≡ lacks t asker k l
  unfolding lacks
  has_it_not e r d = d ∙ sym (ap (λ (b : Bool). not b && holds t asker l.key.job) e)

module _ (s : State) (a : Ask) where
  abbrev whole_test : Listed → Bool
  whole_test l =
      peers s s.own l.dot.who
      && peers s a.sender l.dot.who
      && has (row s.clock l.dot.who) l.dot.count
      && not (has (row a.clock l.dot.who) l.dot.count)
      && holds s.table a.sender l.key.job

  -- the rest of the test is passed by every listed dot of a good state
  short_test : (l : Listed) → ListedFacts s.table s.own s.clock l → whole_test l ≡ lacks s.table a.sender a.clock l
  unfolding lacks in_clock
  short_test l F = short (peers s s.own w) (peers s a.sender w) (has (row s.clock w) l.dot.count) (not (has (row a.clock w) l.dot.count)) (holds s.table a.sender l.key.job)
      (holders_peers s s.own w l.key.job small F.held holder) (λ h. holders_peers s a.sender w l.key.job small h holder) F.known
    where
      w : Controller
      w = l.dot.who

      small : l.key.job < 8
      small = job_small s.table l F.formed

      holder : holds s.table l.dot.who l.key.job ≡ true
      holder = formed_at s.table l F.formed 2

      short : (p q r m h : Bool) → p ≡ true → (h ≡ true → q ≡ true) → r ≡ true → (p && q && r && m && h) ≡ (m && h)
      short true true true m h x y z = refl
      short true true false m h x y z = never z refl
      short true false true true true x y z = y refl
      short true false true true false x y z = refl
      short true false true false h x y z = refl
      short true false false m h x y z = never z refl
      short false q r m h x y z = never x refl

pub lacking_is : (s : State) (a : Ask) → Good s → lacking s a ≡ keep (lacks s.table a.sender a.clock) (listed s)
unfolding lacking
lacking_is s a G = keep_same (whole_test s a) (lacks s.table a.sender a.clock) (listed s) (λ l m. short_test s a l (G.lists l m))

-- ---- one list after the other

module _ (f : Listed → Bool) (last : Key) where
  -- one more
  with_one : (best : Option Key) (l : Listed) (ls : List Listed) → nearest last best (keep f (l ∷ ls)) ≡ nearest last (with_key f last best l) (keep f ls)
  unfolding nearest with_key
  with_one best l ls = by_test (f l) (λ t. rw (t)) (λ t. rw (t))

  pub two_lists : (best : Option Key) (ls ms : List Listed) → nearest last best (keep f (ls ++ ms)) ≡ nearest last (nearest last best (keep f ls)) (keep f ms)
  two_lists best [] ms = unfold nearest in refl
  two_lists best (l ∷ ls) ms =
      with_one best l (ls ++ ms) ∙ two_lists (with_key f last best l) ls ms
      ∙ ap (λ (b : Option Key). nearest last b (keep f ms)) (sym (with_one best l ls))

  pub passed_by : (best : Option Key) (l : Listed) → f l ≡ false → best ≡ with_key f last best l
  unfolding with_key
  passed_by best l e = sym (ap (λ (b : Bool). if b then closer last best l.key else best) e)

  pub looked_at : (best : Option Key) (l : Listed) (k : Key) (r : Option Key) → f l ≡ true → k ≡ l.key → r ≡ closer last best k → r ≡ with_key f last best l
  unfolding with_key
  looked_at best l k r e q d = d ∙ ap (closer last best) q ∙ sym (ap (λ (b : Bool). if b then closer last best l.key else best) e)

  -- of n things i are looked at, and the rest makes of `best` what all make of `start`
  pub record Looked (n : ℕ) (e : ℕ → Listed) (start : Option Key) (best : Option Key) (i : ℕ) : Type 0 where
    pub within : i ≤ n
    pub rest : nearest last best (keep f (drop i (upto n e))) ≡ nearest last start (keep f (upto n e))

  module _ (n : ℕ) (e : ℕ → Listed) (start : Option Key) where
    pub none_looked : Looked n e start start 0
    none_looked = record { within = omega arith; rest = refl }

    module _ (best : Option Key) (i : ℕ) (L : Looked n e start best i) where
      pub one_looked : i < n → (x : Option Key) → x ≡ with_key f last best (e i) → Looked n e start x (i + 1)
      one_looked l x d = record {
        within = omega arith;
        rest =
            let h : i < length (upto n e) = omega (arith, upto_length n e) in
            let next : drop i (upto n e) ≡ e i ∷ drop (i + 1) (upto n e) = rw (add-one i, drop-cons (upto n e) i (e i) h, upto_at n e (e i) i l) in
            ap (λ (b : Option Key). nearest last b (keep f (drop (i + 1) (upto n e)))) d
            ∙ sym (with_one best (e i) (drop (i + 1) (upto n e)))
            ∙ ap (λ (ls : List Listed). nearest last best (keep f ls)) (sym next)
            ∙ L.rest;
      }

      pub all_looked : n ≤ i → best ≡ nearest last start (keep f (upto n e))
      unfolding nearest
      all_looked h = ap (λ (ls : List Listed). nearest last best (keep f ls)) (sym (drop_of_length-le (upto n e) {i = i} (omega (arith, upto_length n e)))) ∙ L.rest

-- ---- every listed dot is of a controller

pub crew_at : (n : ℕ) (e : ℕ → Listed) → all_crew (upto n e) ≡ true → (i : ℕ) → i < n → Crew (e i).dot.who
unfolding all_crew
crew_at n e t i l =
    crew_is (e i).dot.who
    (ap (λ (x : Listed). is_controller x.dot.who) (sym (upto_at n e (e i) i l)) ∙ all_in (λ x. is_controller x.dot.who) (upto n e) t (Rattle.block.proofs.Arrays.get_or_in (upto n e) i (e i) (omega (arith, upto_length n e))))

module _ (s : State) (G : Good s) where
  crewed : (ls : List Listed) → ((l : Listed) → l ∈ ls → l ∈ listed s) → all_crew ls ≡ true
  unfolding all_crew
  crewed ls h = in_all (λ l. is_controller l.dot.who) ls (λ l m. formed_at s.table l (G.lists l (h l m)).formed 1)

  pub own_crewed : all_crew s.own_dots ≡ true
  own_crewed = crewed s.own_dots (λ l m. in_left s.own_dots s.foreign_dots m)

  pub foreign_crewed : all_crew s.foreign_dots ≡ true
  foreign_crewed = crewed s.foreign_dots (λ l m. in_right s.own_dots s.foreign_dots m)

module _ (img : List ℕ) (size : length img ≡ image_length) (good : good_image img ≡ true) (m : List ℕ) (asker : Controller) (read : asker ≡ (decode_ask m).sender) where
  abbrev f : Listed → Bool
  f = lacks (cut img 8 8) asker (decode_clock (cut m 8 96))

  abbrev g : Listed → Bool
  g = lacks (decode img).table (decode_ask m).sender (decode_ask m).clock

  pub next_lent : (last : Key) (r x : Option Key) → r ≡ nearest last None (keep (lacks (cut img 8 8) asker (decode_clock (cut m 8 96))) (decode_dots (cut img 512 512)))
      → x ≡ nearest last r (keep (lacks (cut img 8 8) asker (decode_clock (cut m 8 96))) (decode_dots (cut img 1024 512))) → x ≡ nearest last None (lacking (decode img) (decode_ask m))
  next_lent last r x d e =
      e ∙ ap (λ (b : Option Key). nearest last b (keep f (decode_dots (cut img 1024 512)))) d
      ∙ sym (two_lists f last None (decode_dots (cut img 512 512)) (decode_dots (cut img 1024 512)))
      ∙ ap₂ (λ (ls ms : List Listed). nearest last None (keep f (ls ++ ms))) (own_list img) (foreign_list img)
      ∙ (λ i. nearest last None (keep (lacks (table_part img size i) (read i) (sym (clock_lent m) i)) (listed (decode img))))
      ∙ ap (nearest last None) (sym (lacking_is (decode img) (decode_ask m) (good_now img good)))
