-- The dots of a list that all know taken out of it, from the last to the first. Assumes nothing.
use Rattle.std.specs.Prelude.{if◌then◌else◌}
use Prim.Native.Nat.{ℕ, suc, ◌-◌, ◌≤◌, ◌<◌}
use mathlib.Core.Path.{◌≡◌, refl, ap, ap₂, sym, ◌∙◌, subst}
use mathlib.Core.Bool.{Bool, true, false, not}
use mathlib.Core.List.{List}
use native.Mathlib.Omega.{arith}
use lib.ListN.{length, get_or}
use lib.Dec.{eqb}
use Rattle.numbers.specs.Words.{keep}
use Rattle.numbers.specs.Numbers.{Crew, is_controller}
use Rattle.numbers.proofs.Tests.{by_test}
use Rattle.numbers.proofs.Lists.{all_in}
use Rattle.numbers.proofs.Controllers.{crew_is}
use Rattle.block.specs.Fields.{remove_at}
use Rattle.block.proofs.Arrays.{get_or_in}
use Rattle.meaning.specs.State.{Listed, State, peers}
use Rattle.meaning.specs.Exchange.{known_to_all}
use Rattle.layout.specs.Image.{image_length, decode}
use Rattle.dots.specs.Entries.{no_entry}
use Rattle.image_edits.specs.Edits.{Canonical, with_own_dots, with_foreign_dots, list_of, with_list}
use Rattle.replying.specs.Nearest.{all_crew}
use Rattle.tidying.specs.Tidied.{known_now, without_known}
use Rattle.object.proofs.Dropping.{tested, tested_none, tested_length, tested_at, passes, fails}

-- ---- a state with another list

module _ (s : State) (k : ℕ) where
  same_list : s ≡ with_list s k (list_of s k)
  same_list = by_bool (eqb k 1)
    where
      by_bool : (b : Bool) → s ≡ (if b then with_own_dots s (if b then s.own_dots else s.foreign_dots) else with_foreign_dots s (if b then s.own_dots else s.foreign_dots))
      by_bool true = refl
      by_bool false = refl

  list_with : (ls : List Listed) → list_of (with_list s k ls) k ≡ ls
  list_with ls = by_bool (eqb k 1)
    where
      by_bool : (b : Bool) → (if b then (if b then with_own_dots s ls else with_foreign_dots s ls).own_dots else (if b then with_own_dots s ls else with_foreign_dots s ls).foreign_dots) ≡ ls
      by_bool true = refl
      by_bool false = refl

  with_twice : (ls ms : List Listed) → with_list (with_list s k ls) k ms ≡ with_list s k ms
  with_twice ls ms = by_bool (eqb k 1)
    where
      by_bool : (b : Bool) → (if b then with_own_dots (if b then with_own_dots s ls else with_foreign_dots s ls) ms else with_foreign_dots (if b then with_own_dots s ls else with_foreign_dots s ls) ms) ≡ (if b then with_own_dots s ms else with_foreign_dots s ms)
      by_bool true = refl
      by_bool false = refl

  known_with : (ls : List Listed) (l : Listed) → known_now (with_list s k ls) l ≡ known_now s l
  unfolding known_to_all peers
  known_with ls l = by_bool (eqb k 1)
    where
      by_bool : (b : Bool) → known_now (if b then with_own_dots s ls else with_foreign_dots s ls) l ≡ known_now s l
      by_bool true = refl
      by_bool false = refl

  -- ---- one entry

  pub entry_stays : (i : ℕ) → known_now s (get_or (list_of s k) i no_entry) ≡ false → s ≡ with_list s k (without_known s (list_of s k) i)
  entry_stays i h = same_list ∙ ap (with_list s k) (sym (ap (λ (b : Bool). if b then remove_at (list_of s k) i else list_of s k) h))

  pub entry_goes : (i : ℕ) → known_now s (get_or (list_of s k) i no_entry) ≡ true → with_list s k (remove_at (list_of s k) i) ≡ with_list s k (without_known s (list_of s k) i)
  entry_goes i h = ap (with_list s k) (sym (ap (λ (b : Bool). if b then remove_at (list_of s k) i else list_of s k) h))

  -- ---- one after the other

  abbrev pub unknown : Listed → Bool
  unknown l = not (known_now s l)

  -- the entries from the i-th on are tested, and the image is now img
  pub record Dropped (i : ℕ) (img : List ℕ) : Type 0 where
    pub size : length img ≡ image_length
    pub canonical : Canonical img
    pub left : i ≤ length (list_of s k)
    pub is : decode img ≡ with_list s k (tested unknown (list_of s k) no_entry i)

  pub none_dropped : (n : ℕ) (img : List ℕ) → length img ≡ image_length → Canonical img → decode img ≡ s → n ≡ length (list_of s k) → Dropped n img
  none_dropped n img size canonical e h = record {
    size = size;
    canonical = canonical;
    left = omega (arith, h);
    is = e ∙ same_list ∙ ap (with_list s k) (sym (ap (tested unknown (list_of s k) no_entry) h ∙ tested_none unknown (list_of s k) no_entry));
  }

  module _ (i : ℕ) (img : List ℕ) (D : Dropped i img) (more : 0 < i) where
    abbrev j : ℕ
    j = i - 1

    here : i ≡ suc (i - 1)
    here = omega arith

    low : i - 1 < length (list_of s k)
    low = omega (arith, D.left)

    now_is : decode img ≡ with_list s k (tested unknown (list_of s k) no_entry (suc (i - 1)))
    now_is = D.is ∙ ap (λ (n : ℕ). with_list s k (tested unknown (list_of s k) no_entry n)) here

    list_now : list_of (decode img) k ≡ tested unknown (list_of s k) no_entry (suc (i - 1))
    list_now = ap (λ (z : State). list_of z k) now_is ∙ list_with (tested unknown (list_of s k) no_entry (suc j))

    entry_now : get_or (list_of (decode img) k) (i - 1) no_entry ≡ get_or (list_of s k) (i - 1) no_entry
    entry_now = ap (λ (ls : List Listed). get_or ls j no_entry) list_now ∙ tested_at unknown (list_of s k) no_entry j low

    pub drop_inside : i - 1 < length (list_of (decode img) k)
    drop_inside = subst (λ (ls : List Listed). j < length ls) (sym list_now) (tested_length unknown (list_of s k) no_entry j low)

    pub drop_crew : all_crew (list_of s k) ≡ true → Crew (get_or (list_of (decode img) k) (i - 1) no_entry).dot.who
    unfolding all_crew
    drop_crew t =
        subst (λ (l : Listed). Crew l.dot.who) (sym entry_now)
        (crew_is (get_or (list_of s k) j no_entry).dot.who (all_in (λ l. is_controller l.dot.who) (list_of s k) t (get_or_in (list_of s k) j no_entry low)))

    known_same : known_now (decode img) (get_or (list_of (decode img) k) (i - 1) no_entry) ≡ known_now s (get_or (list_of s k) (i - 1) no_entry)
    known_same = ap₂ known_now now_is entry_now ∙ known_with (tested unknown (list_of s k) no_entry (suc j)) (get_or (list_of s k) j no_entry)

    rest : without_known (decode img) (list_of (decode img) k) (i - 1) ≡ tested unknown (list_of s k) no_entry (i - 1)
    rest =
        ap₂ (λ (b : Bool) (ls : List Listed). if b then remove_at ls j else ls) known_same list_now
        ∙ by_test (known_now s (get_or (list_of s k) j no_entry))
        (λ t. ap (λ (b : Bool). if b then remove_at (tested unknown (list_of s k) no_entry (suc j)) j else tested unknown (list_of s k) no_entry (suc j)) t ∙ fails unknown (list_of s k) no_entry j low (ap not t))
        (λ t. ap (λ (b : Bool). if b then remove_at (tested unknown (list_of s k) no_entry (suc j)) j else tested unknown (list_of s k) no_entry (suc j)) t ∙ passes unknown (list_of s k) no_entry j low (ap not t))

    pub one_dropped : (x : List ℕ) → length x ≡ image_length → (decode x ≡ with_list (decode img) k (without_known (decode img) (list_of (decode img) k) (i - 1))) × Canonical x → Dropped (i - 1) x
    one_dropped x long e = record {
      size = long;
      canonical = e.1;
      left = omega (arith, D.left);
      is =
          e.0 ∙ ap₂ (λ (z : State) (ls : List Listed). with_list z k ls) now_is rest
          ∙ with_twice (tested unknown (list_of s k) no_entry (suc j)) (tested unknown (list_of s k) no_entry j);
    }

  pub all_dropped : (i : ℕ) (img : List ℕ) → Dropped i img → i ≤ 0 → (decode img ≡ with_list s k (keep (λ l. not (known_now s l)) (list_of s k))) × Canonical img
  all_dropped i img D h = (D.is ∙ ap (λ (n : ℕ). with_list s k (tested unknown (list_of s k) no_entry n)) nought, D.canonical)
    where
      nought : i ≡ 0
      nought = omega arith
