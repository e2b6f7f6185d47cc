-- A listed dot that all know, controller by controller, and the lists as they are lent. Assumes nothing.
use Prim.Native.Nat.{ℕ, ◌+◌, ◌*◌, ◌-◌, ◌≤◌, ◌<◌}
use mathlib.Core.Path.{◌≡◌, refl, ap, sym, ◌∙◌, subst}
use mathlib.Core.Bool.{Bool, true, false, ◌||◌, not}
use mathlib.Core.List.{List}
use native.Mathlib.Omega.{arith}
use lib.ListN.{length, take, drop, get_or}
use lib.Dec.{leb}
use Rattle.numbers.specs.declared.Controller.{Controller}
use Rattle.numbers.specs.declared.Dot.{Dot}
use Rattle.numbers.specs.Words.{all?}
use Rattle.numbers.specs.Numbers.{controller, controllers, Crew}
use Rattle.numbers.proofs.Tests.{by_test, never}
use Rattle.block.specs.Fields.{cut, field}
use Rattle.block.proofs.Numbers.{Bytes, bytes_cut}
use Rattle.block.proofs.Parts.{length_cut, part_is}
use Rattle.block.proofs.Arrays.{upto_at}
use Rattle.std.specs.Bool.{MatchBool}
use Rattle.laws.proofs.Facts.{each_controller, every_controller}
use Rattle.meaning.specs.CrewTable.{CrewTable}
use Rattle.meaning.specs.State.{Listed, Watermark, mark, State, peers}
use Rattle.meaning.specs.Exchange.{known_to_all}
use Rattle.layout.specs.Image.{image_length, decode_marks, decode}
use Rattle.head.specs.HeadParts.{peers_by}
use Rattle.dots.specs.Entries.{entry, no_entry}
use Rattle.dots.proofs.Edits.{count_is}
use Rattle.dots.proofs.Laid.{entries_are}
use Rattle.image_edits.specs.Edits.{Canonical, list_of}
use Rattle.image_edits.proofs.Lifting.{list_sized, list_part_laid, list_part_says}
use Rattle.store.proofs.Lent.{table_part}
use Rattle.tidying.specs.Tidied.{known_to, dot_known, known_now}
use Rattle.tidying.proofs.Marks.{marks_lent}

-- ---- one controller

module _ (t : CrewTable) (w : Watermark) (d : Dot) (m : Controller) (r : Bool) (e : r ≡ peers_by t d.who m) where
  pub no_peer : r ≡ false → true ≡ known_to t w d m
  no_peer h = sym (ap (λ (b : Bool). not b || leb d.count.0 (mark w m d.who)) (sym e ∙ h))

  pub by_mark : r ≡ true → (x : ℕ) → x ≡ mark w m d.who → leb d.count.0 x ≡ known_to t w d m
  by_mark h x f = ap (leb d.count.0) f ∙ sym (ap (λ (b : Bool). not b || leb d.count.0 (mark w m d.who)) (sym e ∙ h))

-- all eight, one after the other: r is what was answered
pub all_asked_of : (f : Controller → Bool) (r : Bool) → MatchBool r ((k : ℕ) → 1 ≤ k → k < 9 → f (controller k) ≡ true) ((k : ℕ) × (1 ≤ k) × (k < 9) × (f (controller k) ≡ false)) → r ≡ all? f controllers
all_asked_of f true h = sym (every_controller f (λ m c. h m.0 c.0 (omega (arith, c.1))))
all_asked_of f false h = by_test (all? f controllers) (λ e. never (each_controller f e (controller h.0) (h.1, omega (arith, h.2))) h.3) (λ e. sym e)

-- ---- a list as it is lent

dot_known_is : (s : State) (l : Listed) → dot_known s.table s.watermark l.dot ≡ known_now s l
unfolding dot_known known_to_all peers
dot_known_is s l = refl

module _ (img : List ℕ) (small : Bytes img) (size : length img ≡ image_length) (canonical : Canonical img) (k : ℕ) (one : 1 ≤ k) (two : k ≤ 2) where
  abbrev lent : List ℕ
  lent = take (512 * k + 512 - 512 * k) (drop (512 * k) img)

  long : length lent ≡ 512
  long = ap length (part_is img (512 * k) 512) ∙ length_cut img (512 * k) 512 (omega (arith, size))

  pub list_count : field (take (512 * k + 512 - 512 * k) (drop (512 * k) img)) 4 2 ≡ length (list_of (decode img) k)
  list_count =
      count_is lent (subst Bytes (sym (part_is img (512 * k) 512)) (bytes_cut img (512 * k) 512 small)) long (list_part_laid img small size canonical k one two)
      ∙ ap length (list_part_says img small size canonical k one two)

  pub list_few : length (list_of (decode img) k) ≤ 60
  list_few = (list_sized img small size canonical k one two).few

  module _ (i : ℕ) (l : i < length (list_of (decode img) k)) (d : Dot) (read : d ≡ (entry (take (512 * k + 512 - 512 * k) (drop (512 * k) img)) i).dot) where
    -- what is read is the entry's dot
    dot_read : d ≡ (get_or (list_of (decode img) k) i no_entry).dot
    dot_read =
        read
        ∙ ap (λ (x : Listed). x.dot)
        (sym (ap (λ (ls : List Listed). get_or ls i no_entry) (sym (list_part_says img small size canonical k one two) ∙ entries_are lent (omega (arith, list_count, list_few)))
        ∙ upto_at (field lent 4 2) (entry lent) no_entry i (omega (arith, list_count, l))))

    pub dot_crew : Crew (get_or (list_of (decode img) k) i no_entry).dot.who → Crew d.who
    dot_crew c = subst (λ (x : Dot). Crew x.who) (sym dot_read) c

    pub known_is : (r : Bool) → r ≡ dot_known (cut img 8 8) (decode_marks (cut img 112 256)) d → r ≡ known_now (decode img) (get_or (list_of (decode img) k) i no_entry)
    known_is r e =
        e ∙ (λ j. dot_known (table_part img size j) (marks_lent img size j) (dot_read j)) ∙ dot_known_is (decode img) (get_or (list_of (decode img) k) i no_entry)
