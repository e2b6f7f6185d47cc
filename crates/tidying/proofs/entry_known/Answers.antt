-- `tidying::entry_known` meets its contract. What is read is the entry's dot (Known). Assumes nothing.
use Prim.Native.Nat.{ℕ}
use mathlib.Core.Path.{ap, sym, ◌∙◌, subst}
use native.Mathlib.Omega.{arith}
use lib.ListN.{length, get_or}
use borrow.Author.Rules.{rules}
use Rattle.numbers.specs.Numbers.{Crew}
use Rattle.block.proofs.Numbers.{bytes_of}
use Rattle.layout.specs.Image.{decode}
use Rattle.dots.specs.Entries.{no_entry}
use Rattle.image_edits.specs.Edits.{list_of}
use Rattle.tidying.specs.Tidied.{known_now}
use Rattle.tidying.proofs.Known.{list_few, dot_crew, known_is}
use Rattle.tidying.proofs.entry_known.Goals as goal

pub entry_dot-d-requires : goal.entry_dot-d-requires
entry_dot-d-requires c =
    let img = c.args.image.now in let p = c.requires in let q = c.block-at.ensures in
    (search rules, omega (arith, list_few img (bytes_of img (search rules)) p.0 p.1 c.block-at.result q.1 q.2, ap (λ (k : ℕ). length (list_of (decode img) k)) q.0, p.2))

pub known_to_all-requires : goal.known_to_all-requires
known_to_all-requires c =
    let img = c.args.image.now in let p = c.requires in let q = c.block-at.ensures in (
      search rules,
      search rules,
      dot_crew img (bytes_of img (search rules)) p.0 p.1 c.block-at.result q.1 q.2 c.args.i (omega (arith, ap (λ (k : ℕ). length (list_of (decode img) k)) q.0, p.2)) c.entry_dot-d.result c.entry_dot-d.ensures
          (subst (λ (k : ℕ). Crew (get_or (list_of (decode img) k) c.args.i no_entry).dot.who) (sym q.0) p.3),
    )

pub returns : goal.returns
returns c =
    let img = c.args.image.now in let p = c.requires in let q = c.block-at.ensures in
    known_is img (bytes_of img (search rules)) p.0 p.1 c.block-at.result q.1 q.2 c.args.i (omega (arith, ap (λ (k : ℕ). length (list_of (decode img) k)) q.0, p.2)) c.entry_dot-d.result c.entry_dot-d.ensures c.known_to_all.result c.known_to_all.ensures
    ∙ ap (λ (k : ℕ). known_now (decode img) (get_or (list_of (decode img) k) c.args.i no_entry)) q.0
