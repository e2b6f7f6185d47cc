-- What is asked of a reply's points, over the run of their blocks, which follow the reply's head. Assumes nothing.
use Rattle.std.specs.Prelude.{ℕ, ◌+◌, ◌/◌, Bool, List, [], ◌∷◌, length}
use Rattle.numbers.specs.Words.{every, all?, ascends?, same_list}
use Rattle.block.specs.Fields.{upto}
use Rattle.block.specs.Block.{block_at}
use Rattle.meaning.specs.CrewTable.{CrewTable}
use Rattle.meaning.specs.Clock.{Clock}
use Rattle.meaning.specs.Context.{fill_context}
use Rattle.meaning.specs.State.{Stored, stored_before, dots_of}
use Rattle.meaning.specs.Message.{point_formed, covers_all, dots_agree}
use Rattle.layout.specs.PointBlock.{form_1, encode_stored}
use Rattle.apart.specs.Apart.{point_of}

-- "a reply's head is 0 and its points follow from 1"
unfoldable pub point_laid_out : List ℕ → ℕ → Bool
point_laid_out run i = same_list (encode_stored form_1 (1 + i) (point_of run i)) (block_at run i)

unfoldable pub points_laid_out : List ℕ → Bool
points_laid_out run = every (upto (length run / 512) (point_laid_out run))

-- well-formed, each by itself
abbrev pub each_formed : CrewTable → List Stored → Bool
each_formed t ps = all? (λ p. point_formed t p.key p.object) ps

-- each version is covered by its context once that is filled with these rows
abbrev pub each_covered : CrewTable → Clock → List Stored → Bool
each_covered t k ps = all? (λ p. covers_all (fill_context t p.key.job k p.object.context) p.object.versions) ps

-- no dot stands in two of them
abbrev pub all_apart : List Stored → Bool
all_apart ps = dots_agree (dots_of ps) (dots_of ps)

-- what refusal 4 says of a reply's points
unfoldable pub points_formed : CrewTable → Clock → List Stored → Bool
points_formed t k ps = every (each_formed t ps ∷ each_covered t k ps ∷ ascends? stored_before ps ∷ all_apart ps ∷ [])
