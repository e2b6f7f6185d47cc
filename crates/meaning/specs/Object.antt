-- Versions and objects; fill, strip and merge. Assumes nothing.
use Rattle.std.specs.Prelude.{ℕ, Bool, true, false, ◌&&◌, ◌||◌, not, List, []}
use Rattle.numbers.specs.declared.Dot.{Dot}
use Rattle.numbers.specs.Words.{keep, some?, place_all, same_list}
use Rattle.numbers.specs.Dot.{same_dot, dot_before}
use Rattle.meaning.specs.CrewTable.{CrewTable}
use Rattle.meaning.specs.Clock.{Clock}
use Rattle.meaning.specs.Context.{Context, no_context, is_empty, covers, fill_context, strip_context, higher}

-- what a version says: "a value or deleted"
pub data Contents : Type 0 where
  value : List ℕ → Contents
  deleted : Contents

abbrev pub has_value : Contents → Bool
has_value (value v) = true
has_value deleted = false

abbrev pub same_contents : Contents → Contents → Bool
same_contents (value v) (value w) = same_list v w
same_contents (value v) deleted = false
same_contents deleted (value w) = false
same_contents deleted deleted = true

pub record Version : Type 0 where
  pub dot : Dot
  pub contents : Contents

abbrev pub version_before : Version → Version → Bool
version_before v w = dot_before v.dot w.dot

-- a point's "versions (dot, and a value or deleted) and a context"
pub record Object : Type 0 where
  pub versions : List Version
  pub context : Context

-- "no version and an empty context"
abbrev pub no_object : Object
no_object = record { versions = []; context = no_context }

-- one of the versions has this dot
unfoldable pub has_dot : List Version → Dot → Bool
has_dot vs d = some? (λ w. same_dot d w.dot) vs

unfoldable pub fill : CrewTable → ℕ → Clock → Object → Object
fill t job k o = record { versions = o.versions; context = fill_context t job k o.context }

unfoldable pub strip : Clock → Object → Object
strip k o = record { versions = o.versions; context = strip_context k o.context }

-- the versions of one object that the other has too, or that the other's context does not cover
unfoldable pub survivors : Object → Object → List Version
survivors a b = keep (λ v. has_dot b.versions v.dot || not (covers b.context v.dot)) a.versions

-- "Merge keeps the versions in both objects and those in one that the other's context does not cover, and takes the higher
-- context entries."
unfoldable pub merge : Object → Object → Object
merge a b =
    record { versions = place_all version_before (survivors a b) (survivors b a); context = higher a.context b.context }

-- "A record goes when its stripped context is empty and no version has a value."
unfoldable pub gone : Object → Bool
gone o = is_empty o.context && not (some? (λ v. has_value v.contents) o.versions)
