-- What rows 9 and 10 of the table ask of one point of a message. Assumes nothing.
use Rattle.std.specs.Prelude.{ℕ, Bool, true, ◌&&◌, ◌||◌, not, List, ltb, if◌then◌else◌}
use Rattle.numbers.specs.declared.Controller.{Controller}
use Rattle.numbers.specs.declared.Dot.{Dot}
use Rattle.numbers.specs.declared.Key.{Key}
use Rattle.numbers.specs.Words.{some?}
use Rattle.numbers.specs.Numbers.{same_controller}
use Rattle.numbers.specs.Dot.{same_dot}
use Rattle.numbers.specs.Key.{same_key}
use Rattle.meaning.specs.Context.{entry}
use Rattle.meaning.specs.Object.{same_contents, Version, Object, has_dot}
use Rattle.meaning.specs.State.{Stored, Listed}

-- an own counter above our base
unfoldable pub dot_above : Controller → ℕ → Dot → Bool
dot_above own base d = same_controller d.who own && ltb base d.count.0

-- 9: "message names, in a dot, context .., an own counter above our base"
unfoldable pub above : Controller → ℕ → Object → Bool
above own base o = some? (λ v. dot_above own base v.dot) o.versions || ltb base (entry o.context own).0

-- a version of the message and a stored one, of the same point or of two: they have one dot, and are not the same version
unfoldable pub versions_clash : Bool → Version → Version → Bool
versions_clash same v w = same_dot v.dot w.dot && not (same && same_contents v.contents w.contents)

-- 10: "a version's dot in the message is stored here with other contents, or stored .. here for another point", in one record
unfoldable pub record_clashes : Key → Stored → Version → Bool
record_clashes k p v = some? (versions_clash (same_key k p.key) v) p.object.versions

-- some record has a version of this dot
abbrev pub stored_somewhere : List Stored → Dot → Bool
stored_somewhere ps d = some? (λ p. has_dot p.object.versions d) ps

-- 10, of all records ps at once, where ws are the versions stored for the message's point: "no dot stands in two records", so where ws has the dot no
-- other record has it
unfoldable pub clashes_beside : List Stored → List Version → Version → Bool
clashes_beside ps ws v = if has_dot ws v.dot then some? (versions_clash true v) ws else stored_somewhere ps v.dot

-- 10: ".. or listed here for another point"
unfoldable pub list_clashes : Key → List Listed → Version → Bool
list_clashes k ls v = some? (λ l. same_dot v.dot l.dot && not (same_key k l.key)) ls
