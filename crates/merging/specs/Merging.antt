-- A message's point and the local one, as a merge sees them. Assumes nothing.
use Rattle.std.specs.Prelude.{ℕ, Bool, ◌||◌, not, List, []}
use Rattle.numbers.specs.Words.{keep, all?, map}
use Rattle.numbers.specs.Numbers.{counter}
use Rattle.numbers.specs.Dot.{same_dot}
use Rattle.meaning.specs.Context.{Context, covers}
use Rattle.meaning.specs.Object.{same_contents, Version, Object}
use Rattle.layout.specs.PointBlock.{form_1, decode_point}
use Rattle.record_edits.specs.Written.{Written, with_object}

-- the versions of a point block, with a context that stands beside it as eight counters: the local object, filled by our clock
abbrev pub ours : List ℕ → List ℕ → Object
ours b here = record { versions = (decode_point form_1 b).object.versions; context = map counter here }

-- the message's, whose context a repair has "filled with the sender's clock"
abbrev pub theirs : List ℕ → List ℕ → Object
theirs m there = record { versions = (decode_point form_1 m).object.versions; context = map counter there }

-- where there is no local record there is no version
abbrev pub none_here : List ℕ → Object
none_here here = record { versions = []; context = map counter here }

-- the versions of a message that the local context does not cover
abbrev pub arriving : Context → List Version → List Version
arriving c vs = keep (λ v. not (covers c v.dot)) vs

-- versions of one dot say the same: no "version's dot in the message is stored here with other contents"
unfoldable pub agreeing : List Version → List Version → Bool
agreeing here there = all? (λ v. all? (λ w. not (same_dot v.dot w.dot) || same_contents v.contents w.contents) here) there

-- another context
abbrev pub with_context : Written → Context → Written
with_context w c = with_object w (record { versions = w.point.object.versions; context = c })
